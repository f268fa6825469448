-- Encoded bytes.
use Rattle.std.proofs.Common.{◌≡◌, ℕ, List, Result, Ok, Err, ◌↔◌, refl, ap}
use Rattle.std.specs.Result.{result_ok}
use Rattle.base64.specs.declared.decode.DecodeError.{DecodeError}
use Rattle.base64.specs.Engines.{standard}
use Rattle.base64.specs.GeneralPurpose.{decode_of, decoded_of, encode_of, IsBytes}
use Rattle.base64.proofs.EngineFacts.{decode_of_iff}
use Rattle.olm_base.specs.declared.fields.FieldKind.TheVariants.{Base64}
use Rattle.json_fields.specs.Values.{decoded, bytes_of}

pub bytes_read : (text bytes : List ℕ) → decode_of standard text ≡ Ok bytes → bytes_of text ≡ Ok bytes
unfolding decoded_of
bytes_read text bytes e = ap (λ found. decoded (result_ok found)) e

pub bytes_refused : (text : List ℕ) (fault : DecodeError) → decode_of standard text ≡ Err fault → bytes_of text ≡ Err Base64
unfolding decoded_of
bytes_refused text fault e = ap (λ found. decoded (result_ok found)) e

-- what was read is what the text decodes to
of_found : (found : Result (List ℕ) DecodeError) (bytes : List ℕ) → decoded (result_ok found) ≡ Ok bytes → found ≡ Ok bytes
of_found (Ok found) bytes e =
    let same : found ≡ bytes = cc e in
    ap Ok same
of_found (Err fault) bytes e = cc e

-- a text is read as these bytes exactly where it is their encoding
pub reads_iff : (text bytes : List ℕ) → IsBytes text → IsBytes bytes → (bytes_of text ≡ Ok bytes) ↔ (text ≡ encode_of standard bytes)
unfolding decoded_of
reads_iff text bytes h i =
    let iff = decode_of_iff standard text bytes (refl, refl) h i in
    (λ e. iff.0 (of_found (decode_of standard text) bytes e), λ e. bytes_read text bytes (iff.1 e))
