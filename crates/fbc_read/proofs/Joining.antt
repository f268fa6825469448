-- Catalogs that are joined.
use Rattle.std.proofs.Common.{◌≡◌, ◌+◌, ℕ, suc, List, [], ◌∷◌, ◌++◌, Result, Ok, Err, length, refl, sym, ap, ◌∙◌, append_assoc, append-nil, arith}
use Rattle.serde_json.specs.Data.{Data}
use Rattle.fbc_types.specs.declared.catalog.Package.{Package}
use Rattle.fbc_types.specs.declared.catalog.Channel.{Channel}
use Rattle.fbc_types.specs.declared.catalog.Bundle.{Bundle}
use Rattle.fbc_types.specs.declared.catalog.Deprecation.{Deprecation}
use Rattle.fbc_types.specs.declared.catalog.Manifests.{Manifests}
use Rattle.fbc_types.specs.declared.catalog.Catalog.{Catalog}
use Rattle.fbc_read.specs.declared.reading.ReadFault.{ReadFault}
use Rattle.json_fields.specs.Faults.{and_then}
use Rattle.fbc_read.specs.Blobs.{nothing, one_blob}
use Rattle.fbc_read.specs.Catalogs.{numbered, joined, catalog}

pub joined_assoc : (one two three : Catalog) → joined one (joined two three) ≡ joined (joined one two) three
joined_assoc one two three = simp append_assoc

pub joined_nothing : (old : Catalog) → joined old nothing ≡ old
joined_nothing old = simp append-nil

pub joined_package : (old : Catalog) (found : Package) → joined old (record nothing { packages = found ∷ [] }) ≡ record old { packages = old.packages ++ found ∷ [] }
joined_package old found = simp append-nil

pub joined_channel : (old : Catalog) (found : Channel) → joined old (record nothing { channels = found ∷ [] }) ≡ record old { channels = old.channels ++ found ∷ [] }
joined_channel old found = simp append-nil

pub joined_bundle : (old : Catalog) (found : Bundle) → joined old (record nothing { bundles = found ∷ [] }) ≡ record old { bundles = old.bundles ++ found ∷ [] }
joined_bundle old found = simp append-nil

pub joined_deprecations : (old : Catalog) (found : List Deprecation) → joined old (record nothing { deprecations = found }) ≡ record old { deprecations = old.deprecations ++ found }
joined_deprecations old found = simp append-nil

pub joined_manifests : (old : Catalog) (found : Manifests) → joined old (record nothing { manifests = found ∷ [] }) ≡ record old { manifests = old.manifests ++ found ∷ [] }
joined_manifests old found = simp append-nil

same_read : {T E : Type 0} (read : Result T E) → and_then read (λ found. Ok found) ≡ read
same_read (Ok found) = refl
same_read (Err fault) = refl

three : {E : Type 0} (one two : Catalog) (read : Result Catalog E) → and_then (and_then read (λ more. Ok (joined two more))) (λ more. Ok (joined one more)) ≡ and_then read (λ more. Ok (joined (joined one two) more))
three one two (Ok more) = ap Ok (joined_assoc one two more)
three one two (Err fault) = refl

-- the others behind those that were read first
behind : (one : Catalog) (read : Result Catalog ReadFault) (n m : ℕ) (others : List Data) → n ≡ m
    → and_then (and_then read (λ two. and_then (catalog n others) (λ more. Ok (joined two more)))) (λ more. Ok (joined one more))
    ≡ and_then (and_then read (λ two. Ok (joined one two))) (λ found. and_then (catalog m others) (λ more. Ok (joined found more)))
behind one (Ok two) n m others e =
    three one two (catalog n others) ∙ ap (λ k. and_then (catalog k others) (λ more. Ok (joined (joined one two) more))) e
behind one (Err fault) n m others e = refl

first_one : (read : Result Catalog ReadFault) (first : ℕ) (blobs others : List Data)
    → catalog (first + 1) (blobs ++ others) ≡ and_then (catalog (first + 1) blobs) (λ found. and_then (catalog (first + 1 + length blobs) others) (λ more. Ok (joined found more)))
    → and_then read (λ one. and_then (catalog (first + 1) (blobs ++ others)) (λ more. Ok (joined one more)))
    ≡ and_then (and_then read (λ one. and_then (catalog (first + 1) blobs) (λ more. Ok (joined one more)))) (λ found. and_then (catalog (first + suc (length blobs)) others) (λ more. Ok (joined found more)))
first_one (Ok one) first blobs others h =
    let e : first + 1 + length blobs ≡ first + suc (length blobs) = omega arith in
    ap (λ more. and_then more (λ more. Ok (joined one more))) h
    ∙ behind one (catalog (first + 1) blobs) (first + 1 + length blobs) (first + suc (length blobs)) others e
first_one (Err fault) first blobs others h = refl

-- blobs that are read one list after another
pub reads_on : (first : ℕ) (blobs others : List Data) → catalog first (blobs ++ others) ≡ and_then (catalog first blobs) (λ found. and_then (catalog (first + length blobs) others) (λ more. Ok (joined found more)))
reads_on first [] others =
    let e : first ≡ first + 0 = omega arith in
    sym (same_read (catalog first others)) ∙ ap (λ n. and_then (catalog n others) (λ more. Ok (joined nothing more))) e
reads_on first (blob ∷ blobs) others = first_one (numbered first (one_blob blob)) first blobs others (reads_on (first + 1) blobs others)
