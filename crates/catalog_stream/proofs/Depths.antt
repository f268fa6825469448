-- At each blob of a text nothing stands open, so depths may be counted from there.
use Rattle.std.proofs.Common.{◌≡◌, ◌≢◌, ◌<◌, ◌≤◌, ◌+◌, ◌-◌, ◌==◌, ◌||◌, ℕ, zero, suc, List, [], ◌∷◌, Bool, true, false, cond, subst, ◌⊎◌, inl, inr, get_or, Option, Some, None, Result, Ok, Err, length, take, drop, refl, sym, ap, ◌∙◌, arith}
use Rattle.std.specs.Prelude.{⊤}
use Rattle.std.specs.List.{fold, take_while}
use Rattle.std.proofs.Math.Seq.{take-add}
use Rattle.std.proofs.lemmas.Bool.{eqb-true, ne_eqb, or_from, false≢true}
use Rattle.std.proofs.lemmas.Grind.{take_at_read}
use Rattle.std.proofs.Math.Nat.{eq-or-lt_of_le}
use Rattle.std.proofs.lemmas.List.Sums.{fold-append, take_while-cons}
use Rattle.serde_json.specs.Data.{Data}
use Rattle.catalog_stream.specs.declared.scan.Mode.{Mode}
use Rattle.catalog_stream.specs.declared.scan.Mode.TheVariants.{Outside, Quoted, Escaped}
use Rattle.catalog_stream.specs.declared.scan.Extent.{Extent}
use Rattle.catalog_stream.specs.declared.scan.Extent.TheVariants.{Ends, Deep, Open}
use Rattle.catalog_stream.specs.declared.blobs.StreamFault.{StreamFault}
use Rattle.catalog_stream.specs.declared.blobs.StreamFault.TheVariants.{NotObject}
use Rattle.catalog_stream.specs.Depth.{mode_after, bracket_depth, depth_after, step, begin, depth, extent, IsExtent, CountsFrom}
use Rattle.catalog_stream.specs.Stream.{BlobView, Stream, is_blank, blanks, start_after, object_of, object_or_syntax, by_extent, blob_at, next, and_on, blobs_within, blobs, CountsWhole}
use Rattle.catalog_stream.proofs.Extents.{extent_is}

-- up to this place every bracket and every string that opens closes
abbrev pub IsClosed : List ℕ → ℕ → Type 0
IsClosed text k = fold step begin (take k text) ≡ begin

closed_counts : (text : List ℕ) (start : ℕ) → IsClosed text start → CountsFrom text start
closed_counts text start h = λ k.
    ap (λ xs. (fold step begin xs).depth) (take-add start k text)
    ∙ ap (λ seen. seen.depth) (fold-append step begin (take start text) (take k (drop start text)))
    ∙ ap (λ seen. (fold step seen (take k (drop start text))).depth) h

closed_more : (text : List ℕ) (start k : ℕ) → IsClosed text start → IsClosed (drop start text) k → IsClosed text (start + k)
closed_more text start k h e =
    ap (fold step begin) (take-add start k text) ∙ fold-append step begin (take start text) (take k (drop start text)) ∙ ap (λ seen. fold step seen (take k (drop start text))) h ∙ e

-- a byte that is no bracket and no quotation mark leaves all closed
same_zero : (x : Bool) → cond {A = ℕ} x 0 0 ≡ 0
same_zero true = refl
same_zero false = refl

plain_stays : (b : ℕ) → (b == 34) ≡ false → (b == 123 || b == 91) ≡ false → step begin b ≡ begin
plain_stays b e f =
    ap (λ mode. record { mode = mode; depth = bracket_depth 0 b }) (ap (λ x. cond x Quoted Outside) e)
    ∙ ap (λ d. record { mode = Outside; depth = d }) (ap (λ x. cond x 1 (cond (b == 125 || b == 93) 0 0)) f ∙ same_zero (b == 125 || b == 93))

blank_small : (b : ℕ) → is_blank b ≡ true → b ≤ 32
blank_small b h = grind (arith, h)

blank_stays : (b : ℕ) → is_blank b ≡ true → step begin b ≡ begin
blank_stays b h =
    let small = blank_small b h in
    plain_stays b (ne_eqb b 34 (λ e. omega (arith, e, small))) (or_from (b == 123) (b == 91) (ne_eqb b 123 (λ e. omega (arith, e, small))) (ne_eqb b 91 (λ e. omega (arith, e, small))))

closed_at_blank : (b : ℕ) (bs : List ℕ) (x : Bool) → is_blank b ≡ x → IsClosed bs (length (take_while is_blank bs)) → IsClosed (b ∷ bs) (length (cond x (b ∷ take_while is_blank bs) []))
closed_at_blank b bs true e h = ap (λ seen. fold step seen (take (length (take_while is_blank bs)) bs)) (blank_stays b e) ∙ h
closed_at_blank b bs false e h = refl

closed_blanks : (text : List ℕ) → IsClosed text (blanks text)
closed_blanks [] = refl
closed_blanks (b ∷ bs) =
    ap (λ front. fold step begin (take (length front) (b ∷ bs))) (take_while-cons is_blank b bs) ∙ closed_at_blank b bs (is_blank b) refl (closed_blanks bs)

closed_start : (text : List ℕ) (at : ℕ) → IsClosed text at → IsClosed text (start_after text at)
closed_start text at h = closed_more text at (blanks (drop at text)) h (closed_blanks (drop at text))

-- a byte that ends an open depth closes all
mode_at_close : (d b : ℕ) (x y : Bool) → d ≢ 0 → (b == 123 || b == 91) ≡ x → (b == 125 || b == 93) ≡ y → cond x (d + 1) (cond y (d - 1) d) ≡ 0 → mode_after Outside b ≡ Outside
mode_at_close d b true y n e f h = absurd (omega (arith, h))
mode_at_close d b false true n e f h = ap (λ z. cond z Quoted Outside) (ne_eqb b 34 (λ g. false≢true (sym (ap (λ c. c == 125 || c == 93) g) ∙ f)))
mode_at_close d b false false n e f h = absurd (n h)

closes : (mode : Mode) (d b : ℕ) → d ≢ 0 → depth_after mode d b ≡ 0 → step (record { mode = mode; depth = d }) b ≡ begin
closes Outside d b n h =
    ap (λ mode. record { mode = mode; depth = depth_after Outside d b }) (mode_at_close d b _ _ n refl refl h) ∙ ap (λ e. record { mode = Outside; depth = e }) h
closes Quoted d b n h = absurd (n h)
closes Escaped d b n h = absurd (n h)

closed_last : (text : List ℕ) (m : ℕ) → m < length text → depth text m ≢ 0 → depth text (m + 1) ≡ 0 → IsClosed text (m + 1)
closed_last text m p n h =
    let seen = fold step begin (take m text) in
    let byte = get_or text m 0 in
    let last : fold step begin (take (m + 1) text) ≡ step seen byte = ap (fold step begin) ((take_at_read text m 0 p).1) ∙ fold-append step begin (take m text) (byte ∷ []) in
    last ∙ closes seen.mode seen.depth byte n (sym (ap (λ s. s.depth) last) ∙ h)

closed_end_by : (text : List ℕ) (k : ℕ) → depth text 1 ≡ 1 → IsExtent text (Ends k) → (1 ≡ k) ⊎ (1 < k) → IsClosed text k
closed_end_by text k one h (inl e) =
    let clash : 1 ≡ 0 = sym one ∙ ap (depth text) e ∙ h.2 in
    absurd (omega (arith, clash))
closed_end_by text k one h (inr p) =
    let again : k - 1 + 1 ≡ k = omega (arith, p) in
    subst (IsClosed text) again (closed_last text (k - 1) (omega (arith, p, h.1)) ((h.3 (k - 1) (omega (arith, p)) (omega arith)).0) (ap (depth text) again ∙ h.2))

closed_end : (text : List ℕ) (k : ℕ) → depth text 1 ≡ 1 → extent text ≡ Ends k → IsClosed text k
closed_end text k one e =
    let h = subst (IsExtent text) e (extent_is text) in
    closed_end_by text k one h (eq-or-lt_of_le h.0)

-- what stands next begins where depths may be counted from, and ends where all is closed
abbrev pub IsCounted : List ℕ → Result (Option BlobView) StreamFault → Type 0
IsCounted text (Ok (Some blob)) = CountsFrom text blob.start × IsClosed text blob.end
IsCounted text (Ok None) = ⊤
IsCounted text (Err fault) = ⊤

counted_object : (text : List ℕ) (start end : ℕ) (value : Option Data) → CountsFrom text start → IsClosed text end → IsCounted text (object_or_syntax start end value)
counted_object text start end None p q = tt
counted_object text start end (Some value) p q = (p, q)

counted_extent : (text : List ℕ) (start : ℕ) (rest : List ℕ) (found : Extent) → IsClosed text start → rest ≡ drop start text → ((k : ℕ) → found ≡ Ends k → IsClosed rest k) → IsCounted text (by_extent text start rest found)
counted_extent text start rest (Ends count) h e f =
    counted_object text start (start + count) (object_of (take count rest)) (closed_counts text start h) (closed_more text start count h (subst (λ xs. IsClosed xs count) e (f count refl)))
counted_extent text start rest (Deep count) h e f = tt
counted_extent text start rest Open h e f = tt

counted_byte : (text : List ℕ) (start byte : ℕ) (bytes : List ℕ) (x : Bool) → IsClosed text start → byte ∷ bytes ≡ drop start text → (byte == 123) ≡ x → IsCounted text (cond x (by_extent text start (byte ∷ bytes) (extent (byte ∷ bytes))) (Err (NotObject start)))
counted_byte text start byte bytes true h e f =
    counted_extent text start (byte ∷ bytes) (extent (byte ∷ bytes)) h e (λ k g. closed_end (byte ∷ bytes) k (ap (λ b. (step begin b).depth) (eqb-true byte 123 f)) g)
counted_byte text start byte bytes false h e f = tt

counted_at : (text : List ℕ) (start : ℕ) (rest : List ℕ) → IsClosed text start → rest ≡ drop start text → IsCounted text (blob_at text start rest)
counted_at text start [] h e = tt
counted_at text start (byte ∷ bytes) h e = counted_byte text start byte bytes (byte == 123) h e refl

counted_next : (text : List ℕ) (at : ℕ) → IsClosed text at → IsCounted text (next text at)
counted_next text at h = counted_at text (start_after text at) (drop (start_after text at) text) (closed_start text at h) refl

counts_after : (text : List ℕ) (at : ℕ) (others : ℕ → Stream) (found : Result (Option BlobView) StreamFault) → IsClosed text at → IsCounted text found → ((k : ℕ) → IsClosed text k → CountsWhole text k (others k).blobs) → CountsWhole text at (and_on others found).blobs
counts_after text at others (Ok (Some blob)) h c more = (c.0, more blob.end c.1)
counts_after text at others (Ok None) h c more = closed_counts text (start_after text at) (closed_start text at h)
counts_after text at others (Err fault) h c more = closed_counts text (start_after text at) (closed_start text at h)

counts_within : (steps : ℕ) (text : List ℕ) (at : ℕ) → IsClosed text at → CountsWhole text at (blobs_within steps text at).blobs
unfolding blobs_within
counts_within zero text at h = closed_counts text (start_after text at) (closed_start text at h)
counts_within (suc steps) text at h = counts_after text at (blobs_within steps text) (next text at) h (counted_next text at h) (λ k g. counts_within steps text k g)

pub counts_whole : (text : List ℕ) → CountsWhole text 0 (blobs text).blobs
counts_whole text = counts_within (suc (length text - 0)) text 0 refl
