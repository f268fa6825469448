-- The extent of a text, found byte by byte.
use Rattle.std.proofs.Common.{◌≡◌, ◌+◌, ◌-◌, ◌==◌, ◌||◌, ℕ, List, [], ◌∷◌, ◌++◌, Bool, true, false, cond, if◌then◌else◌, Option, Some, length, refl, sym, ap, ◌∙◌, append_assoc, arith, length-append}
use Rattle.std.specs.List.{fold}
use Rattle.std.proofs.Math.Seq.{take-append-add}
use Rattle.std.proofs.lemmas.List.Sums.{fold-append}
use Rattle.catalog_stream.specs.declared.scan.Seen.{Seen}
use Rattle.catalog_stream.specs.declared.scan.Extent.{Extent}
use Rattle.catalog_stream.specs.declared.scan.Extent.TheVariants.{Ends, Deep, Open}
use Rattle.catalog_stream.specs.Depth.{step, begin, depth, is_turn, first_from, extent_of, extent}

-- the extent from a place on, after what was seen up to it
abbrev pub extent_from : Seen → ℕ → List ℕ → Extent
extent_from seen at [] = Open
extent_from seen at (byte ∷ bytes) =
    if (step seen byte).depth == 0 then Ends (at + 1)
    else (if (step seen byte).depth == 128 then Deep at else extent_from (step seen byte) (at + 1) bytes)

-- the depth behind one byte more
depth_behind : (front bytes : List ℕ) (byte : ℕ) → depth (front ++ byte ∷ bytes) (length front + 1) ≡ (step (fold step begin front) byte).depth
depth_behind front bytes byte =
    ap (λ xs. (fold step begin xs).depth) (take-append-add front (byte ∷ bytes) 1) ∙ ap (λ seen. seen.depth) (fold-append step begin front (byte ∷ []))

back : (at : ℕ) → at + 1 - 1 ≡ at
back at = omega arith

-- whether the place behind a byte decides, by the depth there
at_turn : (text : List ℕ) (at : ℕ) (rest : Option ℕ) (x y : Bool) → (depth text (at + 1) == 0) ≡ x → (depth text (at + 1) == 128) ≡ y → extent_of text (cond (is_turn text (at + 1)) (Some (at + 1)) rest) ≡ cond x (Ends (at + 1)) (cond y (Deep at) (extent_of text rest))
at_turn text at rest true y f g =
    ap (λ b. extent_of text (cond (b || depth text (at + 1) == 128) (Some (at + 1)) rest)) f ∙ ap (λ b. cond b (Ends (at + 1)) (Deep (at + 1 - 1))) f
at_turn text at rest false true f g =
    ap (λ b. extent_of text (cond (b || depth text (at + 1) == 128) (Some (at + 1)) rest)) f ∙ ap (λ b. extent_of text (cond b (Some (at + 1)) rest)) g ∙ ap (λ b. cond b (Ends (at + 1)) (Deep (at + 1 - 1))) f ∙ ap Deep (back at)
at_turn text at rest false false f g =
    ap (λ b. extent_of text (cond (b || depth text (at + 1) == 128) (Some (at + 1)) rest)) f ∙ ap (λ b. extent_of text (cond b (Some (at + 1)) rest)) g

scanned_from : (text front bytes : List ℕ) (seen : Seen) (at : ℕ) → text ≡ front ++ bytes → seen ≡ fold step begin front → at ≡ length front → extent_from seen at bytes ≡ extent_of text (first_from (is_turn text) (at + 1) (length bytes))
scanned_from text front [] seen at e f g = refl
scanned_from text front (byte ∷ bytes) seen at e f g =
    let behind : depth text (at + 1) ≡ (step seen byte).depth = ap (λ t. depth t (at + 1)) e ∙ ap (λ n. depth (front ++ byte ∷ bytes) (n + 1)) g ∙ depth_behind front bytes byte ∙ ap (λ s. (step s byte).depth) (sym f) in
    let on = scanned_from text (front ++ byte ∷ []) bytes (step seen byte) (at + 1) (e ∙ sym (append_assoc front (byte ∷ []) bytes)) (ap (λ s. step s byte) f ∙ sym (fold-append step begin front (byte ∷ []))) (omega (arith, g, length-append front (byte ∷ []))) in
    ap (λ later. cond ((step seen byte).depth == 0) (Ends (at + 1)) (cond ((step seen byte).depth == 128) (Deep at) later)) on
    ∙ sym (at_turn text at (first_from (is_turn text) (at + 1 + 1) (length bytes)) _ _ (ap (λ d. d == 0) behind) (ap (λ d. d == 128) behind))

pub scanned : (text : List ℕ) → extent_from begin 0 text ≡ extent text
scanned text = scanned_from text [] text begin 0 refl refl refl
