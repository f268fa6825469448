-- Events that go by one after the other, with one more behind them.
use Rattle.std.proofs.Common.{◌≡◌, ℕ, Bool, List, [], ◌∷◌, ◌++◌, Option, Some, Result, Ok, Err, refl, sym, ap, ◌∙◌, subst, append_assoc, append-nil, take, drop, suc, ◌+◌, ◌<◌, length, get_or, add-one, take-suc, take-append-drop, drop-cons, false}
use Rattle.std.specs.Io.KnownBytes.{Appends}
use Rattle.std.specs.List.{list_any}
use Rattle.std.proofs.lemmas.Bool.{or_parts}
use Rattle.std.proofs.lemmas.List.Folds.{list_any-append}
use Rattle.std.proofs.KnownBytes.{Appends-trans}
use Rattle.cluster_objects.specs.declared.objects.Write.{Write}
use Rattle.cluster_history.specs.History.{History}
use Rattle.event_script.specs.declared.events.Event.{Event}
use Rattle.event_runs.specs.Runs.{Files, Passes, AllPass, NoEvents, Next, Halts, HaltsAmong}
use Rattle.event_runs.specs.declared.halts.Halt.{Halt}

pub one_more : (tells : Bool) (fits : History → Write → Bool) (limit : ℕ) (files : Files) (h mid new : History) (es : List Event) (e : Event) (lines line : List ℕ)
    → AllPass tells fits limit files h es mid lines → Passes tells fits limit files mid e new line → AllPass tells fits limit files h (es ++ e ∷ []) new (lines ++ line)
one_more tells fits limit files h mid new [] e lines line (NoEvents _) passes =
    subst (AllPass tells fits limit files h (e ∷ []) new) (append-nil line) (Next h new new e [] line [] passes (NoEvents new))
one_more tells fits limit files h mid new (first ∷ es) e lines line (Next _ between _ _ _ front rest passed all) passes =
    subst (AllPass tells fits limit files h (first ∷ (es ++ e ∷ [])) new) (sym (append_assoc front rest line))
    (Next h between new first (es ++ e ∷ []) front (rest ++ line) passed (one_more tells fits limit files between mid new es e rest line all passes))

-- A turn of a run: the events up to one have gone by, and then that one, over the same store, limit and folder.
pub one_turn : (tells tells' : Bool) (fits : History → Write → Bool) (limit limit' : ℕ) (files files' : Files) (h mid new : History) (done : List Event) (e : Event) (before between now : Option (List ℕ))
    → tells' ≡ tells → limit' ≡ limit → files' ≡ files
    → (lines : List ℕ) × AllPass tells fits limit files h done mid lines × Appends before between lines
    → (line : List ℕ) × Passes tells' fits limit' files' mid e new line × Appends between now line
    → (lines : List ℕ) × AllPass tells fits limit files h (done ++ e ∷ []) new lines × Appends before now lines
one_turn tells tells' fits limit limit' files files' h mid new done e before between now t l f (lines, all, puts) (line, passes, more) = (
  lines ++ line,
  one_more tells fits limit files h mid new done e lines line all
      (subst (λ b. Passes b fits limit files mid e new line) t
      (subst (λ n. Passes tells' fits n files mid e new line) l
      (subst (λ x. Passes tells' fits limit' x mid e new line) f passes))),
  Appends-trans before between now lines line puts more,
)

-- The run ends at an event, behind those that have gone by.
pub ends_there : (tells tells' : Bool) (fits : History → Write → Bool) (limit limit' : ℕ) (files files' : Files) (h mid new : History) (es done later : List Event) (e : Event) (before between now : Option (List ℕ)) (end : Halt)
    → tells' ≡ tells → limit' ≡ limit → files' ≡ files → es ≡ done ++ e ∷ later
    → (lines : List ℕ) × AllPass tells fits limit files h done mid lines × Appends before between lines
    → Halts tells' fits limit' files' mid e new between now end → HaltsAmong tells fits limit files h es new before now end
ends_there tells tells' fits limit limit' files files' h mid new es done later e before between now end t l f split (lines, all, puts) halts = record {
  earlier = done;
  at = e;
  later = later;
  mid = mid;
  lines = lines;
  between = between;
  split = split;
  passed = all;
  printed = puts;
  halted =
      subst (λ b. Halts b fits limit files mid e new between now end) t
      (subst (λ n. Halts tells' fits n files mid e new between now end) l
      (subst (λ x. Halts tells' fits limit' x mid e new between now end) f halts));
}

-- ---- the events up to one, that one, and those behind it

pub taken_more : (es : List Event) (i : ℕ) (e : Event) → i < length es → e ≡ get_or es i e → take (i + 1) es ≡ take i es ++ e ∷ []
taken_more es i e lt is =
    subst (λ n. take n es ≡ take i es ++ e ∷ []) (sym (add-one i)) (take-suc es i e lt ∙ ap (λ x. take i es ++ x ∷ []) (sym is))

pub split_at : (es : List Event) (i : ℕ) (e : Event) → i < length es → e ≡ get_or es i e → es ≡ take i es ++ e ∷ drop (suc i) es
split_at es i e lt is = sym (take-append-drop i es) ∙ ap (λ rest. take i es ++ rest) (drop-cons es i e lt ∙ ap (λ x. x ∷ drop (suc i) es) (sym is))

-- what no event of a list is, none of them is
pub none_at : (test : Event → Bool) (es : List Event) (i : ℕ) (e : Event) → i < length es → e ≡ get_or es i e → list_any test es ≡ false → test e ≡ false
none_at test es i e lt is none =
    let parts = sym (ap (list_any test) (split_at es i e lt is) ∙ list_any-append test (take i es) (e ∷ drop (suc i) es)) ∙ none in
    let here = (or_parts (list_any test (take i es)) (list_any test (e ∷ drop (suc i) es)) parts).1 in
    (or_parts (test e) (list_any test (drop (suc i) es)) here).0
