-- Faults that stand for others.
use Rattle.std.proofs.Common.{Bool, true, false, true≢false, ◌≡◌, ℕ, Result, Ok, Err, refl, sym, ap, ◌∙◌}
use Rattle.olm_base.specs.Outcome.{Gives}
use Rattle.json_fields.specs.declared.fault.Fault.{Fault}
use Rattle.json_fields.specs.Faults as faults
use Rattle.event_script.specs.declared.events.Event.{Event}
use Rattle.event_script.specs.Script.{numbered, field_fault}

-- where one fault is not free, neither is the one that it stands for
pub not_free : (inner outer : Bool) → (inner ≡ true → outer ≡ true) → outer ≡ false → inner ≡ false
not_free true outer h e = absurd (true≢false (sym (h refl) ∙ e))
not_free false outer h e = refl

-- the exact answer of an event's fields is that of its blob
pub numbered_ok : (number : ℕ) (wanted found : Result Event Fault) (event : Event) → Gives faults.is_free wanted found → found ≡ Ok event → numbered number wanted ≡ Ok event
numbered_ok number wanted (Ok event) other g e = ap (numbered number) g ∙ ap (numbered number) e
numbered_ok number wanted (Err fault) other g e = cc e

pub numbered_err : (number : ℕ) (wanted found : Result Event Fault) (fault : Fault) → Gives faults.is_free wanted found → faults.is_free fault ≡ false → found ≡ Err fault → numbered number wanted ≡ Err (field_fault number fault)
numbered_err number wanted (Ok event) other g k e = cc e
numbered_err number wanted (Err fault) other g k e =
    let same : fault ≡ other = cc e in
    ap (numbered number) (g (ap faults.is_free same ∙ k)) ∙ ap (λ fault. Err (field_fault number fault)) same
