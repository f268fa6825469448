-- How slots and bases are spelled.
use Rattle.payloads.specs.Form.{Form, ◌⊗◌, seen_as, number_form, list_form, option_form}
use Rattle.payloads.specs.Keys.{key_form, stamp_form}
use Rattle.payloads.specs.Objects.{object_form}
use Rattle.cluster_history.specs.declared.slots.Slot.{Slot}
use Rattle.cluster_history.specs.declared.slots.Base.{Base}

unfoldable pub slot_form : Form Slot
slot_form = seen_as (number_form ⊗ option_form object_form ⊗ list_form stamp_form)
    (λ p. record { version = p.0; object = p.1.0; stamps = p.1.1 })
    (λ s. (s.version, (s.object, s.stamps)))

-- the length, and each slot behind its key
unfoldable pub base_form : Form Base
base_form = seen_as (number_form ⊗ list_form (key_form ⊗ slot_form)) (λ p. record { length = p.0; slots = p.1 }) (λ b. (b.length, b.slots))
