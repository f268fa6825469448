-- How keys, stamps and kinds are spelled: their fields in order.
use Rattle.payloads.specs.Form.{Form, ◌⊗◌, seen_as, number_form, text_form, name_form}
use Rattle.olm_base.specs.declared.gvk.Gvk.{Gvk}
use Rattle.cluster_objects.specs.declared.keys.Key.{Key}
use Rattle.cluster_objects.specs.declared.keys.Stamp.{Stamp}

unfoldable pub key_form : Form Key
key_form = seen_as (text_form ⊗ name_form ⊗ text_form ⊗ name_form)
    (λ p. record { group = p.0; kind = p.1.0; namespace = p.1.1.0; name = p.1.1.1 })
    (λ k. (k.group, (k.kind, (k.namespace, k.name))))

unfoldable pub stamp_form : Form Stamp
stamp_form = seen_as (name_form ⊗ number_form ⊗ number_form)
    (λ p. record { namespace = p.0; plan = p.1.0; step = p.1.1 })
    (λ s. (s.namespace, (s.plan, s.step)))

unfoldable pub gvk_form : Form Gvk
gvk_form = seen_as (text_form ⊗ name_form ⊗ name_form)
    (λ p. record { group = p.0; version = p.1.0; kind = p.1.1 })
    (λ g. (g.group, (g.version, g.kind)))
