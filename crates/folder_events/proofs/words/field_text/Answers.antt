use Rattle.std.proofs.Common.{◌++◌, List, ℕ, ap, sym, subst, ◌∙◌}
use Rattle.std.specs.Str.{IsUtf8}
use Rattle.fault_words.specs.Words.{field_words}
use Rattle.folder_events.proofs.Texts.{field_is_text}
use Rattle.folder_events.proofs.words.field_text.Goals as goal

pub as_text-requires : goal.as_text-requires
as_text-requires c =
    subst IsUtf8 (sym (c.in_ok-put_field.ensures ∙ ap (λ (front : List ℕ). front ++ field_words c.args.blob c.args.path.now c.args.kind) c.new-bytes.ensures.items)) (field_is_text c.args.blob c.args.path.now c.args.kind c.is_text.ensures)
