use Rattle.std.proofs.Common.{◌++◌, List, ℕ, ap, sym, subst, ◌∙◌}
use Rattle.std.specs.Str.{IsUtf8}
use Rattle.catalog_lines.specs.Lines.{rule_words}
use Rattle.folder_events.proofs.Texts.{rule_is_text}
use Rattle.folder_events.proofs.words.rule_text.Goals as goal

pub as_text-requires : goal.as_text-requires
as_text-requires c =
    subst IsUtf8 (sym (c.in_ok-put_rule.ensures ∙ ap (λ (front : List ℕ). front ++ rule_words c.args.fault.now) c.new-bytes.ensures.items)) (rule_is_text c.args.fault.now c.is_name.ensures c.is_part.ensures c.is_part-2.ensures)
