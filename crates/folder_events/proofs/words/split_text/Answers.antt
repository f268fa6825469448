use Rattle.std.proofs.Common.{◌++◌, List, ℕ, ap, sym, subst, ◌∙◌}
use Rattle.std.specs.Str.{IsUtf8}
use Rattle.fault_words.specs.Words.{split_words}
use Rattle.folder_events.proofs.Texts.{split_is_text}
use Rattle.folder_events.proofs.words.split_text.Goals as goal

pub as_text-requires : goal.as_text-requires
as_text-requires c =
    subst IsUtf8 (sym (c.in_ok-put_split.ensures ∙ ap (λ (front : List ℕ). front ++ split_words c.args.path.now c.args.fault) c.new-bytes.ensures.items)) (split_is_text c.args.path.now c.args.fault c.is_text.ensures)
