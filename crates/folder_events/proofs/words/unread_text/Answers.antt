use Rattle.std.proofs.Common.{◌++◌, List, ℕ, ap, sym, subst, ◌∙◌}
use Rattle.std.specs.Str.{IsUtf8}
use Rattle.fault_words.specs.Words.{unread_words}
use Rattle.folder_events.proofs.Texts.{unread_is_text}
use Rattle.folder_events.proofs.words.unread_text.Goals as goal

pub as_text-requires : goal.as_text-requires
as_text-requires c =
    subst IsUtf8 (sym (c.in_ok-put_unread.ensures ∙ ap (λ (front : List ℕ). front ++ unread_words c.args.path.now) c.new-bytes.ensures.items)) (unread_is_text c.args.path.now c.is_text.ensures)
