use Rattle.std.proofs.Common.{◌++◌, List, ℕ, ap, sym, subst, ◌∙◌}
use Rattle.std.specs.Str.{IsUtf8}
use Rattle.fault_words.specs.Words.{stream_words}
use Rattle.folder_events.proofs.Texts.{stream_is_text}
use Rattle.folder_events.proofs.words.stream_text.Goals as goal

pub as_text-requires : goal.as_text-requires
as_text-requires c =
    subst IsUtf8 (sym (c.in_ok-put_stream.ensures ∙ ap (λ (front : List ℕ). front ++ stream_words c.args.fault) c.new-bytes.ensures.items)) (stream_is_text c.args.fault)
