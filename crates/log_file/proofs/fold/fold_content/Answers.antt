use Rattle.std.proofs.Common.{sym, ◌∙◌}
use Rattle.log_file.proofs.Headed.{folds_behind, folds_none, folds_other}
use Rattle.log_file.proofs.fold.fold_content.Goals as goal

pub returns-then-bytes-le9-clause-folds : goal.returns-then-bytes-le9-clause-folds
returns-then-bytes-le9-clause-folds c = folds_none c.args.store.now.1 c.args.bytes.now c.requires c.if-bytes-le9.true

pub returns-then-not-is_header-clause-folds : goal.returns-then-not-is_header-clause-folds
returns-then-not-is_header-clause-folds c =
    folds_other c.args.bytes.now c.split_at.result.0.now c.if-bytes-le9.false c.split_at.ensures.front (sym c.is_header.ensures ∙ c.if-not-is_header.true)

pub returns-clause-folds : goal.returns-clause-folds
returns-clause-folds c =
    folds_behind c.args.bytes.now c.split_at.result.0.now c.split_at.result.1.now c.args.store.now.1 c.fold_records.new.store.1 c.fold_records.result c.if-bytes-le9.false
    c.split_at.ensures.front c.split_at.ensures.back (sym c.is_header.ensures ∙ c.if-not-is_header.false) c.requires c.fold_records.ensures.folds
