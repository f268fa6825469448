use Rattle.std.proofs.Common.{◌≡◌, Some, Ok, Err, Result, sym, ap, ◌∙◌}
use Rattle.std.specs.Result.{result_ok}
use Rattle.semver.proofs.Grammar.{version_parts-complete, version_parts-sound}
use Rattle.semver.specs.Parse.{Parts, version_parts}
use Rattle.semver.specs.declared.error.Error.{Error}
use Rattle.version_ranges.specs.Words.{version_of}
use Rattle.version_ranges.proofs.laws.version_law.Goals as goal

was_read : (r : Result Parts Error) (p : Parts) → result_ok r ≡ Some p → r ≡ Ok p
was_read (Ok q) p h = cc h
was_read (Err fault) p h = cc h

pub returns : goal.returns
unfolding version_of
returns c = λ word version. (
  λ h. version_parts-sound word version (was_read (version_parts word) version h),
  λ h. ap result_ok (ap version_parts (sym h.0) ∙ version_parts-complete version h.1),
)
