-- A text that is longer than the limit.
use Rattle.std.proofs.Common.{◌≡◌, ◌<◌, ℕ, List, length, Err, arith}
use Rattle.std.proofs.lemmas.Bool.Decides.{nat_tests}
use Rattle.olm_io.specs.ReadAll.{whole}
use Rattle.olm_io.specs.declared.traits.FolderFault.TheVariants.{TooLong}

pub too_long : (limit : ℕ) (text : List ℕ) → limit < length text → whole limit text ≡ Err (TooLong limit)
too_long limit text h = grind (arith, nat_tests)
