use Rattle.std.proofs.Common.{subst}
use Rattle.catalog_stream.specs.Depth.{extent, IsExtent}
use Rattle.catalog_stream.proofs.Extents.{extent_is, extents_agree}
use Rattle.catalog_stream.proofs.scan.extent_law.Goals as goal

pub returns : goal.returns
returns c = λ text found. (λ e. subst (IsExtent text) e (extent_is text), λ h. extents_agree text (extent text) found (extent_is text) h)
