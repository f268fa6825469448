use Rattle.catalog_stream.proofs.Depths.{counts_whole}
use Rattle.catalog_stream.proofs.blobs.depth_law.Goals as goal

pub returns : goal.returns
returns c = counts_whole
