-- How long the lists of a catalog are.
use Rattle.std.specs.Prelude.{length, take}
use Rattle.fbc_types.specs.declared.catalog.Catalog.{Catalog}
use Rattle.fbc_read.specs.declared.lengths.Lengths.{Lengths}

abbrev pub lengths_of : Catalog → Lengths
lengths_of catalog =
    record {
      packages = length catalog.packages;
      channels = length catalog.channels;
      bundles = length catalog.bundles;
      deprecations = length catalog.deprecations;
      manifests = length catalog.manifests;
    }

-- the beginnings of its lists, of these lengths
abbrev pub cut : Lengths → Catalog → Catalog
cut lengths catalog =
    record {
      packages = take lengths.packages catalog.packages;
      channels = take lengths.channels catalog.channels;
      bundles = take lengths.bundles catalog.bundles;
      deprecations = take lengths.deprecations catalog.deprecations;
      manifests = take lengths.manifests catalog.manifests;
    }
