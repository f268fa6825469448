use Rattle.std.proofs.Common.{◌≡◌, ◌++◌, drop}
use Rattle.std.specs.List.{flat_map}
use Rattle.fbc_types.specs.Rules as rules
use Rattle.fbc_check.proofs.chains.chain_faults.Given as goal

abbrev pub invariant-channels : goal.invariant-channels
invariant-channels l =
    record {
      headless : l.found.headless.items ++ flat_map rules.no_head (drop l.blob-index l.channels) ≡ flat_map rules.no_head l.channels;
      many_headed : l.found.many_headed.items ++ flat_map rules.many_heads (drop l.blob-index l.channels) ≡ flat_map rules.many_heads l.channels;
      circles : l.found.circles.items ++ flat_map rules.circle (drop l.blob-index l.channels) ≡ flat_map rules.circle l.channels;
      stranded : l.found.stranded.items ++ flat_map rules.stranded (drop l.blob-index l.channels) ≡ flat_map rules.stranded l.channels;
    }
