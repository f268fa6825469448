use Rattle.std.proofs.Common.{◌≡◌, ◌&&◌, true, rules}
use Rattle.fbc_types.specs.Rules.{is_bundle_of}
use Rattle.fbc_types.specs.Texts.{same}
use Rattle.fbc_types.specs.declared.catalog.Bundle.{Bundle}
use Rattle.problem_build.proofs.Lists.{find_at}
use Rattle.problem_build.proofs.entries.bundle_place.Goals as goal

pub returns-then-eq-2-clause-bundle : goal.returns-then-eq-2-clause-bundle
returns-then-eq-2-clause-bundle c =
    let test = λ (bundle : Bundle). is_bundle_of c.args.owner.now bundle && same bundle.name c.args.name.now in
    let h : test c.index-bundles-place.result ≡ true = search rules in
    find_at test c.args.bundles.now c.loop-place.place c.index-bundles-place.result c.loop-place-test.true c.index-bundles-place.is c.loop-place.invariant h
