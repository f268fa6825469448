use Rattle.one_catalog.proofs.Reading.{catalog_both, test_both, taken_both}
use Rattle.one_catalog.proofs.laws.tests_are_one.Goals as goal

pub returns-clause-catalog : goal.returns-clause-catalog
returns-clause-catalog c body catalog = catalog_both body catalog

pub returns-clause-test : goal.returns-clause-test
returns-clause-test c body = test_both body

pub returns-clause-taken : goal.returns-clause-taken
returns-clause-taken c text within = taken_both text within
