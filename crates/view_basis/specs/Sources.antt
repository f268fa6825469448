-- A source in memory, as contracts see it.
use Rattle.view_basis.specs.Visible as visible
use Rattle.view_basis.specs.declared.visible.Source.{Source}

abbrev pub shown : Source → visible.Source
shown source = record { seen = source.seen; body = source.body.now }
