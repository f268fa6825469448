-- A name's fault as a field's.
use Rattle.olm_base.specs.declared.name.NameFault.{NameFault}
use Rattle.olm_base.specs.declared.name.NameFault.TheVariants.{Bad, Memory as NoMemory}
use Rattle.olm_base.specs.declared.fields.FieldKind.{FieldKind}
use Rattle.olm_base.specs.declared.fields.FieldKind.TheVariants.{BadName, Memory}

abbrev pub kind_of_name : NameFault → FieldKind
kind_of_name Bad = BadName
kind_of_name NoMemory = Memory
