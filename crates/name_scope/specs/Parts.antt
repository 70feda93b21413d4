-- The parts of a qualified name.
use Rattle.cic_names.specs.declared.name.GlobalId.{GlobalId}
use Rattle.name_scope.specs.declared.written.Parts.{Parts}

abbrev pub id_written : Parts → GlobalId
id_written p = record { lib = p.library.now; name = p.name.now }
