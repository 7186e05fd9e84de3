-- The words of bodies, as they are kept.
use Rattle.type_hierarchy.specs.Decls.{texts}
use Rattle.body_facts.specs.Claimed.{WordTable}
use Rattle.body_facts.specs.Writing.{list_names}
use Rattle.body_facts.specs.declared.lookup.Words.{Words}

abbrev pub table_of : Words → WordTable
table_of w = record { types = w.types.now; names = list_names w.names.now; feats = texts w.feats.now }
