-- Lines that write no tree.
use Rattle.std.specs.Prelude.{ℕ, List}
use Rattle.tree_reading.specs.Grammars.{TreeGrammar}
use Rattle.tree_reading.specs.declared.TreeFault.{TreeFault}
use Rattle.tree_reading.specs.declared.TreeFault.TheVariants as why
use Rattle.tree_faults.specs.Lines.{IsNoTree}

-- why a line writes none
abbrev pub IsFaultOf : TreeGrammar → List ℕ → TreeFault → Type 0
IsFaultOf names line (why.At at) = IsNoTree names line at
IsFaultOf names line (why.NoMemory) = Unit {0}
