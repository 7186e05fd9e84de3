-- The number of a rule's daughters (DELPH-IN TDL).
use Rattle.std.specs.Prelude.{ℕ, ◌≡◌, ◌≤◌, Bool, true, false, List, length, Option}
use Rattle.tdl_reader.specs.declared.Status.{Status}
use Rattle.tdl_reader.specs.declared.Status.TheVariants.{LexRule, Rule}
use Rattle.type_hierarchy.specs.Table.{TypeTable}
use Rattle.fs_graph.specs.GraphMap.{GraphMap}
use Rattle.closed_lists.specs.Names.{ListTree}
use Rattle.closed_lists.specs.Lists.{HasList}

-- rules and lexical rules have daughters
abbrev pub is_rule : Status → Bool
is_rule Rule = true
is_rule LexRule = true
is_rule _ = false

-- how many daughters an instance of a status may have
abbrev pub MayHave : Status → ℕ → Type 0
MayHave Rule n = (1 ≤ n) × (n ≤ 4)
MayHave LexRule n = n ≡ 1
MayHave _ n = Unit {0}

-- A rule's daughters stand in a closed list of as many elements as it may have.
pub data HasDaughters (types : TypeTable) (names : ListTree) (args : List (Option ℕ)) (status : Status) (g : GraphMap) : Type 0 where
  of_rule : (elements : List ℕ) → HasList types names g args elements → MayHave status (length elements) → HasDaughters types names args status g
  no_rule : is_rule status ≡ false → HasDaughters types names args status g
