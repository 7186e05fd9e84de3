-- What the words of nodes are; only private clauses cite it.
use Rattle.std.specs.Prelude.{ℕ, List, map, Option, None, Some, Vec, String, string_bytes}
use Rattle.std.specs.Global.{Global}
use Rattle.type_hierarchy.specs.Table.{TypeTable}
use Rattle.fs_graph.specs.GraphMap.{GraphMap}
use Rattle.lexicon.specs.Words.{Word}
use Rattle.closed_lists.specs.Strings.{AreSpoken}

-- the words of nodes, where each has a string
abbrev pub AreWordsOf : TypeTable → GraphMap → List ℕ → Option (List Word) → Type 0
AreWordsOf types g nodes None = (ws : List Word) → AreSpoken types g nodes ws → ⊥
AreWordsOf types g nodes (Some ws) = AreSpoken types g nodes ws
