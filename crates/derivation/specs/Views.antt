-- What a tree of the program stands for.
use Rattle.std.specs.Prelude.{List, [], ◌∷◌, map}
use Rattle.std.specs.Arc.{arc_value}
use Rattle.std.specs.String.{string_bytes}
use Rattle.derivation.specs.Trees.{Derivation, Daughters, lexical, phrase, no_more, first}
use Rattle.derivation.specs.declared.Tree.{Tree, fold-Tree}
use Rattle.derivation.specs.declared.Tree.TheOpen.{Tree-F, Lexical, Phrase}

-- These daughters, from the left.
abbrev pub in_order : List Derivation → Daughters
in_order [] = no_more
in_order (d ∷ ds) = first d (in_order ds)

-- One node, over what its daughters stand for.
abbrev pub node_of : Tree-F Derivation → Derivation
node_of (Lexical entry rules words nodes) = lexical entry (arc_value rules).items (map string_bytes (arc_value words).items) nodes
node_of (Phrase rule words daughters) = phrase rule (in_order (arc_value daughters).items)

abbrev pub derivation_of : Tree → Derivation
derivation_of tree = fold-Tree Derivation node_of tree
