-- The number of words that a phrase holds.
use Rattle.std.specs.Prelude.{ℕ, ◌==◌, ◌&&◌, ◌+◌, ◌-◌, ◌^◌, Bool, true, IsTrue, List, [], ◌∷◌, length, min}
use Rattle.std.specs.Arc.{arc_value}
use Rattle.derivation.specs.declared.Tree.{Tree, fold-Tree}
use Rattle.derivation.specs.declared.Tree.TheOpen.{Tree-F, Lexical, Phrase}

-- a number of words as a phrase holds it: the greatest u64, where they are more
abbrev pub held : ℕ → ℕ
held n = min n (2 ^ 64 - 1)

abbrev pub words_among : List (ℕ × Bool) → ℕ
words_among [] = 0
words_among (d ∷ ds) = d.0 + words_among ds

abbrev pub are_right : List (ℕ × Bool) → Bool
are_right [] = true
are_right (d ∷ ds) = d.1 && are_right ds

-- the words of a node, and whether the numbers held there and below are right, over what its daughters have
abbrev pub counted_node : Tree-F (ℕ × Bool) → ℕ × Bool
counted_node (Lexical entry rules words nodes) = (length (arc_value words).items, true)
counted_node (Phrase rule words daughters) =
    (words_among (arc_value daughters).items, words == held (words_among (arc_value daughters).items) && are_right (arc_value daughters).items)

abbrev pub counted : Tree → ℕ × Bool
counted tree = fold-Tree (ℕ × Bool) counted_node tree

-- Each phrase in the tree holds the number of its words.
abbrev pub IsCounted : Tree → Type 0
IsCounted tree = IsTrue (counted tree).1

abbrev pub AreCounted : List Tree → Type 0
AreCounted [] = Unit {0}
AreCounted (tree ∷ trees) = IsCounted tree × AreCounted trees
