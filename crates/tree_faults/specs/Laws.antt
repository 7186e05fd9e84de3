-- What holds of explanations: they tell the trees that are parsed from others, and a tree has one.
use Rattle.std.specs.Prelude.{ℕ, ◌≡◌, ◌≤◌, ◌↔◌, List, length, Option, Some, None}
use Rattle.fs_model.specs.Claims.{IsOrder}
use Rattle.derivation.specs.Trees.{Derivation, Daughters, lexical, phrase, no_more, first}
use Rattle.tree_model.specs.Signs.{Signs}
use Rattle.tree_model.specs.Lexical.{Word, Words}
use Rattle.tree_model.specs.Trees.{LeavesAre}
use Rattle.tree_model.specs.Lattices.{Lattice, Carries, Spans}
use Rattle.tree_model.specs.Licensed.{IsLicensed}
use Rattle.tree_faults.specs.Explained.{Explained, Licensed, IsExplained}

-- two trees that differ in the nodes of a lattice alone
mutual
  pub data IsSameButNodes : Derivation → Derivation → Type 0 where
    same_lexical : {entry : ℕ} {rules : List ℕ} {words : List Word} {n m : Option (ℕ × ℕ)} → IsSameButNodes (lexical entry rules words n) (lexical entry rules words m)
    same_phrase : {rule : ℕ} {ds es : Daughters} → AreSameButNodes ds es → IsSameButNodes (phrase rule ds) (phrase rule es)

  pub data AreSameButNodes : Daughters → Daughters → Type 0 where
    same_no_more : AreSameButNodes no_more no_more
    same_first : {d e : Derivation} {ds es : Daughters} → IsSameButNodes d e → AreSameButNodes ds es → AreSameButNodes (first d ds) (first e es)

-- a lexical tree stands in a lattice: some path between its nodes carries its words; and it has so many rules at most
abbrev pub IsCarried : Lattice → ℕ → Derivation → Type 0
IsCarried lattice most (lexical entry rules said None) = ⊥
IsCarried lattice most (lexical entry rules said (Some n)) = Carries lattice n.0 said n.1 × (length rules ≤ most)
IsCarried lattice most (phrase rule ds) = ⊥

-- A tree whose words stand in a lattice from end to end is licensed here exactly where it is licensed for the lattice, which are the trees that `parse`
-- lists, limits aside. The nodes that it was written with make no difference.
abbrev pub ExplainedIsLicensed : Type 0
ExplainedIsLicensed = (g : Signs) (words : Words) (lattice : Lattice) (most : ℕ) (written t : Derivation) → IsSameButNodes written t →
    Spans t 0 lattice.end → LeavesAre (IsCarried lattice most) t → IsExplained g words written Licensed ↔ IsLicensed g words lattice most t

abbrev pub NodesAreFree : Type 0
NodesAreFree = (g : Signs) (words : Words) (t u : Derivation) → IsSameButNodes t u → (e : Explained) → IsExplained g words t e ↔ IsExplained g words u e

-- A tree has one explanation.
abbrev pub ExplainedAreOne : Type 0
ExplainedAreOne = (g : Signs) (words : Words) (t : Derivation) → IsOrder g.system → (a b : Explained) → IsExplained g words t a → IsExplained g words t b → a ≡ b
