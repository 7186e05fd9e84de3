-- A tree has one line of its MRS.
use Rattle.std.specs.Prelude.{ℕ, ◌≡◌, Bool, List}
use Rattle.fs_model.specs.Claims.{IsOrder}
use Rattle.derivation.specs.Trees.{Derivation}
use Rattle.tree_model.specs.Signs.{Signs}
use Rattle.tree_model.specs.Items.{Answer}
use Rattle.mrs_lines.specs.Lines.{Semantics, IsMrsLine, AreAnswerLines}

abbrev pub MrsLinesAreOne : Type 0
MrsLinesAreOne = (g : Signs) → IsOrder g.system → (s : Semantics) (tree : Derivation) (a b : List ℕ) → IsMrsLine g s tree a → IsMrsLine g s tree b → a ≡ b

-- and so have the trees of an answer
abbrev pub LinesAreOne : Type 0
LinesAreOne = (g : Signs) → IsOrder g.system → (s : Semantics) (names : List (List ℕ)) (nodes : Bool) (number : ℕ) (answer : Answer) (a b : List (List ℕ))
    → AreAnswerLines g s names nodes number answer a → AreAnswerLines g s names nodes number answer b → a ≡ b
