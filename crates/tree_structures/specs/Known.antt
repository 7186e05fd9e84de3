-- Full structures that are kept, by number, with what they are made of.
use Rattle.std.specs.Prelude.{ℕ, ◌≡◌, All, List, [], ◌∷◌, Some, map, take, slice_get}
use Rattle.std.specs.Global.{Global}
use Rattle.std.specs.Arc.{arc_value}
use Rattle.std.specs.declared.sync.Arc.{Arc}
use Rattle.tree_model.specs.Structures.{Structure}
use Rattle.tree_model.specs.Lexical.{IsEntry}
use Rattle.tree_model.specs.Signs.{Signs}
use Rattle.book_signs.specs.Trees.{SignTree, signs_of}
use Rattle.rule_trees.specs.Mothers.{view_in, IsMother}
use Rattle.rule_trees.specs.Fulls.{FullTree}
use Rattle.tree_structures.specs.declared.question.Numbers.{Numbers}
use Rattle.tree_structures.specs.declared.question.Question.{Question}
use Rattle.tree_structures.specs.declared.question.Question.TheVariants.{Entry, Mother}
use Rattle.tree_structures.specs.declared.memo.Known.{Known}
use Rattle.tree_structures.specs.declared.memo.FullMemo.{FullMemo}

-- the structure of a full structure that is shared
abbrev pub view_of : SignTree → Arc FullTree Global → Structure
view_of t full = view_in t (arc_value full).graph

abbrev pub numbers_of : Numbers → List ℕ
numbers_of n = take n.count (n.a ∷ n.b ∷ n.c ∷ n.d ∷ [])

abbrev pub fulls_in : FullMemo → List FullTree
fulls_in memo = map (λ k. arc_value k.full) memo.known.items

-- the structures that are kept, in order of number
abbrev pub kept : SignTree → List Known → List Structure
kept t known = map (λ k. view_of t k.full) known

-- the structures of these numbers
pub data AreAt (structures : List Structure) : List ℕ → List Structure → Type 0 where
  none_at : AreAt structures [] []
  more_at : {n : ℕ} {ns : List ℕ} {f : Structure} {fs : List Structure} → slice_get structures n ≡ Some f → AreAt structures ns fs → AreAt structures (n ∷ ns) (f ∷ fs)

-- the structure is an entry's, or what a rule makes of the structures of some numbers
abbrev pub IsAnswer : Signs → List Structure → Question → Structure → Type 0
IsAnswer g structures (Entry place) f = IsEntry g place f
IsAnswer g structures (Mother place over) f = (fs : List Structure) × AreAt structures (numbers_of over) fs × IsMother g place fs f

abbrev pub IsRightIn : SignTree → List Structure → Known → Type 0
IsRightIn t structures known = IsAnswer (signs_of t) structures known.question (view_of t known.full)

-- each structure that is kept is that of what it is made of
abbrev pub IsRight : SignTree → FullMemo → Type 0
IsRight t memo = All (IsRightIn t (kept t memo.known.items)) memo.known.items
