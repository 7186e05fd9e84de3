-- What is known of full structures.
use Rattle.std.specs.Prelude.{ℕ, ◌↔◌, Bool, IsTrue, List, Option, MatchOption, map}
use Rattle.std.specs.Global.{Global}
use Rattle.std.specs.Arc.{arc_value}
use Rattle.std.specs.declared.sync.Arc.{Arc}
use Rattle.tree_model.specs.Structures.{Structure}
use Rattle.tree_model.specs.Trees.{IsRooted}
use Rattle.forest_unpack.specs.declared.fulls.FullParts.{FullParts}
use Rattle.forest_unpack.specs.Parts.{parts_of}
use Rattle.book_signs.specs.Trees.{SignTree, signs_of}
use Rattle.rule_trees.specs.Fulls.{FullTree}
use Rattle.rule_trees.specs.Mothers.{view_in, IsMother}

-- what full structures stand for, one that is shared and those of daughters
abbrev pub seen_in : SignTree → Arc FullTree Global → Structure
seen_in t full = view_in t (arc_value full).graph

abbrev pub all_seen : SignTree → FullParts FullTree → List Structure
all_seen t parts = map (λ (full : FullTree). view_in t full.graph) (parts_of parts)

-- this is what the rule at a place makes of full structures, or none where it makes none
abbrev pub TellsMother : SignTree → ℕ → List Structure → Option FullTree → Type 0
TellsMother t place fs told =
    MatchOption told ((v : Structure) → IsMother (signs_of t) place fs v → ⊥) (λ full. IsMother (signs_of t) place fs (view_in t full.graph))

-- this says whether a full structure is rooted
abbrev pub TellsRooted : SignTree → Structure → Bool → Type 0
TellsRooted t f told = IsTrue told ↔ IsRooted (signs_of t) f
