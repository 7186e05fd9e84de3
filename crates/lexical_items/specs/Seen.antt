-- Lattices and chains in the words of lexical trees.
use Rattle.std.specs.Prelude.{ℕ, Some, List, map}
use Rattle.derivation.specs.Trees.{Derivation, lexical}
use Rattle.tree_model.specs.Signs.{Signs}
use Rattle.tree_model.specs.Lexical.{FullLexical}
use Rattle.tree_model.specs.Structures.{Structure}
use Rattle.tree_model.specs.Lattices.{Lattice, Step}
use Rattle.chart_model.specs.Calculus.{Along}
use Rattle.chart_model.specs.At.{At}
use Rattle.morph_analysis.specs.Lattices.{StepTree, LatticeTree}
use Rattle.morph_analysis.specs.Chains.{ChainTree}
use Rattle.morph_analysis.specs.Allowed.{FeedsTree, IsAllowed}
use Rattle.lexical_items.specs.Places.{place_in}

abbrev pub step_seen : StepTree → Step
step_seen s = record { from = s.from; to = s.to; word = s.word }

abbrev pub lattice_seen : LatticeTree → Lattice
lattice_seen l = record { steps = map step_seen l.steps; end = l.end }

-- the lexical tree of a chain, which names entry and rules by place
abbrev pub tree_of : List ℕ → List ℕ → ChainTree → Derivation
tree_of entries rules c = lexical (place_in entries c.entry) (map (place_in rules) c.rules) c.words (Some (c.from, c.to))

-- no chain is forbidden that has a full structure
abbrev pub ForbidsNone : Signs → List ℕ → List ℕ → FeedsTree → Type 0
ForbidsNone g entries rules feeds =
    (entry : ℕ) (p : ℕ) (rs ps : List ℕ) (f : Structure) → At entries entry p → Along (At rules) rs ps → FullLexical g p ps f → IsAllowed feeds entry rs
