-- What the structures of rules and of their daughters owe, whichever graphs they are.
use Rattle.std.specs.Prelude.{List}
use Rattle.fs_model.specs.Closure.{Closure}
use Rattle.fs_model.specs.Sources.{Reader, Source, Told}
use Rattle.fs_unify.specs.Owing.{OwedFacts, IsWellFormedBut}
use Rattle.tree_model.specs.Mothers.{Rule, RuleSystem, Meant, IsFull, IsAbstract, IsShape}
use Rattle.tree_model.specs.Structures.{Structure, IsStructureOf}
use Rattle.tree_model.specs.Views.{view, IsInside}
use Rattle.fs_trim.specs.Cutting.{owed_of}

-- the full structure of a mother owes only facts that speak of her daughters
abbrev pub FullsOwe : Type 0
FullsOwe =
    (g : RuleSystem) (rule : Rule) (fs : List Structure) (r : Reader) → IsInside g.paths r → IsFull g rule fs (view g.paths r) →
    IsWellFormedBut g.system r (owed_of g.daughters)

-- her abstract structure owes only facts that speak of restrictors
abbrev pub ShapesOwe : Type 0
ShapesOwe =
    (g : RuleSystem) (rule : Rule) (ms : List Structure) (r : Reader) → IsInside g.paths r → IsShape g rule ms (view g.paths r) →
    IsWellFormedBut g.system r (owed_of g.restrictors)

-- and so does that of a full structure
abbrev pub AbstractsOwe : Type 0
AbstractsOwe =
    (g : RuleSystem) (f : Structure) (r : Reader) → IsInside g.paths r → IsAbstract g (Meant g f) (view g.paths r) →
    IsWellFormedBut g.system r (owed_of g.restrictors)

-- the structure of a closure owes nothing, whatever it may
abbrev pub ClosuresOwe : Type 0
ClosuresOwe =
    (g : RuleSystem) (source : Source) (r : Reader) (owed : OwedFacts) → IsInside g.paths r →
    IsStructureOf g.system g.paths (Closure g.system (Told source)) (view g.paths r) → IsWellFormedBut g.system r owed
