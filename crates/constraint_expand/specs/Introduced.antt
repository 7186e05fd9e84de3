-- What is found of the writers of a feature.
use Rattle.std.specs.Prelude.{ℕ, List}
use Rattle.type_hierarchy.specs.Table.{TypeTable}
use Rattle.constraint_expand.specs.Introducers.{IsIntroducer, AreFirstTwo}
use Rattle.constraint_expand.specs.declared.introducers.Introduced.{Introduced}
use Rattle.constraint_expand.specs.declared.introducers.Introduced.TheVariants.{By, Split}

-- the introducer, or where there is none the first two most general writers
abbrev pub IsFound : TypeTable → List ℕ → Introduced → Type 0
IsFound types writers (By t) = IsIntroducer types writers t.0
IsFound types writers (Split a b) = ((t : ℕ) → IsIntroducer types writers t → ⊥) × AreFirstTwo types writers a.0 b.0
