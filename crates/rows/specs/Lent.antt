-- What the filters and the rankings that are lent answer.
use Rattle.std.specs.Prelude.{ℕ, ◌≡◌, ◌-◌, List, Bool, true}
use Rattle.type_hierarchy.specs.Table.{TypeTable}
use Rattle.sieve.specs.Sketches.{TypeAt, sketches_meet}
use Rattle.rows.specs.declared.lent.Test.{Test}
use Rattle.rows.specs.declared.lent.Test.TheVariants.{TypesMeet, Counted}
use Rattle.rows.specs.declared.lent.Order.{Order}
use Rattle.rows.specs.declared.lent.Order.TheVariants.{SmallerFirst, LargerFirst, OneRank}

-- what a filter answers of two sketches: the quick test of types at paths, or a yes
abbrev pub IsPassed : Test → TypeTable → List TypeAt → List TypeAt → Bool → Type 0
IsPassed (TypesMeet) types a b passes = passes ≡ sketches_meet types a b
IsPassed (Counted calls) types a b passes = passes ≡ true

-- the rank of a host of a size
abbrev pub IsRank : Order → ℕ → ℕ → Type 0
IsRank SmallerFirst size rank = rank ≡ size
IsRank LargerFirst size rank = rank ≡ 1000 - size
IsRank OneRank size rank = rank ≡ 0
