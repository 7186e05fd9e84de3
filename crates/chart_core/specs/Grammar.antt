-- What a core knows of a grammar.
use Rattle.std.specs.Prelude.{ℕ}
use Rattle.chart_model.specs.Calculus.{Calculus}
use Rattle.chart_model.specs.declared.covers.Shapes as of_shapes
use Rattle.chart_model.specs.declared.covers.Cover as of_cover

-- the numbers by which covers are found
pub record Keys (C : Type 0) : Type 0 where
  pub cell : C → ℕ
  pub begins : C → ℕ
  pub ends : C → ℕ

-- a grammar in plain values, which shapes belong to it, and the structures that they stand for
pub record Grammar (T M C : Type 0) : Type 1 where
  pub calculus : Calculus M C
  pub belongs : T → Type 0
  pub meaning : T → M
  pub keys : Keys C

abbrev pub keys_of : {C B : Type 0} → of_cover.Ghosts C B → Keys C
keys_of cover = record { cell = cover.cell_of; begins = cover.begins; ends = cover.ends }

-- the grammar of an object of shapes
abbrev pub grammar_of : {X T C W B : Type 0} (s : of_shapes.Ghosts X T C W B) → of_cover.Ghosts C B → X → Grammar T s.Meaning C
grammar_of s cover shapes = record { calculus = s.calculus shapes; belongs = s.belongs shapes; meaning = s.meaning shapes; keys = keys_of cover }
