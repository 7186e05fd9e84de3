-- What a tuple of daughters begins with.
use Rattle.std.specs.Prelude.{◌≡◌, ◌++◌, List, map}
use Rattle.chart_model.specs.declared.covers.Tuple.{Tuple}
use Rattle.chart_model.specs.Tuples.{shapes_of}

-- the daughters of one tuple stand for the first ones of another
abbrev pub BeginsWith : {T C M : Type 0} → (T → M) → Tuple T C → Tuple T C → Type 0
BeginsWith {T} {C} {M} meaning front t = (rest : List M) × (map meaning (shapes_of front) ++ rest ≡ map meaning (shapes_of t))
