-- When no two structures unify (Copestake 2002: unification, and the well-formed closure).
use Rattle.std.specs.Prelude.{ℕ, ◌≡◌, List, [], ◌∷◌, All}
use Rattle.type_hierarchy.specs.Table.{TypeTable, meet_of}
use Rattle.fs_model.specs.Claims.{System}
use Rattle.fs_model.specs.Closure.{IsConsistent}
use Rattle.fs_model.specs.Sources.{Reader, Told}
use Rattle.sieve.specs.Sketches.{TypeAt, type_along}

-- the structure has at each path of the sketch the type that stands there, and not the path where none does
abbrev pub HasSketch : Reader → List TypeAt → Type 0
HasSketch r s = All (λ l. type_along r l.path ≡ l.ty) s

-- a type system over these types, whatever it says of them
abbrev pub IsOver : TypeTable → System → Type 0
IsOver types s = (t u : ℕ) → s.meet t u ≡ meet_of types t u

-- two structures unify: the closure of all that both tell is consistent
abbrev pub Unify : System → Reader → Reader → Type 0
Unify s a b = IsConsistent s (Told (record { claims = []; parts = record { place = []; reader = a } ∷ record { place = []; reader = b } ∷ [] }))

-- no two structures with these sketches unify, in any type system over these types
abbrev pub NoneUnify : TypeTable → List TypeAt → List TypeAt → Type 0
NoneUnify types a b = (s : System) (x y : Reader) → IsOver types s → HasSketch x a → HasSketch y b → Unify s x y → ⊥
