-- The list of sets while it grows.
use Rattle.std.specs.Prelude.{ℕ, ◌≡◌, ◌≢◌, ◌<◌, ◌≤◌, true, List, [], ◌∷◌, ◌++◌, length, slice_index_or, All, Contains, Vec}
use Rattle.std.specs.Global.{Global}
use Rattle.type_hierarchy.specs.Bits.{has_bit, IsRow}
use Rattle.type_hierarchy.specs.Table.{TypeTable, set_of, has_member, intersection, IsIntersection, IsDistinct}
use Rattle.type_hierarchy.specs.Inner.Tables.{sets_of, row_items}
use Rattle.glb_completion.specs.declared.complete_fault.CompleteFault.{CompleteFault}
use Rattle.glb_completion.specs.declared.complete_fault.CompleteFault.TheVariants.{TooManyTypes, NoMemory}
use Rattle.glb_completion.specs.Completion.{most_completed}

-- the row of what is at or above a written type
abbrev pub IsUpRow : TypeTable → ℕ → List ℕ → Type 0
IsUpRow h t row = (u : ℕ) → u < h.written → has_bit row u ≡ has_member (set_of h u) t

abbrev pub set_at : TypeTable → List (Vec ℕ Global) → ℕ → List ℕ
set_at h keys k = slice_index_or (sets_of h.written keys) k []

-- a type whose row a set's mark has is above all of the set
abbrev pub IsAbove : TypeTable → List ℕ → List ℕ → Type 0
IsAbove h set above = (t : ℕ) → t < h.written → has_bit above t ≡ true → (x : ℕ) → x < h.written → has_bit set x ≡ true → has_member (set_of h t) x ≡ true

-- nonempty intersections, each once, beginning with the sets of the written types
pub record IsGrowing (h : TypeTable) (keys above : List (Vec ℕ Global)) : Type 0 where
  pub rows : All (λ row. IsRow h.written row.items) keys
  pub above_rows : All (λ row. IsRow h.written row.items) above
  pub pairs : length above ≡ length keys
  pub intersections : (k : ℕ) → k < length keys → IsIntersection h (set_at h keys k)
  pub distinct : IsDistinct (sets_of h.written keys)
  pub enough : h.written ≤ length keys
  pub written : (t : ℕ) → t < h.written → set_at h keys t ≡ set_of h t
  pub up : (t : ℕ) → t < h.written → IsUpRow h t (row_items above t)
  pub sound : (k : ℕ) → k < length keys → IsAbove h (row_items keys k) (row_items above k)
  pub few : length keys ≤ most_completed

abbrev pub StartsWith : List (Vec ℕ Global) → List (Vec ℕ Global) → Type 0
StartsWith new old = (rest : List (Vec ℕ Global)) × (new ≡ old ++ rest)

-- what the set at a place has in common with a written type is in the list
abbrev pub IsMet : TypeTable → List (Vec ℕ Global) → ℕ → ℕ → Type 0
IsMet h keys at t =
    intersection (set_at h keys at) (set_of h t) ≢ [] → Contains (sets_of h.written keys) (intersection (set_at h keys at) (set_of h t))

abbrev pub IsSpread : TypeTable → List (Vec ℕ Global) → ℕ → Type 0
IsSpread h keys at = (t : ℕ) → t < h.written → IsMet h keys at t

-- the types that share a member with a set
abbrev pub HasNear : TypeTable → List ℕ → List ℕ → Type 0
HasNear h set near = (x t : ℕ) → x < h.written → t < h.written → has_bit set x ≡ true → has_member (set_of h t) x ≡ true → has_bit near t ≡ true

-- one row was added, where it is new
pub data Adds (keys above keys' above' : List (Vec ℕ Global)) (row more : List ℕ) : Type 0 where
  was_there : (k : ℕ) → k < length keys → row_items keys k ≡ row → keys' ≡ keys → above' ≡ above → Adds keys above keys' above' row more
  is_pushed : (v w : Vec ℕ Global) → v.items ≡ row → w.items ≡ more → ((k : ℕ) → k < length keys → row_items keys k ≢ row) → length keys < most_completed →
      keys' ≡ keys ++ v ∷ [] → above' ≡ above ++ w ∷ [] → Adds keys above keys' above' row more

-- a new row comes when the list is full
abbrev pub IsFull : List (Vec ℕ Global) → List ℕ → CompleteFault → Type 0
IsFull keys row TooManyTypes = ((k : ℕ) → k < length keys → row_items keys k ≢ row) × (most_completed ≤ length keys)
IsFull keys row NoMemory = Unit {0}
