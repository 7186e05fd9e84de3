-- Lists of numbers under the remainders of a key.
use Rattle.std.specs.Prelude.{◌≡◌, ℕ, ◌%◌, ◌<◌, ◌++◌, Some, List, [], ◌∷◌, length, map, slice_get, slice_set, vec_len, vec_capacity}
use Rattle.std.proofs.Common.{zero, suc}
use Rattle.chart_core.specs.declared.places.Places.{Places}

abbrev pub lists_of : Places → List (List ℕ)
lists_of p = map (λ v. v.items) p.lists.items

-- there is a list
abbrev pub IsFull : Places → Type 0
IsFull p = 0 < length p.lists.items

-- the place of the list for a key: there is one for each remainder
abbrev pub slot : List (List ℕ) → ℕ → ℕ
slot lists key = key % length lists

-- the list at a place
abbrev pub list_at : List (List ℕ) → ℕ → List ℕ
list_at [] i = []
list_at (xs ∷ lists) zero = xs
list_at (xs ∷ lists) (suc i) = list_at lists i

-- the numbers under keys with this one's remainder
abbrev pub bucket : List (List ℕ) → ℕ → List ℕ
bucket lists key = list_at lists (slot lists key)

-- one more number under this key
abbrev pub pushed : List (List ℕ) → ℕ → ℕ → List (List ℕ)
pushed lists key n = slice_set lists (slot lists key) (bucket lists key ++ n ∷ [])

-- room for one more number under this key
abbrev pub HasRoomAt : Places → ℕ → Type 0
HasRoomAt p key = (v : _) → slice_get p.lists.items (slot (lists_of p) key) ≡ Some v → vec_len v < vec_capacity v
