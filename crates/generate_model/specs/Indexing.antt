-- Entries by a predicate of each, and those without one apart.
use Rattle.std.specs.Prelude.{ℕ, ◌≡◌, Bool, true, false, if◌then◌else◌, Option, Some, None, String, Vec, List, [], ◌∷◌, filter, map, option_map, string_bytes}
use Rattle.std.specs.Str.{bytes_eq}
use Rattle.std.specs.Global.{Global}

-- an entry: its number, and its predicate where it has one
pub record KeyedEntry : Type 0 where
  pub number : ℕ
  pub key : Option (List ℕ)

abbrev pub entry_of : ℕ × Option (String Global) → KeyedEntry
entry_of e = record { number = e.0; key = option_map string_bytes e.1 }

abbrev pub is_keyed : List ℕ → Option (List ℕ) → Bool
is_keyed pred None = false
is_keyed pred (Some key) = bytes_eq pred key

abbrev pub has_none : Option (List ℕ) → Bool
has_none None = true
has_none (Some key) = false

-- the numbers of the entries of which a test holds, in their order
abbrev pub numbers_where : (Option (List ℕ) → Bool) → List KeyedEntry → List ℕ
numbers_where test entries = map (λ e. e.number) (filter (λ e. test e.key) entries)

-- lists of numbers by predicate, and the numbers of entries without one
pub record IndexTree : Type 0 where
  pub keyed : List (List ℕ × List ℕ)
  pub apart : List ℕ

abbrev pub list_of : String Global × Vec ℕ Global → List ℕ × List ℕ
list_of e = (string_bytes e.0, e.1.items)

-- the list of a predicate, where there is one
abbrev pub having_of : List (List ℕ × List ℕ) → List ℕ → List ℕ
having_of [] pred = []
having_of (l ∷ ls) pred = if bytes_eq pred l.0 then l.1 else having_of ls pred

-- this is the index of these entries
pub record IsIndexOf (entries : List KeyedEntry) (index : IndexTree) : Type 0 where
  pub having : (pred : List ℕ) → having_of index.keyed pred ≡ numbers_where (is_keyed pred) entries
  pub apart : index.apart ≡ numbers_where has_none entries
