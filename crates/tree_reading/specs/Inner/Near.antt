-- How far a name goes that is none.
use Rattle.std.specs.Prelude.{ℕ, ◌≡◌, ◌≤◌, ◌<◌, ◌⊎◌, ◌&&◌, nat_lt, Bool, true, false, List, Some, slice_get, length, take}
use Rattle.derivation.specs.Text.{name_of}
use Rattle.tree_reading.specs.declared.Part.{Part}
use Rattle.tree_reading.specs.declared.Part.TheVariants.{Entry, LexicalRule, PhraseRule, Other}
use Rattle.tree_reading.specs.Grammars.{TreeGrammar}

-- may begin a tree, where phrases may stand or may not
abbrev pub is_usable : Part → Bool → Bool
is_usable Entry wide = true
is_usable LexicalRule wide = true
is_usable (PhraseRule n) wide = wide && nat_lt 0 n
is_usable Other wide = false

-- both begin with the same so many bytes
abbrev pub IsShared : List ℕ → List ℕ → ℕ → Type 0
IsShared name other n = (n ≤ length name) × (n ≤ length other) × (take n name ≡ take n other)

abbrev pub IsMostShared : List ℕ → List ℕ → ℕ → Type 0
IsMostShared name other n = IsShared name other n × ((m : ℕ) → IsShared name other m → m ≤ n)

abbrev pub IsUsable : TreeGrammar → Bool → ℕ → Type 0
IsUsable g wide place = (part : Part) × (slice_get g.parts place ≡ Some part) × (is_usable part wide ≡ true)

-- the most that the name shares with a name that may stand here, of the first places
pub record IsNearBelow (g : TreeGrammar) (wide : Bool) (name : List ℕ) (limit n : ℕ) : Type 0 where
  pub within : n ≤ length name
  pub some : (n ≡ 0) ⊎ ((place : ℕ) × IsUsable g wide place × IsShared name (name_of g.names place) n)
  pub most : (place m : ℕ) → place < limit → IsUsable g wide place → IsShared name (name_of g.names place) m → m ≤ n

abbrev pub IsNear : TreeGrammar → Bool → List ℕ → ℕ → Type 0
IsNear g wide name n = IsNearBelow g wide name (length g.parts) n
