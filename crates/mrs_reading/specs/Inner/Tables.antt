-- What a table of variables holds.
use Rattle.std.specs.Prelude.{ℕ, ◌≡◌, ◌≢◌, ◌<◌, ◌≤◌, ◌-◌, ◌↔◌, ◌++◌, List, [], ◌∷◌, map, length, Some, Contains, slice_index_or, slice_set}
use Rattle.std.specs.List.{slice_get, insert}
use Rattle.std.specs.String.{string_bytes}
use Rattle.std.specs.declared.cmp.Ordering.TheVariants.{Greater}
use Rattle.std.specs.Cmp.Lexicographic.{slice_cmp}
use Rattle.std.specs.Ordering.{nat_cmp}
use Rattle.mrs_model.specs.Meanings.{Property, Variable}
use Rattle.mrs_model.specs.Valid.{Rise}
use Rattle.mrs_model.specs.Views.{variable_of}
use Rattle.mrs_spelling.specs.Conditions.{Context, Given}
use Rattle.mrs_reading.specs.declared.table.Table.{Table}
pub use Rattle.mrs_reading.specs.Meaning.{is_variable, letters_of}

-- an item was added behind those whose names aren't greater
pub record IsAdded {T : Type 0} (name : T → List ℕ) (old : List T) (x : T) (new : List T) : Type 0 where
  pub place : ℕ
  pub within : place ≤ length old
  pub is : new ≡ insert old place x
  pub before : 0 < place → slice_cmp nat_cmp (name (slice_index_or old (place - 1) x)) (name x) ≢ Greater
  pub after : (k : ℕ) → place ≤ k → k < length old → slice_cmp nat_cmp (name (slice_index_or old k x)) (name x) ≡ Greater

-- the property is there already, or was added
pub data IsGivenTo (old : List Property) (p : Property) (new : List Property) : Type 0 where
  there : Contains old p → new ≡ old → IsGivenTo old p new
  added : ((q : Property) → Contains old q → q.name ≢ p.name) → IsAdded (λ q. q.name) old p new → IsGivenTo old p new

-- the property is there with another value
pub record HasOther (props : List Property) (p : Property) : Type 0 where
  pub other : Property
  pub there : Contains props other
  pub name : other.name ≡ p.name
  pub value : other.value ≢ p.value

-- the variable at this place was given the property
pub record IsGivenAt (vars : List Variable) (at : ℕ) (p : Property) (vars2 : List Variable) : Type 0 where
  pub before : Variable
  pub after : Variable
  pub there : slice_get vars at ≡ Some before
  pub given : IsGivenTo before.props p after.props
  pub sort : after.sort ≡ before.sort
  pub is : vars2 ≡ slice_set vars at after

-- it has another value
pub record HasOtherAt (vars : List Variable) (at : ℕ) (p : Property) : Type 0 where
  pub var : Variable
  pub there : slice_get vars at ≡ Some var
  pub other : HasOther var.props p

abbrev pub property_in : Given → Property
property_in g = record { name = g.name; value = g.value }

-- the variable of these letters and digits has the property
pub record Has (keys : List (List ℕ)) (vars : List Variable) (g : Given) : Type 0 where
  pub place : ℕ
  pub var : Variable
  pub key : slice_get keys place ≡ Some g.key
  pub at : slice_get vars place ≡ Some var
  pub props : Contains var.props (property_in g)

-- the variable was there, or is new at the end
pub data IsGrown (keys : List (List ℕ)) (vars : List Variable) (key : List ℕ) (keys2 : List (List ℕ)) (vars2 : List Variable) : ℕ → Type 0 where
  stays : (n : ℕ) → slice_get keys n ≡ Some key → keys2 ≡ keys → vars2 ≡ vars → IsGrown keys vars key keys2 vars2 n
  grows : (n : ℕ) → n ≡ length keys → ((i : ℕ) → slice_get keys i ≡ Some key → ⊥) → keys2 ≡ keys ++ key ∷ [] → vars2 ≡ vars ++ record { sort = letters_of key; props = [] } ∷ [] → IsGrown keys vars key keys2 vars2 n

pub record IsTable (c : Context) (gs : List Given) (keys : List (List ℕ)) (vars : List Variable) (last : ℕ) (name : List ℕ) : Type 0 where
  pub even : length vars ≡ length keys
  pub distinct : (i j : ℕ) (k : List ℕ) → slice_get keys i ≡ Some k → slice_get keys j ≡ Some k → i ≡ j
  pub at_last : 0 < length keys → slice_get keys last ≡ Some c.key
  pub name_is : name ≡ c.name
  pub told : (g : Given) → Contains gs g ↔ Has keys vars g
  pub each : (n : ℕ) (k : List ℕ) (v : Variable) → slice_get keys n ≡ Some k → slice_get vars n ≡ Some v → (v.sort ≡ letters_of k) × Rise (map (λ p. p.name) v.props)
  pub agree : (g h : Given) → Contains gs g → Contains gs h → g.key ≡ h.key → g.name ≡ h.name → g.value ≡ h.value

abbrev pub keys_in : Table → List (List ℕ)
keys_in t = map string_bytes t.keys.keys

abbrev pub vars_in : Table → List Variable
vars_in t = map variable_of t.vars.items

abbrev pub IsTableOf : Context → List Given → Table → Type 0
IsTableOf c gs t = IsTable c gs (keys_in t) (vars_in t) t.last (string_bytes t.name)
