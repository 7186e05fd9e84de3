-- Elements of rules as they are written in TDL.
use Rattle.std.specs.Prelude.{ℕ, ◌≡◌, ◌≢◌, ◌<◌, ◌≤◌, ◌++◌, ◌&&◌, Bool, true, false, not, if◌then◌else◌, nat_lt, List, [], ◌∷◌, length, map, Option, Some, None, IfSome, All, Contains, codes}
use Rattle.std.specs.List.{flat_map, slice_get, Any, list_all}
use Rattle.std.specs.Str.{bytes_eq, str_to_ascii_lowercase}
use Rattle.std.specs.Char.{is_ascii_digit}
use Rattle.mrs_model.specs.Meanings.{Argument, Filler, of_var, of_text as filled_by_text}
use Rattle.mrs_model.specs.Texts.{IsName}
use Rattle.mrs_model.specs.Valid.{Rise}
use Rattle.mrs_reading.specs.Meaning.{Normal}
use Rattle.tdl_reader.specs.Trees.{TermTree, of_name, of_text, of_coref, of_avm, of_list, BodyTree, no_terms, and_term, AttrTrees, no_attrs, more_attrs, ItemTrees, no_items, more_items, closed}
use Rattle.transfer_model.specs.Rules.{Element}

-- a feature, written as a single name, and its value, a single term
pub record Feature : Type 0 where
  pub name : List ℕ
  pub value : TermTree

-- an element before others, where all are there
abbrev pub together : {A : Type 0} → Option A → Option (List A) → Option (List A)
together None others = None
together (Some x) None = None
together (Some x) (Some xs) = Some (x ∷ xs)

abbrev pub feature_in : List (List ℕ) → BodyTree → Option Feature
feature_in (f ∷ []) (and_term x no_terms) = Some (record { name = f; value = x })
feature_in path body = None

-- the features of a feature term, where each is a single name with a single term
abbrev pub features_in : AttrTrees → Option (List Feature)
features_in no_attrs = Some []
features_in (more_attrs path body more) = together (feature_in path body) (features_in more)

-- the features of a body that is one feature term
abbrev pub features_of : BodyTree → Option (List Feature)
features_of (and_term (of_avm attrs at) no_terms) = features_in attrs
features_of other = None

-- the elements of a list, each a feature term
abbrev pub elements_in : ItemTrees → Option (List (List Feature))
elements_in no_items = Some []
elements_in (more_items b more) = together (features_of b) (elements_in more)

-- those of a closed list
abbrev pub elements_of : TermTree → Option (List (List Feature))
elements_of (of_list items closed at) = elements_in items
elements_of other = None

-- the coreference that a value is
abbrev pub coref_of : TermTree → List (List ℕ)
coref_of (of_coref name at) = name ∷ []
coref_of other = []

-- the coreferences of an element, and of elements, in order of writing, as often as they are written
abbrev pub corefs_in : List Feature → List (List ℕ)
corefs_in fs = flat_map (λ f. coref_of f.value) fs

abbrev pub corefs_of : List (List Feature) → List (List ℕ)
corefs_of xs = flat_map corefs_in xs

abbrev pub among : List (List ℕ) → List ℕ → Bool
among [] name = false
among (n ∷ ns) name = if bytes_eq n name then true else among ns name

-- names in order of writing, each once, without those of another list
abbrev pub each_once : List (List ℕ) → List (List ℕ) → List (List ℕ)
each_once known [] = []
each_once known (n ∷ ns) = if among known n then each_once known ns else n ∷ each_once (known ++ n ∷ []) ns

abbrev pub is_small : ℕ → Bool
is_small c = nat_lt 96 c && nat_lt c 123

-- a coreference's name: small letters, one or more, and then digits, one or more, as a variable's (names of TDL are in lower case)
pub record IsCorefName (name : List ℕ) : Type 0 where
  pub letters : List ℕ
  pub digits : List ℕ
  pub is : name ≡ letters ++ digits
  pub some_letters : 0 < length letters
  pub some_digits : 0 < length digits
  pub are_letters : list_all is_small letters ≡ true
  pub are_digits : list_all is_ascii_digit digits ≡ true

-- a coreference or a text
pub data IsRoleValue : TermTree → Type 0 where
  by_coref : (name : List ℕ) (at : ℕ) → IsCorefName name → IsRoleValue (of_coref name at)
  by_text : (text : List ℕ) (at : ℕ) → IsRoleValue (of_text text at)

-- the predicate that a value is
abbrev pub pred_in : TermTree → Option (List ℕ)
pred_in (of_name name at) = Some name
pred_in (of_text text at) = Some text
pred_in other = None

abbrev pub IsPredValue : TermTree → Type 0
IsPredValue x = (text : List ℕ) × (pred_in x ≡ Some text)

abbrev pub IsCoref : TermTree → Type 0
IsCoref x = (name : List ℕ) (at : ℕ) → x ≡ of_coref name at

-- What holds of a feature: PRED is a name or a string, LBL a coreference, and every other one a coreference or a string. Each name that TDL writes is a
-- name of an MRS, so `named` refuses nothing.
abbrev pub IsFeature : Feature → Type 0
IsFeature f =
    (f.name ≡ codes "pred" → IsPredValue f.value)
    × (f.name ≡ codes "lbl" → (name : List ℕ) × (at : ℕ) × (f.value ≡ of_coref name at) × IsCorefName name)
    × (f.name ≢ codes "pred" → IsRoleValue f.value × IsName f.name)

-- no name stands twice
abbrev pub DifferInName : List Feature → Type 0
DifferInName fs = (i j : ℕ) (f g : Feature) → slice_get fs i ≡ Some f → slice_get fs j ≡ Some g → f.name ≡ g.name → i ≡ j

-- the feature terms that are elements; in OUTPUT each has a label
pub record IsElementForm (in_output : Bool) (fs : List Feature) : Type 0 where
  pub few : length fs ≤ 100
  pub once : DifferInName fs
  pub each : All IsFeature fs
  pub pred : Any (λ f. f.name ≡ codes "pred") fs
  pub label : in_output ≡ true → Any (λ f. f.name ≡ codes "lbl") fs

-- what fills a role, by the names of the coreferences in order of their numbers
pub data IsFiller (names : List (List ℕ)) : TermTree → Filler → Type 0 where
  is_coref : (name : List ℕ) (at c : ℕ) → slice_get names c ≡ Some name → IsFiller names (of_coref name at) (of_var c)
  is_text : (text : List ℕ) (at : ℕ) → IsFiller names (of_text text at) (filled_by_text text)

-- the feature is a role and has this argument
pub record IsRole (names : List (List ℕ)) (f : Feature) (a : Argument) : Type 0 where
  pub name : f.name ≡ a.role
  pub filler : IsFiller names f.value a.filler

abbrev pub is_role : Feature → Bool
is_role f = not (bytes_eq f.name (codes "pred")) && not (bytes_eq f.name (codes "lbl"))

-- The element that features say, by the names of the coreferences: its predicate is normalized, and its roles stand in byte order.
pub record IsElementOf (names : List (List ℕ)) (fs : List Feature) (x : Element) : Type 0 where
  pub pred : (f : Feature) (text : List ℕ) → Contains fs f → f.name ≡ codes "pred" → pred_in f.value ≡ Some text → Normal (str_to_ascii_lowercase text) x.pred
  pub label : (f : Feature) (name : List ℕ) → Contains fs f → f.name ≡ codes "lbl" → coref_of f.value ≡ name ∷ [] → IfSome x.label (λ c. slice_get names c ≡ Some name) × (x.label ≢ None)
  pub no_label : (All (λ f. f.name ≢ codes "lbl") fs) → x.label ≡ None
  pub order : Rise (map (λ a. a.role) x.args)
  pub each : (f : Feature) → Contains fs f → is_role f ≡ true → Any (IsRole names f) x.args
  pub all : (a : Argument) → Contains x.args a → Any (λ f. (is_role f ≡ true) × IsRole names f a) fs
