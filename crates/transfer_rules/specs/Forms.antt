-- Which rules the statements of a file say, and the first that is outside the form.
use Rattle.std.specs.Prelude.{ℕ, ◌≡◌, ◌+◌, ◌<◌, ◌≤◌, ◌++◌, true, false, List, [], ◌∷◌, length, map, Option, Some, None, IfSome, All, Contains, codes, unwrap_or, if◌then◌else◌}
use Rattle.std.specs.List.{slice_get, AllZip, Any}
use Rattle.std.specs.Str.{bytes_eq}
use Rattle.mrs_model.specs.Meanings.{Predication}
use Rattle.tdl_reader.specs.Trees.{TermTree, BodyTree, StatementTree, defines, adds, begins, ends, includes, letters}
use Rattle.transfer_model.specs.Rules.{Element, Rule}
use Rattle.transfer_rules.specs.Features.{Feature, features_of, elements_of, corefs_of, each_once, is_small, DifferInName, IsElementForm, IsElementOf}

-- the value of a feature
abbrev pub value_at : List ℕ → List Feature → Option TermTree
value_at name [] = None
value_at name (f ∷ fs) = if bytes_eq f.name name then Some f.value else value_at name fs

-- The list of elements that a feature has: absent, or the elements of a closed list.
pub data IsPart (name : List ℕ) (fs : List Feature) : Option (List (List Feature)) → Type 0 where
  absent : value_at name fs ≡ None → IsPart name fs None
  there : (x : TermTree) (xs : List (List Feature)) → value_at name fs ≡ Some x → elements_of x ≡ Some xs → IsPart name fs (Some xs)

-- the features of a rule
abbrev pub part_names : List (List ℕ)
part_names = codes "input" ∷ codes "context" ∷ codes "filter" ∷ codes "output" ∷ []

-- the parts of a rule as it is written
pub record Parts : Type 0 where
  pub name : List ℕ
  pub input : List (List Feature)
  pub context : List (List Feature)
  pub filter : Option (List (List Feature))
  pub output : List (List Feature)

-- the lists that these features have; CONTEXT and OUTPUT that aren't there have no elements
pub record HasLists (fs : List Feature) (p : Parts) : Type 0 where
  pub input : IsPart (codes "input") fs (Some p.input)
  pub context : (context : Option (List (List Feature))) × IsPart (codes "context") fs context × (p.context ≡ unwrap_or context [])
  pub filter : IsPart (codes "filter") fs p.filter
  pub output : (output : Option (List (List Feature))) × IsPart (codes "output") fs output × (p.output ≡ unwrap_or output [])

-- the parts have as many elements as they may
pub record AreFew (p : Parts) : Type 0 where
  pub some : 0 < length p.input
  pub few : length p.input + length p.context ≤ 8
  pub filter_few : IfSome p.filter (λ xs. length xs ≤ 8)
  pub output_few : length p.output ≤ 8

-- The statement is a definition without spelling groups whose body is one feature term, with these parts, in their numbers.
pub record HasParts (s : StatementTree) (p : Parts) : Type 0 where
  pub at : ℕ
  pub body : BodyTree
  pub fs : List Feature
  pub defined : s ≡ defines p.name at None body
  pub features : features_of body ≡ Some fs
  pub named : All (λ f. Contains part_names f.name) fs
  pub once : DifferInName fs
  pub lists : HasLists fs p
  pub few : AreFew p

-- each element has its form
pub record HaveForms (p : Parts) : Type 0 where
  pub sides : All (IsElementForm false) (p.input ++ p.context)
  pub filter : IfSome p.filter (All (IsElementForm false))
  pub output : All (IsElementForm true) p.output

-- the leading letters of a coreference's name
abbrev pub letters_in : List ℕ → List ℕ
letters_in [] = []
letters_in (c ∷ cs) = if is_small c then c ∷ letters_in cs else []

abbrev pub some_or_none : Option (List (List Feature)) → List (List Feature)
some_or_none xs = unwrap_or xs []

-- the element of OUTPUT that features say
pub record IsOutputOf (names : List (List ℕ)) (fs : List Feature) (e : Predication) : Type 0 where
  pub element : IsElementOf names fs (record { pred = e.pred; label = Some e.label; args = e.args })
  pub span : e.span ≡ None

-- what FILTER says
pub data IsFilterOf (names : List (List ℕ)) : Option (List (List Feature)) → Option (List Element) → Type 0 where
  no_filter : IsFilterOf names None None
  filters : (xs : List (List Feature)) (es : List Element) → AllZip (IsElementOf names) xs es → IsFilterOf names (Some xs) (Some es)

-- The rule that the parts say. Coreferences have their numbers in order of first writing, in INPUT and then CONTEXT, then in FILTER, or in OUTPUT.
pub record IsRuleBy (p : Parts) (r : Rule) : Type 0 where
  pub names : List (List ℕ)
  pub filter_names : List (List ℕ)
  pub output_names : List (List ℕ)
  pub names_are : names ≡ each_once [] (corefs_of (p.input ++ p.context))
  pub filter_names_are : filter_names ≡ each_once names (corefs_of (some_or_none p.filter))
  pub output_names_are : output_names ≡ each_once names (corefs_of p.output)
  pub name : r.name ≡ p.name
  pub letters : r.letters ≡ map letters_in names
  pub filter_letters : r.filter_letters ≡ map letters_in filter_names
  pub output_letters : r.output_letters ≡ map letters_in output_names
  pub input : AllZip (IsElementOf names) p.input r.input
  pub context : AllZip (IsElementOf names) p.context r.context
  pub filter : IsFilterOf (names ++ filter_names) p.filter r.filter
  pub output : AllZip (IsOutputOf (names ++ output_names)) p.output r.output

-- the statement says the rule
pub record IsRuleOf (s : StatementTree) (r : Rule) : Type 0 where
  pub parts : Parts
  pub has : HasParts s parts
  pub forms : HaveForms parts
  pub rule : IsRuleBy parts r

-- the statements say these rules, and no two have one name
pub record AreRules (ss : List StatementTree) (rs : List Rule) : Type 0 where
  pub each : AllZip IsRuleOf ss rs
  pub apart : (i j : ℕ) (r t : Rule) → slice_get rs i ≡ Some r → slice_get rs j ≡ Some t → r.name ≡ t.name → i ≡ j

-- the place of a statement
abbrev pub place_of : StatementTree → ℕ
place_of (defines name at affix body) = at
place_of (adds name at body) = at
place_of (begins status at) = at
place_of (ends instance at) = at
place_of (includes file at) = at
place_of (letters set at) = at

-- The first statement outside the form: those before it say rules, and it says none, or has the name of one before it.
pub record IsFirstOutside (ss : List StatementTree) (at : ℕ) : Type 0 where
  pub front : List StatementTree
  pub statement : StatementTree
  pub rest : List StatementTree
  pub is : ss ≡ front ++ statement ∷ rest
  pub rules : List Rule
  pub before : AreRules front rules
  pub outside : (r : Rule) → IsRuleOf statement r → Any (λ q. q.name ≡ r.name) rules
  pub at_is : at ≡ place_of statement
