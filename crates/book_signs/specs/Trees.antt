-- A book with the places of its daughters, and the signs that these are.
use Rattle.std.specs.Prelude.{ℕ, ◌≡◌, ◌+◌, ◌<◌, ◌≤◌, All, Bool, true, false, if◌then◌else◌, List, [], ◌∷◌, Option, Some, Vec, map, option_map, slice_get, length}
use Rattle.std.specs.Global.{Global}
use Rattle.fs_model.specs.Claims.{Path}
use Rattle.fs_model.specs.Sources.{Source}
use Rattle.fs_graph.specs.declared.facts.Feat.{Feat}
use Rattle.fs_graph.specs.Facts.{path_of}
use Rattle.fs_unify.specs.Rules.{Grammar, system_of}
use Rattle.tree_model.specs.Mothers.{Rule}
use Rattle.tree_model.specs.Signs.{Kind, an_entry, a_lexical_rule, a_phrase_rule, a_root, Instance, Signs, is_phrase_rule}
use Rattle.constraint_expand.specs.declared.books.Book.{Book}
use Rattle.constraint_expand.specs.Books.{numbered_of, InstanceMap}
use Rattle.book_shapes.specs.Shapes.{instances_of}
use Rattle.book_signs.specs.Signed.{kind_of, known_of, paths_in, facts_of}

-- a book, and for each of its instances the places of its daughters
pub record SignTree : Type 0 where
  pub book : Book
  pub places : List (List Path)

abbrev pub paths_of : List (Vec Feat Global) → List Path
paths_of paths = map (λ p. path_of p.items) paths

abbrev pub sign_of : Grammar → InstanceMap → List Path → Instance
sign_of g i places = record { kind = kind_of i.status; rule = record { facts = facts_of g i.structure; places = places } }

abbrev pub signs_with : Grammar → List InstanceMap → List (List Path) → List Instance
signs_with g [] placings = []
signs_with g (i ∷ is) [] = []
signs_with g (i ∷ is) (places ∷ placings) = sign_of g i places ∷ signs_with g is placings

abbrev pub signs_of : SignTree → Signs
signs_of t =
    record {
      system = system_of t.book.system;
      paths = paths_in t.book.system;
      instances = signs_with t.book.system (instances_of t.book) t.places;
      daughter_features = known_of (numbered_of t.book.names).daughter_features;
      restrictors = known_of (numbered_of t.book.names).restrictors;
    }

-- the rule of the instance at a place
abbrev pub rule_at : Signs → ℕ → Option Rule
rule_at g place = option_map (λ i. i.rule) (slice_get g.instances place)

abbrev pub facts_at : Signs → ℕ → Option Source
facts_at g place = option_map (λ r. r.facts) (rule_at g place)

abbrev pub places_at : Signs → ℕ → Option (List Path)
places_at g place = option_map (λ r. r.places) (rule_at g place)

abbrev pub is_entry : Kind → Bool
is_entry an_entry = true
is_entry _ = false

abbrev pub is_lexical_rule : Kind → Bool
is_lexical_rule a_lexical_rule = true
is_lexical_rule _ = false

abbrev pub is_root : Kind → Bool
is_root a_root = true
is_root _ = false

-- the places of those of a list of kinds of which a test holds, in order; places are counted from p
abbrev pub places_where : (Kind → Bool) → ℕ → List Kind → List ℕ
places_where test p [] = []
places_where test p (k ∷ ks) = if test k then p ∷ places_where test (p + 1) ks else places_where test (p + 1) ks

abbrev pub kinds_of : Signs → List Kind
kinds_of g = map (λ i. i.kind) g.instances

-- the places of entries, lexical rules, phrase rules and roots; each is numbered among its like by its place here
abbrev pub entries_of : Signs → List ℕ
entries_of g = places_where is_entry 0 (kinds_of g)

abbrev pub lexical_rules_of : Signs → List ℕ
lexical_rules_of g = places_where is_lexical_rule 0 (kinds_of g)

abbrev pub phrase_rules_of : Signs → List ℕ
phrase_rules_of g = places_where is_phrase_rule 0 (kinds_of g)

abbrev pub roots_of : Signs → List ℕ
roots_of g = places_where is_root 0 (kinds_of g)

-- how many daughters an instance of a kind has
abbrev pub HasArity : Kind → ℕ → Type 0
HasArity a_lexical_rule n = n ≡ 1
HasArity a_phrase_rule n = (1 ≤ n) × (n ≤ 4)
HasArity _ n = n ≡ 0

-- each instance has as many places as its kind asks
abbrev pub HaveArities : Signs → Type 0
HaveArities g = (place : ℕ) (i : Instance) → slice_get g.instances place ≡ Some i → HasArity i.kind (length i.rule.places)

-- the features of paths are features of the grammar
abbrev pub ArePathsIn : Grammar → List Path → Type 0
ArePathsIn g paths = All (λ p. All (λ f. f < length g.introducers) p) paths
