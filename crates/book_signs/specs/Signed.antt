-- A grammar's book as its trees see it (Copestake 2002: entries, rules and their daughters; DELPH-IN TDL: statuses of instances).
use Rattle.std.specs.Prelude.{ℕ, ◌≡◌, ◌++◌, true, false, List, [], ◌∷◌, Option, Some, None, map, length, replicate}
use Rattle.std.specs.List.{AllZip, range_with_len}
use Rattle.tdl_reader.specs.declared.Status.{Status}
use Rattle.tdl_reader.specs.declared.Status.TheVariants.{Entry, LexRule, Rule, Root}
use Rattle.fs_model.specs.Claims.{Path}
use Rattle.fs_graph.specs.GraphMap.{GraphMap, reader_of}
use Rattle.fs_unify.specs.Rules.{Grammar, system_of}
pub use Rattle.fs_trim.specs.Cutting.{paths_in}
use Rattle.fs_model.specs.Sources.{Source}
use Rattle.tree_model.specs.Views.{view}
use Rattle.tree_model.specs.Said.{source_said}
use Rattle.tree_model.specs.Signs.{Kind, an_entry, a_lexical_rule, a_phrase_rule, a_root, another, Instance, Signs}
use Rattle.closed_lists.specs.Lists.{HasList}
use Rattle.book_shapes.specs.Daughters.{is_rule}
use Rattle.constraint_expand.specs.declared.books.Book.{Book}
use Rattle.constraint_expand.specs.Books.{numbered_of, InstanceMap}
use Rattle.book_shapes.specs.Shapes.{lists_of, instances_of}

-- what an instance of a status is to trees
abbrev pub kind_of : Status → Kind
kind_of Entry = an_entry
kind_of LexRule = a_lexical_rule
kind_of Rule = a_phrase_rule
kind_of Root = a_root
kind_of _ = another

-- those of some features that the grammar has, in order
abbrev pub known_of : List (Option ℕ) → List ℕ
known_of [] = []
known_of (None ∷ fs) = known_of fs
known_of (Some f ∷ fs) = f ∷ known_of fs

-- the path of an element of the list at a path: a rest for each element before it, and then its first
abbrev pub element_path : Path → ℕ → ℕ → ℕ → Path
element_path list first rest k = (list ++ replicate k rest) ++ first ∷ []

-- The places of a rule's daughters: the paths of the elements of its closed list of them.
pub record AreDaughters (b : Book) (structure : GraphMap) (places : List Path) : Type 0 where
  pub elements : List ℕ
  pub list : HasList b.system.types (lists_of (numbered_of b.names)) structure (numbered_of b.names).args_path elements
  pub first : ℕ
  pub first_is : (numbered_of b.names).first ≡ Some first
  pub rest : ℕ
  pub rest_is : (numbered_of b.names).rest ≡ Some rest
  pub paths : places ≡ map (element_path list.known first rest) (range_with_len 0 (length elements))

-- an instance's places: those of its daughters, if it is a rule, and otherwise none
pub data ArePlaces (b : Book) (i : InstanceMap) (places : List Path) : Type 0 where
  of_rule : is_rule i.status ≡ true → AreDaughters b i.structure places → ArePlaces b i places
  of_other : is_rule i.status ≡ false → places ≡ [] → ArePlaces b i places

-- what a structure says of the paths that may be, so that how its nodes are numbered makes no difference
abbrev pub facts_of : Grammar → GraphMap → Source
facts_of g structure = source_said (paths_in g) (view (paths_in g) (reader_of structure))

-- an instance as trees see it: its facts are what its structure says
pub record IsSignOf (b : Book) (i : InstanceMap) (s : Instance) : Type 0 where
  pub kind : s.kind ≡ kind_of i.status
  pub facts : s.rule.facts ≡ facts_of b.system i.structure
  pub places : ArePlaces b i s.rule.places

-- A book as its trees see it.
pub record IsSignsOf (b : Book) (g : Signs) : Type 0 where
  pub system : g.system ≡ system_of b.system
  pub paths : g.paths ≡ paths_in b.system
  pub instances : AllZip (IsSignOf b) (instances_of b) g.instances
  pub daughter_features : g.daughter_features ≡ known_of (numbered_of b.names).daughter_features
  pub restrictors : g.restrictors ≡ known_of (numbered_of b.names).restrictors

-- there is one such value
pub record IsOnly {A : Type 0} (P : A → Type 0) : Type 0 where
  pub value : A
  pub is : P value
  pub one : (x y : A) → P x → P y → x ≡ y
