-- What extraction of MRSs and the texts of trees ask of the names of a grammar.
use Rattle.std.specs.Prelude.{ℕ, ◌≡◌, ◌<◌, ◌==◌, ◌||◌, Bool, false, Some, List, All, length, slice_get}
use Rattle.type_hierarchy.specs.Decls.{Name, texts}
use Rattle.constraint_expand.specs.Books.{InstanceMap}
use Rattle.book_shapes.specs.Shapes.{instances_of}
use Rattle.grammar_load.specs.Loaded.{GrammarTree}
use Rattle.mrs_places.specs.Paths.{Paths}
use Rattle.mrs_places.specs.Settled.{paths_said}
use Rattle.mrs_extract.specs.Asked.{ArePaths}

-- what the settings of a grammar say of MRSs, by its types and features
abbrev pub mrs_paths_of : GrammarTree → Paths
mrs_paths_of g = paths_said g.book.system.types (texts g.book.feats.items) g.settings

-- a blank, a quote or a parenthesis, with which a text of trees goes on after a name
abbrev pub is_mark : ℕ → Bool
is_mark byte = byte == 32 || byte == 34 || byte == 40 || byte == 41

-- a name has a byte, and no blank, quote or parenthesis
abbrev pub IsInstanceName : Name → Type 0
IsInstanceName name = (0 < length name) × All (λ byte. is_mark byte ≡ false) name

-- of one status no two instances have one name
abbrev pub AreNamedApart : List InstanceMap → List Name → Type 0
AreNamedApart is names = (i j : ℕ) (x y : InstanceMap) → slice_get is i ≡ Some x → slice_get is j ≡ Some y → x.status ≡ y.status → slice_get names i ≡ slice_get names j → i ≡ j

-- Extraction may use it: the names of the grammar's types and features are names of an MRS, no two features have one name, sorts are
-- letters, and each feature of the grammar's structures has a name. And trees are written with the names of its instances: each is
-- told from what stands round it, and from those of the others of its status.
pub record IsWellNamed (g : GrammarTree) : Type 0 where
  pub are : ArePaths g.book.system.types (mrs_paths_of g)
  pub feats : length (mrs_paths_of g).feats ≡ length g.book.system.introducers
  pub names : All IsInstanceName g.names
  pub apart : AreNamedApart (instances_of g.book) g.names
