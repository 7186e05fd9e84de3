-- One outcome of a load, up to how names are stored and nodes are numbered.
use Rattle.std.specs.Prelude.{◌≡◌, List, Result, Ok, Err, string_bytes}
use Rattle.std.specs.List.{AllZip}
use Rattle.type_hierarchy.specs.Decls.{texts}
use Rattle.fs_model.specs.Sources.{IsSameStructure}
use Rattle.fs_graph.specs.GraphMap.{GraphMap, reader_of}
use Rattle.grammar_files.specs.declared.expand_fault.ExpandFault.{ExpandFault}
use Rattle.grammar_files.specs.declared.expand_fault.ExpandFault.TheVariants.{UnknownName, NoIntro, Intro, NoStructure, NoMemory}
use Rattle.constraint_expand.specs.declared.books.Book.{Book}
use Rattle.constraint_expand.specs.Books.{InstanceMap, numbered_of}
use Rattle.grammar_files.specs.declared.fault.Why.{Why}
use Rattle.grammar_files.specs.declared.fault.Why.TheVariants.{Expand}
use Rattle.grammar_files.specs.Faults.{FoundFault}
use Rattle.grammar_files.specs.Walks.{WalkedTree}
use Rattle.grammar_types.specs.Typings.{IsTypesFault, IsSameWhy}
use Rattle.grammar_load.specs.Expanding.{IsBook, IsExpandFault}
use Rattle.book_shapes.specs.Shapes.{instances_of}
use Rattle.grammar_load.specs.Loaded.{GrammarTree}

-- one structure after the other is the same
abbrev pub AreSameGraphs : List GraphMap → List GraphMap → Type 0
AreSameGraphs = AllZip (λ g h. IsSameStructure (reader_of g) (reader_of h))

pub record IsSameInstance (i j : InstanceMap) : Type 0 where
  pub status : i.status ≡ j.status
  pub structure : IsSameStructure (reader_of i.structure) (reader_of j.structure)

pub record IsSameBook (b c : Book) : Type 0 where
  pub system : b.system ≡ c.system
  pub features : texts b.feats.items ≡ texts c.feats.items
  pub constraints : AreSameGraphs b.constraints.items c.constraints.items
  pub instances : AllZip IsSameInstance (instances_of b) (instances_of c)
  pub numbered : numbered_of b.names ≡ numbered_of c.names

pub record IsSameGrammar (g h : GrammarTree) : Type 0 where
  pub book : IsSameBook g.book h.book
  pub lexicon : g.lexicon ≡ h.lexicon
  pub spelling : g.spelling ≡ h.spelling
  pub settings : g.settings ≡ h.settings
  pub names : g.names ≡ h.names

-- the same fault of expansion: names are compared by their bytes
abbrev pub IsSameExpandFault : ExpandFault → ExpandFault → Type 0
IsSameExpandFault (UnknownName a at k) (UnknownName b on j) = (string_bytes a ≡ string_bytes b) × (at ≡ on) × (k ≡ j)
IsSameExpandFault (NoIntro f at k) (NoIntro g on j) = (string_bytes f ≡ string_bytes g) × (at ≡ on) × (k ≡ j)
IsSameExpandFault (Intro f a b k) (Intro g c d j) = (string_bytes f ≡ string_bytes g) × (string_bytes a ≡ string_bytes c) × (string_bytes b ≡ string_bytes d) × (k ≡ j)
IsSameExpandFault (NoStructure a k) (NoStructure b j) = (string_bytes a ≡ string_bytes b) × (k ≡ j)
IsSameExpandFault NoMemory NoMemory = Unit {0}
IsSameExpandFault _ _ = ⊥

abbrev pub IsSameCause : Why → Why → Type 0
IsSameCause (Expand a) (Expand b) = IsSameExpandFault a b
IsSameCause a b = IsSameWhy a b

-- one grammar, or one fault
abbrev pub IsSameOutcome : Result GrammarTree FoundFault → Result GrammarTree FoundFault → Type 0
IsSameOutcome (Ok g) (Ok h) = IsSameGrammar g h
IsSameOutcome (Err f) (Err g) = (f.file ≡ g.file) × (f.at ≡ g.at) × IsSameCause f.why g.why
IsSameOutcome _ _ = ⊥

-- What was walked has a book, or a first fault of its types or of its expansion.
pub data HasExpansion (w : WalkedTree) : Type 0 where
  has_book : (b : Book) → IsBook w b → HasExpansion w
  lacks_types : (f : FoundFault) → IsTypesFault w f → HasExpansion w
  lacks_book : (f : FoundFault) → IsExpandFault w f → HasExpansion w
