-- The report of `expand`: the structure of a type or an instance (Copestake 2002, typed feature structures).
use Rattle.std.specs.Prelude.{◌≡◌, ◌++◌, ◌∷◌, ◌&&◌, ℕ, Bool, true, false, List, [], map, option_map, Option, None, Some, codes, slice_index_or}
use Rattle.std.specs.List.{position_from}
use Rattle.std.specs.Option.{option_or}
use Rattle.std.specs.Str.{bytes_eq, str_to_ascii_lowercase}
use Rattle.type_hierarchy.specs.Decls.{Name, texts}
use Rattle.type_hierarchy.specs.Named.{type_named}
use Rattle.type_hierarchy.specs.Table.{TypeTable}
use Rattle.fs_model.specs.Sources.{Reader}
use Rattle.fs_graph.specs.Facts.{Line}
use Rattle.fs_graph.specs.Text.{line_text}
use Rattle.fs_graph.specs.GraphMap.{GraphMap, reader_of}
use Rattle.fs_graph.specs.PathLists.{IsPathList}
use Rattle.tdl_reader.specs.declared.Status.{Status}
use Rattle.tdl_reader.specs.declared.Status.TheVariants.{Entry, LexRule, Rule, Root}
use Rattle.constraint_expand.specs.declared.books.Book.{Book}
use Rattle.constraint_expand.specs.Books.{InstanceMap}
use Rattle.grammar_files.specs.Statements.{is_status}
use Rattle.book_shapes.specs.Shapes.{instances_of}
use Rattle.grammar_load.specs.Loaded.{GrammarTree}

-- what a name stands for: a completed type by its number, or an instance by its place
pub data Sense : Type 0 where
  a_type : ℕ → Sense
  an_instance : ℕ → Sense

-- an instance as names look for it: its status and its name
pub record Called : Type 0 where
  pub status : Status
  pub name : Name

abbrev pub called_of : List InstanceMap → List Name → List Called
called_of [] names = []
called_of (i ∷ is) [] = []
called_of (i ∷ is) (n ∷ names) = record { status = i.status; name = n } ∷ called_of is names

-- an instance of this status and name
abbrev pub is_called : Name → Status → Called → Bool
is_called name status c = is_status status c.status && bytes_eq name c.name

-- the place of the instance of this status and name
abbrev pub instance_named : List Called → Name → Status → Option ℕ
instance_named instances name status = position_from (is_called name status) 0 instances

-- the instance of a name: an entry, else a lexical rule, else a rule, else a root
abbrev pub instance_of_name : List Called → Name → Option ℕ
instance_of_name instances name =
    option_or (instance_named instances name Entry)
    (option_or (instance_named instances name LexRule) (option_or (instance_named instances name Rule) (instance_named instances name Root)))

-- A name stands for a completed type, else for an instance; strings have no name.
abbrev pub sense_of : TypeTable → List Called → Name → Option Sense
sense_of types instances name = option_or (option_map a_type (type_named types name)) (option_map an_instance (instance_of_name instances name))

abbrev pub no_graph : GraphMap
no_graph = record { types = []; arcs = [] }

-- the constraint of a type, or the structure of an instance
abbrev pub structure_of : Book → Sense → GraphMap
structure_of b (a_type t) = slice_index_or b.constraints.items t no_graph
structure_of b (an_instance place) = slice_index_or (map (λ i. i.structure) b.instances.items) place no_graph

-- the instances of a grammar with their names
abbrev pub all_called : GrammarTree → List Called
all_called g = called_of (instances_of g.book) g.names

-- the structure of what a name stands for
abbrev pub structure_named : GrammarTree → Name → Option GraphMap
structure_named g name = option_map (structure_of g.book) (sense_of g.book.system.types (all_called g) name)

-- The lines of a structure, each with its end: one for each node and one for each further path to it, in depth-first order by feature.
abbrev pub AreLinesOf : TypeTable → List Name → Reader → List (List ℕ) → Type 0
AreLinesOf types feats structure pieces = (lines : List Line) × IsPathList structure lines × (pieces ≡ map (line_text types feats) lines)

-- the line of a name that stands for nothing
abbrev pub unknown_line : Name → List ℕ
unknown_line name = name ++ codes " unknown" ++ 10 ∷ []

-- the lines of a structure, or that of a name that has none; and whether it has none
abbrev pub AreShown : TypeTable → List Name → Name → Option GraphMap → List (List ℕ) → Bool → Type 0
AreShown types feats name None pieces refused = (pieces ≡ unknown_line name ∷ []) × (refused ≡ true)
AreShown types feats name (Some graph) pieces refused = AreLinesOf types feats (reader_of graph) pieces × (refused ≡ false)

-- The report on a name, which is compared in ASCII lower case, as all names are.
abbrev pub IsExpansion : GrammarTree → List ℕ → List (List ℕ) → Bool → Type 0
IsExpansion g name pieces refused =
    AreShown g.book.system.types (texts g.book.feats.items) (str_to_ascii_lowercase name) (structure_named g (str_to_ascii_lowercase name)) pieces refused
