-- What a grammar's statements expand to under its settings (Copestake 2002, constraints of types), and where a fault of that stands.
use Rattle.std.specs.Prelude.{ℕ, ◌≡◌, ◌≢◌}
use Rattle.type_hierarchy.specs.Table.{TypeTable}
use Rattle.constraint_expand.specs.declared.books.Book.{Book}
use Rattle.grammar_files.specs.declared.expand_fault.ExpandFault.{ExpandFault}
use Rattle.grammar_files.specs.declared.expand_fault.ExpandFault.TheVariants.{UnknownName, NoIntro, Intro, NoStructure, NoMemory}
use Rattle.constraint_expand.specs.Books.{IsBookOf}
use Rattle.constraint_expand.specs.Faults.{IsFaultOf}
use Rattle.grammar_files.specs.Placings.{PlacedTree}
use Rattle.constraint_expand.specs.Systems.{Settled}
use Rattle.grammar_files.specs.declared.fault.Why.TheVariants.{Expand}
use Rattle.grammar_files.specs.Environments.{place_of}
use Rattle.grammar_files.specs.Faults.{FoundFault}
use Rattle.grammar_settings.specs.Settled.{SettingsTree}
use Rattle.grammar_types.specs.Typings.{AreTypesOf, statement_at, file_name}
use Rattle.grammar_files.specs.Walks.{WalkedTree, fault_at}

-- the names that settings give to lists, and to what rules and roots look at
abbrev pub names_by : SettingsTree → Settled
names_by s =
    record {
      lists = record { list = s.list_type; cons = s.cons_type; null = s.null_type; first = s.first; rest = s.rest; diff_list = s.diff_list; diff_last = s.diff_last };
      args_path = s.args_path;
      daughter_features = s.daughter_features;
      restrictors = s.restrictors;
      check_paths = s.check_paths;
      path_limit = s.path_limit;
      node_limit = s.node_limit;
    }

-- The statements of what was walked expand to this book: over their completed types, under the names of the settings.
pub record IsBook (w : WalkedTree) (b : Book) : Type 0 where
  pub types : TypeTable
  pub settled : AreTypesOf w types
  pub expanded : IsBookOf types (names_by w.settings) w.statements b

-- the place, among the statements, of the one at which a fault stands
abbrev pub stands_at : ExpandFault → ℕ
stands_at (UnknownName name at statement) = statement
stands_at (NoIntro feature at statement) = statement
stands_at (Intro feature a b statement) = statement
stands_at (NoStructure name statement) = statement
stands_at NoMemory = 0

-- the place of a fault in its file: the one that it carries, or else that of the definition at which it stands
abbrev pub place_within : PlacedTree → ExpandFault → ℕ
place_within p (UnknownName name at statement) = at
place_within p (NoIntro feature at statement) = at
place_within p (Intro feature a b statement) = place_of p.statement
place_within p (NoStructure name statement) = place_of p.statement
place_within p NoMemory = 0

-- a fault of expansion that stands at a statement
abbrev pub expand_fault_at : WalkedTree → PlacedTree → ExpandFault → FoundFault
expand_fault_at w p e = fault_at (file_name w p.file) (place_within p e) (Expand e)

-- with the file and the place at which it stands
abbrev pub expand_fault : WalkedTree → ExpandFault → FoundFault
expand_fault w e = expand_fault_at w (statement_at w.statements (stands_at e)) e

-- The statements of what was walked have a first fault of expansion, and it is this one.
pub record IsExpandFault (w : WalkedTree) (f : FoundFault) : Type 0 where
  pub types : TypeTable
  pub settled : AreTypesOf w types
  pub fault : ExpandFault
  pub own : fault ≢ NoMemory
  pub first : IsFaultOf types (names_by w.settings) w.statements fault
  pub found : f ≡ expand_fault w fault
