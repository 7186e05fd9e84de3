-- What contracts see of a walk, and of its parts.
use Rattle.std.specs.Prelude.{◌≡◌, ◌⊎◌, ℕ, ◌≤◌, true, false, List, map, Option, None, Some}
use Rattle.tdl_reader.specs.Trees.{StatementTree}
use Rattle.grammar_files.specs.Placings.{placed_of}
use Rattle.type_hierarchy.specs.Faults.{is_glb_name}
use Rattle.grammar_files.specs.declared.fault.Why.TheVariants.{IncludeLoop, TooManyFiles}
use Rattle.grammar_files.specs.declared.walking.Progress.{Progress}
use Rattle.grammar_files.specs.declared.walking.Walked.{Walked}
use Rattle.grammar_files.specs.Environments.{is_include}
use Rattle.grammar_files.specs.Faults.{FoundFault}
use Rattle.grammar_settings.specs.Forms.{Name, is_among}
use Rattle.grammar_files.specs.Included.{Includes}
use Rattle.grammar_settings.specs.SettingsViews.{settings_of, names_in}
use Rattle.grammar_files.specs.Walks.{WalkState, WalkedTree, after_statement, fault_at}

abbrev pub walk_of : Progress → WalkState
walk_of w = record { placed = map placed_of w.placed.items; files = names_in w.files; environment = w.environment }

abbrev pub walked_of : Walked → WalkedTree
walked_of w = record { settings = settings_of w.settings; statements = map placed_of w.statements.items; files = names_in w.files }

-- the fault of a file that isn't to be read: it is being walked already, or 1,024 files are read
abbrev pub IsTurnedAway : List Name → ℕ → Name → FoundFault → Type 0
IsTurnedAway within count name f =
    ((is_among within name ≡ true) × (f ≡ fault_at name 0 IncludeLoop))
    ⊎ ((is_among within name ≡ false) × (1024 ≤ count) × (f ≡ fault_at name 0 TooManyFiles))

-- what a statement comes to: a state after it, or a file that is to be walked
abbrev pub Taken : ℕ → Name → WalkState → StatementTree → WalkState → Option Name → Type 0
Taken file name s x next None = (is_include x ≡ false) × (next ≡ after_statement file s x)
Taken file name s x next (Some included) = Includes name x included × (next ≡ s)

-- The types of the settings may name the top type and the string type of a hierarchy.
pub record CanSettle (w : WalkedTree) : Type 0 where
  pub apart : w.settings.top_type ≡ w.settings.string_type → ⊥
  pub top_unreserved : is_glb_name w.settings.top_type ≡ false
  pub string_unreserved : is_glb_name w.settings.string_type ≡ false
