-- What rewrites the MRSs of a run: the rules of a file, under settings that skip some of them.
use Rattle.std.specs.Prelude.{◌≡◌, ℕ, Bool, false, not, List, Option, Ok, map, slice_index_or}
use Rattle.tdl_reader.specs.Trees.{StatementTree}
use Rattle.grammar_settings.specs.Forms.{Name, is_among}
use Rattle.grammar_settings.specs.Settled.{SettingsTree}
use Rattle.grammar_files.specs.Walks.{Files, Says, IsSettled}
use Rattle.command_files.specs.Told.{never}
use Rattle.transfer_model.specs.Rules.{Rule}
use Rattle.transfer_model.specs.Sites.{Site}
use Rattle.transfer_rules.specs.Forms.{AreRules}

-- rules, and of each whether it is skipped
pub record Rewriter : Type 0 where
  pub rules : List Rule
  pub skipped : List Bool

-- of each rule whether its name is among these; all names are in ASCII lower case
abbrev pub skipped_by : List Name → List Rule → List Bool
skipped_by names rules = map (λ r. is_among names r.name) rules

-- The guard's relation: at each site a rule is allowed that isn't skipped.
abbrev pub is_allowed : Rewriter → ℕ → Bool
is_allowed w number = not (slice_index_or w.skipped number false)

abbrev pub allowed : Rewriter → ℕ → Site → Bool
allowed w number site = is_allowed w number

-- The rules that the file of this name says; those are skipped that `transfer-skip` names in the settings of the file of that name.
pub record HasRewriter (files : Files) (name : Name) (settings : Option Name) (w : Rewriter) : Type 0 where
  pub settled : SettingsTree
  pub statements : List StatementTree
  pub settings_are : IsSettled files never settings (Ok settled)
  pub says : Says files never name (Ok statements)
  pub rules_are : AreRules statements w.rules
  pub skipped_are : w.skipped ≡ skipped_by settled.transfer_skip w.rules
