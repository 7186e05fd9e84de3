-- The names in what was walked.
use Rattle.std.proofs.Common.{ℕ, Bool, true, false, cond, ◌&&◌, List, [], ◌∷◌, ◌++◌, None, Option, Result, Ok, Err}
use Rattle.tdl_reader.specs.declared.Status.{Status}
use Rattle.tdl_reader.specs.Trees.{StatementTree}
use Rattle.grammar_files.specs.Placings.{PlacedTree}
use Rattle.grammar_files.specs.Statements.{is_definition, is_heeded}
use Rattle.grammar_settings.specs.Forms.{Name}
use Rattle.grammar_settings.specs.Settled.{SettingsTree}
use Rattle.grammar_files.specs.Environments.{placed_by, placed_under, status_in}
use Rattle.grammar_files.specs.Faults.{FoundFault}
use Rattle.grammar_files.specs.FileNames.{with_ending}
use Rattle.grammar_files.specs.Walks.{Files, IsSettled, by_default, fails_there, too_long_there, out_of_form, in_form, Says, fails_here, too_long, unlexed, unread, says, WalkState, begun, WalksFile, loops, too_many, unsaid, said, Walks, ends, ends_within, breaks_off, goes_on, stops_within, follows, WalkedTree, WalksTo, unsettled, unwalked, walked}
use Rattle.grammar_files.specs.Reads.{ReadTree, ReadsTo, unwalked as unwalked_files, without_forms, reads}
use Rattle.mrs_lines.proofs.Settled.{AreNamed, said_named, defaults_named}
use Rattle.mrs_lines.proofs.Statements.{StatementNamed, AllStatementsNamed, file_named}
use Rattle.mrs_lines.proofs.Tokens.{tokens_good}

abbrev pub AllPlaced : List PlacedTree → Type 0
AllPlaced [] = Unit {0}
AllPlaced (p ∷ ps) = StatementNamed p.statement × AllPlaced ps

placed_append : (ps qs : List PlacedTree) → AllPlaced ps → AllPlaced qs → AllPlaced (ps ++ qs)
placed_append [] qs h k = k
placed_append (p ∷ ps) qs h k = (h.0, placed_append ps qs h.1 k)

abbrev StateNamed : Result WalkState FoundFault → Type 0
StateNamed (Ok s) = AllPlaced s.placed
StateNamed (Err f) = Unit {0}

abbrev SaidNamed : Result (List StatementTree) FoundFault → Type 0
SaidNamed (Ok ss) = AllStatementsNamed ss
SaidNamed (Err f) = Unit {0}

said_all : (files : Files) (fails : Name → Bool) (name : Name) (r : Result (List StatementTree) FoundFault) → Says files fails name r → SaidNamed r
said_all files fails name r (fails_here e) = tt
said_all files fails name r (too_long l) = tt
said_all files fails name r (unlexed text ts e is t) = tt
said_all files fails name r (unread text ts e is t f) = tt
said_all files fails name r (says text ts ss is t h) = file_named [] _ ss h.spelled (tokens_good text ts None t)

under_named : (file : ℕ) (status : Status) (x : StatementTree) → StatementNamed x → AllPlaced (placed_under file status x)
under_named file status x h = go (is_definition x && is_heeded status)
  where
    go : (b : Bool) → AllPlaced (cond b (record { statement = x; status = status; file = file } ∷ []) [])
    go true = (h, tt)
    go false = tt

mutual
  walks_file : (files : Files) (fails : Name → Bool) (within : List Name) (s : WalkState) (name : Name) (r : Result WalkState FoundFault) → WalksFile files fails within s name r → AllPlaced s.placed → StateNamed r
  walks_file files fails within s name r (loops _ _ _ among) h = tt
  walks_file files fails within s name r (too_many _ _ _ new full) h = tt
  walks_file files fails within s name r (unsaid _ _ _ f new room say) h = tt
  walks_file files fails within s name r (said _ _ _ ss end new room say w) h = walks_on files fails _ name _ _ ss end w (said_all files fails name (Ok ss) say) h

  walks_on : (files : Files) (fails : Name → Bool) (within : List Name) (name : Name) (file : ℕ) (s : WalkState) (xs : List StatementTree) (r : Result WalkState FoundFault) → Walks files fails within name file s xs r
      → AllStatementsNamed xs → AllPlaced s.placed → StateNamed r
  walks_on files fails within name file s xs r (ends _ _ _ _ none) all h = h
  walks_on files fails within name file s xs r (ends_within _ _ _ _ at some) all h = tt
  walks_on files fails within name file s xs r (breaks_off _ _ _ _ y ys b) all h = tt
  walks_on files fails within name file s xs r (goes_on _ _ _ _ y ys end b i w) all h =
      walks_on files fails within name file _ ys end w all.1 (placed_append s.placed (placed_by file s.environment y) h (under_named file (status_in s.environment) y all.0))
  walks_on files fails within name file s xs r (stops_within _ _ _ _ included at ys f w) all h = tt
  walks_on files fails within name file s xs r (follows _ _ _ _ next included at ys end w v) all h = walks_on files fails within name file next ys end v all.1 (walks_file files fails within s _ (Ok next) w h)

abbrev SettledNamed : Result SettingsTree FoundFault → Type 0
SettledNamed (Ok t) = AreNamed t
SettledNamed (Err f) = Unit {0}

settled_named : (files : Files) (fails : Name → Bool) (settings : Option Name) (r : Result SettingsTree FoundFault) → IsSettled files fails settings r → SettledNamed r
settled_named files fails settings r by_default = defaults_named
settled_named files fails settings r (fails_there name e) = tt
settled_named files fails settings r (too_long_there name l) = tt
settled_named files fails settings r (out_of_form name text line is e) = tt
settled_named files fails settings r (in_form name text t is e) = said_named text t e

-- the names of settings, and those in statements
pub record WalkedNamed (w : WalkedTree) : Type 0 where
  pub settings : AreNamed w.settings
  pub statements : AllPlaced w.statements

abbrev TreeNamed : Result WalkedTree FoundFault → Type 0
TreeNamed (Ok w) = WalkedNamed w
TreeNamed (Err f) = Unit {0}

tree_named : (files : Files) (fails : Name → Bool) (top : Name) (settings : Option Name) (r : Result WalkedTree FoundFault) → WalksTo files fails top settings r → TreeNamed r
tree_named files fails top settings r (unsettled f i) = tt
tree_named files fails top settings r (unwalked t f i w) = tt
tree_named files fails top settings r (walked t s i w) =
    record { settings = settled_named files fails settings (Ok t) i; statements = walks_file files fails [] begun (with_ending top) (Ok s) w tt }

abbrev ReadNamed : Result ReadTree FoundFault → Type 0
ReadNamed (Ok t) = WalkedNamed t.walked
ReadNamed (Err f) = Unit {0}

read_all : (files : Files) (fails : Name → Bool) (top : Name) (settings : Option Name) (r : Result ReadTree FoundFault) → ReadsTo files fails top settings r → ReadNamed r
read_all files fails top settings r (unwalked_files f w) = tt
read_all files fails top settings r (without_forms t f w a) = tt
read_all files fails top settings r (reads t bytes w a) = tree_named files fails top settings (Ok t) w

pub read_named : (files : Files) (fails : Name → Bool) (top : Name) (settings : Option Name) (t : ReadTree) → ReadsTo files fails top settings (Ok t) → WalkedNamed t.walked
read_named files fails top settings t h = read_all files fails top settings (Ok t) h
