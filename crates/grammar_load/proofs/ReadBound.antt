-- The spelling rules of what is read are fit for a spelling.
use Rattle.std.proofs.Common.{ℕ, Bool, true, false, cond, ◌&&◌, List, [], ◌∷◌, Option, Result, Ok, Err}
use Rattle.tdl_reader.specs.declared.Status.{Status}
use Rattle.tdl_reader.specs.Trees.{StatementTree}
use Rattle.grammar_files.specs.Placings.{PlacedTree}
use Rattle.grammar_files.specs.Statements.{is_definition, is_heeded}
use Rattle.grammar_settings.specs.Forms.{Name}
use Rattle.grammar_files.specs.Environments.{placed_by, placed_under, status_in}
use Rattle.grammar_files.specs.Faults.{FoundFault}
use Rattle.grammar_files.specs.FileNames.{with_ending}
use Rattle.grammar_files.specs.Walks.{Files, Says, fails_here, too_long, unlexed, unread, says, WalkState, begun, WalksFile, loops, too_many, unsaid, said, Walks, ends, ends_within, breaks_off, goes_on, stops_within, follows, WalkedTree, WalksTo, unsettled, unwalked, walked}
use Rattle.grammar_files.specs.Reads.{ReadTree, ReadsTo, unwalked as unwalked_files, without_forms, reads}
use Rattle.lexicon.specs.Words.{Each}
use Rattle.spelling_rules.specs.Trees.{AreBound}
use Rattle.grammar_load.specs.Spellings.{rule_written, defines_lexical, lexical_rules, spellings_of}
use Rattle.grammar_load.proofs.ListLemmas.{each_append, each_map, each_filter}
use Rattle.grammar_load.proofs.BoundLemmas.{IsFit, file_bound}

abbrev Fits : StatementTree → Type 0
Fits s = IsFit (rule_written s)

abbrev AllFit : List PlacedTree → Type 0
AllFit ps = Each (λ p. Fits p.statement) ps

abbrev StateFits : Result WalkState FoundFault → Type 0
StateFits (Ok s) = AllFit s.placed
StateFits (Err f) = Unit {0}

abbrev SaidFits : Result (List StatementTree) FoundFault → Type 0
SaidFits (Ok ss) = Each Fits ss
SaidFits (Err f) = Unit {0}

said_fits : (files : Files) (fails : Name → Bool) (name : Name) (r : Result (List StatementTree) FoundFault) → Says files fails name r → SaidFits r
said_fits files fails name r (fails_here e) = tt
said_fits files fails name r (too_long l) = tt
said_fits files fails name r (unlexed text ts e is t) = tt
said_fits files fails name r (unread text ts e is t f) = tt
said_fits files fails name r (says text ts ss is t h) = file_bound [] _ ss h.spelled

under_fits : (file : ℕ) (status : Status) (x : StatementTree) → Fits x → AllFit (placed_under file status x)
under_fits file status x fit = go (is_definition x && is_heeded status)
  where
    go : (b : Bool) → AllFit (cond b (record { statement = x; status = status; file = file } ∷ []) [])
    go true = (fit, tt)
    go false = tt

mutual
  file_fits : (files : Files) (fails : Name → Bool) (within : List Name) (s : WalkState) (name : Name) (r : Result WalkState FoundFault) → WalksFile files fails within s name r → AllFit s.placed → StateFits r
  file_fits files fails within s name r (loops _ _ _ among) fit = tt
  file_fits files fails within s name r (too_many _ _ _ new full) fit = tt
  file_fits files fails within s name r (unsaid _ _ _ f new room say) fit = tt
  file_fits files fails within s name r (said _ _ _ ss end new room say w) fit = walk_fits files fails _ name _ _ ss end w (said_fits files fails name (Ok ss) say) fit

  walk_fits : (files : Files) (fails : Name → Bool) (within : List Name) (name : Name) (file : ℕ) (s : WalkState) (xs : List StatementTree) (r : Result WalkState FoundFault) → Walks files fails within name file s xs r
      → Each Fits xs → AllFit s.placed → StateFits r
  walk_fits files fails within name file s xs r (ends _ _ _ _ none) all fit = fit
  walk_fits files fails within name file s xs r (ends_within _ _ _ _ at some) all fit = tt
  walk_fits files fails within name file s xs r (breaks_off _ _ _ _ y ys b) all fit = tt
  walk_fits files fails within name file s xs r (goes_on _ _ _ _ y ys end b i w) all fit =
      walk_fits files fails within name file _ ys end w all.1 (each_append (λ p. Fits p.statement) s.placed (placed_by file s.environment y) fit (under_fits file (status_in s.environment) y all.0))
  walk_fits files fails within name file s xs r (stops_within _ _ _ _ included at ys f w) all fit = tt
  walk_fits files fails within name file s xs r (follows _ _ _ _ next included at ys end w v) all fit = walk_fits files fails within name file next ys end v all.1 (file_fits files fails within s _ (Ok next) w fit)

abbrev TreeFits : Result WalkedTree FoundFault → Type 0
TreeFits (Ok w) = AllFit w.statements
TreeFits (Err f) = Unit {0}

tree_fits : (files : Files) (fails : Name → Bool) (top : Name) (settings : Option Name) (r : Result WalkedTree FoundFault) → WalksTo files fails top settings r → TreeFits r
tree_fits files fails top settings r (unsettled f i) = tt
tree_fits files fails top settings r (unwalked t f i w) = tt
tree_fits files fails top settings r (walked t s i w) = file_fits files fails [] begun (with_ending top) (Ok s) w tt

abbrev ReadFits : Result ReadTree FoundFault → Type 0
ReadFits (Ok t) = AllFit t.walked.statements
ReadFits (Err f) = Unit {0}

read_fits : (files : Files) (fails : Name → Bool) (top : Name) (settings : Option Name) (r : Result ReadTree FoundFault) → ReadsTo files fails top settings r → ReadFits r
read_fits files fails top settings r (unwalked_files f w) = tt
read_fits files fails top settings r (without_forms t f w a) = tt
read_fits files fails top settings r (reads t bytes w a) = tree_fits files fails top settings (Ok t) w

pub rules_bound : (files : Files) (fails : Name → Bool) (top : Name) (settings : Option Name) (t : ReadTree) → ReadsTo files fails top settings (Ok t) → AreBound (spellings_of (lexical_rules t.walked.statements))
rules_bound files fails top settings t h =
    each_map IsFit (λ p. rule_written p.statement) (lexical_rules t.walked.statements) (each_filter (λ p. Fits p.statement) defines_lexical t.walked.statements (read_fits files fails top settings (Ok t) h))
