-- What the files of a grammar say is one thing, and hangs on the faults of the shelf only where it says so.
use Rattle.std.proofs.Common.{◌≡◌, ℕ, Bool, true, List, [], Option, Result, Ok, Err, refl}
use Rattle.tdl_reader.specs.Trees.{StatementTree}
use Rattle.grammar_files.specs.declared.fault.Why.TheVariants.{Shelf}
use Rattle.grammar_files.specs.Faults.{FoundFault}
use Rattle.grammar_files.specs.FileNames.{with_ending}
use Rattle.grammar_settings.specs.Forms.{Name}
use Rattle.grammar_settings.specs.Settled.{SettingsTree}
use Rattle.grammar_files.specs.Walks.{Files, Says, fails_here, too_long, unlexed, unread, says, WalkState, WalksFile, loops, too_many, unsaid, said, Walks, ends, ends_within, breaks_off, goes_on, stops_within, follows, IsSettled, by_default, fails_there, too_long_there, out_of_form, in_form, WalkedTree, WalksTo, unsettled, unwalked, walked, begun}

-- the outcome isn't a fault of the shelf
abbrev pub IsOwn : {A : Type 0} → Result A FoundFault → Type 0
IsOwn (Ok x) = Unit {0}
IsOwn (Err f) = f.why ≡ Shelf → ⊥

-- a fault of the shelf stands at a name at which it fails
abbrev pub IsToldBy : {A : Type 0} → (Name → Bool) → Result A FoundFault → Type 0
IsToldBy fails (Ok x) = Unit {0}
IsToldBy fails (Err f) = f.why ≡ Shelf → fails f.file ≡ true

says_moves : (files : Files) (p q : Name → Bool) (name : Name) (r : Result (List StatementTree) FoundFault) → Says files p name r → IsOwn r → Says files q name r
says_moves files p q name r (fails_here e) own = absurd (own refl)
says_moves files p q name r (too_long l) own = too_long l
says_moves files p q name r (unlexed text ts e is t) own = unlexed text ts e is t
says_moves files p q name r (unread text ts e is t f) own = unread text ts e is t f
says_moves files p q name r (says text ts ss is t x) own = says text ts ss is t x

mutual
  file_moves : (files : Files) (p q : Name → Bool) (within : List Name) (s : WalkState) (name : Name) (r : Result WalkState FoundFault) → WalksFile files p within s name r → IsOwn r → WalksFile files q within s name r
  file_moves files p q within s name r (loops _ _ _ among) own = loops within s name among
  file_moves files p q within s name r (too_many _ _ _ new full) own = too_many within s name new full
  file_moves files p q within s name r (unsaid _ _ _ f new room say) own = unsaid within s name f new room (says_moves files p q name (Err f) say own)
  file_moves files p q within s name r (said _ _ _ ss end new room say w) own = said within s name ss end new room (says_moves files p q name (Ok ss) say tt) (walks_move files p q _ name _ _ ss end w own)

  walks_move : (files : Files) (p q : Name → Bool) (within : List Name) (name : Name) (file : ℕ) (s : WalkState) (xs : List StatementTree) (r : Result WalkState FoundFault) → Walks files p within name file s xs r → IsOwn r
      → Walks files q within name file s xs r
  walks_move files p q within name file s xs r (ends _ _ _ _ none) own = ends within name file s none
  walks_move files p q within name file s xs r (ends_within _ _ _ _ at some) own = ends_within within name file s at some
  walks_move files p q within name file s xs r (breaks_off _ _ _ _ y ys b) own = breaks_off within name file s y ys b
  walks_move files p q within name file s xs r (goes_on _ _ _ _ y ys end b i w) own = goes_on within name file s y ys end b i (walks_move files p q within name file _ ys end w own)
  walks_move files p q within name file s xs r (stops_within _ _ _ _ included at ys f w) own = stops_within within name file s included at ys f (file_moves files p q within s _ (Err f) w own)
  walks_move files p q within name file s xs r (follows _ _ _ _ next included at ys end w v) own =
      follows within name file s next included at ys end (file_moves files p q within s _ (Ok next) w tt) (walks_move files p q within name file next ys end v own)

settled_moves : (files : Files) (p q : Name → Bool) (name : Option Name) (r : Result SettingsTree FoundFault) → IsSettled files p name r → IsOwn r → IsSettled files q name r
settled_moves files p q name r by_default own = by_default
settled_moves files p q name r (fails_there n e) own = absurd (own refl)
settled_moves files p q name r (too_long_there n l) own = too_long_there n l
settled_moves files p q name r (out_of_form n text line is e) own = out_of_form n text line is e
settled_moves files p q name r (in_form n text t is e) own = in_form n text t is e

pub outcome_moves : (files : Files) (p q : Name → Bool) (top : Name) (settings : Option Name) (r : Result WalkedTree FoundFault) → WalksTo files p top settings r → IsOwn r → WalksTo files q top settings r
outcome_moves files p q top settings r (unsettled f i) own = unsettled f (settled_moves files p q settings (Err f) i own)
outcome_moves files p q top settings r (unwalked t f i w) own = unwalked t f (settled_moves files p q settings (Ok t) i tt) (file_moves files p q [] begun (with_ending top) (Err f) w own)
outcome_moves files p q top settings r (walked t s i w) own = walked t s (settled_moves files p q settings (Ok t) i tt) (file_moves files p q [] begun (with_ending top) (Ok s) w tt)

says_tells : (files : Files) (p : Name → Bool) (name : Name) (r : Result (List StatementTree) FoundFault) → Says files p name r → IsToldBy p r
says_tells files p name r (fails_here e) = λ k. e
says_tells files p name r (too_long l) = λ k. cc
says_tells files p name r (unlexed text ts e is t) = λ k. cc
says_tells files p name r (unread text ts e is t f) = λ k. cc
says_tells files p name r (says text ts ss is t x) = tt

mutual
  file_tells : (files : Files) (p : Name → Bool) (within : List Name) (s : WalkState) (name : Name) (r : Result WalkState FoundFault) → WalksFile files p within s name r → IsToldBy p r
  file_tells files p within s name r (loops _ _ _ among) = λ k. cc
  file_tells files p within s name r (too_many _ _ _ new full) = λ k. cc
  file_tells files p within s name r (unsaid _ _ _ f new room say) = says_tells files p name (Err f) say
  file_tells files p within s name r (said _ _ _ ss end new room say w) = walks_tell files p _ name _ _ ss end w

  walks_tell : (files : Files) (p : Name → Bool) (within : List Name) (name : Name) (file : ℕ) (s : WalkState) (xs : List StatementTree) (r : Result WalkState FoundFault) → Walks files p within name file s xs r → IsToldBy p r
  walks_tell files p within name file s xs r (ends _ _ _ _ none) = tt
  walks_tell files p within name file s xs r (ends_within _ _ _ _ at some) = λ k. cc
  walks_tell files p within name file s xs r (breaks_off _ _ _ _ y ys b) = λ k. cc
  walks_tell files p within name file s xs r (goes_on _ _ _ _ y ys end b i w) = walks_tell files p within name file _ ys end w
  walks_tell files p within name file s xs r (stops_within _ _ _ _ included at ys f w) = file_tells files p within s _ (Err f) w
  walks_tell files p within name file s xs r (follows _ _ _ _ next included at ys end w v) = walks_tell files p within name file next ys end v

settled_tells : (files : Files) (p : Name → Bool) (name : Option Name) (r : Result SettingsTree FoundFault) → IsSettled files p name r → IsToldBy p r
settled_tells files p name r by_default = tt
settled_tells files p name r (fails_there n e) = λ k. e
settled_tells files p name r (too_long_there n l) = λ k. cc
settled_tells files p name r (out_of_form n text line is e) = λ k. cc
settled_tells files p name r (in_form n text t is e) = tt

pub outcome_tells : (files : Files) (p : Name → Bool) (top : Name) (settings : Option Name) (r : Result WalkedTree FoundFault) → WalksTo files p top settings r → IsToldBy p r
outcome_tells files p top settings r (unsettled f i) = settled_tells files p settings (Err f) i
outcome_tells files p top settings r (unwalked t f i w) = file_tells files p [] begun (with_ending top) (Err f) w
outcome_tells files p top settings r (walked t s i w) = tt
