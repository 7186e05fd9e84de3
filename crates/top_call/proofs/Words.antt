-- What follows from words that are of a form, or of none.
use Rattle.std.proofs.Common.{◌≡◌, ◌∙◌, ◌⊎◌, inl, inr, sym, List, [], ◌++◌, ℕ, Option, Err}
use Rattle.command_line.specs.Words.{Form, IsForm}
use Rattle.endings.specs.declared.Status.{Status}
use Rattle.endings.specs.declared.Status.TheVariants.{Done, Items, Usage, Grammar, ReadFault, WriteFault, Gaps, NoMemory}
use Rattle.endings.specs.declared.Fault.{Fault}
use Rattle.endings.specs.declared.Fault.TheVariants.{Usage as UsageFault, Files, Stopped}
use Rattle.endings.specs.declared.Stop.TheVariants.{Read, TooLong, TooMany, Write, Gaps, NoMemory as NoMemoryStop}
use Rattle.endings.specs.Endings.{status_of, fault_text, usage_line, Tells}
use Rattle.command_line.specs.Faults.{IsText}
use Rattle.top_call.specs.Runs.{IsFormless, TellsWords, IsOfWords}

-- what is told of words of no form
pub tells-words : (words : List (List ℕ)) (text : List ℕ) → IsFormless words → IsText words text ⊎ (text ≡ []) → TellsWords words text
tells-words words text formless (inl (inl t)) = inl t
tells-words words text formless (inl (inr t)) = absurd (formless t.0.0 t.0.1)
tells-words words text formless (inr e) = inr e

-- a run whose words asked for nothing
abbrev pub IsOutside : List (List ℕ) → Status → Type 0
IsOutside words status = ((status ≡ Usage) × IsFormless words) ⊎ (status ≡ NoMemory)

-- its status
pub outside-status : (words : List (List ℕ)) (end : Fault) (status : Status) → status ≡ status_of (Err end) → IsOfWords words end → IsOutside words status
outside-status words (UsageFault text) status e h = inl (e, h.0)
outside-status words (Stopped NoMemoryStop) status e h = inr e
outside-status words (Files text) status e h = absurd h
outside-status words (Stopped Read) status e h = absurd h
outside-status words (Stopped TooLong) status e h = absurd h
outside-status words (Stopped TooMany) status e h = absurd h
outside-status words (Stopped Write) status e h = absurd h
outside-status words (Stopped Gaps) status e h = absurd h

-- what is told then
pub told-at : (words : List (List ℕ)) (end : Fault) (status : Status) (old new : Option (List ℕ)) (faults_old faults_new : ℕ) → status ≡ status_of (Err end) → IsOfWords words end
    → Tells old new faults_old faults_new (fault_text (Err end)) → status ≡ Usage → (text : List ℕ) × TellsWords words text × Tells old new faults_old faults_new (usage_line ++ text)
told-at words (UsageFault text) status old new faults_old faults_new e h told u = (text.items, h.1, told)
told-at words (Stopped NoMemoryStop) status old new faults_old faults_new e h told u = let bad : NoMemory ≡ Usage = sym e ∙ u in cc
told-at words (Files text) status old new faults_old faults_new e h told u = absurd h
told-at words (Stopped Read) status old new faults_old faults_new e h told u = absurd h
told-at words (Stopped TooLong) status old new faults_old faults_new e h told u = absurd h
told-at words (Stopped TooMany) status old new faults_old faults_new e h told u = absurd h
told-at words (Stopped Write) status old new faults_old faults_new e h told u = absurd h
told-at words (Stopped Gaps) status old new faults_old faults_new e h told u = absurd h

pub memory-at : (words : List (List ℕ)) (s : Status) → IsOutside words s → (f : Form) → IsForm words f → s ≡ NoMemory
memory-at words s (inl u) f h = absurd (u.1 f h)
memory-at words s (inr m) f h = m

pub formless-at : (words : List (List ℕ)) (s : Status) → IsOutside words s → s ≡ Usage → IsFormless words
formless-at words s (inl u) e = u.1
formless-at words s (inr m) e = let bad : NoMemory ≡ Usage = sym m ∙ e in cc

pub either-at : (words : List (List ℕ)) (s : Status) → IsOutside words s → (s ≡ Usage) ⊎ (s ≡ NoMemory)
either-at words s (inl u) = inl u.0
either-at words s (inr m) = inr m

pub not-done : (words : List (List ℕ)) (s : Status) → IsOutside words s → (s ≡ Done) ⊎ (s ≡ Items) → ⊥
not-done words s (inl u) (inl e) = let bad : Usage ≡ Done = sym u.0 ∙ e in cc
not-done words s (inl u) (inr e) = let bad : Usage ≡ Items = sym u.0 ∙ e in cc
not-done words s (inr m) (inl e) = let bad : NoMemory ≡ Done = sym m ∙ e in cc
not-done words s (inr m) (inr e) = let bad : NoMemory ≡ Items = sym m ∙ e in cc

pub not-grammar : (words : List (List ℕ)) (s : Status) → IsOutside words s → s ≡ Grammar → ⊥
not-grammar words s (inl u) e = let bad : Usage ≡ Grammar = sym u.0 ∙ e in cc
not-grammar words s (inr m) e = let bad : NoMemory ≡ Grammar = sym m ∙ e in cc

pub not-read : (words : List (List ℕ)) (s : Status) → IsOutside words s → s ≡ ReadFault → ⊥
not-read words s (inl u) e = let bad : Usage ≡ ReadFault = sym u.0 ∙ e in cc
not-read words s (inr m) e = let bad : NoMemory ≡ ReadFault = sym m ∙ e in cc

pub not-write : (words : List (List ℕ)) (s : Status) → IsOutside words s → s ≡ WriteFault → ⊥
not-write words s (inl u) e = let bad : Usage ≡ WriteFault = sym u.0 ∙ e in cc
not-write words s (inr m) e = let bad : NoMemory ≡ WriteFault = sym m ∙ e in cc

pub not-gaps : (words : List (List ℕ)) (s : Status) → IsOutside words s → s ≡ Gaps → ⊥
not-gaps words s (inl u) e = let bad : Usage ≡ Gaps = sym u.0 ∙ e in cc
not-gaps words s (inr m) e = let bad : NoMemory ≡ Gaps = sym m ∙ e in cc
