-- The faults of files as those of a run.
use Rattle.std.proofs.Common.{◌≡◌, ◌^◌, ◌-◌, ◌&&◌, ◌∙◌, ℕ, min, nat_lt, List, [], ◌++◌, ◌⊎◌, inl, inr, append-nil, string_bytes, Option, Some, None, Bool, true, false, refl, ap, sym, subst}
use Rattle.std.specs.Str.{bytes_eq}
use Rattle.std.proofs.lemmas.Bool.Decides.{Decides-ltb}
use Rattle.std.proofs.lemmas.Slice.Eq.{bytes_eq-Decides}
use Rattle.lkb_io.specs.Outside.{HasRisen}
use Rattle.grammar_settings.specs.Forms.{Name}
use Rattle.grammar_files.specs.declared.fault.Why.{Why}
use Rattle.grammar_files.specs.declared.fault.Why.TheVariants.{Settings, Shelf, TooLong, IncludeLoop, TooManyFiles, Lex, Read, Environment, Typing, TooManyTypes, Expand, Arity, Orthography}
use Rattle.grammar_files.specs.declared.fault.LoadFault.{LoadFault}
use Rattle.grammar_files.specs.declared.fault.LoadFault.TheVariants.{NoMemory as LoadNoMemory, Found}
use Rattle.grammar_files.specs.Faults.{FoundFault, IsFaultBy}
use Rattle.grammar_files.specs.Walks.{has_failed as failed_at_walk, fault_at}
use Rattle.grammar_files.proofs.TextLemmas.{has_failed-same}
use Rattle.endings.specs.Meanings.{Meaning, Shelves, Fails, has_failed}
use Rattle.endings.specs.Endings.{NotCome}
use Rattle.endings.specs.declared.Fault.{Fault}
use Rattle.endings.specs.declared.Fault.TheVariants.{Usage, Files as FilesFault, Stopped}
use Rattle.endings.specs.declared.Stop.TheVariants.{Read as ReadStop, TooLong as TooLongStop, TooMany, Write, Gaps, NoMemory}
use Rattle.command_files.specs.FaultTexts.{found_text}
use Rattle.command_files.specs.Told.{failed_file, told_of, IsOfShelf, IsToldBy, IsToldAs}
use Rattle.command_files.specs.Shown.{IsFollowed}

both_true : (a b : Bool) → (a && b) ≡ true → (a ≡ true) × (b ≡ true)
both_true true b e = (refl, e)
both_true false b e = cc

-- The names at which the shelf failed are the same for files and for a run.
same_failed : (files : Option (Name → Option (List ℕ))) (old new : ℕ) (asked : Option Name) → (h : Shelves) → h ≡ record { files = files; faults_old = old; faults_new = new; asked_new = asked }
    → failed_at_walk h.faults_old h.faults_new h.asked_new ≡ has_failed h
same_failed files old new None h e = subst (λ (k : Shelves). failed_at_walk k.faults_old k.faults_new k.asked_new ≡ has_failed k) (sym e) refl
same_failed files old new (Some asked) h e = subst (λ (k : Shelves). failed_at_walk k.faults_old k.faults_new k.asked_new ≡ has_failed k) (sym e) refl

pub failed_same : (h : Shelves) → failed_at_walk h.faults_old h.faults_new h.asked_new ≡ has_failed h
failed_same h = same_failed h.files h.faults_old h.faults_new h.asked_new h refl

-- a name at which the shelf failed
failed_at : (old new : ℕ) (asked : Option Name) (name : Name) → failed_at_walk old new asked name ≡ true → HasRisen old new × (asked ≡ Some name)
failed_at old new None name e = cc
failed_at old new (Some asked) name e =
    let both = both_true (nat_lt (min old (2 ^ 64 - 2)) new) (bytes_eq asked name) e in
    ((Decides-ltb (min old (2 ^ 64 - 2)) new).0 both.0, ap Some ((bytes_eq-Decides asked name).0 both.1))

pub failed_is : (h : Shelves) (name : Name) → has_failed h name ≡ true → HasRisen h.faults_old h.faults_new × (h.asked_new ≡ Some name)
failed_is h name e = failed_at h.faults_old h.faults_new h.asked_new name (subst (λ (fails : Name → Bool). fails name ≡ true) (sym (failed_same h)) e)

pub has_failed_there : (h : Shelves) (name : Name) → HasRisen h.faults_old h.faults_new → h.asked_new ≡ Some name → has_failed h name ≡ true
has_failed_there h name risen asked =
    subst (λ (fails : Name → Bool). fails name ≡ true) (failed_same h)
    (subst (λ a. failed_at_walk h.faults_old h.faults_new a name ≡ true) (sym asked) (has_failed-same h.faults_old h.faults_new name risen))

-- the file at which the shelf failed
shelf_is : (why : Why) (file other : Name) → failed_file why file ≡ Some other → (why ≡ Shelf) × (file ≡ other)
shelf_is Shelf file other e = (refl, cc)
shelf_is Settings file other e = cc
shelf_is TooLong file other e = cc
shelf_is IncludeLoop file other e = cc
shelf_is TooManyFiles file other e = cc
shelf_is (Lex fault) file other e = cc
shelf_is (Read fault) file other e = cc
shelf_is Environment file other e = cc
shelf_is (Typing fault) file other e = cc
shelf_is TooManyTypes file other e = cc
shelf_is (Expand fault) file other e = cc
shelf_is Arity file other e = cc
shelf_is Orthography file other e = cc

pub shelf_told : (why : Why) (file : Name) → why ≡ Shelf → failed_file why file ≡ Some file
shelf_told why file e = ap (λ w. failed_file w file) e

pub of_shelf : (h : Shelves) (f : FoundFault) (details : List ℕ) → (f.why ≡ Shelf → has_failed h f.file ≡ true) → IsOfShelf h (told_of f details)
of_shelf h f details there file e =
    let is = shelf_is f.why f.file file e in
    let at = failed_is h f.file (there is.0) in
    (at.0, at.1 ∙ ap Some is.1)

-- what fails at no name is no fault of the shelf
pub shelf_or_not : (why : Why) → (why ≡ Shelf) ⊎ (why ≡ Shelf → ⊥)
shelf_or_not Shelf = inl refl
shelf_or_not Settings = inr (λ e. cc)
shelf_or_not TooLong = inr (λ e. cc)
shelf_or_not IncludeLoop = inr (λ e. cc)
shelf_or_not TooManyFiles = inr (λ e. cc)
shelf_or_not (Lex fault) = inr (λ e. cc)
shelf_or_not (Read fault) = inr (λ e. cc)
shelf_or_not Environment = inr (λ e. cc)
shelf_or_not (Typing fault) = inr (λ e. cc)
shelf_or_not TooManyTypes = inr (λ e. cc)
shelf_or_not (Expand fault) = inr (λ e. cc)
shelf_or_not Arity = inr (λ e. cc)
shelf_or_not Orthography = inr (λ e. cc)

-- the same of what is told
pub told_on : (P Q : FoundFault → List ℕ → Type 0) (end : Fault) → ((f : FoundFault) (d : List ℕ) → P f d → Q f d) → IsToldBy P end → IsToldBy Q end
told_on P Q (FilesFault text) to x = (x.0, x.1, to x.0 x.1 x.2, x.3)
told_on P Q (Stopped NoMemory) to x = tt
told_on P Q (Stopped ReadStop) to x = absurd x
told_on P Q (Stopped TooLongStop) to x = absurd x
told_on P Q (Stopped TooMany) to x = absurd x
told_on P Q (Stopped Write) to x = absurd x
told_on P Q (Stopped Gaps) to x = absurd x
told_on P Q (Usage text) to x = absurd x

-- a fault that is told by its line alone
pub told_by : (P : FoundFault → Type 0) (fault : LoadFault) (end : Fault) → IsFaultBy P fault → IsToldAs fault end → IsToldBy (λ f d. P f × (d ≡ [])) end
told_by P (Found file at why) (FilesFault text) x t =
    (fault_at (string_bytes file) at why, [], (x, refl), t ∙ sym (append-nil (found_text (fault_at (string_bytes file) at why))))
told_by P (Found file at why) (Stopped NoMemory) x t = tt
told_by P (Found file at why) (Stopped ReadStop) x t = absurd t
told_by P (Found file at why) (Stopped TooLongStop) x t = absurd t
told_by P (Found file at why) (Stopped TooMany) x t = absurd t
told_by P (Found file at why) (Stopped Write) x t = absurd t
told_by P (Found file at why) (Stopped Gaps) x t = absurd t
told_by P (Found file at why) (Usage text) x t = absurd t
told_by P LoadNoMemory (FilesFault text) x t = absurd t
told_by P LoadNoMemory (Stopped NoMemory) x t = tt
told_by P LoadNoMemory (Stopped ReadStop) x t = absurd t
told_by P LoadNoMemory (Stopped TooLongStop) x t = absurd t
told_by P LoadNoMemory (Stopped TooMany) x t = absurd t
told_by P LoadNoMemory (Stopped Write) x t = absurd t
told_by P LoadNoMemory (Stopped Gaps) x t = absurd t
told_by P LoadNoMemory (Usage text) x t = absurd t

-- a line that is followed by lines, or by none
pub followed_on : (Q : FoundFault → List ℕ → Type 0) (told end : Fault) (more : List ℕ) → IsToldBy (λ f d. (Q f [] × Q f more) × (d ≡ [])) told → IsFollowed told more end → IsToldBy Q end
followed_on Q (FilesFault text) (FilesFault longer) more x (inl e) =
    (x.0, more, x.2.0.1, e ∙ ap (λ l. l ++ more) (x.3 ∙ ap (λ d. found_text x.0 ++ d) x.2.1 ∙ append-nil (found_text x.0)))
followed_on Q (FilesFault text) (FilesFault longer) more x (inr e) = (x.0, [], x.2.0.0, e ∙ x.3 ∙ ap (λ d. found_text x.0 ++ d) x.2.1)
followed_on Q (FilesFault text) (Usage other) more x e = absurd cc
followed_on Q (FilesFault text) (Stopped stop) more x e = absurd cc
followed_on Q (Stopped NoMemory) end more x e = subst (IsToldBy Q) (sym e) tt
followed_on Q (Stopped ReadStop) end more x e = absurd x
followed_on Q (Stopped TooLongStop) end more x e = absurd x
followed_on Q (Stopped TooMany) end more x e = absurd x
followed_on Q (Stopped Write) end more x e = absurd x
followed_on Q (Stopped Gaps) end more x e = absurd x
followed_on Q (Usage text) end more x e = absurd x

-- for a command whose first fault it is, nothing came of its files
pub not_come : (m : Meaning) (h : Shelves) (P : FoundFault → List ℕ → Type 0) → ((f : FoundFault) (d : List ℕ) → P f d → Fails m h (told_of f d)) → (end : Fault) → IsToldBy P end → NotCome m h end
not_come m h P to (FilesFault text) x = (told_of x.0 x.1, to x.0 x.1 x.2, x.3)
not_come m h P to (Stopped NoMemory) x = tt
not_come m h P to (Stopped ReadStop) x = absurd x
not_come m h P to (Stopped TooLongStop) x = absurd x
not_come m h P to (Stopped TooMany) x = absurd x
not_come m h P to (Stopped Write) x = absurd x
not_come m h P to (Stopped Gaps) x = absurd x
not_come m h P to (Usage text) x = absurd x
