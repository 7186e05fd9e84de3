-- The text of a file, and its fault.
use Rattle.std.proofs.Common.{◌≡◌, ◌≤◌, ℕ, Bool, List, [], Option, Some, true, false, refl, sym, ◌∙◌, subst, arith}
use Rattle.lkb_io.specs.Outside.{HasRisen}
use Rattle.lkb_io.specs.Shelves.{IsLong}
use Rattle.lkb_io.specs.declared.ShelfFault.{ShelfFault}
use Rattle.lkb_io.specs.declared.ShelfFault.TheVariants.{Failed, TooLong as ShelfTooLong, NoMemory as ShelfNoMemory}
use Rattle.grammar_settings.specs.Forms.{Name}
use Rattle.grammar_files.specs.declared.fault.Why.TheVariants.{Shelf}
use Rattle.grammar_files.specs.Faults.{FoundFault}
use Rattle.grammar_files.specs.declared.fault.Why.{Why}
use Rattle.grammar_files.specs.Walks.{Files, IsText, IsTooLong, fault_at}
use Rattle.command_files.specs.Shown.{IsShown, AreShown, no_lines, lines}
use Rattle.grammar_files.specs.TextViews.{IsShelfFault}
use Rattle.grammar_files.proofs.TextLemmas.{Unheld}
use Rattle.endings.specs.Meanings.{Shelves, has_failed}
use Rattle.endings.specs.declared.Fault.{Fault}
use Rattle.command_files.specs.Told.{never, told_of, IsOfShelf, IsToldBy}
use Rattle.command_files.specs.Texts.{IsTextFault, fails_there, too_long, LacksText}
use Rattle.command_files.proofs.ToldLemmas.{failed_is, has_failed_there, of_shelf, told_on}

pub same_text : (f : Name → Option (List ℕ)) (name : Name) (a b : List ℕ) → IsText (Some f) name a → IsText (Some f) name b → a ≡ b
same_text f name a b p q = let e : Some a ≡ Some b = sym p.0 ∙ q.0 in cc

pub long_text : (f : Name → Option (List ℕ)) (name : Name) (a : List ℕ) → IsTooLong (Some f) name → IsText (Some f) name a → ⊥
long_text f name a l t = let long : IsLong (Some a) = subst IsLong t.0 l in omega (arith, long, t.1)

false_true : {A : Type 0} → false ≡ true → A
false_true e = cc

pub fault_same : (files : Name → Option (List ℕ)) (name : Name) (f g : FoundFault) → IsTextFault (Some files) never name f → IsTextFault (Some files) never name g → f ≡ g
fault_same files name _ g (fails_there e) y = false_true e
fault_same files name _ _ (too_long l) (fails_there e) = false_true e
fault_same files name _ _ (too_long l) (too_long k) = refl

pub text_or_fault : (files : Name → Option (List ℕ)) (name : Name) (text : List ℕ) (f : FoundFault) → IsText (Some files) name text → IsTextFault (Some files) never name f → ⊥
text_or_fault files name text _ t (fails_there e) = false_true e
text_or_fault files name text _ t (too_long l) = long_text files name text l t

pub calm_text : (h : Shelves) (name : Name) (f : FoundFault) → IsTextFault h.files (has_failed h) name f → IsOfShelf h (told_of f []) → (HasRisen h.faults_old h.faults_new → ⊥) → IsTextFault h.files never name f
calm_text h name _ (fails_there e) own none = absurd (none (own name refl).0)
calm_text h name _ (too_long l) own none = too_long l

-- the fault of a file, as that of a run, with the lines that follow it
abbrev pub Lacks : Shelves → Name → Bool → FoundFault → List ℕ → Type 0
Lacks h name verbose f d = IsTextFault h.files (has_failed h) name f × IsOfShelf h (told_of f d) × AreShown verbose h.files f d

tells : (h : Shelves) (name : Name) (f : FoundFault) → IsTextFault h.files (has_failed h) name f → f.why ≡ Shelf → has_failed h f.file ≡ true
tells h name _ (fails_there e) k = e
tells h name _ (too_long l) k = cc

lacks : (h : Shelves) (name : Name) (verbose : Bool) (f : FoundFault) (d : List ℕ) → IsTextFault h.files (has_failed h) name f → AreShown verbose h.files f d → Lacks h name verbose f d
lacks h name verbose f d x shown = (x, of_shelf h f d (tells h name f x), shown)

-- what the shelf tells is the fault
shelf_tells : (h : Shelves) (name : Name) (fault : ShelfFault) (f : FoundFault) → Unheld h.files name h.faults_old h.faults_new h.asked_new fault → IsShelfFault name fault f → IsTextFault h.files (has_failed h) name f
shelf_tells h name Failed f u same = subst (IsTextFault h.files (has_failed h) name) (sym same) (fails_there (has_failed_there h name (u.failed refl) (u.asked_is refl)))
shelf_tells h name ShelfTooLong f u same = subst (IsTextFault h.files (has_failed h) name) (sym same) (too_long (u.long refl))
shelf_tells h name ShelfNoMemory f u same = absurd same

pub shelf_lacks : (h : Shelves) (name : Name) (verbose : Bool) (fault : ShelfFault) (end : Fault) → Unheld h.files name h.faults_old h.faults_new h.asked_new fault
    → IsToldBy (λ f d. IsShelfFault name fault f × AreShown verbose h.files f d) end → LacksText h name verbose end
shelf_lacks h name verbose fault end u t =
    told_on (λ f d. IsShelfFault name fault f × AreShown verbose h.files f d) (Lacks h name verbose) end (λ f d x. lacks h name verbose f d (shelf_tells h name fault f u x.0) x.1) t

-- the lines that show a fault of a file as a whole
pub whole_shown : (verbose : Bool) (files : Files) (name : Name) (why : Why) (more : List ℕ) → verbose ≡ true → IsShown files (fault_at name 0 why) more → (f : FoundFault) → f ≡ fault_at name 0 why
    → ((f ≡ fault_at name 0 why) × AreShown verbose files f []) × ((f ≡ fault_at name 0 why) × AreShown verbose files f more)
whole_shown verbose files name why more on is f e = ((e, no_lines), (e, lines more on (subst (λ g. IsShown files g more) (sym e) is)))

-- A count that rose since then rose in the whole run.
risen_late : (old mid new : ℕ) → old ≤ mid → HasRisen mid new → HasRisen old new
risen_late old mid new h r = omega (arith, h, r)

module _ (part whole : Shelves) (files : part.files ≡ whole.files) (old : whole.faults_old ≤ part.faults_old) (new : part.faults_new ≡ whole.faults_new) (asked : part.asked_new ≡ whole.asked_new) where
  late_failed : (name : Name) → has_failed part name ≡ true → has_failed whole name ≡ true
  late_failed name e =
      let is = failed_is part name e in
      has_failed_there whole name (risen_late whole.faults_old part.faults_old whole.faults_new old (subst (HasRisen part.faults_old) new is.0)) (sym asked ∙ is.1)

  late_fault : (name : Name) (f : FoundFault) → IsTextFault part.files (has_failed part) name f → IsTextFault whole.files (has_failed whole) name f
  late_fault name _ (fails_there e) = fails_there (late_failed name e)
  late_fault name _ (too_long l) = too_long (subst (λ there. IsTooLong there name) files l)

  pub lacks_late : (name : Name) (verbose : Bool) (end : Fault) → LacksText part name verbose end → LacksText whole name verbose end
  lacks_late name verbose end x =
      told_on (Lacks part name verbose) (Lacks whole name verbose) end
      (λ f d y. lacks whole name verbose f d (late_fault name f y.0) (subst (λ there. AreShown verbose there f d) files y.2)) x
