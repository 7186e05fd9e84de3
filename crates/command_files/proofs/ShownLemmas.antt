-- The lines that show a fault, and that follow the line that tells it.
use Rattle.std.proofs.Common.{◌≡◌, ℕ, Bool, List, [], true, false, Result, Ok, Err, IfOk, Vec, sym, subst}
use Rattle.std.specs.Global.{Global}
use Rattle.fault_places.specs.Places.{file_text}
use Rattle.fault_places.specs.declared.Lack.{Lack}
use Rattle.command_files.specs.Causes.{cause_of}
use Rattle.command_files.specs.FaultTexts.{has_place}
use Rattle.grammar_settings.specs.Forms.{Name}
use Rattle.grammar_files.specs.declared.fault.Why.{Why}
use Rattle.grammar_files.specs.declared.fault.Why.TheVariants.{Shelf}
use Rattle.grammar_files.specs.Faults.{FoundFault}
use Rattle.grammar_files.specs.Walks.{Files, fault_at}
use Rattle.lkb_io.specs.declared.ShelfCause.{ShelfCause}
use Rattle.endings.specs.declared.Fault.{Fault}
use Rattle.command_files.specs.Shown.{shelf_cause, shown_place, IsPlaceShown, IsShown, at_place, whole_file, of_shelf, AreShown, no_lines, IsFollowed}
use Rattle.command_files.specs.Told.{IsToldBy}
use Rattle.command_files.proofs.ToldLemmas.{told_on, followed_on}
use Rattle.command_files.proofs.TextLemmas.{whole_shown}

module _ (files : Files) (file : Name) (at : ℕ) (why : Why) where
  pub shown_at : (r : Result (Vec ℕ Global) Lack) → has_place why ≡ true → IfOk r (λ v. IsPlaceShown files file (λ text. shown_place why text at) (cause_of why) v.items)
      → IfOk r (λ v. IsShown files (fault_at file at why) v.items)
  shown_at (Ok v) e is = at_place v.items e is
  shown_at (Err lack) e is = tt

  pub shown_whole : (r : Result (Vec ℕ Global) Lack) (words : List ℕ) → words ≡ cause_of why → has_place why ≡ false → (why ≡ Shelf → ⊥) → IfOk r (λ v. v.items ≡ file_text file words)
      → IfOk r (λ v. IsShown files (fault_at file at why) v.items)
  shown_whole (Ok v) words same e none is = subst (IsShown files (fault_at file at why)) (sym (subst (λ w. v.items ≡ file_text file w) same is)) (whole_file e none)
  shown_whole (Err lack) words same e none is = tt

  pub shown_shelf : (r : Result (Vec ℕ Global) Lack) (words : List ℕ) (c : ShelfCause) → words ≡ shelf_cause c → why ≡ Shelf → IfOk r (λ v. v.items ≡ file_text file words)
      → IfOk r (λ v. IsShown files (fault_at file at why) v.items)
  shown_shelf (Ok v) words c same e is = subst (IsShown files (fault_at file at why)) (sym (subst (λ w. v.items ≡ file_text file w) same is)) (of_shelf c e)
  shown_shelf (Err lack) words c same e is = tt

module _ (verbose : Bool) (files : Files) (name : Name) (why : Why) where
  abbrev Alone : FoundFault → List ℕ → Type 0
  Alone f d = (f ≡ fault_at name 0 why) × (d ≡ [])

  abbrev WithLines : FoundFault → List ℕ → Type 0
  WithLines f d = (f ≡ fault_at name 0 why) × AreShown verbose files f d

  -- a line that no line follows
  pub told_alone : (end : Fault) → IsToldBy Alone end → IsToldBy WithLines end
  told_alone end x = told_on Alone WithLines end (λ f d y. (y.0, subst (AreShown verbose files f) (sym y.1) no_lines)) x

  -- a line with those that show the fault
  pub told_shown : (told end : Fault) (more words : List ℕ) → verbose ≡ true → words ≡ more → IsShown files (fault_at name 0 why) more → IsToldBy Alone told → IsFollowed told words end → IsToldBy WithLines end
  told_shown told end more words on same is x followed =
      followed_on WithLines told end more
      (told_on Alone (λ f d. (WithLines f [] × WithLines f more) × (d ≡ [])) told (λ f d y. (whole_shown verbose files name why more on is f y.0, y.1)) x)
      (subst (λ w. IsFollowed told w end) same followed)
