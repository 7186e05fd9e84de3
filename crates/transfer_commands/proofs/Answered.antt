-- The answer to a line, by its lines.
use Rattle.std.proofs.Common.{◌≡◌, ℕ, List, [], ◌∷◌, Bool, true, Result, Ok, Err, IfOk, sym, subst}
use Rattle.std.specs.Str.{chars, IsUtf8}
use Rattle.mrs_model.specs.Meanings.{Meaning}
use Rattle.mrs_reading.specs.Places.{IsPlace, Says}
use Rattle.item_reports.specs.Reports.{no_mrs_line}
use Rattle.transfer_commands.specs.Rewriters.{Rewriter}
use Rattle.transfer_commands.specs.Reports.{answer_lines, is_refused}
use Rattle.transfer_commands.specs.Answers.{IsAnswer, no_mrs, answered}
use Rattle.transfer_commands.specs.Inner.{IsReportOn}

pub if-ok : {T E : Type 0} (r : Result T E) (P Q : T → Type 0) → ((t : T) → P t → Q t) → IfOk r P → IfOk r Q
if-ok (Ok t) P Q f p = f t p
if-ok (Err e) P Q f p = tt

pub if-both : {T E : Type 0} (r : Result T E) (P Q S : T → Type 0) → ((t : T) → P t → Q t → S t) → IfOk r P → IfOk r Q → IfOk r S
if-both (Ok t) P Q S f p q = f t p q
if-both (Err e) P Q S f p q = tt

module _ (w : Rewriter) (number : ℕ) (line : List ℕ) where
  moved : (own other : List (List ℕ)) (x y : Bool) → other ≡ own → y ≡ x → IsAnswer w number line own x → IsAnswer w number line other y
  moved own other x y e f is = subst (λ z. IsAnswer w number line other z) (sym f) (subst (λ ls. IsAnswer w number line ls x) (sym e) is)

  pub answered-with : (m : Meaning) → IsUtf8 line → Says m (chars line) → (lines : List (List ℕ)) (refused : Bool) → IsReportOn w number m lines refused → IsAnswer w number line lines refused
  answered-with m u h lines refused r = moved (answer_lines number r.answer) lines (is_refused r.answer) refused r.lines_are r.refused_is (answered m r.answer u h r.is)

  pub wrong-with : (at : ℕ) → IsPlace line at → (lines : List (List ℕ)) (refused : Bool) → lines ≡ no_mrs_line number at ∷ [] → refused ≡ true → IsAnswer w number line lines refused
  wrong-with at p lines refused e f = moved (no_mrs_line number at ∷ []) lines true refused e f (no_mrs at p)
