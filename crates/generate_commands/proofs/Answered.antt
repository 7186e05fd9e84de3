-- The answer to a line, by its lines.
use Rattle.std.proofs.Common.{◌≡◌, ℕ, List, [], ◌∷◌, Bool, true, sym, subst}
use Rattle.std.specs.Str.{chars, IsUtf8}
use Rattle.mrs_model.specs.Meanings.{Meaning}
use Rattle.mrs_reading.specs.Places.{IsPlace, Says}
use Rattle.generate_model.specs.Sentences.{GenAnswer}
use Rattle.item_reports.specs.Reports.{no_mrs_line}
use Rattle.sentence_reports.specs.Reports.{answer_lines, is_refused}
use Rattle.generate_commands.specs.Answers.{Speaker, Bounds, IsAnswerTo, IsAnswer, no_mrs, answered}

module _ (s : Speaker) (b : Bounds) (number : ℕ) (line : List ℕ) where
  moved : (own other : List (List ℕ)) (x y : Bool) → other ≡ own → y ≡ x → IsAnswer s b number line own x → IsAnswer s b number line other y
  moved own other x y e f is = subst (λ z. IsAnswer s b number line other z) (sym f) (subst (λ ls. IsAnswer s b number line ls x) (sym e) is)

  pub answered-with : (m : Meaning) (a : GenAnswer) → IsUtf8 line → Says m (chars line) → IsAnswerTo s b m a
      → (lines : List (List ℕ)) (refused : Bool) → lines ≡ answer_lines number a → refused ≡ is_refused a → IsAnswer s b number line lines refused
  answered-with m a u h is lines refused e f = moved (answer_lines number a) lines (is_refused a) refused e f (answered m a u h is)

  pub wrong-with : (at : ℕ) → IsPlace line at → (lines : List (List ℕ)) (refused : Bool) → lines ≡ no_mrs_line number at ∷ [] → refused ≡ true → IsAnswer s b number line lines refused
  wrong-with at p lines refused e f = moved (no_mrs_line number at ∷ []) lines true refused e f (no_mrs at p)
