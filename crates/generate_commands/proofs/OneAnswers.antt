-- A line has one answer.
use Rattle.std.proofs.Common.{ℕ, ◌≡◌, List, Bool, ◌∷◌, [], refl, ap}
use Rattle.std.specs.Str.{chars, IsUtf8}
use Rattle.fs_model.specs.Claims.{IsOrder}
use Rattle.mrs_model.specs.Meanings.{Meaning}
use Rattle.mrs_reading.specs.Laws.{IsRenumbering}
use Rattle.mrs_reading.specs.Places.{IsPlace, Says}
use Rattle.mrs_generate.specs.Laws.{SentenceAnswersAreOne}
use Rattle.item_reports.specs.Reports.{no_mrs_line}
use Rattle.sentence_reports.specs.Reports.{answer_lines, is_refused}
use Rattle.generate_commands.specs.Answers.{Speaker, Bounds, input_of, IsAnswer, no_mrs, answered}
use Rattle.generate_commands.proofs.SameInputs.{same-answer}

abbrev pub OneMeaning : Type 0
OneMeaning = (line : List ℕ) (m k : Meaning) → IsUtf8 line → Says m (chars line) → Says k (chars line) → (to : List ℕ) × IsRenumbering m k to

abbrev pub NoFault : Type 0
NoFault = (line : List ℕ) (m : Meaning) (at : ℕ) → IsUtf8 line → Says m (chars line) → IsPlace line at → ⊥

abbrev pub OnePlace : Type 0
OnePlace = (line : List ℕ) (a b : ℕ) → IsPlace line a → IsPlace line b → a ≡ b

module _ (answers : SentenceAnswersAreOne) (meanings : OneMeaning) (faults : NoFault) (places : OnePlace) (s : Speaker) (b : Bounds) (order : IsOrder s.speech.signs.system) where
  pub one-answer : (number : ℕ) (line : List ℕ) (own other : List (List ℕ)) (x y : Bool) → IsAnswer s b number line own x → IsAnswer s b number line other y → (own ≡ other) × (x ≡ y)
  one-answer number line _ _ _ _ (no_mrs at p) (no_mrs on q) = (ap (λ n. no_mrs_line number n ∷ []) (places line at on p q), refl)
  one-answer number line _ _ _ _ (no_mrs at p) (answered m a u h is) = absurd (faults line m at u h p)
  one-answer number line _ _ _ _ (answered m a u h is) (no_mrs at p) = absurd (faults line m at u h p)
  one-answer number line _ _ _ _ (answered m a u h is) (answered k d v j so) =
      let more = meanings line m k u h j in
      let less = meanings line k m u j h in
      let semantics = s.speech.semantics in
      let moved = same-answer s.speech.signs semantics.types semantics.paths s.c_cont_path s.speech.words b.lexical b.empty b.limits m k more.0 less.0 more.1 less.1 a is in
      let same : a ≡ d = answers s.speech.signs order s.speech.words (input_of s k) b.lexical b.empty b.limits a d moved so in
      (ap (answer_lines number) same, ap is_refused same)
