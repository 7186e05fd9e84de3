-- A line has one answer, and lines have one report.
use Rattle.std.proofs.Common.{ℕ, suc, ◌≡◌, List, [], ◌∷◌, ◌++◌, Bool, ◌||◌, All, codes, refl, ◌∙◌, ap}
use Rattle.std.specs.Str.{chars, IsUtf8}
use Rattle.endings.specs.Reports.{AreAnswers, no_line, a_line}
use Rattle.mrs_model.specs.Meanings.{Meaning}
use Rattle.mrs_model.specs.Valid.{IsValid}
use Rattle.mrs_reading.specs.Laws.{IsRenumbering}
use Rattle.mrs_reading.specs.Places.{IsPlace, Says}
use Rattle.mrs_text.specs.Written.{text_of}
use Rattle.transfer_model.specs.Rules.{Rule, IsRule}
use Rattle.transfer_model.specs.Sites.{Site}
use Rattle.transfer_model.specs.Runs.{IsResult, HasNoResult}
use Rattle.item_reports.specs.Reports.{item_line, no_mrs_line}
use Rattle.transfer_commands.specs.Rewriters.{Rewriter, is_allowed, allowed}
use Rattle.transfer_commands.specs.Reports.{TransferAnswer, Rewritten, OverBudget, count, mrs_line, answer_lines, is_refused}
use Rattle.transfer_commands.specs.Answers.{IsAnswerTo, IsAnswer, no_mrs, answered}

-- what is known of texts
pub record TextLaws : Type 0 where
  pub one_meaning : (line : List ℕ) (m k : Meaning) → IsUtf8 line → Says m (chars line) → Says k (chars line) → (to : List ℕ) × IsRenumbering m k to
  pub all_valid : (line : List ℕ) (m : Meaning) → IsUtf8 line → Says m (chars line) → IsValid m
  pub no_fault : (line : List ℕ) (m : Meaning) (at : ℕ) → IsUtf8 line → Says m (chars line) → IsPlace line at → ⊥
  pub one_place : (line : List ℕ) (a b : ℕ) → IsPlace line a → IsPlace line b → a ≡ b
  pub one_text : (m k : Meaning) (to : List ℕ) → IsValid m → IsRenumbering m k to → text_of m ≡ text_of k

-- and of results
pub record ResultLaws : Type 0 where
  pub valid : (allows : ℕ → Site → Bool) (rs : List Rule) (m a : Meaning) (j : ℕ) → IsValid m → IsResult allows rs m j a → IsValid a
  pub not_both : (allows : ℕ → Site → Bool) (rs : List Rule) (m a : Meaning) (j : ℕ) → IsValid m → All IsRule rs → IsResult allows rs m j a → HasNoResult allows rs m → ⊥
  pub one_result : (allows : ℕ → Bool) (rs : List Rule) (m k a b : Meaning) (i j : ℕ) (to : List ℕ) → IsValid m → IsValid k → All IsRule rs → IsRenumbering m k to
      → IsResult (λ n s. allows n) rs m i a → IsResult (λ n s. allows n) rs k j b → (i ≡ j) × ((more : List ℕ) × IsRenumbering a b more)
  pub none : (allows : ℕ → Bool) (rs : List Rule) (m k : Meaning) (to : List ℕ) → IsValid m → IsValid k → All IsRule rs → IsRenumbering m k to
      → HasNoResult (λ n s. allows n) rs m → HasNoResult (λ n s. allows n) rs k

module _ (texts : TextLaws) (results : ResultLaws) (w : Rewriter) (rules : All IsRule w.rules) where
  -- two MRSs of one line
  module _ (line : List ℕ) (m k : Meaning) (utf8 : IsUtf8 line) (says : Says m (chars line)) (so : Says k (chars line)) where
    valid : IsValid m
    valid = texts.all_valid line m utf8 says

    valid-too : IsValid k
    valid-too = texts.all_valid line k utf8 so

    same-lines : (number i j : ℕ) (a b : Meaning) → IsResult (allowed w) w.rules m i a → IsResult (allowed w) w.rules k j b → answer_lines number (Rewritten i a) ≡ answer_lines number (Rewritten j b)
    same-lines number i j a b p q =
        let to = texts.one_meaning line m k utf8 says so in
        let both = results.one_result (is_allowed w) w.rules m k a b i j to.0 valid valid-too rules to.1 p q in
        let text = texts.one_text a b both.1.0 (results.valid (allowed w) w.rules m a i valid p) both.1.1 in
        ap (λ n. item_line number (count n) ∷ mrs_line a ∷ []) both.0 ∙ ap (λ t. item_line number (count j) ∷ ((codes "  " ++ t) ++ 10 ∷ []) ∷ []) text

    apart : (i : ℕ) (a : Meaning) → IsResult (allowed w) w.rules m i a → HasNoResult (allowed w) w.rules k → ⊥
    apart i a p none =
        let to = texts.one_meaning line k m utf8 so says in
        results.not_both (allowed w) w.rules m a i valid rules p (results.none (is_allowed w) w.rules k m to.0 valid-too valid rules to.1 none)

  same-answer : (line : List ℕ) (m k : Meaning) → IsUtf8 line → Says m (chars line) → Says k (chars line) → (number : ℕ) (a b : TransferAnswer) → IsAnswerTo w m a → IsAnswerTo w k b
      → (answer_lines number a ≡ answer_lines number b) × (is_refused a ≡ is_refused b)
  same-answer line m k u h j number (Rewritten i a) (Rewritten l b) x y = (same-lines line m k u h j number i l a b x y, refl)
  same-answer line m k u h j number (Rewritten i a) OverBudget x y = absurd (apart line m k u h j i a x y)
  same-answer line m k u h j number OverBudget (Rewritten i a) x y = absurd (apart line k m u j h i a y x)
  same-answer line m k u h j number OverBudget OverBudget x y = (refl, refl)

  pub one-answer : (number : ℕ) (line : List ℕ) (own other : List (List ℕ)) (x y : Bool) → IsAnswer w number line own x → IsAnswer w number line other y → (own ≡ other) × (x ≡ y)
  one-answer number line _ _ _ _ (no_mrs at p) (no_mrs on q) = (ap (λ n. no_mrs_line number n ∷ []) (texts.one_place line at on p q), refl)
  one-answer number line _ _ _ _ (no_mrs at p) (answered m a u h is) = absurd (texts.no_fault line m at u h p)
  one-answer number line _ _ _ _ (answered m a u h is) (no_mrs at p) = absurd (texts.no_fault line m at u h p)
  one-answer number line _ _ _ _ (answered m a u h is) (answered k b v j so) = same-answer line m k u h j number a b is so

-- where each line has one answer
pub one-answers : (answers : ℕ → List ℕ → List (List ℕ) → Bool → Type 0)
    → ((n : ℕ) (line : List ℕ) (own other : List (List ℕ)) (b c : Bool) → answers n line own b → answers n line other c → (own ≡ other) × (b ≡ c))
    → (n : ℕ) (lines pieces others : List (List ℕ)) (refused may : Bool) → AreAnswers answers n lines pieces refused → AreAnswers answers n lines others may → (pieces ≡ others) × (refused ≡ may)
one-answers answers one _ _ _ _ _ _ (no_line n) (no_line _) = (refl, refl)
one-answers answers one _ _ _ _ _ _ (a_line n line lines own rest b c h k) (a_line _ _ _ own' rest' b' c' h' k') =
    let here = one n line own own' b b' h h' in
    let later = one-answers answers one (suc n) lines rest rest' c c' k k' in
    (ap (λ x. x ++ rest) here.0 ∙ ap (λ x. own' ++ x) later.0, ap (λ x. x || c) here.1 ∙ ap (λ x. b' || x) later.1)
