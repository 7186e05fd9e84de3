-- A line has one answer, and lines have one report.
use Rattle.std.proofs.Common.{ℕ, suc, ◌≡◌, List, [], ◌∷◌, ◌++◌, Bool, ◌||◌, All, map, refl, sym, ◌∙◌, ap, subst}
use Rattle.std.specs.Str.{chars, IsUtf8}
use Rattle.std.proofs.lemmas.List.Elements.{All-nil, All-cons, All-head, All-tail}
use Rattle.endings.specs.Reports.{AreAnswers, no_line, a_line}
use Rattle.mrs_model.specs.Meanings.{Constraint, Meaning}
use Rattle.mrs_model.specs.Valid.{IsValid}
use Rattle.mrs_model.specs.Renaming.{renamed_constraint}
use Rattle.mrs_reading.specs.Laws.{IsRenumbering}
use Rattle.mrs_reading.specs.Places.{IsPlace, Says}
use Rattle.scope_model.specs.Numbers.{in_order}
use Rattle.scope_model.specs.Frames.{Frame, frame_of}
use Rattle.scope_model.specs.Readings.{Plugged, IsReading}
use Rattle.scope_model.specs.Answers.{frame, AreReadings, AreAll, IsOver, IsFirstOther, IsQeq}
use Rattle.item_reports.specs.Reports.{no_mrs_line}
use Rattle.scope_commands.specs.Reports.{ScopeAnswer, Readings, OtherRelation, TooMany, answer_lines, is_refused}
use Rattle.scope_commands.specs.Answers.{IsAnswerTo, IsAnswer, no_mrs, answered}

-- what is known of texts
pub record TextLaws : Type 0 where
  pub one_meaning : (line : List ℕ) (m k : Meaning) → IsUtf8 line → Says m (chars line) → Says k (chars line) → (to : List ℕ) × IsRenumbering m k to
  pub all_valid : (line : List ℕ) (m : Meaning) → IsUtf8 line → Says m (chars line) → IsValid m
  pub no_fault : (line : List ℕ) (m : Meaning) (at : ℕ) → IsUtf8 line → Says m (chars line) → IsPlace line at → ⊥
  pub one_place : (line : List ℕ) (a b : ℕ) → IsPlace line a → IsPlace line b → a ≡ b

-- and of readings
pub record ReadingLaws : Type 0 where
  pub one_list : (f : Frame) (ps qs : List Plugged) → AreReadings f ps → AreReadings f qs → ps ≡ qs
  pub one_frame : (m k : Meaning) (to : List ℕ) → IsValid m → IsValid k → IsRenumbering m k to → in_order m ≡ in_order k
  pub over : (m : Meaning) (max : ℕ) (ps : List Plugged) → AreAll m max ps → IsOver m max → ⊥
  pub other : (m : Meaning) (at : ℕ) → IsFirstOther m at → All IsQeq m.hcons → ⊥

-- other numbers change no relation
same-relations : (to : List ℕ) (cs : List Constraint) → All IsQeq (map (renamed_constraint to) cs) → All IsQeq cs
same-relations to [] h = All-nil IsQeq
same-relations to (c ∷ cs) h =
    let moved = renamed_constraint to c in
    let rest = map (renamed_constraint to) cs in
    All-cons IsQeq c cs (All-head IsQeq moved rest h) (same-relations to cs (All-tail IsQeq moved rest h))

module _ (texts : TextLaws) (readings : ReadingLaws) (max : ℕ) where
  -- two MRSs of one line
  module _ (line : List ℕ) (m k : Meaning) (utf8 : IsUtf8 line) (says : Says m (chars line)) (so : Says k (chars line)) where
    qeqs : All IsQeq k.hcons → All IsQeq m.hcons
    qeqs h = let r = texts.one_meaning line m k utf8 says so in same-relations r.0 m.hcons (subst (λ (cs : List Constraint). All IsQeq cs) (sym r.1.hcons) h)

    frames : frame m ≡ frame k
    frames = let r = texts.one_meaning line m k utf8 says so in ap frame_of (readings.one_frame m k r.0 (texts.all_valid line m utf8 says) (texts.all_valid line k utf8 so) r.1)

    over-too : IsOver k max → IsOver m max
    over-too o = record {
      qeqs = qeqs o.qeqs;
      some = o.some;
      order = o.order;
      are = subst (λ (f : Frame). All (IsReading f) o.some) (sym frames) o.are;
      more = o.more;
    }

    not-other : (at : ℕ) → IsFirstOther m at → All IsQeq k.hcons → ⊥
    not-other at f h = readings.other m at f (qeqs h)

  same-answer : (line : List ℕ) (m k : Meaning) → IsUtf8 line → Says m (chars line) → Says k (chars line) → (a b : ScopeAnswer) → IsAnswerTo m max a → IsAnswerTo k max b → a ≡ b
  same-answer line m k u h j (Readings ps) (Readings qs) x y =
      ap Readings (readings.one_list (frame k) ps qs (subst (λ (f : Frame). AreReadings f ps) (frames line m k u h j) x.are) y.are)
  same-answer line m k u h j (Readings ps) OtherRelation x y = absurd (not-other line k m u j h y.0 y.1 x.qeqs)
  same-answer line m k u h j (Readings ps) TooMany x y = absurd (readings.over m max ps x (over-too line m k u h j y))
  same-answer line m k u h j OtherRelation (Readings qs) x y = absurd (not-other line m k u h j x.0 x.1 y.qeqs)
  same-answer line m k u h j OtherRelation OtherRelation x y = refl
  same-answer line m k u h j OtherRelation TooMany x y = absurd (not-other line m k u h j x.0 x.1 y.qeqs)
  same-answer line m k u h j TooMany (Readings qs) x y = absurd (readings.over k max qs y (over-too line k m u j h x))
  same-answer line m k u h j TooMany OtherRelation x y = absurd (not-other line k m u j h y.0 y.1 x.qeqs)
  same-answer line m k u h j TooMany TooMany x y = refl

  pub one-answer : (number : ℕ) (line : List ℕ) (own other : List (List ℕ)) (x y : Bool) → IsAnswer max number line own x → IsAnswer max number line other y → (own ≡ other) × (x ≡ y)
  one-answer number line _ _ _ _ (no_mrs at p) (no_mrs on q) = (ap (λ n. no_mrs_line number n ∷ []) (texts.one_place line at on p q), refl)
  one-answer number line _ _ _ _ (no_mrs at p) (answered m a u h is) = absurd (texts.no_fault line m at u h p)
  one-answer number line _ _ _ _ (answered m a u h is) (no_mrs at p) = absurd (texts.no_fault line m at u h p)
  one-answer number line _ _ _ _ (answered m a u h is) (answered k b v j so) =
      let same : a ≡ b = same-answer line m k u h j a b is so in
      (ap (answer_lines number) same, ap is_refused same)

-- where each line has one answer
pub one-answers : (answers : ℕ → List ℕ → List (List ℕ) → Bool → Type 0)
    → ((n : ℕ) (line : List ℕ) (own other : List (List ℕ)) (b c : Bool) → answers n line own b → answers n line other c → (own ≡ other) × (b ≡ c))
    → (n : ℕ) (lines pieces others : List (List ℕ)) (refused may : Bool) → AreAnswers answers n lines pieces refused → AreAnswers answers n lines others may → (pieces ≡ others) × (refused ≡ may)
one-answers answers one _ _ _ _ _ _ (no_line n) (no_line _) = (refl, refl)
one-answers answers one _ _ _ _ _ _ (a_line n line lines own rest b c h k) (a_line _ _ _ own' rest' b' c' h' k') =
    let here = one n line own own' b b' h h' in
    let later = one-answers answers one (suc n) lines rest rest' c c' k k' in
    (ap (λ x. x ++ rest) here.0 ∙ ap (λ x. own' ++ x) later.0, ap (λ x. x || c) here.1 ∙ ap (λ x. b' || x) later.1)
