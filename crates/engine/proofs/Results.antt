-- What follows of a result, and of the answers to lines.
use Rattle.std.proofs.Common.{ℕ, suc, ◌≡◌, ◌++◌, ◌||◌, List, Bool, refl, ◌∙◌, ap, Result, Ok, Err, IfOk}
use Rattle.endings.specs.Reports.{AreAnswers, no_line, a_line}

pub if-ok : {T E : Type 0} (r : Result T E) (P Q : T → Type 0) → ((t : T) → P t → Q t) → IfOk r P → IfOk r Q
if-ok (Ok t) P Q f p = f t p
if-ok (Err e) P Q f p = tt

pub if-both : {T E : Type 0} (r : Result T E) (P Q S : T → Type 0) → ((t : T) → P t → Q t → S t) → IfOk r P → IfOk r Q → IfOk r S
if-both (Ok t) P Q S f p q = f t p q
if-both (Err e) P Q S f p q = tt

-- where each line has one answer, lines have one report
pub one-answers : (answers : ℕ → List ℕ → List (List ℕ) → Bool → Type 0)
    → ((n : ℕ) (line : List ℕ) (own other : List (List ℕ)) (b c : Bool) → answers n line own b → answers n line other c → (own ≡ other) × (b ≡ c))
    → (n : ℕ) (lines pieces others : List (List ℕ)) (refused may : Bool) → AreAnswers answers n lines pieces refused → AreAnswers answers n lines others may → (pieces ≡ others) × (refused ≡ may)
one-answers answers one _ _ _ _ _ _ (no_line n) (no_line _) = (refl, refl)
one-answers answers one _ _ _ _ _ _ (a_line n line lines own rest b c h k) (a_line _ _ _ own' rest' b' c' h' k') =
    let here = one n line own own' b b' h h' in
    let later = one-answers answers one (suc n) lines rest rest' c c' k k' in
    (ap (λ x. x ++ rest) here.0 ∙ ap (λ x. own' ++ x) later.0, ap (λ x. x || c) here.1 ∙ ap (λ x. b' || x) later.1)
