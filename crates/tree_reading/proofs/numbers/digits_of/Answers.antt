use Rattle.std.proofs.Common.{◌≡◌, ◌++◌, ◌∷◌, [], ◌<◌, ◌+◌, ◌^◌, ◌∙◌, ℕ, List, Option, Some, None, drop, length, get_or, suc, refl, sym, ap, append_assoc, add-one, drop-cons}
use Rattle.tree_reading.specs.Inner.Stops.{spelling, IsNext}
use Rattle.tree_reading.proofs.Lifting.{match_some}
use Rattle.tree_reading.proofs.Numbering.{spelling_next, next_fits}
use Rattle.tree_reading.proofs.numbers.digits_of.Goals as goal

step : (bs : List ℕ) (number : Option ℕ) (k next b : ℕ) → k < length bs → b ≡ get_or bs k 0 → IsNext number b next → bs ≡ spelling number ++ drop k bs → bs ≡ spelling (Some next) ++ drop (k + 1) bs
step bs number k next b lt at h e =
    e ∙ ap (λ t. spelling number ++ t) (drop-cons bs k 0 lt ∙ ap (λ t. t ∷ drop (suc k) bs) (sym at) ∙ ap (λ t. b ∷ drop t bs) (sym (add-one k)))
    ∙ sym (append_assoc (spelling number) (b ∷ []) (drop (k + 1) bs)) ∙ ap (λ t. t ++ drop (k + 1) bs) (sym (spelling_next number b next h))

stepped : (bs : List ℕ) (number next : Option ℕ) (k b : ℕ) → k < length bs → b ≡ get_or bs k 0 → (next ≡ None → ⊥) → ((n : ℕ) → next ≡ Some n → IsNext number b n) → bs ≡ spelling number ++ drop k bs →
    (bs ≡ spelling next ++ drop (k + 1) bs) × ((n : ℕ) → next ≡ Some n → n < 2 ^ 32)
stepped bs number None k b lt at some h e = absurd (some refl)
stepped bs number (Some next) k b lt at some h e =
    (step bs number k next b lt at (h next refl) e, λ n q. next_fits number b n (h n q))

pub loop-k-preserved : goal.loop-k-preserved
loop-k-preserved c = stepped c.args.bytes.now c.loop-k.number c.next_of.result c.loop-k.k (get_or c.args.bytes.now c.loop-k.k 0) c.loop-k-test.true refl c.in_default.not-None
    (match_some _ (λ n. IsNext c.loop-k.number (get_or c.args.bytes.now c.loop-k.k 0) n) c.next_of.result c.next_of.ensures) c.loop-k.invariant.0
