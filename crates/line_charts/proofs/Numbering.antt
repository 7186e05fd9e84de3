-- A table of numbers that is filled host by host.
use Rattle.std.specs.Prelude.{◌≡◌, ℕ, ◌+◌, ◌<◌, Some, List, [], ◌∷◌, length, slice_get, refl}
use Rattle.std.proofs.Common.{zero, suc, ◌∙◌, ap, sym, subst, set, arith, ⊎_elim}
use Rattle.std.proofs.lemmas.Bool.{cases_eq, cases_order}
use Rattle.chart_model.specs.At.{At, at_one}
use Rattle.line_charts.specs.Inner.Stages.{AreApart, IsNumber}

set_here : (xs : List ℕ) (i n : ℕ) → i < length xs → slice_get (set xs i n) i ≡ Some n
set_here [] i n low = absurd (omega (arith, low))
set_here (x ∷ xs) zero n low = refl
set_here (x ∷ xs) (suc i) n low = set_here xs i n (omega (arith, low))

set_there : (xs : List ℕ) (i j n : ℕ) → (j ≡ i → ⊥) → slice_get (set xs i n) j ≡ slice_get xs j
set_there [] i j n apart = refl
set_there (x ∷ xs) zero zero n apart = absurd (apart refl)
set_there (x ∷ xs) zero (suc j) n apart = refl
set_there (x ∷ xs) (suc i) zero n apart = refl
set_there (x ∷ xs) (suc i) (suc j) n apart = set_there xs i j n (λ e. apart (ap suc e))

-- below a number or just before it
near : (n i : ℕ) → n < i + 1 → (n ≡ i → ⊥) → n < i
near n i h d = ⊎_elim (λ e. absurd (d e)) (λ o. ⊎_elim (λ l. l) (λ l. absurd (omega (arith, h, l))) o) (cases_order n i)

module _ {X : Type 0} (host : X → ℕ) (xs : List X) (apart : AreApart host xs) (i : ℕ) (x : X) (at : At xs i x) (table new : List ℕ) (low : host x < length table) (is : new ≡ set table (host x) i)
    (before : (n : ℕ) (y : X) → n < i → At xs n y → IsNumber table n (host y)) where
  pub numbered_more : (n : ℕ) (y : X) → n < i + 1 → At xs n y → IsNumber new n (host y)
  numbered_more n y small a =
      ⊎_elim (λ e. let same = apart n i y x a at e in ap (λ t. slice_get t (host y)) is ∙ ap (slice_get (set table (host x) i)) e ∙ set_here table (host x) i low ∙ ap Some (sym same))
      (λ differ.
      let other : n ≡ i → ⊥ = (λ e. differ (ap host (at_one (subst (λ k. At xs k y) e a) at))) in
      ap (λ t. slice_get t (host y)) is ∙ set_there table (host x) (host y) i differ ∙ before n y (near n i small other) a)
      (cases_eq (host y) (host x))
