-- Covers of rows with shapes may stand in a chart, and have sizes.
use Rattle.std.specs.Prelude.{◌≡◌, ℕ, ◌+◌, ◌<◌, [], ◌∷◌, ◌++◌, length, map, slice_get, ◌^◌, option_map, Option, Some, None, MatchOption, List, refl, All}
use Rattle.std.proofs.Common.{ap, subst, sym, ◌∙◌, arith, take, get_or, zero, suc}
use Rattle.std.proofs.lemmas.List.{take_more}
use Rattle.chart_model.specs.Calculus.{Calculus, Laws}
use Rattle.chart_model.specs.At.{At}
use Rattle.chart_model.specs.Chart as chart
use Rattle.chart_core.specs.declared.Row.{Row}
use Rattle.chart_core.specs.View.{Belongs, row_of}
use Rattle.chart_core.proofs.Frost.{all_at_place}
use Rattle.forest_unpack.specs.Ranks.{SizedIn, IsSized}
use Rattle.forest_unpack.proofs.Adding.{map_append}
use Rattle.forest_unpack.proofs.Telling.{Source}

module _ {X T C W B M : Type 0} (k : Calculus M C) (belongs : T → Type 0) (meaning : T → M) (rows : List (Row X T C W B)) (all : All (Belongs k belongs) rows) where
  proper_in : (o : Option T) (t : T) (c : C) → o ≡ Some t → MatchOption o (Unit {0}) (λ shape. belongs shape × k.proper c) → k.proper c
  proper_in None t c e m = absurd (cc)
  proper_in (Some s) t c e m = m.1

  pub proper_row : (i : ℕ) (row : Row X T C W B) (t : T) → At rows i row → row.shape ≡ Some t → k.proper row.cover
  proper_row i row t at e = proper_in row.shape t row.cover e (all_at_place (Belongs k belongs) rows i row all at)

  pub sized : Laws k → (extent : C → ℕ) → ((c : C) → k.size c ≡ extent c) → (i : ℕ) (row : Row X T C W B) → At rows i row → IsSized extent row
  sized laws extent sizes i row at = by row.shape refl
    where
      by : (o : Option T) → row.shape ≡ o → SizedIn o (extent row.cover)
      by None e = tt
      by (Some t) e = subst (λ n. n < 2 ^ 32) (sizes row.cover) (laws.has_size row.cover (proper_row i row t at e)).1

  -- the same of the chart's rows
  pub proper_source : (i : ℕ) (row : chart.Row M C) (m : M) → Source (row_of meaning) rows i row → row.shape ≡ Some m → k.proper row.cover
  proper_source i row m s e = by s.source.shape refl (ap (λ (r : chart.Row M C). r.shape) s.is ∙ e)
    where
      by : (o : Option T) → s.source.shape ≡ o → option_map meaning s.source.shape ≡ Some m → k.proper row.cover
      by None f g = absurd (let z : option_map meaning None ≡ Some m = subst (λ o. option_map meaning o ≡ Some m) f g in cc)
      by (Some t) f g = subst k.proper (ap (λ (r : chart.Row M C). r.cover) s.is) (proper_row i s.source t s.at f)

get_there : {A : Type 0} (xs : List A) (i : ℕ) (x : A) → slice_get xs i ≡ Some x → (i < length xs) × (get_or xs i x ≡ x)
get_there [] i x e = absurd (cc)
get_there (y ∷ ys) zero x e = (omega arith, cc)
get_there (y ∷ ys) (suc i) x e = let r = get_there ys i x e in (omega (arith, r.0), r.1)

-- one more of a front
pub mapped_next : {A B : Type 0} (f : A → B) (xs : List A) (i : ℕ) (x : A) (y : B) (old new : List B) → slice_get xs i ≡ Some x → old ≡ map f (take i xs) → y ≡ f x → new ≡ old ++ y ∷ [] →
    new ≡ map f (take (i + 1) xs)
mapped_next f xs i x y old new at before is after =
    let there = get_there xs i x at in
    let front = take_more xs i x there.0 ∙ ap (λ z. take i xs ++ z ∷ []) there.1 in
    after ∙ ap (λ zs. zs ++ y ∷ []) before ∙ ap (λ z. map f (take i xs) ++ z ∷ []) is ∙ sym (ap (map f) front ∙ map_append f (take i xs) (x ∷ []))
