-- Lists under the remainders of a key.
use Rattle.std.specs.Prelude.{◌≡◌, ℕ, ◌<◌, Some, List, [], ◌∷◌, length, map, slice_get, slice_set, slice_index_or, All}
use Rattle.std.proofs.Common.{refl, ap, sym, ◌∙◌, arith, zero, suc}
use Rattle.chart_core.specs.Lists.{list_at}

module _ {V : Type 0} (f : V → List ℕ) where
  pub list_here : (vs : List V) (i : ℕ) (v : V) → i < length vs → v ≡ slice_index_or vs i v → list_at (map f vs) i ≡ f v
  list_here [] i v l e = absurd (omega arith)
  list_here (w ∷ vs) zero v l e = ap f (sym e)
  list_here (w ∷ vs) (suc i) v l e = list_here vs i v (omega arith) e

  pub set_list : (vs : List V) (i : ℕ) (w : V) (xs : List ℕ) → f w ≡ xs → map f (slice_set vs i w) ≡ slice_set (map f vs) i xs
  set_list [] i w xs e = refl
  set_list (v ∷ vs) zero w xs e = ap (λ ys. ys ∷ map f vs) e
  set_list (v ∷ vs) (suc i) w xs e = ap (λ ys. f v ∷ ys) (set_list vs i w xs e)

  pub set_same : (vs : List V) (i : ℕ) (v w : V) → i < length vs → v ≡ slice_index_or vs i v → f w ≡ f v → map f (slice_set vs i w) ≡ map f vs
  set_same [] i v w l e h = refl
  set_same (u ∷ vs) zero v w l e h = ap (λ ys. ys ∷ map f vs) (h ∙ ap f e)
  set_same (u ∷ vs) (suc i) v w l e h = ap (λ ys. f u ∷ ys) (set_same vs i v w (omega arith) e h)

pub get_set : {V : Type 0} (vs : List V) (i : ℕ) (w : V) → i < length vs → slice_get (slice_set vs i w) i ≡ Some w
get_set [] i w l = absurd (omega arith)
get_set (v ∷ vs) zero w l = refl
get_set (v ∷ vs) (suc i) w l = get_set vs i w (omega arith)

pub get_here : {A : Type 0} (xs : List A) (i : ℕ) (x : A) → i < length xs → x ≡ slice_index_or xs i x → slice_get xs i ≡ Some x
get_here [] i x l e = absurd (omega arith)
get_here (y ∷ xs) zero x l e = ap Some (sym e)
get_here (y ∷ xs) (suc i) x l e = get_here xs i x (omega arith) e

map_next : {V : Type 0} (f : V → List ℕ) (v : V) (vs : List V) → f v ≡ [] → All (λ xs. xs ≡ []) (map f vs) → (k : ℕ) (d : List ℕ) → k < length (map f (v ∷ vs)) → slice_index_or (map f (v ∷ vs)) k d ≡ []
map_next f v vs e h zero d l = e
map_next f v vs e h (suc k) d l = h k d (omega arith)

pub all_map : {V : Type 0} (f : V → List ℕ) (vs : List V) → All (λ v. f v ≡ []) vs → All (λ xs. xs ≡ []) (map f vs)
all_map f [] h = λ k d l. absurd (omega arith)
all_map f (v ∷ vs) h = map_next f v vs (h 0 v (omega arith)) (all_map f vs (λ j e q. h (suc j) e (omega arith)))
