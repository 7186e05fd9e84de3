-- A valid MRS is told apart from others, so it is enough to know that some proof of it exists.
use Rattle.std.specs.Prelude.{ℕ, ◌≡◌, ◌<◌, ◌⊎◌, List, [], ◌∷◌, length, slice_index_or}
use Rattle.std.specs.List.{Any}
use Rattle.std.proofs.Common.{zero, suc, refl, sym, ap, subst, arith, inl, inr, ⊎_elim}
use Rattle.std.proofs.Math.Logic.{∥∥₁_elim}
use Rattle.std.proofs.Props.{props}
use Rattle.std.proofs.lemmas.Bool.Decides.{eqb_tells}
use Rattle.mrs_model.specs.Meanings.{Filler, of_var, of_text, Meaning}
use Rattle.mrs_model.specs.Valid.{IsFiller, StandsIn, IsEnd, Stands, IsValid}

-- it holds or it doesn't
abbrev Told : Type 0 → Type 0
Told P = P ⊎ (P → ⊥)

same_told : (a b : ℕ) → Told (a ≡ b)
same_told a b = ⊎_elim (λ h. inl h.1) (λ h. inr h.1) (eqb_tells a b)

or_told : {P Q : Type 0} → Told P → Told Q → Told (P ⊎ Q)
or_told (inl p) q = inl (inl p)
or_told (inr n) (inl q) = inl (inr q)
or_told (inr n) (inr m) = inr (⊎_elim n m)

none_of : {X : Type 0} (P : X → Type 0) (x : X) (xs : List X) → (P x → ⊥) → (Any P xs → ⊥) → (k : ℕ) (y : X) → k < length (x ∷ xs) → slice_index_or (x ∷ xs) k y ≡ y → P y → ⊥
none_of P x xs n m zero y l e p = n (subst P (sym e) p)
none_of P x xs n m (suc k) y l e p = m (k, y, omega (arith, l), e, p)

any_told : {X : Type 0} (P : X → Type 0) → ((x : X) → Told (P x)) → (xs : List X) → Told (Any P xs)
any_told P t [] = inr (λ h. let l = h.2 in absurd (omega (arith, l)))
any_told {X} P t (x ∷ xs) = first (t x) (any_told P t xs)
  where
    first : Told (P x) → Told (Any P xs) → Told (Any P (x ∷ xs))
    first (inl p) more = inl (0, x, omega arith, refl, p)
    first (inr n) (inl h) = inl (suc h.0, h.1, (let l = h.2 in omega (arith, l)), h.3, h.4)
    first (inr n) (inr m) = inr (λ h. none_of P x xs n m h.0 h.1 h.2 h.3 h.4)

filler_told : (v : ℕ) (x : Filler) → Told (x ≡ of_var v)
filler_told v (of_text t) = inr (λ e. absurd (cc))
filler_told v (of_var w) = ⊎_elim (λ e. inl (ap of_var e)) (λ n. inr (λ e. n (cc))) (same_told w v)

stands_told : (m : Meaning) (v : ℕ) → Told (Stands m v)
stands_told m v =
    or_told (same_told m.top v) (or_told (same_told m.index v) (
    or_told (any_told (StandsIn v) (λ e. or_told (same_told e.label v) (any_told (λ a. a.filler ≡ of_var v) (λ a. filler_told v a.filler) e.args)) m.eps) (
    or_told (any_told (IsEnd v) (λ c. or_told (same_told c.left v) (same_told c.right v)) m.hcons) (any_told (IsEnd v) (λ c. or_told (same_told c.left v) (same_told c.right v)) m.icons))))

filler_prop : (vars : ℕ) (x : Filler) → IsProp (IsFiller vars x)
filler_prop vars (of_var v) = hlevel props
filler_prop vars (of_text t) = hlevel props

pub valid_of : (m : Meaning) → ∥ IsValid m ∥₁ → IsValid m
valid_of m h = record {
  top = ∥∥₁_elim h (hlevel props) (λ v. v.top);
  index = ∥∥₁_elim h (hlevel props) (λ v. v.index);
  vars = ∥∥₁_elim h (hlevel props) (λ v. v.vars);
  eps = ∥∥₁_elim h (hlevel (props, filler_prop)) (λ v. v.eps);
  hcons = ∥∥₁_elim h (hlevel props) (λ v. v.hcons);
  icons = ∥∥₁_elim h (hlevel props) (λ v. v.icons);
  standing = λ v l. by_told (stands_told m v) (λ n. ∥∥₁_elim h (hlevel props) (λ x. n (x.standing v l)));
}
  where
    by_told : {P : Type 0} → Told P → ((P → ⊥) → ⊥) → P
    by_told (inl p) k = p
    by_told (inr n) k = absurd (k n)
