-- An element fits by its predicate, its label and its roles.
use Rattle.std.proofs.Common.{◌≡◌, ℕ, ◌⊎◌, ◌∙◌, Bool, true, false, List, refl, ap, sym, subst, Some, Option}
use Rattle.std.specs.Prelude.{IfSome, slice_index, not}
use Rattle.std.specs.Bool.{OnTrue, OnFalse}
use Rattle.std.specs.Str.{bytes_eq}
use Rattle.std.proofs.lemmas.Bool.{false≢true}
use Rattle.std.proofs.lemmas.Slice.Eq.{bytes_eq-Decides}
use Rattle.std.specs.List.{Any}
use Rattle.mrs_model.specs.Meanings.{Variable, Argument, Predication, of_var}
use Rattle.transfer_model.specs.Rules.{Element, StandsAt}
use Rattle.transfer_model.specs.Sites.{Fits}
use Rattle.mrs_transfer.specs.declared.bound.Pair.{Pair}
use Rattle.mrs_transfer.specs.Inner.Matching.{Narrows, Refuses}
use Rattle.mrs_transfer.proofs.Binding.{narrows_as, refuses_as, refuses_none, narrows_both, narrows_refused}
use Rattle.mrs_transfer.proofs.Roles.{AreFilled}

-- a label, if it is written
abbrev pub HasLabel : Option ℕ → ℕ → List ℕ → Type 0
HasLabel o v vars = IfSome o (λ c. slice_index vars c ≡ v)

pub fits_narrows : (all : List Variable) (letters : List (List ℕ)) (x : Element) (e : Predication) (old mid new : List Pair) → e.pred ≡ x.pred → Narrows all letters (HasLabel x.label e.label) (λ c. x.label ≡ Some c) old mid
    → Narrows all letters (AreFilled e.args x.args) (λ c. Any (λ a. a.filler ≡ of_var c) x.args) mid new → Narrows all letters (λ vars. Fits vars x e) (λ c. StandsAt c x) old new
fits_narrows all letters x e old mid new p a b =
    narrows_as all letters (λ vars. HasLabel x.label e.label vars × AreFilled e.args x.args vars) (λ vars. Fits vars x e) (λ c. (x.label ≡ Some c) ⊎ Any (λ a. a.filler ≡ of_var c) x.args) (λ c. StandsAt c x) old new
    (λ vars. (λ h. record { pred = p; label = h.0; args = h.1 }, λ h. (h.label, h.args))) (λ c w. w)
    (narrows_both all letters (HasLabel x.label e.label) (AreFilled e.args x.args) (λ c. x.label ≡ Some c) (λ c. Any (λ a. a.filler ≡ of_var c) x.args) old mid new a b)

pub fits_other_pred : (all : List Variable) (letters : List (List ℕ)) (x : Element) (e : Predication) (a : List Pair) → (x.pred ≡ e.pred → ⊥) → Refuses all letters (λ vars. Fits vars x e) a a
fits_other_pred all letters x e a differ = refuses_none all letters (λ vars. Fits vars x e) a (λ vars h. differ (sym h.pred))

pub fits_other_roles : (all : List Variable) (letters : List (List ℕ)) (x : Element) (e : Predication) (old mid new : List Pair) → Narrows all letters (HasLabel x.label e.label) (λ c. x.label ≡ Some c) old mid → Refuses all letters (AreFilled e.args x.args) mid new → Refuses all letters (λ vars. Fits vars x e) old new
fits_other_roles all letters x e old mid new a n =
    refuses_as all letters (λ vars. HasLabel x.label e.label vars × AreFilled e.args x.args vars) (λ vars. Fits vars x e) old new (λ vars h. (h.label, h.args))
    (narrows_refused all letters (HasLabel x.label e.label) (AreFilled e.args x.args) (λ c. x.label ≡ Some c) old mid new a n)

pub fits_yes : (all : List Variable) (letters : List (List ℕ)) (x : Element) (e : Predication) (ws es : List Argument) (old mid new : List Pair) (b : Bool) → ws ≡ x.args → es ≡ e.args → e.pred ≡ x.pred → Narrows all letters (HasLabel x.label e.label) (λ c. x.label ≡ Some c) old mid
    → OnTrue b (Narrows all letters (AreFilled es ws) (λ c. Any (λ a. a.filler ≡ of_var c) ws) mid new) → OnTrue b (Narrows all letters (λ vars. Fits vars x e) (λ c. StandsAt c x) old new)
fits_yes all letters x e ws es old mid new true f g p a h = fits_narrows all letters x e old mid new p a
    (subst (λ (z : List Argument). Narrows all letters (AreFilled z x.args) (λ c. Any (λ y. y.filler ≡ of_var c) x.args) mid new) g (subst (λ (z : List Argument). Narrows all letters (AreFilled es z) (λ c. Any (λ y. y.filler ≡ of_var c) z) mid new) f h))
fits_yes all letters x e ws es old mid new false f g p a h = tt

pub fits_no : (all : List Variable) (letters : List (List ℕ)) (x : Element) (e : Predication) (ws es : List Argument) (old mid new : List Pair) (b : Bool) → ws ≡ x.args → es ≡ e.args → Narrows all letters (HasLabel x.label e.label) (λ c. x.label ≡ Some c) old mid
    → OnFalse b (Refuses all letters (AreFilled es ws) mid new) → OnFalse b (Refuses all letters (λ vars. Fits vars x e) old new)
fits_no all letters x e ws es old mid new true f g a h = tt
fits_no all letters x e ws es old mid new false f g a h = fits_other_roles all letters x e old mid new a
    (subst (λ (z : List Argument). Refuses all letters (AreFilled z x.args) mid new) g (subst (λ (z : List Argument). Refuses all letters (AreFilled es z) mid new) f h))

-- predicates that were compared
pub differs : (s t : List ℕ) → not (bytes_eq s t) ≡ true → s ≡ t → ⊥
differs s t e h = false≢true (sym (ap not ((bytes_eq-Decides s t).1 h)) ∙ e)

not_false : (b : Bool) → not b ≡ false → b ≡ true
not_false true e = refl
not_false false e = sym e

pub agrees : (s t : List ℕ) → not (bytes_eq s t) ≡ false → t ≡ s
agrees s t e = sym ((bytes_eq-Decides s t).0 (not_false (bytes_eq s t) e))
