-- What an element writes is filled with what is there.
use Rattle.std.proofs.Common.{◌≡◌, ℕ, Bool, true, false, List, [], ap, sym, subst, ◌∙◌}
use Rattle.std.specs.Prelude.{⊤}
use Rattle.std.specs.Bool.{OnTrue, OnFalse}
use Rattle.std.specs.Str.{bytes_eq}
use Rattle.std.proofs.lemmas.Bool.{false≢true}
use Rattle.std.proofs.lemmas.Slice.Eq.{bytes_eq-Decides}
use Rattle.mrs_model.specs.Meanings.{Variable, Filler, of_var, of_text}
use Rattle.mrs_model.specs.Renaming.{renamed_filler}
use Rattle.mrs_transfer.specs.declared.bound.Pair.{Pair}
use Rattle.mrs_transfer.specs.Inner.Matching.{ArePairs, Narrows, Refuses}
use Rattle.mrs_transfer.proofs.Binding.{narrows_as, narrows_none, refuses_none}

abbrev IsVar : Filler → Type 0
IsVar (of_var v) = ⊤
IsVar (of_text t) = ⊥

abbrev text_in : Filler → List ℕ
text_in (of_var v) = []
text_in (of_text t) = t

not_text : (v : ℕ) (t : List ℕ) → of_var v ≡ of_text t → ⊥
not_text v t e = subst IsVar e tt

-- two texts that were compared
pub text_yes : (all : List Variable) (letters : List (List ℕ)) (f g : Filler) (s t : List ℕ) (a : List Pair) (b : Bool) → f ≡ of_text s → g ≡ of_text t → b ≡ bytes_eq s t → ArePairs all letters a → OnTrue b (Narrows all letters (λ vars. renamed_filler vars f ≡ g) (λ d. f ≡ of_var d) a a)
text_yes all letters f g s t a true e h q p =
    let i : s ≡ t = (bytes_eq-Decides s t).0 (sym q) in
    narrows_as all letters (λ vars. ⊤) (λ vars. renamed_filler vars f ≡ g) (λ d. ⊥) (λ d. f ≡ of_var d) a a (λ vars. (λ u. ap (λ (y : Filler). renamed_filler vars y) e ∙ (ap of_text i ∙ sym h), λ u. tt)) (λ d w. not_text d s (sym w ∙ e)) (narrows_none all letters a p)
text_yes all letters f g s t a false e h q p = tt

pub text_no : (all : List Variable) (letters : List (List ℕ)) (f g : Filler) (s t : List ℕ) (a : List Pair) (b : Bool) → f ≡ of_text s → g ≡ of_text t → b ≡ bytes_eq s t → OnFalse b (Refuses all letters (λ vars. renamed_filler vars f ≡ g) a a)
text_no all letters f g s t a true e h q = tt
text_no all letters f g s t a false e h q = refuses_none all letters (λ vars. renamed_filler vars f ≡ g) a
    (λ vars p. let i : s ≡ t = ap text_in (sym (ap (λ (y : Filler). renamed_filler vars y) e) ∙ (p ∙ h)) in false≢true (q ∙ (bytes_eq-Decides s t).1 i))
