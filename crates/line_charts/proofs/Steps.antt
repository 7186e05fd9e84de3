-- What loops over daughters, rows and hosts add.
use Rattle.std.specs.Prelude.{◌≡◌, ℕ, ◌+◌, ◌<◌, Option, Some, None, List, [], ◌∷◌, ◌++◌, length, map, slice_get, refl}
use Rattle.std.proofs.Common.{◌∙◌, ap, sym, subst, take, get_or, append_assoc, append-nil}
use Rattle.std.proofs.lemmas.List.{take_more, map-append}
use Rattle.chart_model.specs.Calculus.{Along}
use Rattle.chart_model.specs.Tuples.{on_list}
use Rattle.chart_core.specs.declared.Daughters.{Daughters}
use Rattle.chart_core.specs.View.{number_of, one_of, list_of}
use Rattle.line_charts.specs.Inner.Stages.{IsNumber}
use Rattle.line_charts.proofs.Lists.{along_snoc}

on_one : (o : Option ℕ) (xs : List ℕ) → on_list o xs ≡ on_list o [] ++ xs
on_one None xs = refl
on_one (Some x) xs = refl

-- the daughters, one after the other
pub in_turn : (d : Daughters) → list_of d ≡ ((one_of d.a ++ one_of d.b) ++ one_of d.c) ++ one_of d.d
in_turn d =
    let x = number_of d.a in
    on_one (number_of d.a) _ ∙ ap (λ r. one_of d.a ++ r) (on_one (number_of d.b) _ ∙ ap (λ r. one_of d.b ++ r) (on_one (number_of d.c) _))
    ∙ sym (append_assoc (one_of d.a) (one_of d.b) (one_of d.c ++ one_of d.d)) ∙ sym (append_assoc (one_of d.a ++ one_of d.b) (one_of d.c) (one_of d.d))

pub number_added : (table old new ds : List ℕ) (row n : ℕ) → new ≡ old ++ n ∷ [] → slice_get table row ≡ Some n → Along (IsNumber table) old ds → Along (IsNumber table) new (ds ++ row ∷ [])
number_added table old new ds row n e is h = subst (λ ns. Along (IsNumber table) ns (ds ++ row ∷ [])) (sym e) (along_snoc n row h is)

pub none_added : (table old ds : List ℕ) → Along (IsNumber table) old ds → Along (IsNumber table) old (ds ++ [])
none_added table old ds h = subst (Along (IsNumber table) old) (sym (append-nil ds)) h

-- one element more of a list, on both sides
module _ {X A B Y : Type 0} (R : A → B → Type 0) (f : X → A) (g : Y → B) where
  pub told_next : (xs : List X) (i : ℕ) (x : X) (old new : List Y) (y : Y) → i < length xs → x ≡ get_or xs i x → new ≡ old ++ y ∷ [] → R (f x) (g y) → Along R (map f (take i xs)) (map g old) → Along R (map f (take (i + 1) xs)) (map g new)
  told_next xs i x old new y low is e r h =
      let more : map f (take (i + 1) xs) ≡ map f (take i xs) ++ f x ∷ [] = ap (map f) (take_more xs i x low ∙ ap (λ z. take i xs ++ z ∷ []) (sym is)) ∙ map-append f (take i xs) (x ∷ []) in
      let told : map g new ≡ map g old ++ g y ∷ [] = ap (map g) e ∙ map-append g old (y ∷ []) in
      subst (λ zs. Along R zs (map g new)) (sym more) (subst (Along R (map f (take i xs) ++ f x ∷ [])) (sym told) (along_snoc (f x) (g y) h r))

pub same_map : {A : Type 0} (xs : List A) → map (λ x. x) xs ≡ xs
same_map [] = refl
same_map (x ∷ xs) = ap (λ ys. x ∷ ys) (same_map xs)
