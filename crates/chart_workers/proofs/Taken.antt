-- Lists that are taken from their end after they were reversed, so that another list is made of them in order.
use Rattle.std.proofs.Common.{◌≡◌, ◌∙◌, ℕ, zero, suc, ◌+◌, List, [], ◌∷◌, ◌++◌, length, length-append, map, reverse, refl, ap, sym, append_assoc, arith}
use Rattle.std.proofs.lemmas.List.{append-nil, length-map}
use mathlib.Core.Option.{some}
use lib.ListN.{get_elem?}
use Rattle.chart_core.proofs.Reversed.{reverse_last}

at_seam : {A : Type 0} (xs : List A) (y : A) (ys : List A) (n : ℕ) → length xs ≡ n → get_elem? (xs ++ y ∷ ys) n ≡ some y
at_seam [] y ys zero e = refl
at_seam [] y ys (suc n) e = absurd (omega arith)
at_seam (x ∷ xs) y ys zero e = absurd (omega arith)
at_seam (x ∷ xs) y ys (suc n) e = at_seam xs y ys n (omega arith)

pub one_longer : {A : Type 0} (l l' : List A) (x : A) → l' ≡ l ++ x ∷ [] → length l' ≡ length l + 1
one_longer l l' x is = let n = ap (λ (k : List _). length k) is in let m = length-append l (x ∷ []) in omega arith

module _ {A B : Type 0} (f : A → B) where
  map_more : (xs ys : List A) → map f (xs ++ ys) ≡ map f xs ++ map f ys
  map_more [] ys = refl
  map_more (x ∷ xs) ys = ap (λ l. f x ∷ l) (map_more xs ys)

  -- an element more of the list that is made, and one less of the list that is taken
  pub one_made : (made made' : List A) (taken taken' all : List B) (x : A) (y : B) → made' ≡ made ++ x ∷ [] → taken ≡ taken' ++ y ∷ [] → f x ≡ y → map f made ++ reverse taken ≡ all → map f made' ++ reverse taken' ≡ all
  one_made made made' taken taken' all x y more less same is =
      ap (λ l. map f l ++ reverse taken') more ∙ ap (λ l. l ++ reverse taken') (map_more made (x ∷ [])) ∙ append_assoc (map f made) (f x ∷ []) (reverse taken') ∙ ap (λ z. map f made ++ z ∷ reverse taken') same
      ∙ ap (λ l. map f made ++ l) (sym (reverse_last taken taken' y less)) ∙ is

  -- what is taken next
  pub next_there : (made : List A) (taken taken' all : List B) (y : B) → taken ≡ taken' ++ y ∷ [] → map f made ++ reverse taken ≡ all → get_elem? all (length made) ≡ some y
  next_there made taken taken' all y less is =
      ap (λ (l : List B). get_elem? l (length made)) (sym is) ∙ ap (λ (l : List B). get_elem? (map f made ++ l) (length made)) (reverse_last taken taken' y less) ∙ at_seam (map f made) y (reverse taken') (length made) (length-map made f)

  -- all is taken
  pub all_made : (made : List A) (taken all : List B) → taken ≡ [] → map f made ++ reverse taken ≡ all → map f made ≡ all
  all_made made taken all none is = sym (append-nil (map f made)) ∙ ap (λ (l : List B). map f made ++ reverse l) (sym none) ∙ is
