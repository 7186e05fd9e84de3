-- Elements that go from one list to another, last first.
use Rattle.std.proofs.Common.{◌≡◌, ◌∙◌, ◌+◌, List, [], ◌∷◌, ◌++◌, length, length-append, map, reverse, refl, ap, sym, append_assoc, arith}
use Rattle.std.proofs.lemmas.List.{append-nil}
use Rattle.chart_core.proofs.Reversed.{reverse_last}

pub one_longer : {A : Type 0} (l l' : List A) (x : A) → l' ≡ l ++ x ∷ [] → length l' ≡ length l + 1
one_longer l l' x is = let n = ap (λ (k : List _). length k) is in let m = length-append l (x ∷ []) in omega arith

module _ {A B : Type 0} (f : A → B) where
  map_more : (xs ys : List A) → map f (xs ++ ys) ≡ map f xs ++ map f ys
  map_more [] ys = refl
  map_more (x ∷ xs) ys = ap (λ l. f x ∷ l) (map_more xs ys)

module _ {A B C : Type 0} (f : A → C) (g : B → C) where
  -- an element more of the list that is made, and one less of the list that is taken
  pub one_moved : (made made' : List A) (taken taken' : List B) (all : List C) (x : A) (y : B) → made' ≡ made ++ x ∷ [] → taken ≡ taken' ++ y ∷ [] → f x ≡ g y → map f made ++ map g (reverse taken) ≡ all → map f made' ++ map g (reverse taken') ≡ all
  one_moved made made' taken taken' all x y more less same is =
      ap (λ l. map f l ++ map g (reverse taken')) more ∙ ap (λ l. l ++ map g (reverse taken')) (map_more f made (x ∷ [])) ∙ append_assoc (map f made) (f x ∷ []) (map g (reverse taken')) ∙ ap (λ z. map f made ++ z ∷ map g (reverse taken')) same
      ∙ ap (λ l. map f made ++ map g l) (sym (reverse_last taken taken' y less)) ∙ is

  pub all_moved : (made : List A) (taken : List B) (all : List C) → taken ≡ [] → map f made ++ map g (reverse taken) ≡ all → map f made ≡ all
  all_moved made taken all none is = sym (append-nil (map f made)) ∙ ap (λ (l : List B). map f made ++ map g (reverse l)) (sym none) ∙ is
