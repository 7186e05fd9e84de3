-- Lists that are taken from their end, last first.
use Rattle.std.proofs.Common.{◌≡◌, ◌∙◌, ℕ, ◌+◌, List, [], ◌∷◌, ◌++◌, length, length-append, map, reverse, take, refl, ap, sym, append_assoc, arith}
use Rattle.chart_core.proofs.Reversed.{reverse_last}

module _ {A : Type 0} where
  pub one_longer : (l l' : List A) (x : A) → l' ≡ l ++ x ∷ [] → length l' ≡ length l + 1
  one_longer l l' x is = let n = ap (λ (k : List A). length k) is in let m = length-append l (x ∷ []) in omega arith

  take_all : (l m : List A) → take (length l) (l ++ m) ≡ l
  take_all [] m = refl
  take_all (x ∷ xs) m = ap (λ l. x ∷ l) (take_all xs m)

  -- a list that was written over the first of another
  pub written : (l m : List A) (n : ℕ) → length l ≡ n → take n (l ++ m) ≡ l
  written l m n is = ap (λ (k : ℕ). take k (l ++ m)) (sym is) ∙ take_all l m

module _ {A B : Type 0} (f : A → B) where
  pub map_more : (xs ys : List A) → map f (xs ++ ys) ≡ map f xs ++ map f ys
  map_more [] ys = refl
  map_more (x ∷ xs) ys = ap (λ l. f x ∷ l) (map_more xs ys)

  -- an element more of the list that is made, and one less of the list that is taken
  pub one_made : (made made' : List A) (taken taken' : List B) (all : List B) (x : A) (y : B) → made' ≡ made ++ x ∷ [] → taken ≡ taken' ++ y ∷ [] → f x ≡ y → map f made ++ reverse taken ≡ all → map f made' ++ reverse taken' ≡ all
  one_made made made' taken taken' all x y more less same is =
      ap (λ l. map f l ++ reverse taken') more ∙ ap (λ l. l ++ reverse taken') (map_more made (x ∷ [])) ∙ append_assoc (map f made) (f x ∷ []) (reverse taken') ∙ ap (λ z. map f made ++ z ∷ reverse taken') same
      ∙ ap (λ l. map f made ++ l) (sym (reverse_last taken taken' y less)) ∙ is

  pub one_taken : (made made' : List B) (taken taken' : List A) (all : List B) (x : A) → made' ≡ made ++ f x ∷ [] → taken ≡ taken' ++ x ∷ [] → made ++ map f (reverse taken) ≡ all → made' ++ map f (reverse taken') ≡ all
  one_taken made made' taken taken' all x more less is =
      ap (λ l. l ++ map f (reverse taken')) more ∙ append_assoc made (f x ∷ []) (map f (reverse taken')) ∙ ap (λ l. made ++ map f l) (sym (reverse_last taken taken' x less)) ∙ is
