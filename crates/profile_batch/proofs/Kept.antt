-- What is given for the items that the program keeps is given for the items that they say.
use Rattle.std.proofs.Common.{ℕ, suc, ◌≡◌, List, length, map, refl, ap}
use Rattle.side_by_side.specs.Works.{AreGiven, no_thing, a_thing}

module _ {T U O : Type 0} (said : T → U) (gives : ℕ → U → O → Type 0) where
  pub kept-given : (n : ℕ) (xs : List T) (ys : List O) → AreGiven (λ place x y. gives place (said x) y) n xs ys → AreGiven gives n (map said xs) ys
  kept-given _ _ _ (no_thing n) = no_thing n
  kept-given _ _ _ (a_thing n x xs y ys g more) = a_thing n (said x) (map said xs) y ys g (kept-given (suc n) xs ys more)

pub given-length : {T O : Type 0} (gives : ℕ → T → O → Type 0) (n : ℕ) (xs : List T) (ys : List O) → AreGiven gives n xs ys → length ys ≡ length xs
given-length gives _ _ _ (no_thing n) = refl
given-length gives _ _ _ (a_thing n x xs y ys g more) = ap suc (given-length gives (suc n) xs ys more)
