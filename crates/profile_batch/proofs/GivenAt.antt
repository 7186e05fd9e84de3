-- What is given of items, one of them in place of another, or one more.
use Rattle.std.proofs.Common.{suc, ◌≡◌, ℕ, ◌+◌, ◌<◌, ◌≤◌, ◌∙◌, subst, List, [], ◌∷◌, ◌++◌, length, take, get_or, set, arith}
use Rattle.std.proofs.lemmas.List.{length-take-le, take_all}
use Rattle.side_by_side.specs.Works.{AreGiven}
use Rattle.endings.proofs.ToldLines.{given-set, given-more}
use Rattle.profile_batch.proofs.Kept.{given-length}

module _ {T O : Type 0} (gives : ℕ → T → O → Type 0) (xs : List T) (ys : List O) where
  -- there is one for each
  pub within : (i : ℕ) → AreGiven gives 0 xs ys → i < length xs → i < length ys
  within i given h = let long = given-length gives 0 xs ys given in omega (arith, long, h)

  pub set-at : (i : ℕ) (x : T) (y : O) → AreGiven gives 0 xs ys → i < length xs → get_or xs i x ≡ x → gives i x y → AreGiven gives 0 xs (set ys i y)
  set-at i x y given h e g = given-set gives 0 xs ys i x y i given h e (omega arith) g

  -- of the first of them
  pub long-at : (i : ℕ) → AreGiven gives 0 (take i xs) ys → i < length xs → length ys ≡ i
  long-at i given h = given-length gives 0 (take i xs) ys given ∙ length-take-le i xs (omega (arith, h))

  pub more-at : (i : ℕ) (x : T) (y : O) → AreGiven gives 0 (take i xs) ys → i < length xs → get_or xs i x ≡ x → gives i x y → AreGiven gives 0 (take (i + 1) xs) (ys ++ y ∷ [])
  more-at i x y given h e g =
      let next : suc i ≡ i + 1 = omega arith in
      subst (λ k. AreGiven gives 0 (take k xs) (ys ++ y ∷ [])) next (given-more gives 0 xs ys i x y i given h e (omega arith) g)

  pub whole-at : (i : ℕ) → AreGiven gives 0 (take i xs) ys → length xs ≤ i → AreGiven gives 0 xs ys
  whole-at i given e = subst (λ zs. AreGiven gives 0 zs ys) (take_all i xs e) given
