-- What is counted of several lines.
use Rattle.std.proofs.Common.{ℕ, suc, ◌≡◌, ◌∙◌, ◌||◌, List, [], ◌∷◌, map, Bool, true, false, refl, sym, ap, subst, All, Some}
use Rattle.std.specs.List.{slice_get}
use Rattle.std.proofs.lemmas.Option.{slice_get_within, get_or_from_slice_get}
use Rattle.tree_model.specs.Items.{Limits, Answer}
use Rattle.engine.specs.Speeches.{Speech}
use Rattle.side_by_side.specs.Works.{AreGiven, no_thing, a_thing}
use Rattle.self_tests.specs.declared.counts.Count.{Count}
use Rattle.self_tests.specs.declared.counts.Count.TheVariants.{Refused, NoMemory, Found}
use Rattle.self_tests.specs.Summaries.{lacks_memory, is_some_lacking}
use Rattle.self_tests.specs.Items.{count_of, IsItem, AreCounted, IsCountOrGap, a_count, a_gap, AreCountsOrGaps}
use Rattle.self_tests.specs.SelfTests.{gap_lines}
use Rattle.self_tests.specs.Inner.Counts.{IsCounted, MayBeCounted}

-- what holds of all things holds of the one at a place
pub all-at : {X : Type 0} (P : X → Type 0) (xs : List X) (k : ℕ) (x : X) → All P xs → slice_get xs k ≡ Some x → P x
all-at P xs k x all at = subst P (get_or_from_slice_get xs k x x at) (all k x (slice_get_within xs k x at))

module _ (s : Speech) (limits : Limits) (most : ℕ) where
  -- what is counted of the answer to a line
  pub may-be : (line : List ℕ) (count : Count) → IsCounted s limits most line count → MayBeCounted s limits most line count
  may-be line count is = subst (MayBeCounted s limits most line) (sym is.2) (a_count is.0 is.1)

  -- what is given of each of several things that hold a line is what is counted of these lines
  pub given-counted : {T : Type 0} (f : T → List ℕ) (n : ℕ) (things : List T) (counts : List Count)
      → AreGiven (λ place thing count. MayBeCounted s limits most (f thing) count) n things counts → AreCountsOrGaps s.signs s.words limits most (map f things) counts
  given-counted f _ _ _ (no_thing n) = tt
  given-counted f _ _ _ (a_thing n x xs y ys is more) = (is, given-counted f (suc n) xs ys more)

or-first : (a b : Bool) → (a || b) ≡ false → a ≡ false
or-first false b e = refl
or-first true b e = e

or-second : (a b : Bool) → (a || b) ≡ false → b ≡ false
or-second false b e = e
or-second true b e = cc

module _ (s : Speech) (limits : Limits) (most : ℕ) where
  answered : (line : List ℕ) (count : Count) → IsCountOrGap s.signs s.words limits most line count → lacks_memory count ≡ false → (answer : Answer) × IsItem s.signs s.words limits most line answer × (count ≡ count_of answer)
  answered line _ (a_count answer is) e = (answer, is, refl)
  answered line _ a_gap e = cc

  -- where memory was wanting for none, these are counted of the answers
  pub all-counted : (lines : List (List ℕ)) (counts : List Count) → AreCountsOrGaps s.signs s.words limits most lines counts → is_some_lacking counts ≡ false → AreCounted s.signs s.words limits most lines counts
  all-counted [] [] z e = record { answers = []; items = tt; counts_are = refl }
  all-counted [] (c ∷ cs) z e = absurd z
  all-counted (l ∷ ls) [] z e = absurd z
  all-counted (l ∷ ls) (c ∷ cs) z e =
      let a = answered l c z.0 (or-first (lacks_memory c) (is_some_lacking cs) e) in
      let rest = all-counted ls cs z.1 (or-second (lacks_memory c) (is_some_lacking cs) e) in
      record { answers = a.0 ∷ rest.answers; items = (a.1, rest.items); counts_are = ap (λ x. x ∷ cs) a.2 ∙ ap (λ xs. count_of a.0 ∷ xs) rest.counts_are }

-- and no item is told to lack it
pub no-gap-lines : (n : ℕ) (counts : List Count) → is_some_lacking counts ≡ false → gap_lines n counts ≡ []
no-gap-lines n [] e = refl
no-gap-lines n (Refused ∷ cs) e = no-gap-lines (suc n) cs e
no-gap-lines n (NoMemory ∷ cs) e = cc
no-gap-lines n (Found classes readings ∷ cs) e = no-gap-lines (suc n) cs e
