-- Numbers of places, and words by them.
use Rattle.std.specs.Prelude.{ℕ, ◌≡◌, ◌<◌, ◌≤◌, ◌==◌, ◌+◌, ◌⊎◌, true, false, Result, Ok, Err, List, [], ◌∷◌, length}
use Rattle.std.specs.List.{range_with_len}
use Rattle.std.specs.List.Sorted.{IsBinarySearchResult}
use Rattle.std.specs.Ordering.{nat_cmp}
use Rattle.std.specs.Result.{MatchResult}
use Rattle.std.proofs.Common.{inl, inr, refl, sym, ◌∙◌, ap, subst, zero, suc, arith}
use Rattle.std.proofs.lemmas.Bool.{cases_lt}
use Rattle.std.proofs.lemmas.List.Sorted.{searched}
use Rattle.chart_model.specs.At.{At, here, there, at_found, at_below}
use Rattle.lexicon.specs.Words.{Word, Has}
use Rattle.lexicon.specs.Entries.{EntryTree, HasNumber}
use Rattle.morph_analysis.proofs.Lists.{bools, same_eq, eq_same}
use Rattle.lexical_items.specs.Places.{place_in}
use Rattle.lexical_items.specs.Said.{number_in}
use Rattle.lexical_items.proofs.Lists.{place_at, at_has, range_has}
use Rattle.lexical_items.proofs.Saying.{are_said}
use Rattle.lexical_items.proofs.Spelled.{one_entry}
use Rattle.tree_faults.specs.declared.word_book.WordBook.{WordBook}
use Rattle.tree_faults.specs.WordBooks.{Rise, IsWordBook, said_by}

-- a place is no less than its number
pub at_least : (xs : List ℕ) → Rise xs → (n p : ℕ) → At xs n p → n ≤ p
at_least xs r zero p a = omega arith
at_least xs r (suc n) p a =
    let inside = at_below a in
    let q = at_found xs n (omega (arith, inside)) in
    let low = at_least xs r n q.0 q.1 in
    let up = r n (suc n) q.0 p q.1 a (omega arith) in
    omega (arith, low, up)

rising : (xs : List ℕ) → Rise xs → (i j : ℕ) → i ≤ j → j < length xs → place_in xs i ≤ place_in xs j
rising xs r i j le lt =
    let a = at_found xs i (omega (arith, le, lt)) in
    let b = at_found xs j lt in
    by_case a b (cases_lt i j)
  where
    by_case : (p : ℕ) × At xs i p → (q : ℕ) × At xs j q → (i < j) ⊎ (j ≤ i) → place_in xs i ≤ place_in xs j
    by_case a b (inl h) = let up = r i j a.0 b.0 a.1 b.1 h in let p = place_at a.1 in let q = place_at b.1 in omega (arith, up, p, q)
    by_case a b (inr h) = let e : i ≡ j = omega (arith, h, le) in let f : place_in xs i ≡ place_in xs j = ap (place_in xs) e in omega (arith, f)

-- what a binary search finds of a place that stands there
pub found : (xs : List ℕ) → Rise xs → (x n : ℕ) → At xs n x → (r : Result ℕ ℕ) → IsBinarySearchResult (λ y. nat_cmp y x) xs r → MatchResult r (λ i. At xs i x) (λ i. ⊥)
found xs r x n a (Ok i) h =
    let z = searched xs x (Ok i) h (rising xs r) in
    let b = at_found xs i z.0 in
    subst (At xs i) (sym (place_at b.1) ∙ z.1) b.1
found xs r x n a (Err i) h = by_case (searched xs x (Err i) h (rising xs r)) (cases_lt n i)
  where
    here_is : place_in xs n ≡ x
    here_is = place_at a

    by_case : (i ≤ length xs) × ((k : ℕ) → k < i → place_in xs k < x) × ((k : ℕ) → i ≤ k → k < length xs → x < place_in xs k) → (n < i) ⊎ (i ≤ n) → ⊥
    by_case z (inl l) = let below = z.1 n l in omega (arith, below, here_is)
    by_case z (inr l) = let above = z.2 n l (at_below a) in omega (arith, above, here_is)

tail_rises : {x : ℕ} {xs : List ℕ} → Rise (x ∷ xs) → Rise xs
tail_rises r n m p q a b h = r (suc n) (suc m) p q (there a) (there b) (omega (arith, h))

pub number_at : (places : List ℕ) → Rise places → {n p : ℕ} → At places n p → number_in places p ≡ n
number_at [] r a = elim a [ ]
number_at (x ∷ xs) r here = let e : (x == x) ≡ true = same_eq x x refl in rw e refl
number_at (x ∷ xs) r (there {x = p} {i = i} a) = by_case (number_at xs (tail_rises r) a) (bools (x == p))
  where
    by_case : number_in xs p ≡ i → ((x == p) ≡ true) ⊎ ((x == p) ≡ false) → number_in (x ∷ xs) p ≡ suc i
    by_case more (inl e) = let h = r 0 (suc i) x p here (there a) (omega arith) in let same = eq_same x p e in absurd (omega (arith, h, same))
    by_case more (inr e) = rw e (ap (λ n. n + 1) more ∙ omega arith)

module _ (b : WordBook) (h : IsWordBook b) where
  pub has_number : (n : ℕ) → n < length b.entries.now → HasNumber b.lexicon.now n
  has_number n lt =
      subst (Has n) (sym h.numbered.entries_are) (at_has (subst (λ m. At (range_with_len 0 (length b.entries.now)) n m) (let e : 0 + n ≡ n = omega arith in e) (range_has 0 (length b.entries.now) n lt)))

  -- the words by the number of a place are those that are said of it
  pub words_are : (n p : ℕ) → (m : ℕ) × At b.entries.now m p → n ≡ number_in b.entries.now p → (ws : List Word) → Has (record { number = n; words = ws }) b.lexicon.now → ws ≡ (said_by b).words_of p
  words_are n p at e ws has =
      let said = are_said b.entries.now b.rules.now b.lexicon.now b.spelling.now h.entries_rise h.rules_rise h.numbered in
      let same : n ≡ at.0 = e ∙ number_at b.entries.now h.entries_rise at.1 in
      ap (λ (x : EntryTree). x.words)
      (one_entry (length b.entries.now) b.lexicon.now h.numbered.entries_are (record { number = n; words = ws }) (record { number = at.0; words = (said_by b).words_of p }) has (said.words_are at.0 p at.1) same)
