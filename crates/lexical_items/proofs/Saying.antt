-- What is said of words at a place.
use Rattle.std.specs.Prelude.{ℕ, ◌≡◌, ◌<◌, ◌==◌, ◌+◌, ◌⊎◌, true, false, List, [], ◌∷◌, length, map}
use Rattle.std.specs.List.{range_with_len}
use Rattle.std.proofs.Common.{inl, inr, refl, sym, ◌∙◌, ap, subst, zero, suc, arith}
use Rattle.lexicon.specs.Words as lists
use Rattle.chart_model.specs.At.{At, here, there, at_below}
use Rattle.lexicon.specs.Entries.{EntryTree}
use Rattle.spelling_rules.specs.Trees.{SpellingTree}
use Rattle.tree_model.specs.Lexical.{Words}
use Rattle.morph_analysis.proofs.Lists.{bools, same_eq, eq_same}
use Rattle.lexical_items.specs.Said.{AreNumbered, number_in, words_in, words_said}

-- what is said of words at the places of numbers
pub record AreSaid (entries rules : List ℕ) (lexicon : List EntryTree) (s : SpellingTree) (words : Words) : Type 0 where
  pub words_are : (n p : ℕ) → At entries n p → lists.Has (record { number = n; words = words.words_of p }) lexicon
  pub spelling_is : words.spelling ≡ s
  pub numbers_are : (n p : ℕ) → At rules n p → words.number_of p ≡ n

-- places that rise
abbrev pub AreRising : List ℕ → Type 0
AreRising places = (n m p q : ℕ) → At places n p → At places m q → n < m → p < q

tail_rising : {x : ℕ} {xs : List ℕ} → AreRising (x ∷ xs) → AreRising xs
tail_rising r n m p q a b h = r (suc n) (suc m) p q (there a) (there b) (omega (arith, h))

number_at : (places : List ℕ) → AreRising places → {n p : ℕ} → At places n p → number_in places p ≡ n
number_at [] r a = elim a [ ]
number_at (x ∷ xs) r here = let e : (x == x) ≡ true = same_eq x x refl in rw e refl
number_at (x ∷ xs) r (there {x = p} {i = i} a) = by_case (number_at xs (tail_rising r) a) (bools (x == p))
  where
    by_case : number_in xs p ≡ i → ((x == p) ≡ true) ⊎ ((x == p) ≡ false) → number_in (x ∷ xs) p ≡ suc i
    by_case more (inl e) = let h = r 0 (suc i) x p here (there a) (omega arith) in let same = eq_same x p e in absurd (omega (arith, h, same))
    by_case more (inr e) = rw e (ap (λ n. n + 1) more ∙ omega arith)

entry_in : (xs : List EntryTree) (b k n : ℕ) → map (λ e. e.number) xs ≡ range_with_len b k → n < k → lists.Has (record { number = b + n; words = words_in xs (b + n) }) xs
entry_in [] b zero n e h = absurd (omega (arith, h))
entry_in [] b (suc k) n e h = absurd (cc)
entry_in (x ∷ xs) b zero n e h = absurd (omega (arith, h))
entry_in (x ∷ xs) b (suc k) n e h = by_case (λ m others l. entry_in xs (b + 1) k m others l) (bools (x.number == b + n))
  where
    first : x.number ≡ b
    first = cc

    others : map (λ e. e.number) xs ≡ range_with_len (b + 1) k
    others = cc

    by_rest : ((m : ℕ) → map (λ e. e.number) xs ≡ range_with_len (b + 1) k → m < k → lists.Has (record { number = b + 1 + m; words = words_in xs (b + 1 + m) }) xs) → (m : ℕ) → n ≡ m → (x.number == b + n) ≡ false → lists.Has (record { number = b + n; words = words_in xs (b + n) }) xs
    by_rest go zero q f = absurd (let t : (x.number == b + n) ≡ true = same_eq x.number (b + n) (first ∙ omega (arith, q)) in let z : true ≡ false = sym t ∙ f in cc)
    by_rest go (suc m) q f =
        let e : b + 1 + m ≡ b + n = omega (arith, q) in
        subst (λ i. lists.Has (record { number = i; words = words_in xs i }) xs) e (go m others (omega (arith, h, q)))

    by_case : ((m : ℕ) → map (λ e. e.number) xs ≡ range_with_len (b + 1) k → m < k → lists.Has (record { number = b + 1 + m; words = words_in xs (b + 1 + m) }) xs) → ((x.number == b + n) ≡ true) ⊎ ((x.number == b + n) ≡ false) → lists.Has (record { number = b + n; words = words_in (x ∷ xs) (b + n) }) (x ∷ xs)
    by_case go (inl t) = rw t (inl (λ i. record { number = sym (eq_same x.number (b + n) t) i; words = x.words }))
    by_case go (inr f) =
        let e : words_in (x ∷ xs) (b + n) ≡ words_in xs (b + n) = rw f refl in
        inr (subst (λ ws. lists.Has (record { number = b + n; words = ws }) xs) (sym e) (by_rest go n refl f))

pub are_said : (entries rules : List ℕ) (lexicon : List EntryTree) (s : SpellingTree) → AreRising entries → AreRising rules → AreNumbered entries rules lexicon s → AreSaid entries rules lexicon s (words_said entries rules lexicon s)
are_said entries rules lexicon s p q numbered = record {
  words_are = λ n place a.
      let e : number_in entries place ≡ n = number_at entries p a in
      subst (λ i. lists.Has (record { number = n; words = words_in lexicon i }) lexicon) (sym e)
      (subst (λ i. lists.Has (record { number = i; words = words_in lexicon i }) lexicon) (let z : 0 + n ≡ n = omega arith in z) (entry_in lexicon 0 (length entries) n numbered.entries_are (at_below a)));
  spelling_is = refl;
  numbers_are = λ n place a. number_at rules q a;
}
