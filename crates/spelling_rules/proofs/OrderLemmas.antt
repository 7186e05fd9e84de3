-- Stems under one rule after another.
use Rattle.std.proofs.Common.{ℕ, zero, suc, ◌≡◌, ◌<◌, ◌+◌, ◌⊎◌, inl, inr, List, [], ◌∷◌, ◌++◌, length, map, refl, sym, ◌∙◌, ap, subst, arith}
use Rattle.std.specs.declared.cmp.Ordering.TheVariants.{Less}
use Rattle.lexicon.specs.Words.{Word, Has, Each, Rises, compared}
use Rattle.spelling_rules.specs.Trees.{SpellingTree}
use Rattle.spelling_rules.specs.Forms.{StemTree, IsBefore, AreInOrder, AreStems, AreStemsUnder, HasForm}
use Rattle.spelling_rules.specs.Inner.Keeping.{stem_under}
use Rattle.spelling_rules.proofs.Lists.{Has-left, Has-right, Has-either, Has-map}

each_append : {A : Type 0} (P : A → Type 0) (xs ys : List A) → Each P xs → Each P ys → Each P (xs ++ ys)
each_append P [] ys h k = k
each_append P (x ∷ xs) ys h k = (h.0, each_append P xs ys h.1 k)

-- a rule's stems in order
later_words : (rule : ℕ) (x : Word) (ws : List Word) → Each (λ y. compared x y ≡ Less) ws → Each (IsBefore (stem_under rule x)) (map (stem_under rule) ws)
later_words rule x [] h = tt
later_words rule x (w ∷ ws) h = (inr (refl, h.0), later_words rule x ws h.1)

words_in_order : (rule : ℕ) (ws : List Word) → Rises ws → AreInOrder (map (stem_under rule) ws)
words_in_order rule [] h = tt
words_in_order rule (w ∷ ws) h = (later_words rule w ws h.0, words_in_order rule ws h.1)

-- what has a smaller rule comes before them
before_words : (x : StemTree) (rule : ℕ) (ws : List Word) → x.rule < rule → Each (IsBefore x) (map (stem_under rule) ws)
before_words x rule [] h = tt
before_words x rule (w ∷ ws) h = (inl h, before_words x rule ws h)

joined_in_order : (xs : List StemTree) (rule : ℕ) (ws : List Word) → ((x : StemTree) → Has x xs → x.rule < rule) → AreInOrder xs → Rises ws → AreInOrder (xs ++ map (stem_under rule) ws)
joined_in_order [] rule ws small h r = words_in_order rule ws r
joined_in_order (x ∷ xs) rule ws small h r =
    (each_append (IsBefore x) xs (map (stem_under rule) ws) h.0 (before_words x rule ws (small x (inl refl))), joined_in_order xs rule ws (λ y k. small y (inr k)) h.1 r)

mapped : {A B : Type 0} (f : A → B) (y : B) (xs : List A) → Has y (map f xs) → (x : A) × Has x xs × (y ≡ f x)
mapped f y [] h = absurd h
mapped f y (x ∷ xs) (inl e) = (x, inl refl, e)
mapped f y (x ∷ xs) (inr h) = let r = mapped f y xs h in (r.0, inr r.1, r.2)

less_or_same : (a b : ℕ) → a < b + 1 → (a < b) ⊎ (a ≡ b)
less_or_same a zero h = inr (omega arith)
less_or_same zero (suc b) h = inl (omega arith)
less_or_same (suc a) (suc b) h = elim (less_or_same a b (omega arith)) [ inl k ↦ inl (omega arith) | inr e ↦ inr (ap (λ n. suc n) e) ]

-- one rule more
pub stems_more : (s : SpellingTree) (rule : ℕ) (form : Word) (old new : List StemTree) (ws : List Word) → new ≡ old ++ map (stem_under rule) ws → AreStems s rule form ws
    → AreStemsUnder s rule form old → AreStemsUnder s (rule + 1) form new
stems_more s rule form old new ws e mine h =
    record {
      have = λ x k. elim (Has-either x old (map (stem_under rule) ws) (subst (Has x) e k)) [ inl m ↦ before x (h.have x m) | inr m ↦ here x (mapped (stem_under rule) x ws m) ];
      all = λ x lt pos f. subst (Has x) (sym e) (elim (less_or_same x.rule rule lt) [ inl k ↦ Has-left x old _ (h.all x k pos f) | inr q ↦ Has-right x old _ (there x q pos f) ]);
      order = subst AreInOrder (sym e) (joined_in_order old rule ws (λ x m. (h.have x m).0) h.order mine.rise);
    }
  where
    before : (x : StemTree) → (x.rule < rule) × (0 < length x.stem) × HasForm s x.rule x.stem form → (x.rule < rule + 1) × (0 < length x.stem) × HasForm s x.rule x.stem form
    before x k = (omega (arith, k.0), k.1, k.2)

    here : (x : StemTree) → (w : Word) × Has w ws × (x ≡ stem_under rule w) → (x.rule < rule + 1) × (0 < length x.stem) × HasForm s x.rule x.stem form
    here x r =
        let is = mine.have r.0 r.1 in
        subst (λ y. (y.rule < rule + 1) × (0 < length y.stem) × HasForm s y.rule y.stem form) (sym r.2) (omega arith, is.0, is.1)

    there : (x : StemTree) → x.rule ≡ rule → 0 < length x.stem → HasForm s x.rule x.stem form → Has x (map (stem_under rule) ws)
    there x q pos f =
        let it : Has x.stem ws = mine.all x.stem pos (subst (λ n. HasForm s n x.stem form) q f) in
        subst (λ n. Has (stem_under n x.stem) (map (stem_under rule) ws)) (sym q) (Has-map (stem_under rule) x.stem ws it)

-- no rules have no stems
pub no_stems : (s : SpellingTree) (form : Word) (out : List StemTree) → out ≡ [] → AreStemsUnder s 0 form out
no_stems s form out e = subst (AreStemsUnder s 0 form) (sym e) (record { have = λ x h. absurd h; all = λ x lt. absurd (omega (arith, lt)); order = tt })
