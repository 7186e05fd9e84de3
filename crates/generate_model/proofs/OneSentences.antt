-- A set of trees has one list of sentences.
use Rattle.std.specs.Prelude.{◌≡◌, ◌⊎◌, List, [], ◌∷◌}
use Rattle.std.specs.declared.cmp.Ordering.{Ordering}
use Rattle.std.specs.declared.cmp.Ordering.TheVariants.{Less, Equal, Greater}
use Rattle.std.specs.Ordering.{nat_cmp, ordering_reverse}
use Rattle.std.specs.Cmp.Lexicographic.{slice_cmp, nat_list_cmp_total}
use Rattle.std.proofs.Common.{refl, sym, ◌∙◌, ap, subst, inl, inr}
use Rattle.fs_model.specs.Claims.{Has, here, there}
use Rattle.derivation.specs.Trees.{Derivation}
use Rattle.derivation.specs.Order.{compare_trees}
use Rattle.derivation.proofs.Total.{trees_total, trees_tie}
use Rattle.tree_model.specs.Lexical.{Word}
use Rattle.generate_model.specs.Sentences.{Sentence, AreSentences, TextsRise, texts_none, texts_one, texts_more}

before : Sentence → Sentence → Ordering
before s u = slice_cmp nat_cmp s.text u.text

after : {s u : Sentence} {ss : List Sentence} → TextsRise (s ∷ ss) → Has u ss → slice_cmp nat_cmp s.text u.text ≡ Less
after texts_one h = elim h [ ]
after (texts_more l o) here = l
after {s} {u} (texts_more {u = v} l o) (there h) = nat_list_cmp_total.trans s.text v.text u.text l (after o h)

rest : {s : Sentence} {ss : List Sentence} → TextsRise (s ∷ ss) → TextsRise ss
rest texts_one = texts_none
rest (texts_more l o) = o

not_both : (x y : Word) → slice_cmp nat_cmp x y ≡ Less → slice_cmp nat_cmp y x ≡ Less → ⊥
not_both x y h k = let e = nat_list_cmp_total.antisymm x y in let f : slice_cmp nat_cmp x y ≡ Greater = e ∙ ap ordering_reverse k in cc

first_or : {s u : Sentence} {us : List Sentence} → Has s (u ∷ us) → (s ≡ u) ⊎ Has s us
first_or here = inl refl
first_or (there h) = inr h

later : (s u : Sentence) (us : List Sentence) → Has s (u ∷ us) → slice_cmp nat_cmp u.text s.text ≡ Less → Has s us
later s u us h l = elim (first_or h) [ inl e ↦ absurd (let m = subst (λ (z : Sentence). slice_cmp nat_cmp u.text z.text ≡ Less) e l in not_both u.text u.text m m) | inr k ↦ k ]

one_list : (xs ys : List Sentence) → TextsRise xs → TextsRise ys → ((s : Sentence) → Has s xs → Has s ys) → ((s : Sentence) → Has s ys → Has s xs) → xs ≡ ys
one_list [] [] o p to back = refl
one_list [] (y ∷ ys) o p to back = elim (back y here) [ ]
one_list (x ∷ xs) [] o p to back = elim (to x here) [ ]
one_list (x ∷ xs) (y ∷ ys) o p to back = by_first (first_or (to x here)) (first_or (back y here)) (one_list xs ys (rest o) (rest p))
  where
    same : x ≡ y → (((s : Sentence) → Has s xs → Has s ys) → ((s : Sentence) → Has s ys → Has s xs) → xs ≡ ys) → x ∷ xs ≡ y ∷ ys
    same e k =
        let f = k (λ s h. later s y ys (to s (there h)) (subst (λ (z : Sentence). slice_cmp nat_cmp z.text s.text ≡ Less) e (after o h))) (λ s h. later s x xs (back s (there h)) (subst (λ (z : Sentence). slice_cmp nat_cmp z.text s.text ≡ Less) (sym e) (after p h))) in
        λ i. e i ∷ f i

    by_first : (x ≡ y) ⊎ Has x ys → (y ≡ x) ⊎ Has y xs → (((s : Sentence) → Has s xs → Has s ys) → ((s : Sentence) → Has s ys → Has s xs) → xs ≡ ys) → x ∷ xs ≡ y ∷ ys
    by_first (inl e) b k = same e k
    by_first (inr h) (inl e) k = same (sym e) k
    by_first (inr h) (inr m) k = absurd (not_both y.text x.text (after p h) (after o m))

-- a tree that isn't before or after another is that tree
tie : (t u : Derivation) → (compare_trees t u ≡ Less → ⊥) → (compare_trees u t ≡ Less → ⊥) → t ≡ u
tie t u h k = by_order (compare_trees t u) refl
  where
    by_order : (o : Ordering) → compare_trees t u ≡ o → t ≡ u
    by_order Less e = absurd (h e)
    by_order Equal e = (trees_tie t u).0 e
    by_order Greater e = absurd (k (trees_total.antisymm u t ∙ ap ordering_reverse e))

module _ {set : Derivation → Type 0} where
  lies : (xs ys : List Sentence) → AreSentences set xs → AreSentences set ys → (s : Sentence) → Has s xs → Has s ys
  lies xs ys a b s h =
      let x = a.each s h in
      let u = b.all s.tree x.is in
      let y = b.each u.0 u.1 in
      let text : u.0.text ≡ s.text = u.2 ∙ x.text in
      let tree : u.0.tree ≡ s.tree = tie u.0.tree s.tree (λ l. x.least u.0.tree y.is (y.text ∙ text) l) (λ l. y.least s.tree x.is (x.text ∙ sym text) l) in
      let same : u.0 ≡ s = λ i. record { text = text i; tree = tree i } in
      subst (λ z. Has z ys) same u.1

  pub one_sentences : (xs ys : List Sentence) → AreSentences set xs → AreSentences set ys → xs ≡ ys
  one_sentences xs ys a b = one_list xs ys a.rise b.rise (lies xs ys a b) (lies ys xs b a)
