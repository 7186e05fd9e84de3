-- Lists of chains in order: the same chains make one list.
use Rattle.std.proofs.Common.{ℕ, ◌≡◌, ◌⊎◌, ◌==◌, true, false, cond, inl, inr, List, [], ◌∷◌, map, String, string_bytes, string_cmp, refl, sym, ◌∙◌, ap, subst}
use Rattle.std.specs.declared.cmp.Ordering.{Ordering}
use Rattle.std.specs.declared.cmp.Ordering.TheVariants.{Less, Equal, Greater}
use Rattle.std.specs.Ordering.{ordering_reverse, ordering_then, nat_cmp}
use Rattle.std.specs.Global.{Global}
use Rattle.std.specs.Prelude.{nat_lt}
use Rattle.std.specs.List.{AllByRecursion}
use Rattle.std.specs.List.Sorted.{IsStrictlySortedBy}
use Rattle.std.specs.Cmp.Lexicographic.{slice_cmp}
use Rattle.lexicon.specs.Words.{Has, Each, compared}
use Rattle.lexicon.specs.Entries.{EntryTree}
use Rattle.spelling_rules.specs.Trees.{SpellingTree}
use Rattle.morph_analysis.proofs.Lists.{bools, eq_same, has_map, Has-map}
use Rattle.morph_analysis.proofs.AddLemmas.{chain_same}
use Rattle.morph_analysis.proofs.StepLemmas.{is_chain, chain_is}
use Rattle.morph_analysis.specs.declared.chain.Chain.{Chain}
use Rattle.morph_analysis.specs.declared.made.MadeChain.{MadeChain}
use Rattle.morph_analysis.specs.Views.{chain_of, made_of}
use Rattle.morph_analysis.specs.Made.{MadeTree, IsMadeChain, AreMadeChains}
use Rattle.morph_analysis.specs.Inner.Orders.{chain_total}
use Rattle.morph_analysis.specs.Allowed.{FeedsTree, IsAllowed}
use Rattle.morph_analysis.specs.Lattices.{LatticeTree}
use Rattle.morph_analysis.specs.Inner.Adding.{AddsThose, OfSome, OfStep}
use Rattle.morph_analysis.specs.Chains.{ChainTree, chain_order, AreInOrder, AreChains, IsChain}

not_both : (c d : ChainTree) → chain_order c d ≡ Less → chain_order d c ≡ Less → ⊥
not_both c d p q = let e : Less ≡ Greater = sym p ∙ chain_total.antisymm c d ∙ ap ordering_reverse q in cc

not_self : (c : ChainTree) → chain_order c c ≡ Less → ⊥
not_self c p = not_both c c p p

before_at : (c d : ChainTree) (cs : List ChainTree) → Each (λ x. chain_order c x ≡ Less) cs → Has d cs → chain_order c d ≡ Less
before_at c d [] e h = absurd h
before_at c d (x ∷ xs) e (inl q) = subst (λ y. chain_order c y ≡ Less) (sym q) e.0
before_at c d (x ∷ xs) e (inr h) = before_at c d xs e.1 h

heads_same : (c d : ChainTree) (cs ds : List ChainTree) → Each (λ x. chain_order c x ≡ Less) cs → Each (λ x. chain_order d x ≡ Less) ds → Has c (d ∷ ds) → Has d (c ∷ cs) → c ≡ d
heads_same c d cs ds p q (inl e) k = e
heads_same c d cs ds p q (inr h) (inl e) = sym e
heads_same c d cs ds p q (inr h) (inr k) = absurd (not_both c d (before_at c d cs p k) (before_at d c ds q h))

tail_has : (c x : ChainTree) (cs ds : List ChainTree) → Each (λ y. chain_order c y ≡ Less) cs → Has x cs → Has x (c ∷ ds) → Has x ds
tail_has c x cs ds p h (inr k) = k
tail_has c x cs ds p h (inl e) = absurd (not_self c (subst (λ y. chain_order c y ≡ Less) e (before_at c x cs p h)))

pub same_list : (cs ds : List ChainTree) → AreInOrder cs → AreInOrder ds → ((c : ChainTree) → Has c cs → Has c ds) → ((c : ChainTree) → Has c ds → Has c cs) → cs ≡ ds
same_list [] [] p q f g = refl
same_list [] (d ∷ ds) p q f g = absurd (g d (inl refl))
same_list (c ∷ cs) [] p q f g = absurd (f c (inl refl))
same_list (c ∷ cs) (d ∷ ds) p q f g =
    let e : c ≡ d = heads_same c d cs ds p.0 q.0 (f c (inl refl)) (g d (inl refl)) in
    ap (λ x. x ∷ cs) e
    ∙ ap (λ l. d ∷ l)
    (same_list cs ds p.1 q.1 (λ x h. tail_has c x cs ds p.0 h (subst (λ y. Has x (y ∷ ds)) (sym e) (f x (inr h))))
    (λ x h. tail_has d x ds cs q.0 h (subst (λ y. Has x (y ∷ cs)) e (g x (inr h)))))

-- chains that compare equal are one
then_equal : (o p : Ordering) → ordering_then o p ≡ Equal → (o ≡ Equal) × (p ≡ Equal)
then_equal Less p e = absurd (let k : Less ≡ Equal = e in cc)
then_equal Equal p e = (refl, e)
then_equal Greater p e = absurd (let k : Greater ≡ Equal = e in cc)

nat_equal : (a b : ℕ) → nat_cmp a b ≡ Equal → a ≡ b
nat_equal a b e = go (bools (nat_lt a b)) (bools (a == b))
  where
    go : (nat_lt a b ≡ true) ⊎ (nat_lt a b ≡ false) → ((a == b) ≡ true) ⊎ ((a == b) ≡ false) → a ≡ b
    go (inl t) q = absurd (let k : Less ≡ Equal = sym (ap (λ x. cond x Less (cond (a == b) Equal Greater)) t) ∙ e in cc)
    go (inr f) (inl t) = eq_same a b t
    go (inr f) (inr g) = absurd (let k : Greater ≡ Equal = sym (ap (λ x. cond x Less (cond (a == b) Equal Greater)) f ∙ ap (λ x. cond x Equal Greater) g) ∙ e in cc)

slice_equal : {A : Type 0} (R : A → A → Ordering) → ((a b : A) → R a b ≡ Equal → a ≡ b) → (xs ys : List A) → slice_cmp R xs ys ≡ Equal → xs ≡ ys
slice_equal R same [] [] e = refl
slice_equal R same [] (y ∷ ys) e = absurd (let k : Less ≡ Equal = e in cc)
slice_equal R same (x ∷ xs) [] e = absurd (let k : Greater ≡ Equal = e in cc)
slice_equal R same (x ∷ xs) (y ∷ ys) e = let p = then_equal (R x y) (slice_cmp R xs ys) e in ap (λ z. z ∷ xs) (same x y p.0) ∙ ap (λ l. y ∷ l) (slice_equal R same xs ys p.1)

order_equal : (c d : ChainTree) → chain_order c d ≡ Equal → c ≡ d
order_equal c d e =
    let p = then_equal (nat_cmp c.from d.from) _ e in
    let q = then_equal (nat_cmp c.to d.to) _ p.1 in
    let r = then_equal (nat_cmp c.entry d.entry) _ q.1 in
    let s = then_equal (slice_cmp nat_cmp c.rules d.rules) (slice_cmp compared c.words d.words) r.1 in
    chain_same c d (nat_equal c.from d.from p.0) (nat_equal c.to d.to q.0) (nat_equal c.entry d.entry r.0) (slice_equal nat_cmp nat_equal c.rules d.rules s.0) (slice_equal compared (slice_equal nat_cmp nat_equal) c.words d.words s.1)

module _ {T V : Type 0} (value : T → V) where
  each_below : (R : MadeChain T → MadeChain T → Ordering) → ((a b : MadeChain T) → R a b ≡ chain_order (chain_of a.chain) (chain_of b.chain)) → (x : MadeChain T) (xs : List (MadeChain T)) → AllByRecursion (λ y. R x y ≡ Less) xs
      → Each (λ d. chain_order (chain_of x.chain) d ≡ Less) (map (λ (y : MadeTree V). y.chain) (map (made_of value) xs))
  each_below R same x [] a = tt
  each_below R same x (y ∷ ys) a = (sym (same x y) ∙ a.0, each_below R same x ys a.1)

  in_order : (R : MadeChain T → MadeChain T → Ordering) → ((a b : MadeChain T) → R a b ≡ chain_order (chain_of a.chain) (chain_of b.chain)) → (xs : List (MadeChain T)) → IsStrictlySortedBy R xs → AreInOrder (map (λ (y : MadeTree V). y.chain) (map (made_of value) xs))
  unfolding IsStrictlySortedBy
  in_order R same [] h = tt
  in_order R same (x ∷ xs) h = (each_below R same x xs h.0, in_order R same xs h.1)

  -- all chains, sorted and each once
  pub are_chains : (R : MadeChain T → MadeChain T → Ordering) (lexicon : List EntryTree) (sp : SpellingTree) (A : ℕ → List ℕ → V → Type 0) (one : (entry : ℕ) (rules : List ℕ) (v w : V) → A entry rules v → A entry rules w → v ≡ w) (l : LatticeTree) (depth : ℕ) (old new : List (MadeChain T))
      → AddsThose (OfSome (OfStep lexicon sp A depth l.steps) l.steps) [] (map (made_of value) old) → IsStrictlySortedBy R new → ((x : MadeChain T) → Has x old → (y : MadeChain T) × Has y new × (R x y ≡ Equal)) → ((x : MadeChain T) → Has x new → Has x old)
      → ((a b : MadeChain T) → R a b ≡ chain_order (chain_of a.chain) (chain_of b.chain)) → AreMadeChains A lexicon sp l depth (map (made_of value) new)
  are_chains R lexicon sp A one l depth old new a sorted kept only same = record { have = have; all = all; order = in_order R same new sorted }
    where
      old_have : (c : MadeTree V) → Has c (map (made_of value) old) → IsMadeChain A lexicon sp l depth c
      old_have c h = elim (a.only c h) [ inl k ↦ absurd k | inr p ↦ is_chain lexicon sp A l depth c p ]

      have : (c : MadeTree V) → Has c (map (made_of value) new) → IsMadeChain A lexicon sp l depth c
      have c h =
          let m = has_map (made_of value) c new h in
          old_have c (subst (λ d. Has d (map (made_of value) old)) (sym m.2) (Has-map (made_of value) m.0 old (only m.0 m.1)))

      all : (c : MadeTree V) → IsMadeChain A lexicon sp l depth c → Has c (map (made_of value) new)
      all c p =
          let m = has_map (made_of value) c old (a.added c (chain_is lexicon sp A l depth c p)) in
          let k = kept m.0 m.1 in
          let chain : chain_of m.0.chain ≡ chain_of k.0.chain = order_equal (chain_of m.0.chain) (chain_of k.0.chain) (sym (same m.0 k.0) ∙ k.2) in
          let there = Has-map (made_of value) k.0 new k.1 in
          let before : A (chain_of m.0.chain).entry (chain_of m.0.chain).rules (value m.0.made) = subst (λ (d : MadeTree V). A d.chain.entry d.chain.rules d.value) m.2 p.made in
          let after : A (chain_of m.0.chain).entry (chain_of m.0.chain).rules (value k.0.made) = subst (λ (d : ChainTree). A d.entry d.rules (value k.0.made)) (sym chain) (have (made_of value k.0) there).made in
          let made : value m.0.made ≡ value k.0.made = one (chain_of m.0.chain).entry (chain_of m.0.chain).rules (value m.0.made) (value k.0.made) before after in
          let same : made_of value m.0 ≡ made_of value k.0 = λ i. record { chain = chain i; value = made i } in
          subst (λ d. Has d (map (made_of value) new)) (sym (m.2 ∙ same)) there

-- the chains that are allowed, without more
pub allowed_chains : (lexicon : List EntryTree) (sp : SpellingTree) (f : FeedsTree) (l : LatticeTree) (depth : ℕ) (xs : List (MadeTree (Unit {0}))) → AreMadeChains (λ entry rules v. IsAllowed f entry rules) lexicon sp l depth xs → AreChains lexicon sp f l depth (map (λ x. x.chain) xs)
allowed_chains lexicon sp f l depth xs are = record { have = have; all = all; order = are.order }
  where
    have : (c : ChainTree) → Has c (map (λ (x : MadeTree (Unit {0})). x.chain) xs) → IsChain lexicon sp f l depth c
    have c h =
        let m = has_map (λ (x : MadeTree (Unit {0})). x.chain) c xs h in
        let p = are.have m.0 m.1 in
        subst (IsChain lexicon sp f l depth) (sym m.2) (record { spells = p.spells; carried = p.carried; allowed = p.made; shallow = p.shallow })

    all : (c : ChainTree) → IsChain lexicon sp f l depth c → Has c (map (λ (x : MadeTree (Unit {0})). x.chain) xs)
    all c p = Has-map (λ (x : MadeTree (Unit {0})). x.chain) (record { chain = c; value = tt }) xs (are.all (record { chain = c; value = tt }) (record { spells = p.spells; carried = p.carried; made = p.allowed; shallow = p.shallow }))

-- the order of chains by their fields
words_cmp : (xs ys : List (String Global)) → slice_cmp string_cmp xs ys ≡ slice_cmp compared (map string_bytes xs) (map string_bytes ys)
words_cmp [] [] = refl
words_cmp [] (y ∷ ys) = refl
words_cmp (x ∷ xs) [] = refl
words_cmp (x ∷ xs) (y ∷ ys) = ap (ordering_then (string_cmp x y)) (words_cmp xs ys)

pub chain_cmp : (a b : Chain)
    → ordering_then (nat_cmp a.from b.from) (ordering_then (nat_cmp a.to b.to) (ordering_then (nat_cmp a.entry b.entry) (ordering_then (slice_cmp nat_cmp a.rules.items b.rules.items) (slice_cmp string_cmp a.words.items b.words.items))))
    ≡ chain_order (chain_of a) (chain_of b)
chain_cmp a b =
    ap (λ o. ordering_then (nat_cmp a.from b.from) (ordering_then (nat_cmp a.to b.to) (ordering_then (nat_cmp a.entry b.entry) (ordering_then (slice_cmp nat_cmp a.rules.items b.rules.items) o)))) (words_cmp a.words.items b.words.items)
