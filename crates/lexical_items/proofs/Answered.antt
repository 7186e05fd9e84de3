-- What is kept of all chains is the answer.
use Rattle.std.specs.Prelude.{ℕ, ◌≡◌, ◌<◌, ◌≤◌, ◌+◌, List, [], ◌∷◌, length, map}
use Rattle.std.proofs.Common.{inl, inr, refl, sym, ◌∙◌, ap, subst, zero, suc, arith}
use Rattle.std.specs.Ordering.{ordering_reverse}
use Rattle.std.specs.declared.cmp.Ordering.TheVariants.{Less, Greater}
use Rattle.lexicon.specs.Words.{Has, Each}
use Rattle.chart_model.specs.At.{At, here, there}
use Rattle.derivation.specs.Trees.{Derivation}
use Rattle.tree_model.specs.Structures.{Structure}
use Rattle.lexicon.specs.Entries.{EntryTree}
use Rattle.spelling_rules.specs.Trees.{SpellingTree}
use Rattle.tree_model.specs.Signs.{Signs, an_entry, a_lexical_rule}
use Rattle.tree_model.specs.Lexical as item
use Rattle.tree_model.specs.Trees.{full_lexical}
use Rattle.tree_model.specs.Lattices.{spans_lexical}
use Rattle.tree_model.specs.Licensed.{IsLexicalTree, IsTooDeep}
use Rattle.morph_analysis.specs.Lattices.{LatticeTree, IsValid}
use Rattle.morph_analysis.specs.Allowed.{FeedsTree}
use Rattle.morph_analysis.specs.Chains.{ChainTree, chain_order, AreInOrder, IsChain}
use Rattle.morph_analysis.specs.Inner.Orders.{chain_total}
use Rattle.lexical_items.specs.Places.{ArePlaces, place_in}
use Rattle.lexical_items.specs.Said.{AreNumbered}
use Rattle.lexical_items.proofs.Saying.{AreSaid}
use Rattle.lexical_items.specs.Seen.{lattice_seen, tree_of, ForbidsNone}
use Rattle.lexical_items.specs.Listed.{Lexeme, Lexical, TooDeep, Trees, IsLexeme, IsLexicalAnswer}
use Rattle.lexical_items.specs.Inner.Kept.{IsFullOf, AreFull, lexeme_of, Keeps, keeps_none, keeps_tree, AreShallow, AreKept}
use Rattle.lexical_items.proofs.Spelled.{forward}
use Rattle.lexical_items.proofs.Lists.{length_map, snoc_some}
use Rattle.lexical_items.proofs.Treed.{is_tree, FromChain, from_chain, one_chain}

-- a chain doesn't come before itself
not_self : (c : ChainTree) → chain_order c c ≡ Less → ⊥
not_self c p = let e : Less ≡ Greater = sym p ∙ chain_total.antisymm c c ∙ ap ordering_reverse p in cc

before_at : (c d : ChainTree) (cs : List ChainTree) → Each (λ x. chain_order c x ≡ Less) cs → Has d cs → chain_order c d ≡ Less
before_at c d [] e h = absurd h
before_at c d (x ∷ xs) e (inl q) = subst (λ y. chain_order c y ≡ Less) (sym q) e.0
before_at c d (x ∷ xs) e (inr h) = before_at c d xs e.1 h

module _ (g : Signs) (entries rules : List ℕ) where
  -- a tree that is kept comes from a chain
  pub record Comes (cs : List ChainTree) (x : Lexeme) : Type 0 where
    pub chain : ChainTree
    pub has : Has chain cs
    pub structure : Structure
    pub full : IsFullOf g entries rules chain structure
    pub is : x ≡ lexeme_of entries rules chain structure

  later : {cs : List ChainTree} {x : Lexeme} (c : ChainTree) → Comes cs x → Comes (c ∷ cs) x
  later c h = record { chain = h.chain; has = inr h.has; structure = h.structure; full = h.full; is = h.is }

  pub comes : {cs : List ChainTree} {xs : List Lexeme} {n : ℕ} {x : Lexeme} → Keeps g entries rules cs xs → At xs n x → Comes cs x
  comes {n = n} keeps_none a = elim a [ ]
  comes (keeps_tree c f full more) here = record { chain = c; has = inl refl; structure = f; full = full; is = refl }
  comes (keeps_tree c f full more) (there a) = later c (comes more a)

  -- a chain that has a full structure is kept
  pub kept : {cs : List ChainTree} {xs : List Lexeme} (c : ChainTree) (f : Structure) → Keeps g entries rules cs xs → Has c cs → IsFullOf g entries rules c f → (n : ℕ) × (x : Lexeme) × At xs n x × (x.tree ≡ tree_of entries rules c)
  kept c f keeps_none h full = absurd h
  kept c f (keeps_tree d e own more) (inl q) full = (0, lexeme_of entries rules d e, here, ap (tree_of entries rules) (sym q))
  kept c f (keeps_tree d e own more) (inr h) full = let r = kept c f more h full in (suc r.0, r.1, there r.2, r.3)

  -- no tree is kept twice, where chains of one tree are one
  pub kept_once : {cs : List ChainTree} {xs : List Lexeme} → Keeps g entries rules cs xs → AreInOrder cs → ((c d : ChainTree) → Has c cs → Has d cs → tree_of entries rules c ≡ tree_of entries rules d → c ≡ d)
      → (n m : ℕ) (x y : Lexeme) → At xs n x → At xs m y → x.tree ≡ y.tree → n ≡ m
  kept_once keeps_none order one n m x y a b e = elim a [ ]
  kept_once (keeps_tree c f own more) order one zero zero x y here here e = refl
  kept_once (keeps_tree c f {cs = cs} own more) order one zero (suc m) x y here (there b) e =
      let h = comes more b in
      let same : c ≡ h.chain = one c h.chain (inl refl) (inr h.has) (e ∙ ap (λ (z : Lexeme). z.tree) h.is) in
      absurd (not_self c (subst (λ d. chain_order c d ≡ Less) (sym same) (before_at c h.chain cs order.0 h.has)))
  kept_once (keeps_tree c f {cs = cs} own more) order one (suc n) zero x y (there a) here e =
      let h = comes more a in
      let same : c ≡ h.chain = one c h.chain (inl refl) (inr h.has) (sym e ∙ ap (λ (z : Lexeme). z.tree) h.is) in
      absurd (not_self c (subst (λ d. chain_order c d ≡ Less) (sym same) (before_at c h.chain cs order.0 h.has)))
  kept_once (keeps_tree c f own more) order one (suc n) (suc m) x y (there a) (there b) e =
      ap suc (kept_once more order.1 (λ p q u v w. one p q (inr u) (inr v) w) n m x y a b e)

-- a chain with a full structure that has more rules than the limit is a lexical tree that is too deep
pub deep_chain : (g : Signs) (entries rules : List ℕ) → ArePlaces g an_entry entries → ArePlaces g a_lexical_rule rules → (lexicon : List EntryTree) (s : SpellingTree) → AreNumbered entries rules lexicon s → (feeds : FeedsTree) → ForbidsNone g entries rules feeds → (l : LatticeTree) (most : ℕ) (words : item.Words)
    → AreSaid entries rules lexicon s words → (c : ChainTree) (f : Structure) → IsChain lexicon s feeds l (most + 1) c → IsFullOf g entries rules c f → most < length c.rules → IsTooDeep g words (lattice_seen l) most
deep_chain g entries rules p q lexicon s numbered feeds harmless l most words said c f i full low =
    let deep : length (map (place_in rules) c.rules) ≡ most + 1 = length_map (place_in rules) c.rules ∙ omega (arith, i.shallow, low) in
    record { tree = tree_of entries rules c; is = is_tree g entries rules p q lexicon s numbered feeds harmless l (most + 1) words said c f i full; deep = deep }

module _ (g : Signs) (entries rules : List ℕ) (entry_places : ArePlaces g an_entry entries) (rule_places : ArePlaces g a_lexical_rule rules) (lexicon : List EntryTree) (s : SpellingTree) (numbered : AreNumbered entries rules lexicon s) (feeds : FeedsTree) (harmless : ForbidsNone g entries rules feeds) (l : LatticeTree) (valid : IsValid l) (most : ℕ) (chains : List ChainTree) (are : AreFull g entries rules lexicon s feeds l (most + 1) chains) (words : item.Words) (said : AreSaid entries rules lexicon s words) where
  back : (t : Derivation) → IsLexicalTree g words (lattice_seen l) t → item.rule_count t ≤ most + 1 → FromChain g entries rules entry_places rule_places lexicon s numbered feeds harmless l (most + 1) words said t
  back = from_chain g entries rules entry_places rule_places lexicon s numbered feeds harmless l (most + 1) words said

  tree : (c : ChainTree) (f : Structure) → IsChain lexicon s feeds l (most + 1) c → IsFullOf g entries rules c f → IsLexicalTree g words (lattice_seen l) (tree_of entries rules c)
  tree = is_tree g entries rules entry_places rule_places lexicon s numbered feeds harmless l (most + 1) words said

  one : (c d : ChainTree) → Has c chains → Has d chains → tree_of entries rules c ≡ tree_of entries rules d → c ≡ d
  one c d x y e = one_chain g entries rules entry_places rule_places lexicon s numbered feeds harmless l (most + 1) words said c d (are.have c x) (are.have d y) e

  lexeme : (x : Lexeme) → AreShallow g entries rules most chains → Comes g entries rules chains x → IsLexeme g words (lattice_seen l) most x
  lexeme x shallow h =
      let c = h.chain in
      let i = are.have c h.has in
      let low : length (map (place_in rules) c.rules) ≤ most = subst (λ n. n ≤ most) (sym (length_map (place_in rules) c.rules)) (shallow c h.structure h.has h.full) in
      subst (IsLexeme g words (lattice_seen l) most) (sym h.is)
      (record { leaf = (tree c h.structure i h.full, low); lies = spans_lexical; forward = (forward l valid i.carried).1 (some c i); full = full_lexical h.full })
    where
      some : (c : ChainTree) → IsChain lexicon s feeds l (most + 1) c → 0 < length c.words
      some c i = subst (λ ws. 0 < length ws) (sym i.spells.is) (snoc_some i.spells.front i.spells.form)

  pub answered : (a : Lexical) → AreKept g entries rules most chains a → IsLexicalAnswer g words (lattice_seen l) most a
  answered TooDeep k = deep_chain g entries rules entry_places rule_places lexicon s numbered feeds harmless l most words said k.0 k.1 (are.have k.0 k.2) k.3 k.4
  answered (Trees xs) k = (
    λ deep.
        let b = back deep.tree deep.is (omega (arith, deep.deep)) in
        let low = k.0 b.chain b.structure (are.all b.chain b.structure b.is_chain b.full) b.full in
        let long : length b.chain.rules ≡ most + 1 = sym (length_map (place_in rules) b.chain.rules) ∙ ap item.rule_count b.is ∙ deep.deep in
        omega (arith, low, long),
    record {
      each = λ n x a. lexeme x k.0 (comes g entries rules k.1 a);
      all = λ t h.
          let b = back t h.0 (omega (arith, h.1)) in
          let r = kept g entries rules b.chain b.structure k.1 (are.all b.chain b.structure b.is_chain b.full) b.full in
          (r.0, r.1, r.2, r.3 ∙ b.is);
      once = kept_once g entries rules k.1 are.order one;
    },
  )
