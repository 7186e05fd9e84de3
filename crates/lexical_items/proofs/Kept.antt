-- The trees that are kept of chains with their full structures, one after another.
use Rattle.std.specs.Prelude.{ℕ, ◌≡◌, ◌<◌, ◌≤◌, ◌+◌, ◌⊎◌, All, List, [], ◌∷◌, ◌++◌, length, map}
use Rattle.std.proofs.Common.{get_or, inl, inr, refl, sym, ◌∙◌, ap, subst, arith, zero, suc}
use Rattle.std.proofs.lemmas.List.{map-append}
use Rattle.lexicon.specs.Words.{Has}
use Rattle.tree_model.specs.Structures.{Structure}
use Rattle.lexicon.specs.Entries.{EntryTree}
use Rattle.spelling_rules.specs.Trees.{SpellingTree}
use Rattle.tree_model.specs.Signs.{Signs, an_entry, a_lexical_rule}
use Rattle.morph_analysis.specs.Chains.{ChainTree, IsChain, AreInOrder}
use Rattle.morph_analysis.specs.Made.{MadeTree, IsMadeChain, AreMadeChains}
use Rattle.morph_analysis.specs.Allowed.{FeedsTree}
use Rattle.morph_analysis.specs.Lattices.{LatticeTree, IsValid}
use Rattle.morph_analysis.specs.Views.{made_of}
use Rattle.morph_analysis.specs.declared.made.MadeChain.{MadeChain}
use Rattle.morph_analysis.proofs.Lists.{Has-snoc, Has-at, Has-map, has_map}
use Rattle.tree_model.specs.Licensed.{IsTooDeep}
use Rattle.lexical_items.specs.Places.{ArePlaces}
use Rattle.lexical_items.specs.Said.{AreNumbered, words_said}
use Rattle.lexical_items.proofs.Saying.{are_said}
use Rattle.lexical_items.specs.Seen.{lattice_seen, ForbidsNone}
use Rattle.lexical_items.specs.Listed.{Lexeme, IsLexicalAnswer}
use Rattle.lexical_items.specs.Views.{lexical_seen}
use Rattle.lexical_items.specs.declared.LexTrees.{LexTrees}
use Rattle.lexical_items.specs.Inner.Making.{IsAllowedFull}
use Rattle.lexical_items.specs.Inner.Kept.{IsInside, AreInside, chain_in, IsFullOf, AreFull, lexeme_of, Keeps, keeps_none, keeps_tree, AreShallow, AreKept}
use Rattle.lexical_items.proofs.Treed.{inside}
use Rattle.lexical_items.proofs.Answered.{answered, deep_chain}

module _ (g : Signs) (entries rules : List ℕ) where
  keeps_push : {cs : List ChainTree} {xs : List Lexeme} (c : ChainTree) (f : Structure) → Keeps g entries rules cs xs → IsFullOf g entries rules c f → Keeps g entries rules (cs ++ c ∷ []) (xs ++ lexeme_of entries rules c f ∷ [])
  keeps_push c f keeps_none full = keeps_tree c f full keeps_none
  keeps_push c f (keeps_tree d e own more) full = keeps_tree d e own (keeps_push c f more full)

  shallow_more : (most : ℕ) (cs : List ChainTree) (c : ChainTree) → AreShallow g entries rules most cs → length c.rules ≤ most → AreShallow g entries rules most (cs ++ c ∷ [])
  shallow_more most cs c low own d f h full = by_place (Has-snoc d c cs h)
    where
      by_place : Has d cs ⊎ (d ≡ c) → length d.rules ≤ most
      by_place (inl k) = low d f k full
      by_place (inr e) = subst (λ (z : ChainTree). length z.rules ≤ most) (sym e) own

  -- what is kept of the first chains
  pub record IsKeptOf (most : ℕ) (cs : List ChainTree) (xs : List Lexeme) : Type 0 where
    pub low : AreShallow g entries rules most cs
    pub keeps : Keeps g entries rules cs xs

  pub kept_start : (most : ℕ) → IsKeptOf most [] []
  kept_start most = record { low = λ c f h full. absurd h; keeps = keeps_none }

  -- one chain more
  pub kept_push : {T : Type 0} (value : T → Structure) (most : ℕ) (done : List (MadeChain T)) (x : MadeChain T) (xs ys : List Lexeme) (y : Lexeme) → IsKeptOf most (map chain_in done) xs → IsFullOf g entries rules (chain_in x) (value x.made) → length (chain_in x).rules ≤ most
      → y ≡ lexeme_of entries rules (chain_in x) (value x.made) → ys ≡ xs ++ y ∷ [] → IsKeptOf most (map chain_in (done ++ x ∷ [])) ys
  kept_push value most done x xs ys y k full low is e =
      subst (IsKeptOf most (map chain_in (done ++ x ∷ []))) (sym (e ∙ ap (λ z. xs ++ z ∷ []) is))
      (subst (λ cs. IsKeptOf most cs (xs ++ lexeme_of entries rules (chain_in x) (value x.made) ∷ [])) (sym (map-append chain_in done (x ∷ [])))
      (record { low = shallow_more most (map chain_in done) (chain_in x) k.low low; keeps = keeps_push (chain_in x) (value x.made) k.keeps full }))

  -- one of them has its full structure
  pub full_at : {T : Type 0} (value : T → Structure) (all : List (MadeChain T)) (i : ℕ) (x : MadeChain T) → i < length all → x ≡ get_or all i x → All (λ y. IsFullOf g entries rules (chain_in y) (value y.made)) all → IsFullOf g entries rules (chain_in x) (value x.made)
  full_at value all i x h e full = subst (λ y. IsFullOf g entries rules (chain_in y) (value y.made)) (sym e) (full i x h)

  -- a chain that is too deep
  pub kept_deep : {T : Type 0} (value : T → Structure) (most : ℕ) (all : List (MadeChain T)) (i : ℕ) (x : MadeChain T) → i < length all → x ≡ get_or all i x → All (λ y. IsFullOf g entries rules (chain_in y) (value y.made)) all → most < length (chain_in x).rules
      → (c : ChainTree) × (f : Structure) × Has c (map chain_in all) × IsFullOf g entries rules c f × (most < length c.rules)
  kept_deep value most all i x h e full deep =
      (chain_in x, value x.made, Has-at chain_in all i x (chain_in x) h e refl, full_at value all i x h e full, deep)

pub inside_at : {T : Type 0} (entries rules : List ℕ) (all : List (MadeChain T)) (i : ℕ) (x : MadeChain T) → AreInside entries rules (map chain_in all) → i < length all → x ≡ get_or all i x → IsInside entries rules (chain_in x)
inside_at entries rules all i x within h e = within (chain_in x) (Has-at chain_in all i x (chain_in x) h e refl)

-- what is made of all chains
module _ (g : Signs) (entries rules : List ℕ) (lexicon : List EntryTree) (s : SpellingTree) (numbered : AreNumbered entries rules lexicon s) (feeds : FeedsTree) (l : LatticeTree) (depth : ℕ) {T : Type 0} (value : T → Structure) (made : List (MadeChain T)) (are : AreMadeChains (IsAllowedFull g entries rules feeds) lexicon s l depth (map (made_of value) made)) where
  made_at : (x : MadeChain T) → Has x made → IsMadeChain (IsAllowedFull g entries rules feeds) lexicon s l depth (made_of value x)
  made_at x h = are.have (made_of value x) (Has-map (made_of value) x made h)

  rules_in : (rs : List ℕ) → All (λ r. r < length rules) rs → (r : ℕ) → Has r rs → r < length rules
  rules_in [] all r h = absurd h
  rules_in (q ∷ rs) all r (inl e) = subst (λ n. n < length rules) (sym e) (all 0 q (omega arith))
  rules_in (q ∷ rs) all r (inr h) = rules_in rs (λ k d lt. all (suc k) d (omega (arith, lt))) r h

  same_chains : (xs : List (MadeChain T)) → map (λ (x : MadeTree Structure). x.chain) (map (made_of value) xs) ≡ map chain_in xs
  same_chains [] = refl
  same_chains (x ∷ xs) = ap (λ cs. chain_in x ∷ cs) (same_chains xs)

  pub full_chains : AreFull g entries rules lexicon s feeds l depth (map chain_in made)
  full_chains = record { have = have; all = all; order = subst AreInOrder (same_chains made) are.order }
    where
      have : (c : ChainTree) → Has c (map chain_in made) → IsChain lexicon s feeds l depth c
      have c h =
          let m = has_map chain_in c made h in
          let p = made_at m.0 m.1 in
          subst (IsChain lexicon s feeds l depth) (sym m.2) (record { spells = p.spells; carried = p.carried; allowed = p.made.allowed; shallow = p.shallow })

      all : (c : ChainTree) (f : Structure) → IsChain lexicon s feeds l depth c → IsFullOf g entries rules c f → Has c (map chain_in made)
      all c f p full =
          let x : MadeTree Structure = record { chain = c; value = f } in
          let i = inside entries rules lexicon s numbered c p.spells in
          let h = are.all x (record { spells = p.spells; carried = p.carried; made = record { entry_in = i.entry_in; rules_in = rules_in c.rules i.rules_in; allowed = p.allowed; full = full }; shallow = p.shallow }) in
          subst (Has c) (same_chains made) (Has-map (λ (y : MadeTree Structure). y.chain) x (map (made_of value) made) h)

  pub all_full : All (λ x. IsFullOf g entries rules (chain_in x) (value x.made)) made
  all_full = each made (λ x h. (made_at x h).made.full)
    where
      each : (xs : List (MadeChain T)) → ((x : MadeChain T) → Has x xs → IsFullOf g entries rules (chain_in x) (value x.made)) → All (λ x. IsFullOf g entries rules (chain_in x) (value x.made)) xs
      each [] h k d lt = absurd (omega (arith, lt))
      each (x ∷ xs) h zero d lt = h x (inl refl)
      each (x ∷ xs) h (suc k) d lt = each xs (λ y q. h y (inr q)) k d (omega (arith, lt))

  pub all_inside : AreInside entries rules (map chain_in made)
  all_inside c h = inside entries rules lexicon s numbered c (full_chains.have c h).spells

-- what is kept of all chains of a lattice, in every answer
pub all_answered : {T : Type 0} (g : Signs) (entries rules : List ℕ) (value : T → Structure) → ArePlaces g an_entry entries → ArePlaces g a_lexical_rule rules → (lexicon : List EntryTree) (s : SpellingTree) → AreNumbered entries rules lexicon s → (feeds : FeedsTree) → ForbidsNone g entries rules feeds
    → (l : LatticeTree) → IsValid l → (most : ℕ) (chains : List ChainTree) → AreFull g entries rules lexicon s feeds l (most + 1) chains → (t : LexTrees T) → AreKept g entries rules most chains (lexical_seen value t)
    → IsLexicalAnswer g (words_said entries rules lexicon s) (lattice_seen l) most (lexical_seen value t)
all_answered g entries rules value p q lexicon s numbered feeds harmless l valid most chains are t k =
    answered g entries rules p q lexicon s numbered feeds harmless l valid most chains are (words_said entries rules lexicon s) (are_said entries rules lexicon s p.rising q.rising numbered) (lexical_seen value t) k

-- a chain that ends the search
pub deep_answer : (g : Signs) (entries rules : List ℕ) → ArePlaces g an_entry entries → ArePlaces g a_lexical_rule rules → (lexicon : List EntryTree) (s : SpellingTree) → AreNumbered entries rules lexicon s → (feeds : FeedsTree) → ForbidsNone g entries rules feeds → (l : LatticeTree) (most : ℕ) (x : MadeTree Structure)
    → IsMadeChain (IsAllowedFull g entries rules feeds) lexicon s l (most + 1) x → most < length x.chain.rules → IsTooDeep g (words_said entries rules lexicon s) (lattice_seen l) most
deep_answer g entries rules p q lexicon s numbered feeds harmless l most x i low =
    deep_chain g entries rules p q lexicon s numbered feeds harmless l most (words_said entries rules lexicon s) (are_said entries rules lexicon s p.rising q.rising numbered) x.chain x.value
    (record { spells = i.spells; carried = i.carried; allowed = i.made.allowed; shallow = i.shallow }) i.made.full low
