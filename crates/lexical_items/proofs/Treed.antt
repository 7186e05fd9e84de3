-- Chains as lexical trees, and back.
use Rattle.std.specs.Prelude.{ℕ, ◌≡◌, ◌<◌, ◌≤◌, ◌⊎◌, All, List, [], ◌∷◌, ◌++◌, Some, None, length, map}
use Rattle.std.proofs.Common.{inl, inr, refl, sym, ◌∙◌, ap, subst, zero, suc, arith}
use Rattle.std.proofs.lemmas.Bool.{cases_order}
use Rattle.chart_model.specs.At.{At, there, at_found}
use Rattle.chart_model.specs.Calculus.{Along, along_none, along_more}
use Rattle.derivation.specs.Trees.{Derivation, lexical, phrase}
use Rattle.tree_model.specs.Structures.{Structure}
use Rattle.lexicon.specs.Entries.{EntryTree}
use Rattle.spelling_rules.specs.Trees.{SpellingTree}
use Rattle.tree_model.specs.Signs.{Signs, an_entry, a_lexical_rule}
use Rattle.tree_model.specs.Lexical as item
use Rattle.tree_model.specs.Licensed.{IsLexicalTree}
use Rattle.morph_analysis.specs.Lattices.{LatticeTree}
use Rattle.morph_analysis.specs.Allowed.{FeedsTree}
use Rattle.morph_analysis.specs.Chains.{ChainTree, Leads, there, by, Spells, IsChain}
use Rattle.lexical_items.specs.Places.{ArePlaces, place_in}
use Rattle.lexical_items.specs.Said.{AreNumbered}
use Rattle.lexical_items.proofs.Saying.{AreSaid}
use Rattle.lexical_items.specs.Seen.{lattice_seen, tree_of, ForbidsNone}
use Rattle.lexical_items.specs.Inner.Kept.{IsInside, IsFullOf}
use Rattle.lexical_items.proofs.Lists.{has_at, place_at, places_along, along_length}
use Rattle.lexical_items.proofs.Spelled.{number_at, spelled, unspelled, carried, uncarried}

-- a number in range has a place, and numbers in range have places
pub placed : (places : List ℕ) (n : ℕ) → n < length places → At places n (place_in places n)
placed places n h = let r = at_found places n h in subst (λ p. At places n p) (sym (place_at r.1)) r.1

pub all_placed : (places : List ℕ) (ns : List ℕ) → All (λ n. n < length places) ns → Along (At places) ns (map (place_in places) ns)
all_placed places [] h = along_none
all_placed places (n ∷ ns) h = along_more (placed places n (h 0 n (omega arith))) (all_placed places ns (λ k m q. h (suc k) m (omega (arith, q))))

-- numbers of one place are one
pub one_number : (g : Signs) (places : List ℕ) {n m p : ℕ} → ((n m p q : ℕ) → At places n p → At places m q → n < m → p < q) → At places n p → At places m p → n ≡ m
one_number g places {n = n} {m = m} {p = p} rising a b = by_order (cases_order n m)
  where
    by_order : (n ≡ m) ⊎ ((n < m) ⊎ (m < n)) → n ≡ m
    by_order (inl e) = e
    by_order (inr (inl h)) = let q = rising n m p p a b h in absurd (omega (arith, q))
    by_order (inr (inr h)) = let q = rising m n p p b a h in absurd (omega (arith, q))

pub one_numbers : (g : Signs) (places : List ℕ) {ns ms ps : List ℕ} → ((n m p q : ℕ) → At places n p → At places m q → n < m → p < q) → Along (At places) ns ps → Along (At places) ms ps → ns ≡ ms
one_numbers g places rising along_none along_none = refl
one_numbers g places rising (along_more a more) (along_more b others) =
    let e = one_number g places rising a b in
    let f = one_numbers g places rising more others in
    λ i. e i ∷ f i

-- the numbers of a chain are in range
rules_inside : (rules : List ℕ) (s : SpellingTree) → length s.rules ≡ length rules → {ns : List ℕ} {x y : item.Word} → Leads s ns x y → All (λ n. n < length rules) ns
rules_inside rules s e (there w) k m q = absurd (omega (arith, q))
rules_inside rules s e (by rule ns w x y lt some form more) zero m q = let z : rule < length rules = omega (arith, lt, e) in z
rules_inside rules s e (by rule ns w x y lt some form more) (suc k) m q = rules_inside rules s e more k m (omega (arith, q))

pub inside : (entries rules : List ℕ) (lexicon : List EntryTree) (s : SpellingTree) → AreNumbered entries rules lexicon s → (c : ChainTree) → Spells lexicon s c.entry c.rules c.words → IsInside entries rules c
inside entries rules lexicon s numbered c h =
    let a = has_at (record { number = c.entry; words = h.front ++ h.stem ∷ [] }) lexicon h.is_entry in
    let r = number_at (length entries) lexicon numbered.entries_are a.0 (record { number = c.entry; words = h.front ++ h.stem ∷ [] }) a.1 in
    record { entry_in = omega (arith, r.0, r.1); rules_in = rules_inside rules s numbered.rules_are h.leads }

-- the nodes of a lexical tree
abbrev nodes_in : Derivation → ℕ × ℕ
nodes_in (lexical e rs ws (Some n)) = n
nodes_in (lexical e rs ws None) = (0, 0)
nodes_in (phrase r ds) = (0, 0)

-- the places of a full structure have numbers
module _ (g : Signs) (rules : List ℕ) (rule_places : ArePlaces g a_lexical_rule rules) where
  pub numbers_under : {d f : Structure} {ps : List ℕ} → item.FullUnder g d ps f → (ns : List ℕ) × Along (At rules) ns ps
  numbers_under item.under_none = ([], along_none)
  numbers_under (item.under_next {rule = rule} x more) =
      let a = rule_places.all rule x.instance x.at x.kind in
      let r = numbers_under more in
      (a.0 ∷ r.0, along_more a.1 r.1)

module _ (g : Signs) (entries rules : List ℕ) (entry_places : ArePlaces g an_entry entries) (rule_places : ArePlaces g a_lexical_rule rules) (lexicon : List EntryTree) (s : SpellingTree) (numbered : AreNumbered entries rules lexicon s) (feeds : FeedsTree) (harmless : ForbidsNone g entries rules feeds) (l : LatticeTree) (depth : ℕ) (words : item.Words) (said : AreSaid entries rules lexicon s words) where
  -- a chain with a full structure is a lexical tree
  pub is_tree : (c : ChainTree) (f : Structure) → IsChain lexicon s feeds l depth c → IsFullOf g entries rules c f → IsLexicalTree g words (lattice_seen l) (tree_of entries rules c)
  is_tree c f h full =
      let i = inside entries rules lexicon s numbered c h.spells in
      record {
        entry = place_in entries c.entry;
        rules = map (place_in rules) c.rules;
        said = c.words;
        from = c.from;
        to = c.to;
        is = refl;
        spells = spelled entries rules lexicon s numbered words said c.entry (place_in entries c.entry) c.rules (map (place_in rules) c.rules) c.words (placed entries c.entry i.entry_in) (all_placed rules c.rules i.rules_in) h.spells;
        carried = carried l h.carried;
        structure = f;
        full = full;
      }

  -- and back
  pub record FromChain (t : Derivation) : Type 0 where
    pub chain : ChainTree
    pub is_chain : IsChain lexicon s feeds l depth chain
    pub is : tree_of entries rules chain ≡ t
    pub structure : Structure
    pub full : IsFullOf g entries rules chain structure

  pub from_chain : (t : Derivation) → IsLexicalTree g words (lattice_seen l) t → item.rule_count t ≤ depth → FromChain t
  from_chain t h few =
      let d = h.full.1 in
      let a = entry_places.all h.entry d.instance d.at d.kind in
      let r = numbers_under g rules rule_places h.full.2 in
      let c : ChainTree = record { entry = a.0; rules = r.0; words = h.said; from = h.from; to = h.to } in
      let p : place_in entries a.0 ≡ h.entry = place_at a.1 in
      let q : map (place_in rules) r.0 ≡ h.rules = places_along r.1 in
      let short : length h.rules ≤ depth = subst (λ u. item.rule_count u ≤ depth) h.is few in
      let long : length r.0 ≡ length h.rules = along_length r.1 in
      record {
        chain = c;
        is_chain = record {
          spells = unspelled entries rules lexicon s numbered words said a.0 h.entry r.0 h.rules h.said a.1 r.1 h.spells;
          carried = uncarried l h.carried;
          allowed = harmless a.0 h.entry r.0 h.rules h.structure a.1 r.1 h.full;
          shallow = omega (arith, short, long);
        };
        is = (λ i. lexical (p i) (q i) h.said (Some (h.from, h.to))) ∙ sym h.is;
        structure = h.structure;
        full = subst (λ e. item.FullLexical g e (map (place_in rules) r.0) h.structure) (sym p) (subst (λ ps. item.FullLexical g h.entry ps h.structure) (sym q) h.full);
      }

  -- chains of one tree are one
  pub one_chain : (c d : ChainTree) → IsChain lexicon s feeds l depth c → IsChain lexicon s feeds l depth d → tree_of entries rules c ≡ tree_of entries rules d → c ≡ d
  one_chain c d x y e =
      let i = inside entries rules lexicon s numbered c x.spells in
      let j = inside entries rules lexicon s numbered d y.spells in
      let p : place_in entries c.entry ≡ place_in entries d.entry = cc in
      let q : map (place_in rules) c.rules ≡ map (place_in rules) d.rules = cc in
      let w : c.words ≡ d.words = cc in
      let m : c.from ≡ d.from = ap (λ t. (nodes_in t).0) e in
      let n : c.to ≡ d.to = ap (λ t. (nodes_in t).1) e in
      let a : c.entry ≡ d.entry = one_number g entries entry_places.rising (placed entries c.entry i.entry_in) (subst (λ z. At entries d.entry z) (sym p) (placed entries d.entry j.entry_in)) in
      let b : c.rules ≡ d.rules = one_numbers g rules rule_places.rising (all_placed rules c.rules i.rules_in) (subst (λ zs. Along (At rules) d.rules zs) (sym q) (all_placed rules d.rules j.rules_in)) in
      λ k. record { entry = a k; rules = b k; words = w k; from = m k; to = n k }
