-- The chains whose last word is that of a step.
use Rattle.std.proofs.Common.{ℕ, ◌≡◌, ◌<◌, ◌≤◌, ◌+◌, ◌⊎◌, inl, inr, List, [], ◌∷◌, ◌++◌, length, refl, sym, ◌∙◌, ap, subst, arith}
use Rattle.lexicon.specs.Words.{Word, Has}
use Rattle.lexicon.specs.Entries.{EntryTree}
use Rattle.spelling_rules.specs.Trees.{SpellingTree}
use Rattle.morph_analysis.proofs.AddLemmas.{adds_like, adds_none}
use Rattle.morph_analysis.proofs.NodeLemmas.{cases_le}
use Rattle.morph_analysis.specs.Chains.{Leads, there, by}
use Rattle.morph_analysis.specs.Made.{MadeTree, IsMadeChain}
use Rattle.morph_analysis.specs.Lattices.{StepTree, LatticeTree, Carries, stays, goes, HaveSame}
use Rattle.morph_analysis.specs.Spelled.{NodeTree, node_at, Runs, IsSpelled}
use Rattle.morph_analysis.specs.Spelled.{stays as run_stays, goes as run_goes}
use Rattle.morph_analysis.specs.Inner.Adding.{AddsThose, OfSome, OfNode, OfNodes, OfStep}

-- the loop over nodes
pub nodes_none : {V : Type 0} (lexicon : List EntryTree) (nodes : List NodeTree) (A : ℕ → List ℕ → V → Type 0) (depth : ℕ) (steps : List StepTree) (s : StepTree) (xs : List (MadeTree V)) → AddsThose (OfNodes lexicon nodes A depth steps s 0) xs xs
nodes_none lexicon nodes A depth steps s xs = adds_none (OfNodes lexicon nodes A depth steps s 0) xs (λ c o. absurd (let lt = o.1 in omega (arith, lt)))

pub nodes_more : {V : Type 0} (lexicon : List EntryTree) (nodes : List NodeTree) (A : ℕ → List ℕ → V → Type 0) (depth : ℕ) (steps : List StepTree) (s : StepTree) (n : ℕ) (xs ys zs : List (MadeTree V)) → AddsThose (OfNodes lexicon nodes A depth steps s n) xs ys
    → AddsThose (OfNode lexicon nodes A depth steps s n) ys zs → AddsThose (OfNodes lexicon nodes A depth steps s (n + 1)) xs zs
nodes_more {V} lexicon nodes A depth steps s n xs ys zs p q = record {
  kept = λ x h. q.kept x (p.kept x h);
  added = λ x o. go x o (cases_le n o.0);
  only = λ x h.
      elim (q.only x h) [
        | inl k ↦ (elim (p.only x k) [ inl m ↦ inl m | inr o ↦ inr (o.0, (let lt = o.1 in omega (arith, lt)), o.2) ])
        | inr r ↦ inr (n, omega arith, r)
      ];
}
  where
    go : (x : MadeTree V) (o : OfNodes lexicon nodes A depth steps s (n + 1) x) → (n ≤ o.0) ⊎ (o.0 < n) → Has x zs
    go x o (inl le) = let lt = o.1 in let e : o.0 ≡ n = omega (arith, le, lt) in q.added x (subst (λ k. OfNode lexicon nodes A depth steps s k x) e o.2)
    go x o (inr lt) = q.kept x (p.added x (o.0, lt, o.2))

-- edges lead to the word at node 0
leads_along : (sp : SpellingTree) (word : Word) (depth : ℕ) (nodes : List NodeTree) (rules : List ℕ) (n m : ℕ) → IsSpelled sp word depth nodes → m ≡ 0 → Runs nodes rules n m → Leads sp rules (node_at nodes n).word word
leads_along sp word depth nodes _ n _ p z (run_stays _) = subst (λ w. Leads sp [] w word) (sym (ap (λ k. (node_at nodes k).word) z ∙ p.root.1)) (there word)
leads_along sp word depth nodes _ n k p z (run_goes rule rules _ m _ lt h r) =
    let f = p.forms n rule m lt h in by rule rules (node_at nodes n).word (node_at nodes m).word word f.1 f.2 f.3 (leads_along sp word depth nodes rules m k p z r)

-- paths of the same steps carry the same words
pub carries_same : (xs ys : List StepTree) (from : ℕ) (words : List Word) (to : ℕ) → ((s : StepTree) → Has s xs → Has s ys) → Carries xs from words to → Carries ys from words to
carries_same xs ys from _ _ f (stays _) = stays from
carries_same xs ys _ _ to f (goes s words _ h c) = goes s words to (f s h) (carries_same xs ys s.to words to f c)

-- a chain over a graph of a step's word is one of the step
pub node_step : {V : Type 0} (lexicon : List EntryTree) (sp : SpellingTree) (nodes : List NodeTree) (A : ℕ → List ℕ → V → Type 0) (depth : ℕ) (steps others : List StepTree) (s : StepTree) → IsSpelled sp s.word depth nodes → ((t : StepTree) → Has t others → Has t steps) → (c : MadeTree V)
    → OfNodes lexicon nodes A depth others s (length nodes) c → OfStep lexicon sp A depth steps s c
node_step lexicon sp nodes A depth steps others s p moved c o =
    let n = o.0 in
    let q = o.2 in
    let r = q.rest in
    record {
      front = q.front;
      stem = (node_at nodes n).word;
      is_entry = q.entry;
      leads = leads_along sp s.word depth nodes c.chain.rules n 0 p refl r.rules.0;
      carried = carries_same others steps c.chain.from q.front s.from moved r.from;
      words_are = r.words_are;
      to_is = r.to_is;
      made = r.rules.1;
      shallow = r.rules.2;
    }

-- the chains over a graph of a step's word
pub of_step : {V : Type 0} (lexicon : List EntryTree) (sp : SpellingTree) (nodes : List NodeTree) (A : ℕ → List ℕ → V → Type 0) (depth : ℕ) (steps others : List StepTree) (s : StepTree) (xs ys : List (MadeTree V)) → IsSpelled sp s.word depth nodes → HaveSame others steps
    → AddsThose (OfNodes lexicon nodes A depth others s (length nodes)) xs ys → AddsThose (OfStep lexicon sp A depth steps s) xs ys
of_step {V} lexicon sp nodes A depth steps others s xs ys p same a = adds_like (OfNodes lexicon nodes A depth others s (length nodes)) (OfStep lexicon sp A depth steps s) xs ys (node_step lexicon sp nodes A depth steps others s p same.there) back a
  where
    back : (c : MadeTree V) → OfStep lexicon sp A depth steps s c → OfNodes lexicon nodes A depth others s (length nodes) c
    back c o =
        let w = p.ways c.chain.rules o.stem o.shallow o.leads in (
          w.0,
          w.1,
          record {
            front = o.front;
            entry = subst (λ x. Has (record { number = c.chain.entry; words = o.front ++ x ∷ [] }) lexicon) (sym w.2) o.is_entry;
            rest = record { entry = refl; rules = (w.3, o.made, o.shallow); from = carries_same steps others c.chain.from o.front s.from same.back o.carried; words_are = o.words_are; to_is = o.to_is };
          },
        )

-- a path over a front and one step more
carries_more : (steps : List StepTree) (from : ℕ) (front : List Word) (s : StepTree) (to : ℕ) → Carries steps from front to → to ≡ s.from → Has s steps → Carries steps from (front ++ s.word ∷ []) s.to
carries_more steps from _ s _ (stays _) e h = subst (λ n. Carries steps n (s.word ∷ []) s.to) (sym e) (goes s [] s.to h (stays s.to))
carries_more steps _ _ s to (goes t words _ k c) e h = goes t (words ++ s.word ∷ []) s.to k (carries_more steps t.to words s to c e h)

carries_less : (steps : List StepTree) (from : ℕ) (front : List Word) (w : Word) (to : ℕ) → Carries steps from (front ++ w ∷ []) to → (s : StepTree) × Has s steps × (s.word ≡ w) × (s.to ≡ to) × Carries steps from front s.from
carries_less steps _ [] w to (goes s _ _ h (stays _)) = (s, h, refl, refl, stays s.from)
carries_less steps _ (x ∷ front) w to (goes t _ _ h c) = let r = carries_less steps t.to front w to c in (r.0, r.1, r.2, r.3, goes t front r.0.from h r.4)

-- all chains are those of the steps
pub is_chain : {V : Type 0} (lexicon : List EntryTree) (sp : SpellingTree) (A : ℕ → List ℕ → V → Type 0) (l : LatticeTree) (depth : ℕ) (c : MadeTree V) → OfSome (OfStep lexicon sp A depth l.steps) l.steps c → IsMadeChain A lexicon sp l depth c
is_chain lexicon sp A l depth c o =
    let s = o.0 in
    let q = o.2 in
    record {
      spells = record { front = q.front; stem = q.stem; form = s.word; is_entry = q.is_entry; is = q.words_are; leads = q.leads };
      carried = subst (λ w. Carries l.steps c.chain.from w c.chain.to) (sym q.words_are) (subst (Carries l.steps c.chain.from (q.front ++ s.word ∷ [])) (sym q.to_is) (carries_more l.steps c.chain.from q.front s s.from q.carried refl o.1));
      made = q.made;
      shallow = q.shallow;
    }

pub chain_is : {V : Type 0} (lexicon : List EntryTree) (sp : SpellingTree) (A : ℕ → List ℕ → V → Type 0) (l : LatticeTree) (depth : ℕ) (c : MadeTree V) → IsMadeChain A lexicon sp l depth c → OfSome (OfStep lexicon sp A depth l.steps) l.steps c
chain_is lexicon sp A l depth c p =
    let q = p.spells in
    let r = carries_less l.steps c.chain.from q.front q.form c.chain.to (subst (λ w. Carries l.steps c.chain.from w c.chain.to) q.is p.carried) in (
      r.0,
      r.1,
      record {
        front = q.front;
        stem = q.stem;
        is_entry = q.is_entry;
        leads = subst (Leads sp c.chain.rules q.stem) (sym r.2) q.leads;
        carried = r.4;
        words_are = q.is ∙ ap (λ w. q.front ++ w ∷ []) (sym r.2);
        to_is = sym r.3;
        made = p.made;
        shallow = p.shallow;
      },
    )

-- a chain over some steps is one over others that have them
pub step_moved : {V : Type 0} (lexicon : List EntryTree) (sp : SpellingTree) (A : ℕ → List ℕ → V → Type 0) (depth : ℕ) (a b : List StepTree) → ((s : StepTree) → Has s a → Has s b) → (s : StepTree) (c : MadeTree V) → OfStep lexicon sp A depth a s c → OfStep lexicon sp A depth b s c
step_moved lexicon sp A depth a b f s c o = record {
  front = o.front;
  stem = o.stem;
  is_entry = o.is_entry;
  leads = o.leads;
  carried = carries_same a b c.chain.from o.front s.from f o.carried;
  words_are = o.words_are;
  to_is = o.to_is;
  made = o.made;
  shallow = o.shallow;
}

-- the steps in one order for those in another
pub steps_same : {V : Type 0} (lexicon : List EntryTree) (sp : SpellingTree) (A : ℕ → List ℕ → V → Type 0) (depth : ℕ) (steps others sorted : List StepTree) (xs ys : List (MadeTree V)) → HaveSame others steps → HaveSame sorted steps
    → AddsThose (OfSome (OfStep lexicon sp A depth others) sorted) xs ys → AddsThose (OfSome (OfStep lexicon sp A depth steps) steps) xs ys
steps_same {V} lexicon sp A depth steps others sorted xs ys same order a =
    adds_like (OfSome (OfStep lexicon sp A depth others) sorted) (OfSome (OfStep lexicon sp A depth steps) steps) xs ys
    (λ c o. (o.0, order.there o.0 o.1, step_moved lexicon sp A depth others steps same.there o.0 c o.2)) (λ c o. (o.0, order.back o.0 o.1, step_moved lexicon sp A depth steps others same.back o.0 c o.2)) a

pub same_refl : (xs : List StepTree) → HaveSame xs xs
same_refl xs = record { there = λ s h. h; back = λ s h. h }
