-- What holds in a graph that is well-formed but for some facts, and what becomes work of what it owes.
use Rattle.std.proofs.Common.{ℕ, ◌≡◌, ◌≢◌, ◌<◌, ◌==◌, ◌⊎◌, inl, inr, Bool, true, false, Some, List, [], ◌∷◌, ◌++◌, length, drop, map, slice_index_or, refl, sym, ◌∙◌, ap, eq-eqb}
use Rattle.std.specs.Prelude.{◌||◌, if◌then◌else◌}
use Rattle.std.specs.List.{list_any}
use Rattle.std.proofs.lemmas.Bool.{eqb-true}
use Rattle.fs_model.specs.Claims.{Path, Claim, exists_at, same, below, at, System, Has, here, there}
use Rattle.fs_model.specs.Closure.{Closure, given_claim, below_exists, introduced, raised, constrained}
use Rattle.fs_model.specs.Sources.{Reader, Tells, tells_exists, tells_below}
use Rattle.fs_model.specs.Table.{NodeClaim, from, Seen, walk}
use Rattle.fs_model.specs.Numbering.{IsBefore}
use Rattle.fs_model.proofs.TableLemmas.{walk-append, walk-step}
use Rattle.fs_graph.specs.declared.graph.GraphArc.{GraphArc}
use Rattle.fs_graph.specs.GraphMap.{GraphMap, IsGraph, table_of, type_at, arcs_at, reader_of}
use Rattle.fs_closing.specs.Rules.{Rule, no_rule}
use Rattle.fs_closing.specs.Work.{entry_claims}
use Rattle.fs_unify.specs.Entering.{Owes, IsWellFormed}
use Rattle.fs_unify.specs.Owing.{Holds, OwedFacts, is_owed, IsWellFormedBut}
use Rattle.fs_unify.proofs.EnterLemmas.{rises_found}

-- what the closure of a well-formed graph says holds in it
pub closed_holds : (s : System) (r : Reader) → IsWellFormed s r → (c : Claim) → Closure s (Tells r) c → Holds s r c
closed_holds s r well (exists_at p) x = (well.paths p).0 x
closed_holds s r well (same p q) x = (well.equalities p q).0 x
closed_holds s r well (below p t) x = let e = (well.paths p).0 (below_exists p t x) in (e.0, e.1, well.types_above p e.0 t e.1 x)

-- a well-formed graph is so but for nothing, and so but for anything
pub well_but : (s : System) (r : Reader) (owed : OwedFacts) → IsWellFormed s r → IsWellFormedBut s r owed
well_but s r owed well = record {
  introduced = λ p f n m h k. well.types_above p n (s.introducer f) h (introduced p f (given_claim (exists_at (p ++ f ∷ [])) (tells_exists (p ++ f ∷ []) m k)));
  constrained = λ p n u c h b i o.
      closed_holds s r well (at p c) (constrained p u c (raised p (r.type_of n) u (given_claim (below p (r.type_of n)) (tells_below p n h)) b) i);
}

not_before : (p : Path) → IsBefore p [] → ⊥
not_before p h = go p [] refl h
  where
    go : (p q : Path) → q ≡ [] → IsBefore p q → ⊥
    go p [] e h = elim h [ ]
    go p (f ∷ q) e h = absurd (let d : f ∷ q ≡ [] = e in cc)

module _ (s : System) (g : GraphMap) (graph : IsGraph g) (owed : OwedFacts) (well : IsWellFormedBut s (reader_of g) owed) where
  leads : (k : ℕ) → k < length g.types → walk (table_of g) 0 (graph.least k) ≡ Some k
  leads k h = (graph.numbered.is_least k h).leads

  further : (k : ℕ) (q : Path) (n : ℕ) → k < length g.types → walk (table_of g) 0 (graph.least k ++ q) ≡ Some n → walk (table_of g) k q ≡ Some n
  further k q n h e = sym (walk-append (table_of g) graph.numbered.table 0 k (graph.least k) q (leads k h)) ∙ e

  seen_from : (k : ℕ) → k < length g.types → (c : Claim) → Holds s (reader_of g) (at (graph.least k) c) → Seen s (table_of g) (from k c)
  seen_from k h (exists_at q) x = (x.0, further k q x.0 h x.1)
  seen_from k h (same q r) x = (x.0, further k q x.0 h x.1, further k r x.0 h x.2)
  seen_from k h (below q v) x = (x.0, further k q x.0 h x.1, x.2)

  -- a fact that isn't owed is seen
  pub fact_seen : (k u : ℕ) (c : Claim) → k < length g.types → s.is_below (type_at g k) u ≡ true → Has c (s.facts_of u) →
      is_owed owed (graph.least k) c ≡ false → Seen s (table_of g) (from k c)
  fact_seen k u c h b i o = seen_from k h c (well.constrained (graph.least k) k u c (leads k h) b i o)

  -- a node is at or below the introducers of its arcs
  pub arc_under : (k : ℕ) (a : GraphArc) → k < length g.types → Has a (arcs_at g k) → s.is_below (type_at g k) (s.introducer a.feat.0) ≡ true
  arc_under k a h i =
      let found = rises_found (arcs_at g k) a (graph.rises k h) i in
      let p = graph.least k in
      let one = walk-append (table_of g) graph.numbered.table 0 k p (a.feat.0 ∷ []) (leads k h) ∙ walk-step (table_of g) k a.to.0 a.feat.0 [] found in
      well.introduced p a.feat.0 k a.to.0 (leads k h) one

  least_root : graph.least 0 ≡ []
  least_root = go ((graph.numbered.is_least 0 graph.numbered.filled).least [] refl)
    where
      go : (graph.least 0 ≡ []) ⊎ IsBefore (graph.least 0) [] → graph.least 0 ≡ []
      go (inl e) = e
      go (inr h) = absurd (not_before (graph.least 0) h)

  -- the root alone has the empty path
  pub owed_at : (k : ℕ) (c : Claim) → k < length g.types → is_owed owed (graph.least k) c ≡ (if k == 0 then owed.at_root else owed.further) c
  owed_at k c h = by_root (k == 0) refl
    where
      past_root : (p : Path) → walk (table_of g) 0 p ≡ Some k → k ≢ 0 → is_owed owed p c ≡ owed.further c
      past_root [] e apart = absurd (apart (let d : k ≡ 0 = cc e in d))
      past_root (f ∷ p) e apart = refl

      by_root : (b : Bool) → (k == 0) ≡ b → is_owed owed (graph.least k) c ≡ (if k == 0 then owed.at_root else owed.further) c
      by_root true is =
          ap (λ n. is_owed owed (graph.least n) c) (eqb-true k 0 is) ∙ ap (λ p. is_owed owed p c) least_root ∙ sym (ap (λ b. (if b then owed.at_root else owed.further) c) is)
      by_root false is =
          past_root (graph.least k) (leads k h) (λ e. absurd (let d : true ≡ false = sym (eq-eqb k 0 e) ∙ is in cc))
          ∙ sym (ap (λ b. (if b then owed.at_root else owed.further) c) is)

-- a well-formed graph owes nothing
pub owes_closed : (s : System) (offset : ℕ) (g : GraphMap) (work : List NodeClaim) → IsGraph g → IsWellFormed s (reader_of g) →
    Owes s offset g (length g.types) work work
owes_closed s offset g work graph well = record {
  facts = λ k x c h b i. inr (fact_seen s g graph none (well_but s (reader_of g) none well) k x c h b i (none_owed (graph.least k) c));
  introduces = λ k a h i. inr (arc_under s g graph none (well_but s (reader_of g) none well) k a h i);
  rest = λ c h. h;
  only = λ c h. inr (inr h);
}
  where
    none : OwedFacts
    none = record { at_root = λ _. false; further = λ _. false }

    none_owed : (p : Path) (c : Claim) → is_owed (record { at_root = λ _. false; further = λ _. false }) p c ≡ false
    none_owed [] c = refl
    none_owed (f ∷ p) c = refl

pub any_has : {X : Type 0} (test : X → Bool) (x : X) (xs : List X) → Has x xs → test x ≡ true → list_any test xs ≡ true
any_has test x [] h e = elim h [ ]
any_has test x (_ ∷ xs) here e = ap (λ b. b || list_any test xs) e
any_has test x (y ∷ xs) (there h) e = ap (λ b. test y || b) (any_has test x xs h e) ∙ or_true (test y)
  where
    or_true : (b : Bool) → (b || true) ≡ true
    or_true true = refl
    or_true false = refl

dropped_none : {X : Type 0} (xs : List X) → drop 0 xs ≡ xs
dropped_none [] = refl
dropped_none (x ∷ xs) = refl

pub claims_here : (rules : List Rule) (n j : ℕ) → entry_claims rules (record { node = n; rule = j; from = 0 }) ≡ map (from n) (slice_index_or rules j no_rule).claims
claims_here rules n j = ap (map (from n)) (dropped_none (slice_index_or rules j no_rule).claims)
