-- Two nodes that become one, as a step.
use Rattle.std.proofs.Common.{ℕ, ◌≡◌, ◌⊎◌, inl, inr, true, Some, List, [], ◌∷◌, ◌++◌, sym, ◌∙◌, ap, subst}
use Rattle.fs_model.specs.Claims.{Claim, System, Has}
use Rattle.fs_model.specs.Table.{Table, NodeClaim, is_same, from}
use Rattle.fs_model.specs.Steps.{Joins}
use Rattle.fs_closing.specs.declared.cells.Cell.{Cell}
use Rattle.fs_closing.specs.Cells.{find_arc, AreOnce}
use Rattle.fs_closing.specs.NodeSteps.{Unites}
use Rattle.fs_closing.specs.Keeps.{arc_claims, PushesFacts}
use Rattle.fs_closing.proofs.ChainLemmas.{find_arc-has, found_of_once}
use Rattle.fs_closing.proofs.HasLemmas.{Has-left, Has-right, Has-either, Has-map, Has-of_map}

-- a fact of the new type, an arc of the node that goes, or other work
abbrev IsJoinWork : System → Table → ℕ → ℕ → ℕ → List NodeClaim → NodeClaim → Type 0
IsJoinWork s t a b v work c =
    ((x : ℕ) × (d : Claim) × (s.is_below v x ≡ true) × Has d (s.facts_of x) × (c ≡ from a d)) ⊎
    (((f : ℕ) × (m : ℕ) × (t.arc b f ≡ Some m) × (c ≡ is_same a (f ∷ []) m [])) ⊎ Has c work)

-- the arcs of the node that goes and the new facts are the work that is left of the pair
pub joins_by : (s : System) (t t' : Table) (a b v : ℕ) (arcs : List Cell) (work pushed extra : List NodeClaim) → Unites t t' a b v →
    s.meet (t.type_of a) (t.type_of b) ≡ Some v → ((f : ℕ) → t.arc b f ≡ find_arc arcs f) → AreOnce arcs →
    PushesFacts s a v (t.type_of a) (t.type_of b) work pushed → Joins s t t' (work ++ extra) ((arc_claims a arcs ++ pushed) ++ extra) a b v
joins_by s t t' a b v arcs work pushed extra joined meet listed once pushes = record {
  size_is = joined.size_is;
  live_b = joined.live_b;
  live_other = joined.live_other;
  arc_is = joined.arc_is;
  meet_is = meet;
  type_here = joined.type_here;
  type_other = joined.type_other;
  work_arcs = λ f m e.
      let x = find_arc-has arcs f m (sym (listed f) ∙ e) in
      Has-left _ _ extra (Has-left _ (arc_claims a arcs) pushed
      (subst (λ y. Has y (arc_claims a arcs))
      (ap (λ y. is_same a (y ∷ []) x.0.to []) x.2 ∙ ap (λ y. is_same a (f ∷ []) y []) x.3)
      (Has-map (λ c. is_same a (c.feat ∷ []) c.to []) x.0 arcs x.1)));
  work_facts = λ x c h i. facts x c (pushes.facts x c h i);
  work_rest = λ c h. rest c (Has-either c work extra h);
  work_only = λ c h. only c (Has-either c (arc_claims a arcs ++ pushed) extra h);
}
  where
    facts : (x : ℕ) (c : Claim) → (s.is_below (t.type_of a) x ≡ true) ⊎ ((s.is_below (t.type_of b) x ≡ true) ⊎ Has (from a c) pushed) →
        (s.is_below (t.type_of a) x ≡ true) ⊎ ((s.is_below (t.type_of b) x ≡ true) ⊎ Has (from a c) ((arc_claims a arcs ++ pushed) ++ extra))
    facts x c (inl e) = inl e
    facts x c (inr (inl e)) = inr (inl e)
    facts x c (inr (inr h)) = inr (inr (Has-left _ _ extra (Has-right _ (arc_claims a arcs) pushed h)))

    rest : (c : NodeClaim) → Has c work ⊎ Has c extra → Has c ((arc_claims a arcs ++ pushed) ++ extra)
    rest c (inl h) = Has-left c _ extra (Has-right c (arc_claims a arcs) pushed (pushes.rest c h))
    rest c (inr h) = Has-right c (arc_claims a arcs ++ pushed) extra h

    fact : (c : NodeClaim) → ((x : ℕ) × (d : Claim) × (s.is_below v x ≡ true) × Has d (s.facts_of x) × (c ≡ from a d)) ⊎ Has c work → IsJoinWork s t a b v (work ++ extra) c
    fact c (inl x) = inl x
    fact c (inr i) = inr (inr (Has-left c work extra i))

    new : (c : NodeClaim) → Has c (arc_claims a arcs) ⊎ Has c pushed → IsJoinWork s t a b v (work ++ extra) c
    new c (inl x) =
        let r = Has-of_map (λ c. is_same a (c.feat ∷ []) c.to []) c arcs x in
        inr (inl (r.0.feat, r.0.to, listed r.0.feat ∙ found_of_once arcs once r.0 r.1, r.2))
    new c (inr x) = fact c (pushes.only c x)

    only : (c : NodeClaim) → Has c (arc_claims a arcs ++ pushed) ⊎ Has c extra → IsJoinWork s t a b v (work ++ extra) c
    only c (inr h) = inr (inr (Has-right c work extra h))
    only c (inl h) = new c (Has-either c (arc_claims a arcs) pushed h)
