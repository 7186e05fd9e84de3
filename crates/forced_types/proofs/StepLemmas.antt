-- Paths that go on, and arcs.
use Rattle.std.proofs.Common.{ℕ, ◌≡◌, ◌<◌, ◌≤◌, ◌+◌, ◌==◌, Bool, true, false, Some, List, [], ◌∷◌, ◌++◌, take, drop, length, slice_index_or, refl, sym, ◌∙◌, ap, subst, arith, length-append, append_assoc}
use Rattle.std.proofs.lemmas.Bool.{eqb-true}
use Rattle.std.proofs.lemmas.List.{length-map, get_or-map, take_more, take-append-drop}
use Rattle.fs_model.specs.Claims.{Path, Claim, exists_at, same, below, at, Has, here, there}
use Rattle.fs_model.specs.Sources.{Told, told_claim}
use Rattle.fs_graph.specs.declared.facts.Feat.{Feat}
use Rattle.fs_graph.specs.Facts.{path_of, claims_of}
use Rattle.fs_graph.specs.declared.graph.GraphArc.{GraphArc}
use Rattle.fs_graph.specs.GraphMap.{arc_to}
use Rattle.fs_closing.specs.Rules.{system_of, facts_in, IsClaimIn}
use Rattle.type_hierarchy.specs.Table.{count_of}
use Rattle.forced_types.specs.declared.given.Given.{Given}
use Rattle.forced_types.specs.declared.nodes.Nodes.{Nodes}
use Rattle.forced_types.specs.Forced.{IsWithin, IsPathIn, given_claim, given_front, same_extend, constrained, constrained_front}
use Rattle.forced_types.specs.Inner.Sound.{Forces, MayPut, most_of, KeepPaths, source_in}
use Rattle.forced_types.proofs.ForcedLemmas.{forced_within}

pub keeps_on : (a b c : Nodes) → KeepPaths a b → KeepPaths b c → KeepPaths a c
keeps_on a b c h k = record {
  more = omega (arith, h.more, k.more);
  same_at = λ n i. k.same_at n (let m = h.more in omega arith) ∙ h.same_at n i;
}

-- two equal paths go on with a feature
pub extended : (g : Given) (p q : Path) (f : ℕ) → Forces g (same p q) → Forces g (exists_at (p ++ f ∷ [])) → length q < most_of g →
    Forces g (same (p ++ f ∷ []) (q ++ f ∷ []))
extended g p q f a b h = same_extend p q (f ∷ []) a b (omega (arith, length-append q (f ∷ [])))

-- the path of a node with an arc is shorter than the bound
pub arc_shorter : (g : Given) (p q : Path) (f : ℕ) → Forces g (same (p ++ f ∷ []) q) → length p < most_of g
arc_shorter g p q f a =
    let h : length (p ++ f ∷ []) ≤ most_of g = (forced_within (system_of g.system.now) (most_of g) (Told (source_in g)) (same (p ++ f ∷ []) q) a).0 in
    omega (arith, length-append p (f ∷ []))

-- an arc that is found is there
pub arc_has : (arcs : List GraphArc) (f m : ℕ) → arc_to arcs f ≡ Some m → (a : GraphArc) × Has a arcs × (a.feat.0 ≡ f) × (a.to.0 ≡ m)
arc_has [] f m e = absurd cc
arc_has (a ∷ arcs) f m e = go (a.feat.0 == f) refl (arc_has arcs f m)
  where
    go : (b : Bool) → (a.feat.0 == f) ≡ b → (arc_to arcs f ≡ Some m → (x : GraphArc) × Has x arcs × (x.feat.0 ≡ f) × (x.to.0 ≡ m)) →
        (x : GraphArc) × Has x (a ∷ arcs) × (x.feat.0 ≡ f) × (x.to.0 ≡ m)
    go true is rest = let e' = rw is at e in let to : a.to.0 ≡ m = cc in (a, here, eqb-true a.feat.0 f is, to)
    go false is rest = let r = rest (rw is at e) in (r.0, there r.1, r.2, r.3)

-- a path as far as one feature more
pub path_more : (P : Path) (path : List Feat) (i : ℕ) (d : Feat) → i < length path →
    (P ++ take i (path_of path)) ++ (slice_index_or path i d).0 ∷ [] ≡ P ++ take (i + 1) (path_of path)
path_more P path i d h =
    let within : i < length (path_of path) = omega (arith, length-map path (λ (f : Feat). f.0)) in
    let at : slice_index_or (path_of path) i 0 ≡ (slice_index_or path i d).0 = get_or-map (λ (f : Feat). f.0) path i d 0 h in
    append_assoc P (take i (path_of path)) ((slice_index_or path i d).0 ∷ [])
    ∙ ap (λ x. P ++ (take i (path_of path) ++ x ∷ [])) (sym at)
    ∙ ap (λ x. P ++ x) (sym (take_more (path_of path) i 0 within))

pub path_split : (P : Path) (path : List Feat) (i : ℕ) (d : Feat) → i < length path →
    ((P ++ take i (path_of path)) ++ (slice_index_or path i d).0 ∷ []) ++ drop (i + 1) (path_of path) ≡ P ++ path_of path
path_split P path i d h =
    ap (λ x. x ++ drop (i + 1) (path_of path)) (path_more P path i d h)
    ∙ append_assoc P (take (i + 1) (path_of path)) (drop (i + 1) (path_of path))
    ∙ ap (λ x. P ++ x) (take-append-drop (i + 1) (path_of path))

-- a fact of a type may be put where the type is forced
pub may_put : (g : Given) (p : Path) (ty : ℕ) (c : Claim) → Forces g (below p ty) → Has c (facts_in g.system.now.rules ty) →
    IsClaimIn (count_of g.system.now.types) (length g.system.now.introducers) c → MayPut g p c
may_put g p ty c low has inside = record {
  fronts = λ x i q r e l. constrained_front p ty c q r low has (subst (λ y. IsPathIn y (at p c)) (sym e) i) l;
  claim = λ w. constrained p ty c low has w;
  inside = inside;
}

at_root : (c : Claim) → at [] c ≡ c
at_root (exists_at p) = refl
at_root (same p q) = refl
at_root (below p t) = refl

-- a fact that is given may be put at the root
pub given_put : (g : Given) (p : Path) (c : Claim) → p ≡ [] → Has c (claims_of g.facts.now) → IsClaimIn (count_of g.system.now.types) (length g.system.now.introducers) c → MayPut g p c
given_put g p c root has inside = subst (λ x. MayPut g x c) (sym root) (record {
  fronts = λ x i q r e l. given_front c q r (told_claim c has) (subst (λ y. IsPathIn y c) (sym e) (subst (IsPathIn x) (at_root c) i)) l;
  claim = λ w. subst (Forces g) (sym (at_root c)) (given_claim c (told_claim c has) (subst (IsWithin (most_of g)) (at_root c) w));
  inside = inside;
})
