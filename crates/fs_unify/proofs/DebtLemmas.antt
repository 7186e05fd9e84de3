-- What hangs in a type's constraint is what a node owes at or below the type.
use Rattle.std.proofs.Common.{ℕ, ◌≡◌, ◌<◌, ◌⊎◌, inl, inr, Bool, true, false, Option, Some, None, List, [], ◌∷◌, ◌++◌, length, slice_index_or, refl, sym, ◌∙◌, ap, subst}
use Rattle.std.specs.Prelude.{◌||◌, if◌then◌else◌}
use Rattle.std.proofs.lemmas.List.{get_or_default}
use Rattle.type_hierarchy.specs.Table.{count_of, is_below}
use Rattle.fs_model.specs.Claims.{Path, Claim, exists_at, same, below, at, IsBare, Has, here}
use Rattle.fs_model.specs.Closure.{Closure, given_claim, below_exists, raised, topped, constrained}
use Rattle.fs_model.specs.Sources.{Tells, tells_exists, tells_same, tells_below, Told, told_claim}
use Rattle.fs_model.specs.Table.{from, Seen, walk}
use Rattle.fs_model.proofs.TableLemmas.{walk-append, walk-step, walk_ends}
use Rattle.fs_graph.specs.declared.graph.GraphArc.{GraphArc}
use Rattle.fs_graph.specs.GraphMap.{GraphMap, IsGraph, table_of, type_at, arcs_at, arc_to, reader_of}
use Rattle.fs_graph.specs.Inside.{graph_map}
use Rattle.fs_drawing.specs.Cutting.{is_cut_off}
use Rattle.fs_closing.specs.Constraints.{type_source, IsConstraint}
use Rattle.fs_closing.specs.NodeSteps.{IsGraphIn}
use Rattle.fs_closing.specs.Rules.{Grammar, no_rule, facts_in, rules_above, rules_with_facts, system_of, HaveSame}
use Rattle.fs_closing.proofs.RangeLemmas.{Has-filter}
use Rattle.fs_closing.proofs.RuleRowLemmas.{rule_has}
use Rattle.fs_closing.proofs.StepLemmas.{facts_of_rule}
use Rattle.fs_closing.proofs.GraftLemmas.{con_constrained}
use Rattle.fs_unify.specs.declared.debts.Debt.{Debt}
use Rattle.fs_unify.specs.Debts.{HaveBounds, Pays}
use Rattle.fs_unify.specs.Owing.{speaks_of}
use Rattle.fs_unify.specs.Inner.Hanging.{marked, kept_type, AreClosed, IsKeptGraph}
use Rattle.fs_unify.proofs.EnterLemmas.{arc_to_has, rises_found}
use Rattle.fs_unify.proofs.HangLemmas.{hang_on, cut_hangs, plan_walk, whole_walk}

kept_if : (a b : Bool) → a ≡ true → (a || b) ≡ true
kept_if a b e = ap (λ x. x || b) e

one_true : (a b : Bool) → (a || b) ≡ true → (a ≡ true) ⊎ (b ≡ true)
one_true true b e = inl refl
one_true false b e = inr e

-- nothing is written of the top type where no rule is above it
pub bare_of : (g : Grammar) (row : List ℕ) → row ≡ [] → HaveSame row (rules_above g.types g.rules 0) → IsBare (system_of g)
bare_of g row none alike t c b h =
    let r = facts_of_rule g.rules t c h in
    let above = Has-filter (λ j. is_below g.types 0 (slice_index_or g.rules j no_rule).ty) (rules_with_facts g.rules) r.0 (rule_has g.rules r.0 c r.1 r.3)
    (ap (is_below g.types 0) r.2 ∙ b) in
    elim (subst (Has r.0) none (alike.back r.0 above)) [ ]

-- types and features of what is kept are in range
pub kept_inside : (types feats : ℕ) → 0 < types → (whole kept : GraphMap) (is : IsGraph whole) (gi : IsGraph kept) (hang lead : List Bool) → IsKeptGraph hang lead whole kept →
    IsGraphIn types feats whole → IsGraphIn types feats kept
kept_inside types feats some whole kept is gi hang lead shows within = record {
  types_in = λ i d h. subst (λ x. x < types) (get_or_default kept.types i 0 d h) (type_in i h);
  feats_in = feats_in;
}
  where
    old : (q : Path) (j : ℕ) → walk (table_of kept) 0 q ≡ Some j → (m : ℕ) × (walk (table_of (graph_map shows.types shows.starts shows.arcs)) 0 q ≡ Some m) × (walk (table_of whole) 0 q ≡ Some m)
    old q j e =
        let b = shows.order.same.there_back q j e in
        (b.0, b.1, plan_walk whole is hang lead shows.types shows.starts shows.arcs shows.plan q 0 b.0 is.numbered.filled b.1)

    old_in : (q : Path) (m : ℕ) → walk (table_of whole) 0 q ≡ Some m → m < length whole.types
    old_in q m e = (walk_ends (table_of whole) is.numbered.table 0 m q is.numbered.filled e).0

    kept_in : (m : ℕ) → m < length whole.types → (b : Bool) → (if b then type_at whole m else 0) < types
    kept_in m h true = within.types_in m 0 h
    kept_in m h false = some

    type_in : (i : ℕ) → i < length kept.types → type_at kept i < types
    type_in i h =
        let e = (gi.numbered.is_least i h).leads in
        let b = old (gi.least i) i e in
        let m_in = old_in (gi.least i) b.0 b.2 in
        subst (λ x. x < types) (sym (shows.plan.types_are b.0 m_in) ∙ shows.order.same.types (gi.least i) b.0 i b.1 e) (kept_in b.0 m_in (marked hang b.0))

    arc_in : (n f m : ℕ) → n < length whole.types → walk (table_of whole) n (f ∷ []) ≡ Some m → f < feats
    arc_in n f m h e = by_arc (arc_to (arcs_at whole n) f) refl
      where
        by_arc : (o : Option ℕ) → arc_to (arcs_at whole n) f ≡ o → f < feats
        by_arc None q = absurd (let y : walk (table_of whole) n (f ∷ []) ≡ None = rw (walk, q) refl in cc)
        by_arc (Some j) q = let a = arc_to_has (arcs_at whole n) f j q in subst (λ x. x < feats) a.2 (within.feats_in n a.0 h a.1)

    feats_in : (i : ℕ) (a : GraphArc) → i < length kept.types → Has a (arcs_at kept i) → a.feat.0 < feats
    feats_in i a h has =
        let p = gi.least i in
        let f = a.feat.0 in
        let e = (gi.numbered.is_least i h).leads in
        let found = rises_found (arcs_at kept i) a (gi.rises i h) has in
        let one : walk (table_of kept) 0 (p ++ f ∷ []) ≡ Some a.to.0 = walk-append (table_of kept) gi.numbered.table 0 i p (f ∷ []) e ∙ walk-step (table_of kept) i a.to.0 f [] found in
        let here_is = old p i e in
        let there_is = old (p ++ f ∷ []) a.to.0 one in
        let on = sym (walk-append (table_of whole) is.numbered.table 0 here_is.0 p (f ∷ []) here_is.2) ∙ there_is.2 in
        arc_in here_is.0 f there_is.0 (old_in p here_is.0 here_is.2) on

module _ (g : Grammar) (ty : ℕ) (whole : GraphMap) (is : IsGraph whole) (con : IsConstraint g ty whole) (bare : IsBare (system_of g))
    (at_root anywhere : List ℕ) (hang lead : List Bool) (closed : AreClosed at_root anywhere hang lead whole (length whole.types))
    (debt : Debt) (gi : IsGraph debt.graph) (shows : IsKeptGraph hang lead whole debt.graph) (bounds : HaveBounds g debt.graph (length debt.graph.types) debt.bounds.items) where
  abbrev plan : GraphMap
  plan = graph_map shows.types shows.starts shows.arcs

  to_whole : (q : Path) (m : ℕ) → walk (table_of plan) 0 q ≡ Some m → walk (table_of whole) 0 q ≡ Some m
  to_whole q m w = plan_walk whole is hang lead shows.types shows.starts shows.arcs shows.plan q 0 m is.numbered.filled w

  in_whole : (q : Path) (m : ℕ) → walk (table_of whole) 0 q ≡ Some m → m < length whole.types
  in_whole q m w = (walk_ends (table_of whole) is.numbered.table 0 m q is.numbered.filled w).0

  -- a node that hangs, at a path of the whole, is in the plan, and in the graph
  in_plan : (q : Path) (m : ℕ) → walk (table_of whole) 0 q ≡ Some m → marked hang m ≡ true → walk (table_of plan) 0 q ≡ Some m
  in_plan q m w h =
      whole_walk whole is at_root anywhere hang lead closed shows.types shows.starts shows.arcs shows.plan q 0 m is.numbered.filled w
      (kept_if (marked hang m) (marked lead m) h)

  in_kept : (q : Path) (m : ℕ) → walk (table_of whole) 0 q ≡ Some m → marked hang m ≡ true → (j : ℕ) × (walk (table_of debt.graph) 0 q ≡ Some j)
  in_kept q m w h = shows.order.same.there q m (in_plan q m w h)

  -- a node's type, by the node of the whole at the same path
  type_is : (q : Path) (j m : ℕ) → walk (table_of debt.graph) 0 q ≡ Some j → walk (table_of plan) 0 q ≡ Some m → type_at debt.graph j ≡ kept_type hang whole m
  type_is q j m e p = sym (shows.order.same.types q m j p e) ∙ shows.plan.types_are m (in_whole q m (to_whole q m p))

  type_hangs : (q : Path) (j m : ℕ) → walk (table_of debt.graph) 0 q ≡ Some j → walk (table_of plan) 0 q ≡ Some m → marked hang m ≡ true → type_at debt.graph j ≡ type_at whole m
  type_hangs q j m e p h = type_is q j m e p ∙ ap (λ b. if b then type_at whole m else 0) h

  -- what it says follows from the type
  said : (c : Claim) → Tells (reader_of debt.graph) c → Closure (system_of g) (Told (type_source ty)) c
  said _ (tells_exists q n e) = let b = shows.order.same.there_back q n e in (con.structure.paths q).1 (b.0, to_whole q b.0 b.1)
  said _ (tells_same q r n e d) =
      let b = shows.order.same.there_back q n e in
      let c = shows.order.same.equal_back q r n b.0 e d b.1 in
      (con.structure.equalities q r).1 (b.0, to_whole q b.0 b.1, to_whole r b.0 c)
  said _ (tells_below q n e) =
      let b = shows.order.same.there_back q n e in
      subst (λ t. Closure (system_of g) (Told (type_source ty)) (below q t)) (sym (type_is q n b.0 e b.1)) (by_mark b.0 (to_whole q b.0 b.1) (marked hang b.0) refl)
    where
      by_mark : (m : ℕ) → walk (table_of whole) 0 q ≡ Some m → (x : Bool) → marked hang m ≡ x → Closure (system_of g) (Told (type_source ty)) (below q (kept_type hang whole m))
      by_mark m w true h =
          subst (λ t. Closure (system_of g) (Told (type_source ty)) (below q t)) (sym (ap (λ b. if b then type_at whole m else 0) h)) (con.structure.types_there q m w)
      by_mark m w false h =
          subst (λ t. Closure (system_of g) (Told (type_source ty)) (below q t)) (sym (ap (λ b. if b then type_at whole m else 0) h))
          (topped q ((con.structure.paths q).1 (m, w)))

  leads : (k : ℕ) → k < length debt.graph.types → walk (table_of debt.graph) 0 (gi.least k) ≡ Some k
  leads k h = (gi.numbered.is_least k h).leads

  further : (k : ℕ) (q : Path) (j : ℕ) → k < length debt.graph.types → walk (table_of debt.graph) 0 (gi.least k ++ q) ≡ Some j → walk (table_of debt.graph) k q ≡ Some j
  further k q j h e = sym (walk-append (table_of debt.graph) gi.numbered.table 0 k (gi.least k) q (leads k h)) ∙ e

  -- what is seen in the whole from a node that hangs is seen in the graph
  module _ (k n : ℕ) (k_in : k < length debt.graph.types) (n_in : n < length whole.types) (p : walk (table_of whole) 0 (gi.least k) ≡ Some n) (hangs : marked hang n ≡ true) where
    beyond : (q : Path) (m : ℕ) → walk (table_of whole) n q ≡ Some m → (marked hang m ≡ true) × (walk (table_of whole) 0 (gi.least k ++ q) ≡ Some m)
    beyond q m w = (
      hang_on whole is at_root anywhere hang lead closed q n m n_in w hangs,
      walk-append (table_of whole) is.numbered.table 0 n (gi.least k) q p ∙ w,
    )

    seen_on : (c : Claim) → Seen (system_of g) (table_of whole) (from n c) → Seen (system_of g) (table_of debt.graph) (from k c)
    seen_on (exists_at q) x =
        let b = beyond q x.0 x.1 in
        let j = in_kept (gi.least k ++ q) x.0 b.1 b.0 in
        (j.0, further k q j.0 k_in j.1)
    seen_on (same q r) x =
        let b = beyond q x.0 x.1 in
        let d = beyond r x.0 x.2 in
        let j = in_kept (gi.least k ++ q) x.0 b.1 b.0 in
        let one = in_plan (gi.least k ++ q) x.0 b.1 b.0 in
        let other = in_plan (gi.least k ++ r) x.0 d.1 d.0 in
        (j.0, further k q j.0 k_in j.1, further k r j.0 k_in (shows.order.same.equal (gi.least k ++ q) (gi.least k ++ r) x.0 j.0 one other j.1))
    seen_on (below q u) x =
        let b = beyond q x.0 x.1 in
        let j = in_kept (gi.least k ++ q) x.0 b.1 b.0 in
        let one = in_plan (gi.least k ++ q) x.0 b.1 b.0 in
        (j.0, further k q j.0 k_in j.1, ap (λ t. is_below g.types t u) (type_hangs (gi.least k ++ q) j.0 x.0 j.1 one b.0) ∙ x.2)

  constrains : (k x : ℕ) (c : Claim) → k < length debt.graph.types → is_below g.types (type_at debt.graph k) x ≡ true → Has c (facts_in g.rules x) →
      Seen (system_of g) (table_of debt.graph) (from k c)
  constrains k x c h b i = by_mark (marked hang back.0) refl
    where
      back : (m : ℕ) × (walk (table_of plan) 0 (gi.least k) ≡ Some m)
      back = shows.order.same.there_back (gi.least k) k (leads k h)

      w : walk (table_of whole) 0 (gi.least k) ≡ Some back.0
      w = to_whole (gi.least k) back.0 back.1

      by_mark : (y : Bool) → marked hang back.0 ≡ y → Seen (system_of g) (table_of debt.graph) (from k c)
      by_mark true hangs =
          let inside = in_whole (gi.least k) back.0 w in
          let t = type_hangs (gi.least k) k back.0 (leads k h) back.1 hangs in
          seen_on k back.0 h inside w hangs c
          (con_constrained (system_of g) whole is ty con.structure back.0 x c inside (ap (λ y. is_below g.types y x) (sym t) ∙ b) i)
      by_mark false free =
          let t = type_is (gi.least k) k back.0 (leads k h) back.1 ∙ ap (λ y. if y then type_at whole back.0 else 0) free in
          absurd (bare x c (ap (λ y. is_below g.types y x) (sym t) ∙ b) i)

  -- what is owed is seen from the root
  pays : (x : ℕ) (c : Claim) → is_below g.types ty x ≡ true → Has c (facts_in g.rules x) → speaks_of at_root anywhere c ≡ true →
      Seen (system_of g) (table_of debt.graph) (from 0 c)
  pays x c b i = seen c (fact c i)
    where
      fact : (c : Claim) → Has c (facts_in g.rules x) → Closure (system_of g) (Told (type_source ty)) (at [] c)
      fact c i = constrained [] x c (raised [] ty x (given_claim (below [] ty) (told_claim (below [] ty) here)) b) i

      seen : (c : Claim) → Closure (system_of g) (Told (type_source ty)) (at [] c) → speaks_of at_root anywhere c ≡ true → Seen (system_of g) (table_of debt.graph) (from 0 c)
      seen (exists_at q) y cut =
          let m = (con.structure.paths q).0 y in
          in_kept q m.0 m.1 (cut_hangs whole is at_root anywhere hang lead closed q m.0 m.1 cut)
      seen (same q r) y cut =
          let m = (con.structure.equalities q r).0 y in
          let hangs = by_side m.0 m.1 m.2 (one_true (is_cut_off at_root anywhere q) (is_cut_off at_root anywhere r) cut) in
          let j = in_kept q m.0 m.1 hangs in
          (j.0, j.1, shows.order.same.equal q r m.0 j.0 (in_plan q m.0 m.1 hangs) (in_plan r m.0 m.2 hangs) j.1)
        where
          by_side : (m : ℕ) → walk (table_of whole) 0 q ≡ Some m → walk (table_of whole) 0 r ≡ Some m →
              (is_cut_off at_root anywhere q ≡ true) ⊎ (is_cut_off at_root anywhere r ≡ true) → marked hang m ≡ true
          by_side m v w (inl e) = cut_hangs whole is at_root anywhere hang lead closed q m v e
          by_side m v w (inr e) = cut_hangs whole is at_root anywhere hang lead closed r m w e
      seen (below q u) y cut =
          let m = (con.structure.paths q).0 (below_exists q u y) in
          let hangs = cut_hangs whole is at_root anywhere hang lead closed q m.0 m.1 cut in
          let j = in_kept q m.0 m.1 hangs in
          (j.0, j.1, ap (λ t. is_below g.types t u) (type_hangs q j.0 m.0 j.1 (in_plan q m.0 m.1 hangs) hangs) ∙ con.structure.types_above q m.0 u m.1 y)

  pub debt_pays : IsGraphIn (count_of g.types) (length g.introducers) debt.graph → Pays g (speaks_of at_root anywhere) ty debt
  debt_pays inside = record { is = record { graph_in = inside; said = said; bounds = bounds; constrains = constrains }; pays = pays }
