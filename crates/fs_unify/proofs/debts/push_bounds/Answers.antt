use Rattle.std.proofs.Common.{◌≡◌, ◌<◌, ◌+◌, ◌⊎◌, true, take, slice_index_or, sym, ◌∙◌, subst}
use Rattle.std.proofs.lemmas.List.{take_more, take_all}
use Rattle.type_hierarchy.specs.Table.{count_of, is_below}
use Rattle.fs_model.specs.Claims.{Has}
use Rattle.fs_graph.specs.GraphMap.{type_at}
use Rattle.fs_closing.proofs.HasLemmas.{Has-at}
use Rattle.fs_unify.proofs.EnterLemmas.{no_arc}
use Rattle.fs_unify.proofs.BoundLemmas.{AddsBounds, adds_none, adds_bounded, adds_bound, adds_all}
use Rattle.fs_unify.proofs.debts.push_bounds.Goals as goal
use Rattle.fs_unify.proofs.debts.push_bounds.Goals.{then-wants_bound+in_ok-push, else-wants_bound}

pub introducer-introducer-requires : goal.introducer-introducer-requires
introducer-introducer-requires c =
    let list = c.arcs-arc-items.result.now in
    let i = c.loop-arc.arc-index in
    c.requires.graph.feats_in c.args.n (slice_index_or list i no_arc) c.requires.node
    (subst (Has (slice_index_or list i no_arc)) c.arcs-arc-items.ensures (Has-at list i no_arc c.loop-arc-test.true))

pub loop-arc-init : goal.loop-arc-init
loop-arc-init c = adds_none c.args.system.now c.args.graph.now c.args.n c.args.bounds.now.items c.requires.before

pub wants_bound-requires-clause-ty : goal.wants_bound-requires-clause-ty
wants_bound-requires-clause-ty c = subst (λ t. t < count_of c.args.system.now.types) (sym c.ty-ty.ensures) (c.requires.graph.types_in c.args.n 0 c.requires.node)

pub loop-arc-preserved : goal.loop-arc-preserved
loop-arc-preserved c =
    let g = c.args.system.now in
    let list = c.arcs-arc-items.result.now in
    let i = c.loop-arc.arc-index in
    let a = slice_index_or list i no_arc in
    let old = c.loop-arc.bounds.items in
    let introducer = c.introducer-introducer.result in
    elim c.if-wants_bound.branch [
      | then-wants_bound+in_ok-push w ↦
          subst (λ v. AddsBounds g c.args.graph.now c.args.n (take (i + 1) list) v.items) (sym w.bounds-is)
          (adds_bound g c.args.graph.now c.args.n (take i list) _ a old w.push.new.self.items introducer c.loop-arc.invariant
          (take_more list i no_arc c.loop-arc-test.true) w.in_ok-push.ensures.items (subst (Has a) c.arcs-arc-items.ensures (Has-at list i no_arc c.loop-arc-test.true))
          c.introducer-introducer.ensures.value c.introducer-introducer.ensures.within)
      | else-wants_bound w ↦
          let bounded : Has (record { node = c.args.n; ty = introducer }) old ⊎ (is_below g.types (type_at c.args.graph.now c.args.n) introducer ≡ true) =
          subst (λ t. Has (record { node = c.args.n; ty = introducer }) old ⊎ (is_below g.types t introducer ≡ true)) c.ty-ty.ensures
          (subst (λ l. Has (record { node = c.args.n; ty = introducer }) l ⊎ (is_below g.types c.ty-ty.result.0 introducer ≡ true)) c.deref.ensures.value
          (c.wants_bound.ensures w.if-wants_bound.false)) in
          subst (λ v. AddsBounds g c.args.graph.now c.args.n (take (i + 1) list) v.items) (sym w.bounds-is)
          (adds_bounded g c.args.graph.now c.args.n (take i list) _ a old c.loop-arc.invariant (take_more list i no_arc c.loop-arc-test.true)
          (subst (λ t. Has (record { node = c.args.n; ty = t }) old ⊎ (is_below g.types (type_at c.args.graph.now c.args.n) t ≡ true)) c.introducer-introducer.ensures.value bounded))
    ]

pub returns : goal.returns
returns c =
    let list = c.arcs-arc-items.result.now in
    adds_all c.args.system.now c.args.graph.now c.args.n (take c.loop-arc.arc-index list) c.loop-arc.bounds.items c.loop-arc.invariant
    (take_all c.loop-arc.arc-index list c.loop-arc-test.false ∙ c.arcs-arc-items.ensures)
