use Rattle.std.proofs.Common.{◌⊎◌, inl, inr, [], ◌∷◌, take, slice_index_or, sym, subst}
use Rattle.std.proofs.lemmas.List.{take_more, take_all}
use Rattle.fs_model.specs.Claims.{Has}
use Rattle.fs_graph.specs.declared.graph.GraphArc.{GraphArc}
use Rattle.fs_graph.specs.Facts.{path_of}
use Rattle.fs_closing.proofs.HasLemmas.{Has-either, Has-one}
use Rattle.fs_unify.specs.Inner.Hanging.{IsClosedArc}
use Rattle.fs_unify.proofs.EnterLemmas.{no_arc}
use Rattle.fs_unify.proofs.debts.is_closed.Goals as goal

pub loop-arc-init : goal.loop-arc-init
loop-arc-init c = λ a h. elim h [ ]

pub loop-arc-preserved : goal.loop-arc-preserved
loop-arc-preserved c = λ a h.
    let list = c.arcs-arc-items.result.now in
    let i = c.loop-arc.arc-index in
    let x = slice_index_or list i no_arc in
    one a (Has-either a (take i list) (x ∷ []) (subst (Has a) (take_more list i no_arc c.loop-arc-test.true) h))
  where
    one : (a : GraphArc) → Has a (take c.loop-arc.arc-index c.arcs-arc-items.result.now) ⊎ Has a (slice_index_or c.arcs-arc-items.result.now c.loop-arc.arc-index no_arc ∷ []) →
        IsClosedArc (path_of c.args.off.at_root.now) (path_of c.args.off.anywhere.now) c.args.hanging.now.hang.items c.args.hanging.now.lead.items c.args.n a
    one a (inl h) = c.loop-arc.invariant a h
    one a (inr h) =
        subst (IsClosedArc (path_of c.args.off.at_root.now) (path_of c.args.off.anywhere.now) c.args.hanging.now.hang.items c.args.hanging.now.lead.items c.args.n)
        (sym (Has-one a _ h)) (c.is_closed_arc.ensures c.if-not-is_closed_arc.false)

pub returns : goal.returns
returns c = λ e a h.
    let list = c.arcs-arc-items.result.now in
    c.loop-arc.invariant a (subst (Has a) (sym (take_all c.loop-arc.arc-index list c.loop-arc-test.false)) (subst (Has a) (sym c.arcs-arc-items.ensures) h))
