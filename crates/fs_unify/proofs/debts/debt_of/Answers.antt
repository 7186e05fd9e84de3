use Rattle.std.proofs.Common.{length, sym, ◌∙◌, subst}
use Rattle.std.proofs.lemmas.Bool.{eqb-true}
use Rattle.std.proofs.lemmas.List.{nil_from_length}
use Rattle.fs_graph.specs.Facts.{path_of}
use Rattle.fs_closing.specs.Constraints.{IsConstraint}
use Rattle.fs_unify.proofs.DebtLemmas.{kept_inside, debt_pays, bare_of}
use Rattle.fs_unify.proofs.debts.debt_of.Goals as goal

pub rules_above-requires : goal.rules_above-requires
rules_above-requires c = c.laws.ensures.some

pub bounds_of-requires : goal.bounds_of-requires
bounds_of-requires c =
    let g = c.args.system.now in
    let whole = c.graph-whole.result.now in
    let is = subst (IsConstraint g c.args.constraint.now.ty) (sym c.graph-whole.ensures) c.requires in
    kept_inside _ _ c.laws.ensures.some whole c.in_ok-graph.graph c.laws-3.ensures c.laws-4.ensures c.in_ok-hanging.hanging.hang.items c.in_ok-hanging.hanging.lead.items
    c.in_ok-graph.ensures is.graph_in

pub returns : goal.returns
returns c =
    let g = c.args.system.now in
    let whole = c.graph-whole.result.now in
    let hang = c.in_ok-hanging.hanging.hang.items in
    let lead = c.in_ok-hanging.hanging.lead.items in
    let is = subst (IsConstraint g c.args.constraint.now.ty) (sym c.graph-whole.ensures) c.requires in
    let row = c.rules_above.result.now in
    let none = nil_from_length row (eqb-true (length row) 0 (sym c.is_empty.ensures ∙ c.if-not-is_empty.false)) in
    let bare = bare_of g row none c.rules_above.ensures in
    debt_pays g c.args.constraint.now.ty whole c.laws-3.ensures is bare (path_of c.args.off.at_root.now) (path_of c.args.off.anywhere.now) hang lead
    (c.are_closed.ensures c.if-not-are_closed.false) (record { graph = c.in_ok-graph.graph; bounds = c.in_ok-bounds.bounds }) c.laws-4.ensures c.in_ok-graph.ensures c.in_ok-bounds.ensures
    (kept_inside _ _ c.laws.ensures.some whole c.in_ok-graph.graph c.laws-3.ensures c.laws-4.ensures hang lead c.in_ok-graph.ensures is.graph_in)
