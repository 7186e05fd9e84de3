use Rattle.std.proofs.Common.{◌≡◌, None, sym, ◌∙◌, ap, arith}
use Rattle.type_hierarchy.specs.Table.{is_below, meet_of}
use Rattle.fs_closing.specs.Rules.{system_of}
use Rattle.fs_closing.specs.Keeps.{deep_of}
use Rattle.fs_closing.specs.NodeTable.{table_of}
use Rattle.fs_closing.proofs.OrderLemmas.{order_of_laws}
use Rattle.fs_closing.proofs.StepLemmas.{Turns-below, Refutes-types}
use Rattle.fs_closing.proofs.grafts.put_under.Goals as goal

pub meet-requires-clause-a_in : goal.meet-requires-clause-a_in
meet-requires-clause-a_in c =
    omega (arith, c.ty_of-old.ensures, c.requires.sound.within.type_in c.live-n.result c.live-n.ensures.within)

pub returns-in_default-clause-steps : goal.returns-in_default-clause-steps
returns-in_default-clause-steps c =
    let types = c.args.system.now.types in
    let none : None ≡ meet_of types c.ty_of-old.result c.args.ty = cc (c.in_default.is, c.in_default.ensures.value) in
    Refutes-types (system_of c.args.system.now) (deep_of c.args.nodes.now) c.args.node c.live-n.result c.args.ty _ c.live-n.ensures.value
    (ap (λ t. meet_of types t c.args.ty) (sym c.ty_of-old.ensures) ∙ sym none)

pub returns-then-met-old-clause-steps : goal.returns-then-met-old-clause-steps
returns-then-met-old-clause-steps c =
    let types = c.args.system.now.types in
    let low = c.in-Some.ensures.laws.meet_below c.ty_of-old.result c.args.ty c.in-Some.met (sym c.in-Some.ensures.value) in
    let below = ap (λ t. is_below types t c.args.ty) (sym c.ty_of-old.ensures) ∙ ap (λ t. is_below types t c.args.ty) (sym c.if-met-old.true) ∙ low.1 in
    (Turns-below (system_of c.args.system.now) (deep_of c.args.nodes.now) c.args.node c.live-n.result c.args.ty _ c.live-n.ensures.value below, c.requires.sound)

pub graft-requires-clause-under : goal.graft-requires-clause-under
graft-requires-clause-under c =
    let types = c.args.system.now.types in
    record {
      met = c.in-Some.met;
      met_is = ap (λ k. meet_of types ((table_of c.args.nodes.now).type_of k) c.args.ty) (sym c.live-n.ensures.value)
          ∙ ap (λ t. meet_of types t c.args.ty) (sym c.ty_of-old.ensures) ∙ sym c.in-Some.ensures.value;
      below = c.in-Some-constraint_for.ensures.is.0;
    }

pub lower-requires-clause-order : goal.lower-requires-clause-order
lower-requires-clause-order c = order_of_laws c.args.system.now c.in-Some.ensures.laws

pub returns-clause-steps : goal.returns-clause-steps
returns-clause-steps c =
    let met = ap (λ t. meet_of c.args.system.now.types t c.args.ty) (sym c.ty_of-old.ensures) ∙ sym c.in-Some.ensures.value in
    (c.in_ok-lower.ensures.leads c.args.node c.args.ty (sym c.live-n.ensures.value) met, c.in_ok-lower.ensures.sound)

pub returns-clause-more : goal.returns-clause-more
returns-clause-more c = omega (arith, c.in_ok-lower.ensures.arcs.size)
