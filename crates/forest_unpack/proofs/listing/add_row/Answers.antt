use Rattle.std.proofs.Common.{ap, subst, sym, ◌∙◌, refl, false}
use Rattle.std.specs.Prelude.{Some}
use Rattle.std.proofs.lemmas.Result.{IfOk-weaker}
use Rattle.std.specs.Arc.{arc_value}
use Rattle.forest_unpack.specs.Items.{AllListed, chosen_of, items_of}
use Rattle.forest_unpack.specs.Plans.{row_of}
use Rattle.forest_unpack.specs.Inner.Making.{daughters_in}
use Rattle.forest_unpack.specs.Inner.Memos.{known_in}
use Rattle.forest_unpack.proofs.Filling.{gave_leaf, gave_whole, whole_fits}
use Rattle.forest_unpack.proofs.Reaching.{none_reached}
use Rattle.forest_unpack.proofs.Memos.{number_ready, numbered_push, value_at}
use Rattle.forest_unpack.proofs.listing.add_row.Goals as goal

pub returns-in_ok-push-in-Leaf-clause-made : goal.returns-in_ok-push-in-Leaf-clause-made
returns-in_ok-push-in-Leaf-clause-made g c = gave_leaf (g.F.Fulls.value c.args.plan.now.fulls.now) (g.F.Fulls.wholes c.args.plan.now.fulls.now) false c.args.from.now.table.now c.args.row.now c.in-Leaf.name _ _ _ c.in-Leaf.is c.in_ok-push-in-Leaf.ensures.items (value_at (g.F.Fulls.value c.args.plan.now.fulls.now) c.number.new.self.known.items c.in_ok-number-in-Leaf.number (arc_value c.in_ok-full-in-Leaf-2.full) _ c.in_ok-full-in-Leaf-2.ensures c.in_ok-number-in-Leaf.ensures.named ∙ c.in_ok-full-in-Leaf.ensures.full) c.in_ok-full-in-Leaf.ensures.tree

pub returns-in-Whole-clause-made : goal.returns-in-Whole-clause-made
returns-in-Whole-clause-made g c =
    let value = g.F.Fulls.value c.args.plan.now.fulls.now in
    let w = g.F.Fulls.wholes c.args.plan.now.fulls.now in
    let table = c.args.from.now.table.now in
    IfOk-weaker c.combine.result _ _ (λ cut adds. gave_whole value w cut cut (λ x. x) table table c.args.row.now c.in-Whole.rule c.in-Whole.daughters c.deref.result.now (chosen_of value c.nothing-none.result) _ _ refl c.in-Whole.is c.deref.ensures.value (ap (items_of value) c.nothing-none.ensures.items) (subst (λ r. AllListed table (daughters_in (row_of r))) c.in-Whole.is c.requires.listed) adds) c.combine.ensures.adds

pub combine-requires-clause-reached : goal.combine-requires-clause-reached
combine-requires-clause-reached g c =
    let fulls = c.args.plan.now.fulls.now in
    none_reached (g.F.Fulls.value fulls) (g.F.Fulls.wholes fulls) (g.F.Fulls.named fulls) _ c.nothing-none.ensures.items

pub returns-in_ok-push-in-Leaf-clause-ready : goal.returns-in_ok-push-in-Leaf-clause-ready
returns-in_ok-push-in-Leaf-clause-ready g c = number_ready (g.F.Fulls.value c.args.plan.now.fulls.now) (g.F.Fulls.wholes c.args.plan.now.fulls.now) c.args.memo.now c.number.new.self c.args.from.now.table.now c.requires.ready c.in_ok-number-in-Leaf.ensures.answers c.in_ok-number-in-Leaf.ensures.known

pub returns-in_ok-push-in-Leaf-clause-numbered : goal.returns-in_ok-push-in-Leaf-clause-numbered
returns-in_ok-push-in-Leaf-clause-numbered g c = numbered_push (g.F.Fulls.value c.args.plan.now.fulls.now) (known_in (g.F.Fulls.value c.args.plan.now.fulls.now) c.args.memo.now) (known_in (g.F.Fulls.value c.args.plan.now.fulls.now) c.number.new.self) c.in_ok-number-in-Leaf.ensures.known c.args.made.now.items _ _ c.requires.numbered c.in_ok-push-in-Leaf.ensures.items (c.in_ok-number-in-Leaf.ensures.named ∙ ap Some (sym (value_at (g.F.Fulls.value c.args.plan.now.fulls.now) c.number.new.self.known.items c.in_ok-number-in-Leaf.number (arc_value c.in_ok-full-in-Leaf-2.full) _ c.in_ok-full-in-Leaf-2.ensures c.in_ok-number-in-Leaf.ensures.named)))

pub combine-requires-clause-rule : goal.combine-requires-clause-rule
combine-requires-clause-rule g c =
    let fulls = c.args.plan.now.fulls.now in
    (whole_fits (g.F.Fulls.named fulls) (g.F.Fulls.ruled fulls) _ c.args.plan.now.ranks.now c.requires.row.0 c.args.row.now c.in-Whole.rule c.in-Whole.daughters _ c.deref.result.now c.in-Whole.is c.deref.ensures.value c.nothing-none.ensures.count c.requires.row.1).0

pub combine-requires-clause-short : goal.combine-requires-clause-short
combine-requires-clause-short g c =
    let fulls = c.args.plan.now.fulls.now in
    (whole_fits (g.F.Fulls.named fulls) (g.F.Fulls.ruled fulls) _ c.args.plan.now.ranks.now c.requires.row.0 c.args.row.now c.in-Whole.rule c.in-Whole.daughters _ c.deref.result.now c.in-Whole.is c.deref.ensures.value c.nothing-none.ensures.count c.requires.row.1).1
