use Rattle.std.proofs.Common.{All, Some, ◌∙◌, ap, subst, sym}
use Rattle.std.specs.Arc.{arc_value}
use Rattle.tree_model.specs.Counts as counts
use Rattle.forest_unpack.specs.Items.{full_values}
use Rattle.forest_unpack.specs.Plans.{row_of}
use Rattle.forest_unpack.specs.Inner.Classes.{IsFit, classes_at, classes_of}
use Rattle.forest_unpack.specs.Inner.Memos.{known_in}
use Rattle.forest_unpack.proofs.Grouping.{on_ok}
use Rattle.forest_unpack.proofs.Filling.{whole_fits}
use Rattle.forest_unpack.proofs.Memos.{value_at}
use Rattle.forest_unpack.proofs.Products.{leaf_fit, leaf_named, leaf_pushed, leaf_raised, more_fit, no_fulls, number_learned, whole_counts}
use Rattle.forest_unpack.proofs.Raising.{fit_on}
use Rattle.forest_unpack.proofs.Reaching.{none_reached}
use Rattle.forest_unpack.proofs.tallying.count_row.Goals as goal

pub leaf-requires : goal.leaf-requires
leaf-requires g c =
    let fulls = c.args.plan.now.fulls.now in
    leaf_named (g.F.Fulls.named fulls) (g.F.Fulls.ruled fulls) _ c.args.plan.now.ranks.now c.requires.row.0 c.args.row.now c.in-Leaf.name c.in-Leaf.is c.requires.row.1

pub returns-then-raise_at-clause-memo : goal.returns-then-raise_at-clause-memo
returns-then-raise_at-clause-memo g c =
    let fulls = c.args.plan.now.fulls.now in
    number_learned (g.F.Fulls.value fulls) (g.F.Fulls.wholes fulls) c.args.memo.now c.number.new.self c.requires.memo c.in_ok-number-in-Leaf.ensures.answers c.in_ok-number-in-Leaf.ensures.known

pub returns-then-raise_at-clause-made : goal.returns-then-raise_at-clause-made
returns-then-raise_at-clause-made g c =
    let fulls = c.args.plan.now.fulls.now in
    let value = g.F.Fulls.value fulls in
    let w = g.F.Fulls.wholes fulls in
    let named = g.F.Fulls.named fulls in
    let fit = fit_on value w named (known_in value c.args.memo.now) (known_in value c.number.new.self) c.in_ok-number-in-Leaf.ensures.known c.args.made.now.items c.requires.made in
    more_fit value w named (known_in value c.number.new.self) c.in_ok-number-in-Leaf.number 1 c.args.made.now.items c.raise_at.new.made.items (c.raise_at.ensures.more c.if-raise_at.true) fit

pub returns-then-raise_at-clause-counts : goal.returns-then-raise_at-clause-counts
returns-then-raise_at-clause-counts g c =
    let fulls = c.args.plan.now.fulls.now in
    let value = g.F.Fulls.value fulls in
    let w = g.F.Fulls.wholes fulls in
    let named = g.F.Fulls.named fulls in
    let fit = fit_on value w named (known_in value c.args.memo.now) (known_in value c.number.new.self) c.in_ok-number-in-Leaf.ensures.known c.args.made.now.items c.requires.made in
    leaf_raised value w named (known_in value c.number.new.self) c.args.row.now c.in-Leaf.name c.in_ok-number-in-Leaf.number (value (arc_value c.in_ok-full-in-Leaf.full)) (classes_at value c.args.table.now) c.args.made.now.items c.raise_at.new.made.items c.in-Leaf.is c.in_ok-number-in-Leaf.ensures.named c.in_ok-full-in-Leaf.ensures.full (c.raise_at.ensures.more c.if-raise_at.true) fit

pub returns-in_ok-push-in-Leaf-clause-memo : goal.returns-in_ok-push-in-Leaf-clause-memo
returns-in_ok-push-in-Leaf-clause-memo g c =
    let fulls = c.args.plan.now.fulls.now in
    number_learned (g.F.Fulls.value fulls) (g.F.Fulls.wholes fulls) c.args.memo.now c.number.new.self c.requires.memo c.in_ok-number-in-Leaf.ensures.answers c.in_ok-number-in-Leaf.ensures.known

pub returns-in_ok-push-in-Leaf-clause-made : goal.returns-in_ok-push-in-Leaf-clause-made
returns-in_ok-push-in-Leaf-clause-made g c =
    let fulls = c.args.plan.now.fulls.now in
    let value = g.F.Fulls.value fulls in
    let w = g.F.Fulls.wholes fulls in
    let named = g.F.Fulls.named fulls in
    let same = value_at value c.number.new.self.known.items c.in_ok-number-in-Leaf.number (arc_value c.in_ok-full-in-Leaf-2.full) _ c.in_ok-full-in-Leaf-2.ensures c.in_ok-number-in-Leaf.ensures.named in
    let before = subst (All (IsFit value w named (known_in value c.args.memo.now))) (sym (c.raise_at.ensures.same c.if-raise_at.false)) c.requires.made in
    let so = leaf_named named (g.F.Fulls.ruled fulls) _ c.args.plan.now.ranks.now c.requires.row.0 c.args.row.now c.in-Leaf.name c.in-Leaf.is c.requires.row.1 in
    leaf_fit value w named (known_in value c.args.memo.now) (known_in value c.number.new.self) c.in_ok-number-in-Leaf.ensures.known c.in-Leaf.name _ 1 c.raise_at.new.made.items _ before c.in_ok-push-in-Leaf.ensures.items
    (c.in_ok-number-in-Leaf.ensures.named ∙ ap Some (sym same)) so (same ∙ c.in_ok-full-in-Leaf.ensures.full)

pub returns-in_ok-push-in-Leaf-clause-counts : goal.returns-in_ok-push-in-Leaf-clause-counts
returns-in_ok-push-in-Leaf-clause-counts g c =
    let fulls = c.args.plan.now.fulls.now in
    let value = g.F.Fulls.value fulls in
    let w = g.F.Fulls.wholes fulls in
    let named = g.F.Fulls.named fulls in
    let same = value_at value c.number.new.self.known.items c.in_ok-number-in-Leaf.number (arc_value c.in_ok-full-in-Leaf-2.full) _ c.in_ok-full-in-Leaf-2.ensures c.in_ok-number-in-Leaf.ensures.named in
    subst (λ xs. counts.CountsRow w (classes_at value c.args.table.now) (row_of c.args.row.now) (classes_of value xs) (classes_of value c.push.new.self.items)) (c.raise_at.ensures.same c.if-raise_at.false)
    (leaf_pushed value w named c.args.row.now c.in-Leaf.name _ (classes_at value c.args.table.now) c.raise_at.new.made.items c.push.new.self.items c.in-Leaf.is (same ∙ c.in_ok-full-in-Leaf.ensures.full) c.in_ok-push-in-Leaf.ensures.items)

pub count_all-requires-clause-reached : goal.count_all-requires-clause-reached
count_all-requires-clause-reached g c =
    let fulls = c.args.plan.now.fulls.now in
    none_reached (g.F.Fulls.value fulls) (g.F.Fulls.wholes fulls) (g.F.Fulls.named fulls) _ c.nothing-none.ensures.items

pub returns-in-Whole-clause-counts : goal.returns-in-Whole-clause-counts
returns-in-Whole-clause-counts g c =
    let value = g.F.Fulls.value c.args.plan.now.fulls.now in
    let w = g.F.Fulls.wholes c.args.plan.now.fulls.now in
    on_ok c.count_all.result (λ all. whole_counts value w c.args.row.now c.in-Whole.rule c.in-Whole.daughters c.deref.result.now (full_values value c.nothing-none.result) c.args.table.now c.args.made.now.items c.count_all.new.made.items c.in-Whole.is c.deref.ensures.value (no_fulls value w c.nothing-none.result c.nothing-none.ensures.items) all) c.count_all.ensures.counts

pub count_all-requires-clause-rule : goal.count_all-requires-clause-rule
count_all-requires-clause-rule g c =
    let fulls = c.args.plan.now.fulls.now in
    (whole_fits (g.F.Fulls.named fulls) (g.F.Fulls.ruled fulls) _ c.args.plan.now.ranks.now c.requires.row.0 c.args.row.now c.in-Whole.rule c.in-Whole.daughters _ c.deref.result.now c.in-Whole.is c.deref.ensures.value c.nothing-none.ensures.count c.requires.row.1).0

pub count_all-requires-clause-short : goal.count_all-requires-clause-short
count_all-requires-clause-short g c =
    let fulls = c.args.plan.now.fulls.now in
    (whole_fits (g.F.Fulls.named fulls) (g.F.Fulls.ruled fulls) _ c.args.plan.now.ranks.now c.requires.row.0 c.args.row.now c.in-Whole.rule c.in-Whole.daughters _ c.deref.result.now c.in-Whole.is c.deref.ensures.value c.nothing-none.ensures.count c.requires.row.1).1
