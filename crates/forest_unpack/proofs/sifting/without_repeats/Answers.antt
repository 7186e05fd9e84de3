use Rattle.std.proofs.Common.{arith, subst}
use Rattle.std.proofs.lemmas.List.{nil_from_length}
use Rattle.forest_unpack.specs.Inner.Memos.{known_in}
use Rattle.forest_unpack.specs.Sifted.{IsThere}
use Rattle.forest_unpack.proofs.Repeats.{sifting_begins, sifting_ends, sifting_keeps, sifting_repeats}
use Rattle.forest_unpack.proofs.sifting.without_repeats.Goals as goal

pub loop-item-init : goal.loop-item-init
loop-item-init g c =
    sifting_begins (g.F.Fulls.value c.args._fulls.now) (known_in (g.F.Fulls.value c.args._fulls.now) c.args._memo.now) c.args.made.items c.order.new.items.items c.new-kept.result.items c.order.ensures c.new-kept.ensures.items c.requires

pub loop-item-preserved-then-repeats : goal.loop-item-preserved-then-repeats
loop-item-preserved-then-repeats g c =
    let there = subst (λ zs. IsThere zs c.in-Some.item.number) c.deref.ensures.value (c.repeats.ensures c.if-repeats.true) in
    sifting_repeats (g.F.Fulls.value c.args._fulls.now) (known_in (g.F.Fulls.value c.args._fulls.now) c.args._memo.now) c.args.made.items c.loop-item.items.items _ c.loop-item.kept.items c.in-Some.item c.in-Some.ensures.items there c.loop-item.invariant

pub loop-item-preserved : goal.loop-item-preserved
loop-item-preserved g c =
    sifting_keeps (g.F.Fulls.value c.args._fulls.now) (known_in (g.F.Fulls.value c.args._fulls.now) c.args._memo.now) c.args.made.items c.loop-item.items.items _ c.loop-item.kept.items _ c.in-Some.item c.in-Some.ensures.items c.in_ok-push.ensures.items c.loop-item.invariant

pub returns-clause-numbered : goal.returns-clause-numbered
returns-clause-numbered g c = c.loop-item.invariant.kept_numbered

pub returns-clause-sifted : goal.returns-clause-sifted
returns-clause-sifted g c =
    let over = nil_from_length c.loop-item.items.items (let a = c.in_default.ensures.cases.0 in let ok = c.loop-item.items.ok in omega arith) in
    sifting_ends (g.F.Fulls.value c.args._fulls.now) (known_in (g.F.Fulls.value c.args._fulls.now) c.args._memo.now) c.args.made.items c.loop-item.items.items c.loop-item.kept.items over c.loop-item.invariant
