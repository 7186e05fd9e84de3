use Rattle.std.proofs.Common.{◌<◌, arith, refl, subst, sym, length, true}
use Rattle.chart_core.specs.Kept.{core_of, rows_in}
use Rattle.forest_unpack.specs.Plans.{row_of}
use Rattle.forest_unpack.specs.Inner.Memos.{known_in}
use Rattle.forest_unpack.proofs.Filling.{gave_on}
use Rattle.forest_unpack.proofs.Memos.{stays_same, stays_on, extends_same}
use Rattle.forest_unpack.proofs.Waiting.{daughters_low, full, list_same, row_fits, row_gone, waits_for, whole}
use Rattle.forest_unpack.proofs.listing.go_on.Goals as goal

pub loop-list-init : goal.loop-list-init
loop-list-init g c = (refl, λ x. x, stays_same (g.F.Fulls.value c.args.plan.now.fulls.now) (g.F.Fulls.wholes c.args.plan.now.fulls.now) c.args.memo.now c.args.table.now c.requires.ready, c.requires.list)

pub lacking-requires : goal.lacking-requires
lacking-requires g c =
    let fulls = c.args.plan.now.fulls.now in
    let value = g.F.Fulls.value fulls in
    let w = g.F.Fulls.wholes fulls in
    let made = rows_in (core_of c.args.plan.now.finished.now) in
    let known = known_in value c.loop-list.memo in
    let list = c.loop-list.list in
    let row = c.index-row.result.now in
    let low : list.next < length list.group.items = omega (arith, c.loop-list-test.true, c.len.ensures) in
    let fits = row_fits value w made (g.F.Fulls.named fulls) (g.F.Fulls.ruled fulls) c.args.plan.now.members.now.last.items c.args.plan.now.members.now.before.items c.args.plan.now.ranks.now c.requires.plan c.loop-list.cut known c.args.table.now list row c.loop-list.invariant.3 low c.index-row.ensures in
    λ d has. subst (λ n. d < n) (sym c.requires.table) (daughters_low (g.F.Fulls.named fulls) (g.F.Fulls.ruled fulls) (length made) c.args.plan.now.ranks.now list.host (row_of row) fits d has).0

pub add_row-requires-clause-row : goal.add_row-requires-clause-row
add_row-requires-clause-row g c =
    let fulls = c.args.plan.now.fulls.now in
    let value = g.F.Fulls.value fulls in
    let w = g.F.Fulls.wholes fulls in
    let made = rows_in (core_of c.args.plan.now.finished.now) in
    let known = known_in value c.loop-list.memo in
    let list = c.loop-list.list in
    let row = c.index-row.result.now in
    let low : list.next < length list.group.items = omega (arith, c.loop-list-test.true, c.len.ensures) in
    let fits = row_fits value w made (g.F.Fulls.named fulls) (g.F.Fulls.ruled fulls) c.args.plan.now.members.now.last.items c.args.plan.now.members.now.before.items c.args.plan.now.ranks.now c.requires.plan c.loop-list.cut known c.args.table.now list row c.loop-list.invariant.3 low c.index-row.ensures in
    (list.host, fits)

pub loop-list-preserved : goal.loop-list-preserved
loop-list-preserved g c =
    let fulls = c.args.plan.now.fulls.now in
    let value = g.F.Fulls.value fulls in
    let w = g.F.Fulls.wholes fulls in
    let made = rows_in (core_of c.args.plan.now.finished.now) in
    let known = known_in value c.loop-list.memo in
    let list = c.loop-list.list in
    let row = c.index-row.result.now in
    let low : list.next < length list.group.items = omega (arith, c.loop-list-test.true, c.len.ensures) in
    let added = c.in_ok-full.ensures in
    let gave = gave_on value w c.in_ok-full.full c.note.new.cut c.note.ensures.full c.args.table.now row list.made.items c.add_row.new.made.items added.made in (
      c.loop-list.invariant.0,
      λ x. c.note.ensures.before (c.loop-list.invariant.1 x),
      stays_on value w c.args.memo.now c.loop-list.memo c.add_row.new.memo c.args.table.now c.args.table.now c.loop-list.invariant.2 added.ready,
      row_gone value w made c.loop-list.cut c.note.new.cut c.note.ensures.before known (known_in value c.add_row.new.memo) added.ready.known c.args.table.now list row c.add_row.new.made low c.index-row.ensures c.loop-list.invariant.3 gave added.numbered,
    )

pub returns-then-len-most-clause-list : goal.returns-then-len-most-clause-list
returns-then-len-most-clause-list g c =
    let fulls = c.args.plan.now.fulls.now in
    let value = g.F.Fulls.value fulls in
    let w = g.F.Fulls.wholes fulls in
    let made = rows_in (core_of c.args.plan.now.finished.now) in
    let known = known_in value c.loop-list.memo in
    list_same value w made c.loop-list.cut true (λ x. refl) known known (extends_same known) c.args.table.now c.loop-list.list c.loop-list.invariant.3

pub returns-then-len-most-clause-done : goal.returns-then-len-most-clause-done
returns-then-len-most-clause-done g c =
    let fulls = c.args.plan.now.fulls.now in
    let value = g.F.Fulls.value fulls in
    let w = g.F.Fulls.wholes fulls in
    let made = rows_in (core_of c.args.plan.now.finished.now) in
    let known = known_in value c.loop-list.memo in
    full value w made c.loop-list.cut known c.args.table.now c.loop-list.list c.loop-list.invariant.3

pub returns-in-Some-clause-done : goal.returns-in-Some-clause-done
returns-in-Some-clause-done g c =
    let fulls = c.args.plan.now.fulls.now in
    let value = g.F.Fulls.value fulls in
    let w = g.F.Fulls.wholes fulls in
    let made = rows_in (core_of c.args.plan.now.finished.now) in
    let known = known_in value c.loop-list.memo in
    let list = c.loop-list.list in
    let row = c.index-row.result.now in
    let low : list.next < length list.group.items = omega (arith, c.loop-list-test.true, c.len.ensures) in
    let fits = row_fits value w made (g.F.Fulls.named fulls) (g.F.Fulls.ruled fulls) c.args.plan.now.members.now.last.items c.args.plan.now.members.now.before.items c.args.plan.now.ranks.now c.requires.plan c.loop-list.cut known c.args.table.now list row c.loop-list.invariant.3 low c.index-row.ensures in
    waits_for value w made (g.F.Fulls.named fulls) (g.F.Fulls.ruled fulls) c.args.plan.now.ranks.now c.args.table.now list.host c.in-Some.daughter (row_of row) fits c.in-Some.ensures

pub returns-clause-done : goal.returns-clause-done
returns-clause-done g c =
    let fulls = c.args.plan.now.fulls.now in
    let value = g.F.Fulls.value fulls in
    let w = g.F.Fulls.wholes fulls in
    let made = rows_in (core_of c.args.plan.now.finished.now) in
    let known = known_in value c.loop-list.memo in
    whole value w made c.loop-list.cut known c.args.table.now c.loop-list.list (omega (arith, c.loop-list-test.false, c.len.ensures)) c.loop-list.invariant.3
