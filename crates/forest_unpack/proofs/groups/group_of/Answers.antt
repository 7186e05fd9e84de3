use Rattle.std.proofs.Common.{◌<◌, ap, sym, subst, arith, length, map}
use Rattle.chart_core.specs.Kept.{core_of, rows_in}
use Rattle.forest_unpack.specs.Plans.{row_of}
use Rattle.forest_unpack.specs.Inner.Memos.{places_left}
use Rattle.forest_unpack.proofs.Grouping.{walk_start, walk_end, walk_low, walk_less, walk_step}
use Rattle.forest_unpack.proofs.groups.group_of.Goals as goal

pub index-next-requires : goal.index-next-requires
index-next-requires g c = let lasts = c.requires.members.lasts in let low = c.requires.host in omega (arith, lasts, low)

pub loop-next-init : goal.loop-next-init
loop-next-init g c =
    walk_start (rows_in (core_of c.args.finished.now)) c.args.host c.args.members.now.before.items c.args.members.now.last.items c.index-next.result.now (map row_of c.new-group.result.items) c.requires.members c.requires.host c.index-next.ensures (ap (map row_of) c.new-group.ensures.items)

pub row-row-requires : goal.row-row-requires
row-row-requires g c = walk_low (rows_in (core_of c.args.finished.now)) c.args.host c.args.members.now.before.items c.loop-next.next (map row_of c.loop-next.group.items) c.loop-next.invariant c.in-Some.number c.in-Some.is

pub index-next-requires-in-Some : goal.index-next-requires-in-Some
index-next-requires-in-Some g c =
    let low = walk_low (rows_in (core_of c.args.finished.now)) c.args.host c.args.members.now.before.items c.loop-next.next (map row_of c.loop-next.group.items) c.loop-next.invariant c.in-Some.number c.in-Some.is in
    let befores = c.requires.members.befores in
    omega (arith, low, befores)

pub loop-next-smaller : goal.loop-next-smaller
loop-next-smaller g c =
    let low = walk_low (rows_in (core_of c.args.finished.now)) c.args.host c.args.members.now.before.items c.loop-next.next (map row_of c.loop-next.group.items) c.loop-next.invariant c.in-Some.number c.in-Some.is in
    let befores = c.requires.members.befores in
    let inside : c.in-Some.number < length c.args.members.now.before.items = omega (arith, low, befores) in
    subst (λ o. places_left c.index-next-in-Some.result.now < places_left o) (sym c.in-Some.is)
    (walk_less (rows_in (core_of c.args.finished.now)) c.args.host c.args.members.now.before.items c.loop-next.next (map row_of c.loop-next.group.items) c.loop-next.invariant c.in-Some.number c.in-Some.is c.index-next-in-Some.result.now inside c.index-next-in-Some.ensures)

pub loop-next-preserved : goal.loop-next-preserved
loop-next-preserved g c =
    let low = walk_low (rows_in (core_of c.args.finished.now)) c.args.host c.args.members.now.before.items c.loop-next.next (map row_of c.loop-next.group.items) c.loop-next.invariant c.in-Some.number c.in-Some.is in
    let befores = c.requires.members.befores in
    let inside : c.in-Some.number < length c.args.members.now.before.items = omega (arith, low, befores) in
    walk_step (rows_in (core_of c.args.finished.now)) c.args.host c.args.members.now.before.items c.loop-next.next (map row_of c.loop-next.group.items) c.loop-next.invariant c.in-Some.number c.in-Some.is c.index-next-in-Some.result.now inside c.index-next-in-Some.ensures
    c.row-row.result.now (map row_of c.add_told.new.group.items) c.row-row.ensures c.in_ok-add_told.ensures

pub returns : goal.returns
returns g c = walk_end (rows_in (core_of c.args.finished.now)) c.args.host c.args.members.now.before.items c.loop-next.next (map row_of c.loop-next.group.items) c.loop-next.invariant c.in_default.is
