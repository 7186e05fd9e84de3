use Rattle.std.proofs.Common.{◌≡◌, ◌∙◌, ap, sym, map, set, arith}
use Rattle.std.proofs.Math.Seq.{map-set_same}
use Rattle.std.proofs.lemmas.List.{map-set}
use mathlib.Core.Option.{some}
use lib.ListN.{get_elem?}
use Rattle.atomic_table.proofs.Lists.{at_index, at_map}
use Rattle.chart_workers.specs.declared.hand.Hand.{Hand}
use Rattle.chart_workers.specs.Seats.{door_hand, door_place}
use Rattle.chart_workers.proofs.Steps.{one_part}
use Rattle.chart_workers.specs.Pools.{door_way}
use Rattle.chart_workers.proofs.PostLemmas.{way_same}
use Rattle.chart_workers.proofs.seat.PoolSeat.steal.Goals as goal

pub returns-in-Some-clause-same : goal.returns-in-Some-clause-same
returns-in-Some-clause-same g c =
    map-set_same door_place c.loop-at.self.doors.items c.loop-at.at c.steal.new.self c.index_mut-door.result.now (ap (λ p. p.0) c.steal.ensures.same ∙ ap door_place c.index_mut-door.ensures.value) ∙ c.loop-at.invariant.places

pub returns-in-Some-clause-some : goal.returns-in-Some-clause-some
returns-in-Some-clause-some g c =
    let l = c.loop-at.self.doors.items in let d = c.index_mut-door.result.now in
    let at : get_elem? l c.loop-at.at ≡ some d = at_index l c.loop-at.at d (let t = c.loop-at-test.true in let e = c.len.ensures in omega arith) c.index_mut-door.ensures.value in
    let there : get_elem? (map door_hand c.args.self.now.doors.items) c.loop-at.at ≡ some (door_hand d) = ap (λ (xs : _). get_elem? xs c.loop-at.at) (sym c.loop-at.invariant.hands) ∙ at_map door_hand l c.loop-at.at d at in (
      c.loop-at.at,
      door_hand d,
      there,
      map-set door_hand l c.loop-at.at c.steal.new.self ∙ ap (λ (xs : _). set xs c.loop-at.at (door_hand c.steal.new.self)) c.loop-at.invariant.hands ∙ ap (λ (v : Hand). set (map door_hand c.args.self.now.doors.items) c.loop-at.at v) (c.in-Some.ensures.some ∙ one_part (door_hand d) c.in-Some.task d.one),
    )

pub returns-in-Some-clause-ways : goal.returns-in-Some-clause-ways
returns-in-Some-clause-ways g c =
    map-set_same door_way c.loop-at.self.doors.items c.loop-at.at c.steal.new.self c.index_mut-door.result.now (way_same c.index_mut-door.result.now c.steal.new.self c.steal.ensures.number c.steal.ensures.same (c.steal.new.self.one ∙ sym c.index_mut-door.result.now.one) ∙ ap door_way c.index_mut-door.ensures.value) ∙ c.loop-at.invariant.ways

pub loop-at-preserved : goal.loop-at-preserved
loop-at-preserved g c = record {
  own = c.loop-at.invariant.own;
  number = c.loop-at.invariant.number;
  ways = map-set_same door_way c.loop-at.self.doors.items c.loop-at.at c.steal.new.self c.index_mut-door.result.now (way_same c.index_mut-door.result.now c.steal.new.self c.steal.ensures.number c.steal.ensures.same (c.steal.new.self.one ∙ sym c.index_mut-door.result.now.one) ∙ ap door_way c.index_mut-door.ensures.value) ∙ c.loop-at.invariant.ways;
  places = map-set_same door_place c.loop-at.self.doors.items c.loop-at.at c.steal.new.self c.index_mut-door.result.now (ap (λ p. p.0) c.steal.ensures.same ∙ ap door_place c.index_mut-door.ensures.value) ∙ c.loop-at.invariant.places;
  hands = map-set_same door_hand c.loop-at.self.doors.items c.loop-at.at c.steal.new.self c.index_mut-door.result.now (c.in_default.ensures.none ∙ ap door_hand c.index_mut-door.ensures.value) ∙ c.loop-at.invariant.hands;
}
