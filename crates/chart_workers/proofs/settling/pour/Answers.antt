use Rattle.std.proofs.Common.{◌∙◌, ap, arith}
use Rattle.std.proofs.Math.Seq.{map-set_same}
use Rattle.atomic_table.proofs.Lists.{at_index}
use Rattle.chart_workers.specs.Whole.{pass_place, pass_doors}
use Rattle.chart_workers.proofs.Pours.{last_placed, others_placed, within, leads, still_linked, poured}
use Rattle.chart_workers.proofs.settling.pour.Goals as goal

pub index_mut-owner-requires : goal.index_mut-owner-requires
index_mut-owner-requires c =
    let i = c.loop-door.invariant in let at = last_placed _ _ _ _ c.in-Some.ensures.items i.placed in
    let w = within _ c.loop-door.passes.items c.in-Some.door.deque c.in-Some.door i.places at in let n = c.loop-door.passes.ok in omega arith

pub absorb-requires : goal.absorb-requires
absorb-requires c =
    let i = c.loop-door.invariant in let at = last_placed _ _ _ _ c.in-Some.ensures.items i.placed in
    let w = within _ c.loop-door.passes.items c.in-Some.door.deque c.in-Some.door i.places at in
    leads _ c.loop-door.passes.items c.in-Some.door.deque c.index_mut-owner.result.now c.in-Some.door i.places at (at_index c.loop-door.passes.items c.in-Some.door.deque c.index_mut-owner.result.now w c.index_mut-owner.ensures.value)

pub loop-door-preserved : goal.loop-door-preserved
loop-door-preserved c =
    let i = c.loop-door.invariant in let d = c.in-Some.door in let ps = c.loop-door.passes.items in let p = c.index_mut-owner.result.now in let q = c.absorb.new.self in let s = c.absorb.ensures.same in
    let at = last_placed _ _ _ _ c.in-Some.ensures.items i.placed in
    let w = within _ ps d.deque d i.places at in
    let here = at_index ps d.deque p w c.index_mut-owner.ensures.value in record {
      places = map-set_same pass_place ps d.deque q p (s.0 ∙ ap pass_place c.index_mut-owner.ensures.value) ∙ i.places;
      doors = map-set_same pass_doors ps d.deque q p (ap (λ v. v.items) s.2 ∙ ap pass_doors c.index_mut-owner.ensures.value) ∙ i.doors;
      linked = still_linked _ ps d.deque p q here s.1 s.2 i.linked;
      placed = others_placed _ _ _ d c.in-Some.ensures.items i.placed;
      all = λ f add t. poured f add t ps _ _ d p q here (i.linked d.deque p here).0 s.1 s.2 c.absorb.ensures.view c.in-Some.ensures.items ∙ i.all f add t;
    }
