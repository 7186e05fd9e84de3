use Rattle.std.proofs.Common.{arith}
use Rattle.side_by_side.proofs.Filling.{done_within, one_put, all_full, nil_of}
use Rattle.side_by_side.proofs.gathering.put_all.Goals as goal

pub put_one-requires : goal.put_one-requires
put_one-requires g c =
    let i = c.loop-one.invariant in
    let a = done_within (g.K.Work.Gives c.args._work.now) c.args._things.now c.loop-one.done.items c.pop.new.self.items c.in-Some.one c.in-Some.ensures.items i.still in let b = i.count in omega arith

pub loop-one-preserved : goal.loop-one-preserved
loop-one-preserved g c =
    one_put (g.K.Work.Gives c.args._work.now) c.args._things.now c.loop-one.places.items c.put_one.new.places.items c.loop-one.done.items c.pop.new.self.items c.in-Some.one c.in-Some.ensures.items c.put_one.ensures c.loop-one.invariant

pub returns-clause-full : goal.returns-clause-full
returns-clause-full g c =
    all_full (g.K.Work.Gives c.args._work.now) c.args._things.now c.loop-one.places.items c.loop-one.done.items
    (nil_of c.loop-one.done.items (let a = c.in_default.ensures.cases.0 in let o = c.loop-one.done.ok.0 in omega arith)) c.loop-one.invariant
