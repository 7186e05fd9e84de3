use Rattle.std.proofs.Common.{arith}
use Rattle.shared_chart.proofs.Inform.{more_infos}
use Rattle.shared_chart.proofs.informing.inform_each.Goals as goal

pub loop-number-preserved : goal.loop-number-preserved
loop-number-preserved g c =
    let i = c.loop-number.invariant in let t = c.loop-number-test.true in record {
      infos = more_infos g.S.Cover.Cover.extent c.args.core.now c.args.first.0 c.loop-number.number c.loop-number.infos.items _ c.task.result i.low c.in_ok-add.ensures i.infos c.task.ensures;
      low = (let l = i.low in omega arith);
      high = (let h = i.high in omega arith);
    }
