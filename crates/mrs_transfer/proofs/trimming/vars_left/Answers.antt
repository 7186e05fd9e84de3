use Rattle.std.proofs.Common.{true, length, arith}
use Rattle.mrs_model.specs.Views.{variable_of}
use Rattle.mrs_transfer.proofs.Growing.{popped}
use Rattle.mrs_transfer.proofs.Left.{left_on, marked_here}
use Rattle.mrs_transfer.proofs.trimming.vars_left.Goals as goal

pub loop-var-preserved-in-Continue-branch-2 : goal.loop-var-preserved-in-Continue-branch-2
loop-var-preserved-in-Continue-branch-2 c =
    let p = popped c.args.vars.items c.loop-var.rest.items c.pop.new.self.items c.in-Some.var c.loop-var.invariant.front (omega (arith, c.loop-var.invariant.few, c.requires)) c.in-Some.ensures.items in
    record {
      few = omega (arith, p.0, c.loop-var.invariant.few);
      front = p.2;
      left =
          left_on variable_of c.args.marks.now c.args.vars.items c.loop-var.rest.items c.pop.new.self.items c.loop-var.backwards.items c.push.new.self.items c.in-Some.var true c.loop-var.invariant.few c.requires c.loop-var.invariant.front c.in-Some.ensures.items
          (marked_here c.args.marks.now c.len-in-Some.result (length c.pop.new.self.items) _ true c.if-marks-len.true (omega (arith, c.len-in-Some.ensures, c.pop.new.self.ok.0)) (omega (arith, p.0, c.loop-var.invariant.few)))
          c.in_ok-push.ensures.items c.loop-var.invariant.left;
    }
