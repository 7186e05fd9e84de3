use Rattle.fs_closing.specs.Work.{work_of}
use Rattle.fs_closing.proofs.ClosingLemmas.{closing_on, closing_clashed, closing_ended}
use Rattle.fs_closing.proofs.closing.close_to.Goals as goal

pub returns-in-Clashed : goal.returns-in-Clashed
returns-in-Clashed c =
    closing_clashed c.args.system.now c.args.nodes.now (work_of c.args.system.now.rules c.args.tasks.now) c.loop.nodes c.loop.tasks c.step.new.nodes c.step.new.tasks _
    c.in-Clashed.is c.loop.invariant.leads c.in_ok-step.ensures

pub returns-in-Ended : goal.returns-in-Ended
returns-in-Ended c =
    closing_ended c.args.system.now c.args.nodes.now (work_of c.args.system.now.rules c.args.tasks.now) c.loop.nodes c.loop.tasks c.step.new.nodes c.step.new.tasks _
    c.in-Ended.is c.loop.invariant.leads c.loop.invariant.sound c.in_ok-step.ensures

pub returns-then-nodes-most : goal.returns-then-nodes-most
returns-then-nodes-most c =
    closing_on c.args.system.now c.args.nodes.now (work_of c.args.system.now.rules c.args.tasks.now) c.loop.nodes c.loop.tasks c.step.new.nodes c.step.new.tasks _
    c.in-Stepped.is c.loop.invariant.leads c.in_ok-step.ensures

pub loop-preserved : goal.loop-preserved
loop-preserved c =
    let r = closing_on c.args.system.now c.args.nodes.now (work_of c.args.system.now.rules c.args.tasks.now) c.loop.nodes c.loop.tasks c.step.new.nodes c.step.new.tasks _
    c.in-Stepped.is c.loop.invariant.leads c.in_ok-step.ensures in
    record { leads = r.0; sound = r.1 }
