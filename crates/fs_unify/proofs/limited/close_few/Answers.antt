use Rattle.fs_closing.specs.Work.{work_of}
use Rattle.fs_unify.proofs.LimitLemmas.{led_filled, went_on, met_clash, came_to_end, exceeds}
use Rattle.fs_unify.proofs.limited.close_few.Goals as goal

pub returns-in-Clashed : goal.returns-in-Clashed
returns-in-Clashed c =
    met_clash c.args.system.now c.args.nodes.now c.args.tasks.now c.loop.nodes c.loop.tasks c.close_to.new.nodes c.close_to.new.tasks _
    c.in-Clashed.is c.loop.invariant.leads c.in_ok-close_to.ensures

pub returns-in-Ended : goal.returns-in-Ended
returns-in-Ended c =
    came_to_end c.args.system.now c.args.nodes.now c.args.tasks.now c.loop.nodes c.loop.tasks c.close_to.new.nodes c.close_to.new.tasks _
    c.in-Ended.is c.loop.invariant.leads c.in_ok-close_to.ensures

pub has_few-requires-clause-whole : goal.has_few-requires-clause-whole
has_few-requires-clause-whole c =
    (went_on c.args.system.now c.args.nodes.now c.args.tasks.now c.loop.nodes c.loop.tasks c.close_to.new.nodes c.close_to.new.tasks _
    c.in-Stepped.is c.loop.invariant.leads c.in_ok-close_to.ensures).1.whole

pub has_few-requires-clause-filled : goal.has_few-requires-clause-filled
has_few-requires-clause-filled c =
    led_filled c.args.system.now c.args.nodes.now c.args.tasks.now c.close_to.new.nodes c.close_to.new.tasks c.requires.stands
    (went_on c.args.system.now c.args.nodes.now c.args.tasks.now c.loop.nodes c.loop.tasks c.close_to.new.nodes c.close_to.new.tasks _
    c.in-Stepped.is c.loop.invariant.leads c.in_ok-close_to.ensures).0

pub returns-then-not-few : goal.returns-then-not-few
returns-then-not-few c =
    exceeds c.args.system.now c.args.limit c.args.nodes.now c.args.tasks.now c.close_to.new.nodes c.close_to.new.tasks c.in_ok-few.few c.if-not-few.true
    (went_on c.args.system.now c.args.nodes.now c.args.tasks.now c.loop.nodes c.loop.tasks c.close_to.new.nodes c.close_to.new.tasks _
    c.in-Stepped.is c.loop.invariant.leads c.in_ok-close_to.ensures).0 c.in_ok-few.ensures

pub loop-preserved : goal.loop-preserved
loop-preserved c =
    let r = went_on c.args.system.now c.args.nodes.now c.args.tasks.now c.loop.nodes c.loop.tasks c.close_to.new.nodes c.close_to.new.tasks _
    c.in-Stepped.is c.loop.invariant.leads c.in_ok-close_to.ensures in
    record { leads = r.0; sound = r.1 }
