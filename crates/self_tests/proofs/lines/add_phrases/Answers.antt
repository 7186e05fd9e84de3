use Rattle.self_tests.proofs.Joined.{phrases-step}
use Rattle.self_tests.specs.Lines.{phrase}
use Rattle.self_tests.proofs.lines.add_phrases.Goals as goal

pub loop-before-preserved : goal.loop-before-preserved
loop-before-preserved c =
    phrases-step (phrase c.args.place) c.args.line.now.items c.loop-before.line.items c.add_phrase.new.line.items c.loop-before.before c.loop-before.invariant c.in_ok-add_phrase.ensures
