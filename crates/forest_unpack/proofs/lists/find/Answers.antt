use Rattle.forest_unpack.specs.Items.{chosen_items}
use Rattle.forest_unpack.proofs.Memos.{found_known, learn_one}
use Rattle.forest_unpack.proofs.lists.find.Goals as goal

pub returns-in-Some-clause-found : goal.returns-in-Some-clause-found
returns-in-Some-clause-found g c = found_known (g.F.Fulls.value c.args.fulls.now) (g.F.Fulls.wholes c.args.fulls.now) c.args.memo.now c.in-Some.answer c.question-question.result c.args.rule (chosen_items c.args.chosen.now) c.requires.memo c.in-Some.ensures.known c.in-Some.ensures.question c.question-question.ensures.rule c.question-question.ensures.daughters c.requires.numbered

pub returns-clause-memo : goal.returns-clause-memo
returns-clause-memo g c = learn_one (g.F.Fulls.value c.args.fulls.now) (g.F.Fulls.wholes c.args.fulls.now) c.args.memo.now c.ask.new.memo c.learn.new.self c.question-question.result c.in_ok-made.made c.args.rule (chosen_items c.args.chosen.now) c.in_ok-learn.ensures.known c.requires.memo c.in_ok-made.ensures.answers c.in_ok-made.ensures.known c.in_ok-learn.ensures.answers c.question-question.ensures.rule c.question-question.ensures.daughters c.requires.numbered c.in_ok-made.ensures.found
