use Rattle.packed_items.specs.Answers.{limits_in}
use Rattle.book_signs.specs.Trees.{signs_of}
use Rattle.grammar_rules.specs.Views.{item_answer}
use Rattle.lexical_items.specs.Seen.{lattice_seen}
use Rattle.morph_analysis.specs.LatticeViews.{lattice_of}
use Rattle.std.proofs.Common.{length}
use Rattle.engine.specs.Views.{speech_of}
use Rattle.engine.proofs.LineAnswers.{speech-answer}
use Rattle.engine.proofs.NamedTrees.{answer-named, answer-full, answer-few}
use Rattle.engine.proofs.lent.Engine.parse.Goals as goal

pub returns-clause-answer : goal.returns-clause-answer
returns-clause-answer g c =
    let e = c.args.self.now in
    speech-answer e c.lines-grammar.result c.lines-grammar.ensures.signs c.lines-grammar.ensures.words (lattice_of c.args.lattice.now) c.args.limits.now (item_answer c.in_ok-answer.answer) c.in_ok-answer.ensures

pub returns-clause-named : goal.returns-clause-named
returns-clause-named g c =
    let e = c.args.self.now in
    let answer = speech-answer e c.lines-grammar.result c.lines-grammar.ensures.signs c.lines-grammar.ensures.words (lattice_of c.args.lattice.now) c.args.limits.now (item_answer c.in_ok-answer.answer) c.in_ok-answer.ensures in
    answer-named (signs_of e.signs.now) (speech_of e).words (lattice_seen (lattice_of c.args.lattice.now)) c.args.limits.now.lexical (limits_in c.args.limits.now) (item_answer c.in_ok-answer.answer) (length e.grammar.now.names.items) c.laws.ensures.names answer

pub returns-clause-full : goal.returns-clause-full
returns-clause-full g c =
    let e = c.args.self.now in
    let answer = speech-answer e c.lines-grammar.result c.lines-grammar.ensures.signs c.lines-grammar.ensures.words (lattice_of c.args.lattice.now) c.args.limits.now (item_answer c.in_ok-answer.answer) c.in_ok-answer.ensures in
    answer-full (signs_of e.signs.now) (speech_of e).words (lattice_seen (lattice_of c.args.lattice.now)) c.args.limits.now.lexical (limits_in c.args.limits.now) (item_answer c.in_ok-answer.answer) answer

pub returns-clause-few : goal.returns-clause-few
returns-clause-few g c =
    let e = c.args.self.now in
    let answer = speech-answer e c.lines-grammar.result c.lines-grammar.ensures.signs c.lines-grammar.ensures.words (lattice_of c.args.lattice.now) c.args.limits.now (item_answer c.in_ok-answer.answer) c.in_ok-answer.ensures in
    answer-few (signs_of e.signs.now) (speech_of e).words (lattice_seen (lattice_of c.args.lattice.now)) c.args.limits.now.lexical c.args.limits.now (item_answer c.in_ok-answer.answer) c.requires.limits answer
