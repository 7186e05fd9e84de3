use Rattle.std.proofs.Common.{subst}
use Rattle.tree_model.specs.Items.{Answer}
use Rattle.tree_model.specs.Answers.{IsParseAnswer}
use Rattle.lexical_items.specs.Seen.{lattice_seen}
use Rattle.packed_items.specs.Answers.{limits_in}
use Rattle.grammar_rules.specs.Views.{item_answer}
use Rattle.engine.specs.Views.{speech_of}
use Rattle.self_tests.proofs.counter.count_line.Goals as goal

pub returns : goal.returns
returns g c =
    let limits = c.args.limits.now in
    let speech = speech_of c.args.engine.now in
    let a : Answer = item_answer c.in-Ok-parse.answer in
    (a, subst (λ l. IsParseAnswer speech.signs speech.words (lattice_seen l) limits.lexical (limits_in limits) a) c.in-Ok.ensures.lattice c.in-Ok-parse.ensures.answer, c.count_of.ensures)
