use Rattle.std.proofs.Common.{List, length, map, string_bytes, sym, subst}
use Rattle.std.specs.Str.{chars}
use Rattle.tree_model.specs.Items.{Answer}
use Rattle.tree_model.specs.Answers.{IsParseAnswer}
use Rattle.lexical_items.specs.Seen.{lattice_seen}
use Rattle.packed_items.specs.Answers.{limits_in}
use Rattle.grammar_rules.specs.Views.{item_answer}
use Rattle.engine.specs.Named.{AreNamed}
use Rattle.engine.specs.Speeches.{lattice_of_words}
use Rattle.engine.specs.Views.{speech_of}
use Rattle.engine.proofs.Results.{if-ok}
use Rattle.profile_reports.specs.Views.{Keeps}
use Rattle.profile_batch.specs.Results.{outcome_of}
use Rattle.profile_batch.proofs.judging.Judge.came.Goals as goal

pub returns-clause-kept : goal.returns-clause-kept
returns-clause-kept g c =
    let j = c.args.self.now in
    let speech = speech_of j.engine in
    let a : Answer = item_answer c.in-Ok-parse.answer in
    if-ok c.came_of.result
    (λ came. Keeps came (outcome_of (map string_bytes c.deref.result.now) a))
    (λ came. (answer : Answer)
    × IsParseAnswer speech.signs speech.words (lattice_seen (lattice_of_words (chars c.args.sentence.now))) j.limits.lexical (limits_in j.limits) answer
    × Keeps came (outcome_of speech.names answer))
    (λ came kept. (
      a,
      subst (λ l. IsParseAnswer speech.signs speech.words (lattice_seen l) j.limits.lexical (limits_in j.limits) a) c.in-Ok.ensures.lattice c.in-Ok-parse.ensures.answer,
      subst (λ ns. Keeps came (outcome_of (map string_bytes ns) a)) c.deref.ensures.value kept,
    )) c.came_of.ensures.kept

pub came_of-requires-clause-named : goal.came_of-requires-clause-named
came_of-requires-clause-named g c =
    subst (λ (ns : List _). AreNamed (length ns) (item_answer c.in-Ok-parse.answer)) (sym c.deref.ensures.value) c.in-Ok-parse.ensures.named
