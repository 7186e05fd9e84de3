use Rattle.std.proofs.Common.{map, string_bytes, subst}
use Rattle.derivation.specs.Views.{derivation_of}
use Rattle.tree_model.specs.Lexical.{Words}
use Rattle.book_signs.specs.Trees.{signs_of}
use Rattle.tree_reading.specs.Grammars.{IsOver}
use Rattle.tree_faults.specs.Explained.{IsExplained}
use Rattle.tree_faults.specs.Views.{explanation_of}
use Rattle.line_commands.proofs.Explainings.{names-here}
use Rattle.line_commands.proofs.explainer.Explainer.told_of.Goals as goal

pub explained-requires-clause-formed : goal.explained-requires-clause-formed
explained-requires-clause-formed c =
    let e = c.args.self.now.engine in
    let t = derivation_of c.args.tree.now in
    c.written_trees.ensures.formed (signs_of e.signs.now) (map string_bytes e.grammar.now.names.items) t (subst (λ g. IsOver g t) c.requires.ready.names c.requires.over)

pub explained-requires-clause-numbered : goal.explained-requires-clause-numbered
explained-requires-clause-numbered c =
    let e = c.args.self.now.engine in
    let t = derivation_of c.args.tree.now in
    let book = c.word_book-book in
    c.written_trees.ensures.numbered (signs_of e.signs.now) (map string_bytes e.grammar.now.names.items) book.result t book.ensures.entries book.ensures.rules (subst (λ g. IsOver g t) c.requires.ready.names c.requires.over)

pub returns-in-Ok-clause-told : goal.returns-in-Ok-clause-told
returns-in-Ok-clause-told c =
    subst (λ (w : Words). IsExplained (signs_of c.args.self.now.engine.signs.now) w (derivation_of c.args.tree.now) (explanation_of c.in-Ok.explanation)) c.word_book-book.ensures.said c.in-Ok.ensures.explained

pub returns-in-Ok-clause-named : goal.returns-in-Ok-clause-named
returns-in-Ok-clause-named c = names-here c.args.self.now c.requires.ready.engine c.laws.ensures.names c.laws.ensures.feats (explanation_of c.in-Ok.explanation) c.in-Ok.ensures.named
