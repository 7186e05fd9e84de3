use Rattle.std.proofs.Common.{subst}
use Rattle.morph_analysis.specs.LatticeViews.{lattice_of}
use Rattle.grammar_rules.specs.LineLeaves.{AreLineLeaves}
use Rattle.grammar_rules.specs.Lines.{words_by}
use Rattle.grammar_rules.specs.Views.{item_answer}
use Rattle.line_parsing.proofs.Answered.{fits_over, answers_over}
use Rattle.line_parsing.proofs.parsing.parse_words.Goals as goal

pub answer_remembered-found-requires-clause-leaves : goal.answer_remembered-found-requires-clause-leaves
answer_remembered-found-requires-clause-leaves g c κs within =
    let grammar = c.args.grammar.now in
    let lattice = lattice_of c.args.lattice.now in
    let h = subst (AreLineLeaves grammar.signs.now grammar.shapes.now (words_by grammar) lattice c.args.search.now.limits.now.lexical) c.in-Leaves.is c.in_ok-lines.ensures in
    h.2

pub answer_remembered-found-requires-clause-fit : goal.answer_remembered-found-requires-clause-fit
answer_remembered-found-requires-clause-fit g c κs within =
    let grammar = c.args.grammar.now in
    let lattice = lattice_of c.args.lattice.now in
    let h = subst (AreLineLeaves grammar.signs.now grammar.shapes.now (words_by grammar) lattice c.args.search.now.limits.now.lexical) c.in-Leaves.is c.in_ok-lines.ensures in
    fits_over grammar c.requires.grammar c.laws.ensures.order lattice c.args.search.now.limits.now c.in-Leaves.trees.items c.deref.result.now c.deref.ensures.value c.in-Leaves.leaves.items h.0 h.1 c.fulls_over-fulls.result.line.signs.now c.fulls_over-fulls.result.line.leaves.now c.fulls_over-fulls.result.line.end c.fulls_over-fulls.ensures.signs c.fulls_over-fulls.ensures.leaves c.fulls_over-fulls.ensures.end

pub returns-in-Ok : goal.returns-in-Ok
returns-in-Ok g c =
    let grammar = c.args.grammar.now in
    let lattice = lattice_of c.args.lattice.now in
    let h = subst (AreLineLeaves grammar.signs.now grammar.shapes.now (words_by grammar) lattice c.args.search.now.limits.now.lexical) c.in-Leaves.is c.in_ok-lines.ensures in
    answers_over grammar c.requires.grammar c.laws.ensures.order lattice c.args.search.now.limits.now c.in-Leaves.trees.items c.deref.result.now c.deref.ensures.value c.in-Leaves.leaves.items h.0 h.1 c.fulls_over-fulls.result.line.signs.now c.fulls_over-fulls.result.line.leaves.now c.fulls_over-fulls.result.line.end c.fulls_over-fulls.ensures.signs c.fulls_over-fulls.ensures.leaves c.fulls_over-fulls.ensures.end c.in-Ok.found (item_answer c.of_found.result) c.in-Ok.ensures c.of_found.ensures
