use Rattle.std.proofs.Common.{subst, sym}
use Rattle.std.proofs.lemmas.Result.{IfOk-weaker}
use Rattle.morph_analysis.specs.LatticeViews.{lattice_of}
use Rattle.book_signs.specs.Trees.{signs_of}
use Rattle.rule_trees.specs.Mothers.{view_in}
use Rattle.lexical_items.specs.Listed.{AreLexemes}
use Rattle.lexical_items.specs.Seen.{lattice_seen}
use Rattle.grammar_rules.specs.LineLeaves.{AreLineLeaves, lexemes_of}
use Rattle.line_charts.proofs.line.unknown_words.Goals as goal

pub returns-in-LexicalDepth : goal.returns-in-LexicalDepth
returns-in-LexicalDepth c = λ t shapes words most are shallow. absurd (shallow (subst (AreLineLeaves t shapes words (lattice_of c.args.lattice.now) most) c.in-LexicalDepth.is are))

pub returns-in-Leaves : goal.returns-in-Leaves
returns-in-Leaves c =
    let l = lattice_seen (lattice_of c.args.lattice.now) in
    IfOk-weaker c.unknown_of.result _ _
    (λ us h t shapes words most are shallow. (
    let known = subst (AreLineLeaves t shapes words (lattice_of c.args.lattice.now) most) c.in-Leaves.is are in
    h (signs_of t) words most (λ full. view_in t full.graph) (subst (λ ts. AreLexemes (signs_of t) words l most (lexemes_of t ts)) (sym c.deref.ensures.value) known.0.1)))
    c.unknown_of.ensures
