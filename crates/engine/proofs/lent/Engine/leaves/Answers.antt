use Rattle.morph_analysis.specs.LatticeViews.{lattice_of}
use Rattle.engine.proofs.LineAnswers.{speech-leaves}
use Rattle.engine.proofs.lent.Engine.leaves.Goals as goal

pub returns : goal.returns
returns c =
    let grammar = c.lines-grammar in
    speech-leaves c.args.self.now grammar.result grammar.ensures.signs grammar.ensures.words (lattice_of c.args.lattice.now) grammar.ensures.shapes c.args.most c.in_ok-leaves.leaves c.in_ok-leaves.ensures
