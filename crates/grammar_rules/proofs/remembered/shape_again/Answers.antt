use Rattle.std.proofs.Common.{sym, subst}
use Rattle.tree_model.specs.Mothers.{Meant, IsAbstract}
use Rattle.tree_model.specs.Signs.{rule_system}
use Rattle.book_signs.specs.Trees.{signs_of}
use Rattle.grammar_rules.proofs.remembered.shape_again.Goals as goal

pub returns : goal.returns
returns c = λ full h.
    let r = rule_system (signs_of c.args._signs.now) in
    record { belongs = c.in_ok-again.ensures.0; shape = subst (IsAbstract r (Meant r full)) (sym c.in_ok-again.ensures.1) h.shape }
