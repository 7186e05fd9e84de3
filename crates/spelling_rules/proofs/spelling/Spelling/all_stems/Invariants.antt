use Rattle.spelling_rules.specs.Forms.{AreStemsUnder}
use Rattle.spelling_rules.specs.Views.{stems_in}
use Rattle.spelling_rules.proofs.spelling.Spelling.all_stems.Given as goal

abbrev pub invariant-loop-rule : goal.invariant-loop-rule
invariant-loop-rule l = AreStemsUnder l.self l.rule l.form (stems_in l.out)
