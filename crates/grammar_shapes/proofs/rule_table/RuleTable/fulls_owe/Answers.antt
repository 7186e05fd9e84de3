use Rattle.std.proofs.Common.{subst}
use Rattle.fs_unify.specs.Owing.{ListsOwed}
use Rattle.fs_trim.specs.Cutting.{owed_of}
use Rattle.grammar_shapes.specs.Inner.Tables.{RuleList}
use Rattle.grammar_shapes.proofs.rule_table.RuleTable.fulls_owe.Goals as goal

pub returns : goal.returns
returns c = subst (λ (t : RuleList). ListsOwed t.grammar (owed_of t.daughters) c.self.inside.fulls_owe) c.self.view_is c.self.invariant.fulls
