use Rattle.std.proofs.Common.{◌∙◌, subst}
use Rattle.std.specs.Prelude.{IfSome}
use Rattle.std.specs.Result.{IfOk}
use Rattle.fs_graph.specs.Facts.{path_of}
use Rattle.fs_unify.specs.Debts.{Pays}
use Rattle.fs_unify.specs.Owing.{speaks_of}
use Rattle.fs_unify.proofs.owed.debt_if.Goals as goal

pub debt_of-requires : goal.debt_of-requires
debt_of-requires c = c.in-Some.ensures.1

pub returns : goal.returns
returns c =
    subst (λ t. IfOk c.debt_of.result (λ o. IfSome o (Pays c.args.system.now (speaks_of (path_of c.args.off.at_root.now) (path_of c.args.off.anywhere.now)) t)))
    (c.if-known-ty.false ∙ c.rule_type-ty.ensures.value) c.debt_of.ensures
