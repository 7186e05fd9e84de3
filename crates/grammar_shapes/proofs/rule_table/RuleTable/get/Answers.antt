use Rattle.std.proofs.Common.{◌<◌, length, sym, subst}
use Rattle.fs_graph.specs.GraphMap.{reader_of}
use Rattle.fs_closing.specs.Rules.{system_of}
use Rattle.fs_unify.specs.Entering.{IsWellFormed}
use Rattle.grammar_shapes.proofs.TableLemmas.{has_at, got}
use Rattle.grammar_shapes.proofs.rule_table.RuleTable.get.Goals as goal

pub returns-clause-closed : goal.returns-clause-closed
returns-clause-closed c =
    let rules = c.self.inside.rules.items in
    let r = c.index.result.now in
    let l = subst (λ v. c.args.rule < length v.rules) (sym c.self.view_is) c.requires in
    subst (λ v. IsWellFormed (system_of v.grammar) (reader_of r.structure.now)) c.self.view_is
    (c.self.invariant.closed r (has_at rules c.args.rule r (got rules c.args.rule r l c.index.ensures)))
