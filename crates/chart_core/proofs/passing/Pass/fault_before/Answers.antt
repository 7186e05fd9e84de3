use Rattle.std.proofs.Common.{refl, subst}
use Rattle.chart_core.specs.Grammar.{grammar_of}
use Rattle.chart_core.specs.Counted.{IsFoundBelow}
use Rattle.chart_core.proofs.Decide.{found_at}
use Rattle.chart_core.proofs.Passes.{fault_or}
use Rattle.chart_core.proofs.passing.Pass.fault_before.Goals as goal

pub returns : goal.returns
returns g c =
    let s = c.args._shapes.now in
    fault_or (grammar_of g.S.Shapes g.S.Cover.Cover s) (g.met.S.Shapes.laws s) c.args.self.now c.requires.passing c.args.size c.args._level c.requires.next g.S.Cover.Cover.extent (g.met.S.Shapes.sizes s) c.fault_below.result
    (subst (λ n. IsFoundBelow g.S.Cover.Cover.extent c.args.self.now.core.edges c.args.self.now.core.unary n c.args.self.now.core.rows.items c.fault_below.result) c.from.ensures
    (found_at g.S.Cover.Cover.extent c.from.result _ _ _ _ _ _ _ _ refl refl c.deref.ensures.value refl c.fault_below.ensures))
