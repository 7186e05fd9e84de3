use Rattle.std.specs.Prelude.{All}
use Rattle.std.proofs.Common.{ap, subst, sym}
use Rattle.chart_model.specs.Chart as model
use Rattle.chart_core.specs.Grammar.{grammar_of}
use Rattle.chart_core.specs.Counted.{IsSmall}
use Rattle.chart_core.proofs.Decide.{all_small, fault_answer, none_answer, count_answer, found_at}
use Rattle.chart_core.proofs.ended.Finished.decide.Goals as goal

pub fault_below-requires-clause-small : goal.fault_below-requires-clause-small
fault_below-requires-clause-small g c =
    let s = c.requires.core.0 in
    subst (All (IsSmall g.S.Cover.Cover.extent)) (sym c.deref.ensures.value) (all_small (grammar_of g.S.Shapes g.S.Cover.Cover s) (g.met.S.Shapes.laws s) g.S.Cover.Cover.extent (g.met.S.Shapes.sizes s) c.args.self.now.core c.requires.core.1)

pub count-requires : goal.count-requires
count-requires g c =
    let s = c.requires.core.0 in
    subst (All (IsSmall g.S.Cover.Cover.extent)) (sym c.deref-in-None.ensures.value) (all_small (grammar_of g.S.Shapes g.S.Cover.Cover s) (g.met.S.Shapes.laws s) g.S.Cover.Cover.extent (g.met.S.Shapes.sizes s) c.args.self.now.core c.requires.core.1)

pub returns-in-Some : goal.returns-in-Some
returns-in-Some g c =
    λ s is.
    fault_answer (grammar_of g.S.Shapes g.S.Cover.Cover s) (g.met.S.Shapes.laws s) g.S.Cover.Cover.extent (g.met.S.Shapes.sizes s) c.args.self.now.core is c.requires.done c.in-Some.fault
    (found_at g.S.Cover.Cover.extent 4294967296 _ _ _ _ _ _ _ _ (ap (λ (x : model.Limits). x.edges) c.requires.limits) (ap (λ (x : model.Limits). x.unary) c.requires.limits) c.deref.ensures.value c.in-Some.is c.fault_below.ensures)

pub returns-in-None : goal.returns-in-None
returns-in-None g c =
    λ s is. (
      none_answer (grammar_of g.S.Shapes g.S.Cover.Cover s) (g.met.S.Shapes.laws s) g.S.Cover.Cover.extent (g.met.S.Shapes.sizes s) c.args.self.now.core is c.requires.done
          (found_at g.S.Cover.Cover.extent 4294967296 _ _ _ _ _ _ _ _ (ap (λ (x : model.Limits). x.edges) c.requires.limits) (ap (λ (x : model.Limits). x.unary) c.requires.limits) c.deref.ensures.value c.in-None.is c.fault_below.ensures),
      count_answer (grammar_of g.S.Shapes g.S.Cover.Cover s) (g.met.S.Shapes.laws s) g.S.Cover.Cover.extent (g.met.S.Shapes.sizes s) c.args.self.now.core is c.requires.done _ _ _ c.count.ensures (ap (λ (x : model.Limits). x.unary) c.requires.limits) c.deref-in-None.ensures.value,
    )
