use Rattle.std.proofs.Common.{◌∙◌, ◌<◌, ap, subst}
use Rattle.chart_model.proofs.Order.{rank}
use Rattle.chart_core.specs.Grammar.{grammar_of}
use Rattle.chart_core.specs.CoreView.{leaves_of, limits_of}
use Rattle.chart_core.proofs.Passes.{falls_by, ended}
use Rattle.chart_core.proofs.ordered.ordered_pass.Goals as goal

pub loop-size-smaller : goal.loop-size-smaller
loop-size-smaller g c =
    let s = c.args.shapes.now in
    let i = c.loop-size.invariant in
    let e = c.next.ensures in
    let u = c.args.limits.now.unary in
    subst (λ n. rank u c.advance.new.self.size c.advance.new.self.level < rank u n c.loop-size.pass.level) e.place.0
    (subst (λ n. rank u c.advance.new.self.size c.advance.new.self.level < rank u c.next.new.self.size n) e.place.1
    (falls_by (grammar_of g.S.Shapes g.S.Cover.Cover s) (g.met.S.Shapes.laws s) c.next.new.self e.passing c.in-Some.size c.in-Some.level c.in-Some.ensures.next
    c.advance.new.self c.args.limits.now (ap limits_of e.core ∙ (i.limits ∙ c.in_ok-pass.ensures.limits)) c.in_ok-advance.ensures.place.0 c.in_ok-advance.ensures.place.1))

pub loop-size-preserved : goal.loop-size-preserved
loop-size-preserved g c =
    let m = g.S.Shapes.meaning c.args.shapes.now in
    let i = c.loop-size.invariant in
    let n = c.next.ensures in
    let e = c.in_ok-advance.ensures in
    record { passing = e.passing; limits = e.over.limits_same ∙ (ap limits_of n.core ∙ i.limits); leaves = e.over.leaves_same ∙ (ap (leaves_of m) n.core ∙ i.leaves) }

pub returns : goal.returns
returns g c =
    let s = c.args.shapes.now in
    let m = g.S.Shapes.meaning s in
    let i = c.loop-size.invariant in
    let n = c.next.ensures in
    ended (grammar_of g.S.Shapes g.S.Cover.Cover s) (g.S.Shapes.full s) (g.S.Shapes.agrees s) _ _ _ _ c.end.result
    (ap limits_of n.core ∙ (i.limits ∙ c.in_ok-pass.ensures.limits)) (ap (leaves_of m) n.core ∙ (i.leaves ∙ c.in_ok-pass.ensures.leaves)) c.end.ensures
