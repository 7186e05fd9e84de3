use Rattle.std.proofs.Common.{◌≡◌, ◌∙◌, [], ◌∷◌, ◌++◌, length, ap, sym, subst, rules, arith}
use lib.ListN.{get_elem?}
use Rattle.chart_core.specs.Grammar.{grammar_of}
use Rattle.chart_core.specs.Kept.{IsCore}
use Rattle.chart_rows.proofs.Sat.{popped, still_sits, sits_first, two_seats}
use Rattle.chart_rows.proofs.seats.shared.Goals as goal

pub loop-step-init : goal.loop-step-init
loop-step-init g c =
    let o = c.in_ok-chart.ensures in
    let p = popped c.in_ok-chart.seats.items c.pop.new.self.items c.pop-2.new.self.items c.in-Some-pop.first c.in-Some.second c.in-Some.ensures.items c.in-Some-pop.ensures.items o.count.0 in (
      search rules,
      search rules,
      sits_first c.in_ok-chart.chart c.args.shapes.now 0 c.args.core c.in-Some-pop.first (o.each 0 c.in-Some-pop.first (ap (λ l. get_elem? l 0) p.0)) o.count.2,
      sits_first c.in_ok-chart.chart c.args.shapes.now 1 c.args.core c.in-Some.second (o.each 1 c.in-Some.second (ap (λ l. get_elem? l 1) p.0)) o.count.2,
    )

pub loop-step-preserved : goal.loop-step-preserved
loop-step-preserved g c =
    let i = c.loop-step.invariant in (
      search rules,
      search rules,
      still_sits c.in_ok-chart.chart c.args.shapes.now 0 c.loop-step.both.first c.call.new.seats.first c.call.ensures.first i.2,
      still_sits c.in_ok-chart.chart c.args.shapes.now 1 c.loop-step.both.second c.call.new.seats.second c.call.ensures.second i.3,
    )

pub close-requires-clause-count : goal.close-requires-clause-count
close-requires-clause-count g c =
    let o = c.in_ok-chart.ensures in
    let p = popped c.in_ok-chart.seats.items c.pop.new.self.items c.pop-2.new.self.items c.in-Some-pop.first c.in-Some.second c.in-Some.ensures.items c.in-Some-pop.ensures.items o.count.0 in
    let is = c.in_ok-push-2.ensures.items ∙ ap (λ k. k ++ c.loop-step.both.second ∷ []) (c.in_ok-push.ensures.items ∙ ap (λ k. k ++ c.loop-step.both.first ∷ []) p.1) in
    let n : length c.push-2.new.self.items ≡ 2 = ap (λ k. length k) is in (n ∙ sym o.count.1, omega arith)

pub close-requires-clause-each : goal.close-requires-clause-each
close-requires-clause-each g c =
    let o = c.in_ok-chart.ensures in let i = c.loop-step.invariant in
    let p = popped c.in_ok-chart.seats.items c.pop.new.self.items c.pop-2.new.self.items c.in-Some-pop.first c.in-Some.second c.in-Some.ensures.items c.in-Some-pop.ensures.items o.count.0 in
    let is = c.in_ok-push-2.ensures.items ∙ ap (λ k. k ++ c.loop-step.both.second ∷ []) (c.in_ok-push.ensures.items ∙ ap (λ k. k ++ c.loop-step.both.first ∷ []) p.1) in
    two_seats c.in_ok-chart.chart c.args.shapes.now c.loop-step.both.first c.loop-step.both.second c.push-2.new.self.items is i.2 i.3

pub returns : goal.returns
returns g c = subst (λ s. IsCore (grammar_of g.S.Shapes g.S.Cover.Cover s) c.close.result) c.in_ok-chart.ensures.count.2 c.close.ensures.core
