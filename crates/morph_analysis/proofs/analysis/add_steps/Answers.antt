use Rattle.std.proofs.Common.{◌+◌, map, take, sym, subst, refl, length}
use Rattle.morph_analysis.specs.Inner.Adding.{AddsThose, OfSome, OfStep}
use Rattle.morph_analysis.specs.Views.{made_of}
use Rattle.morph_analysis.proofs.Lists.{map_take_next, all_taken, Has-at}
use Rattle.morph_analysis.specs.LatticeViews.{step_of}
use denote.Ref.{Bor}
use Rattle.morph_analysis.specs.declared.lattice.Step.{Step}
use Rattle.morph_analysis.specs.Spelled.{IsSpelled}
use Rattle.morph_analysis.proofs.AddLemmas.{some_none, some_more, within}
use Rattle.morph_analysis.proofs.StepLemmas.{of_step, same_refl}
use Rattle.morph_analysis.specs.Inner.Adding.{OfNodes}
use Rattle.morph_analysis.proofs.EnoughLemmas.{at_exit, step_is}
use Rattle.morph_analysis.proofs.analysis.add_steps.Goals as goal

pub add_step-requires : goal.add_step-requires
add_step-requires g c = within c.args.search.now.spelling.now c.as_str.result.now c.args.search.now.depth c.in_ok-graph.graph c.in_ok-graph.ensures

pub loop-i-init : goal.loop-i-init
loop-i-init g c = record {
  graph = subst (λ w. IsSpelled c.args.search.now.spelling.now w c.args.search.now.depth c.in_ok-first.first) (sym c.in_ok-first.ensures.root.1) c.in_ok-first.ensures;
  chains = some_none (OfStep c.args.search.now.lexicon.now c.args.search.now.spelling.now (g.M.Maker.makes c.args.search.now.maker.now) c.args.search.now.depth c.args.search.now.arrivals.now) (map (made_of (g.M.Maker.value c.args.search.now.maker.now)) c.args.out.now.items);
}

pub loop-i-preserved : goal.loop-i-preserved
loop-i-preserved g c = record {
  graph = subst (λ w. IsSpelled c.args.search.now.spelling.now w c.args.search.now.depth c.in_ok-graph.graph) (sym c.in_ok-graph.ensures.root.1) c.in_ok-graph.ensures;
  chains = some_more (OfStep c.args.search.now.lexicon.now c.args.search.now.spelling.now (g.M.Maker.makes c.args.search.now.maker.now) c.args.search.now.depth c.args.search.now.arrivals.now) (map (λ (s : Bor Step). step_of s.now) (take c.loop-i.i c.args.sorted.now)) (map (λ (s : Bor Step). step_of s.now) (take (c.loop-i.i + 1) c.args.sorted.now)) (step_of c.index-sorted-i.result.now)
      (map (made_of (g.M.Maker.value c.args.search.now.maker.now)) c.args.out.now.items) (map (made_of (g.M.Maker.value c.args.search.now.maker.now)) c.loop-i.out.items) (map (made_of (g.M.Maker.value c.args.search.now.maker.now)) c.add_step.new.out.items) (map_take_next (λ (s : Bor Step). step_of s.now) c.args.sorted.now c.loop-i.i c.index-sorted-i.result c.loop-i-test.true c.index-sorted-i.is) c.loop-i.invariant.chains
      (of_step c.args.search.now.lexicon.now c.args.search.now.spelling.now c.in_ok-graph.graph (g.M.Maker.makes c.args.search.now.maker.now) c.args.search.now.depth c.args.search.now.arrivals.now c.args.search.now.arrivals.now (step_of c.index-sorted-i.result.now) (map (made_of (g.M.Maker.value c.args.search.now.maker.now)) c.loop-i.out.items) (map (made_of (g.M.Maker.value c.args.search.now.maker.now)) c.add_step.new.out.items)
      (subst (λ w. IsSpelled c.args.search.now.spelling.now w c.args.search.now.depth c.in_ok-graph.graph) c.as_str.ensures.value c.in_ok-graph.ensures) (same_refl c.args.search.now.arrivals.now) c.in_ok-add_step.ensures.all);
}

pub returns-clause-all : goal.returns-clause-all
returns-clause-all g c =
    subst (λ l. AddsThose (OfSome (OfStep c.args.search.now.lexicon.now c.args.search.now.spelling.now (g.M.Maker.makes c.args.search.now.maker.now) c.args.search.now.depth c.args.search.now.arrivals.now) (map (λ (s : Bor Step). step_of s.now) l)) (map (made_of (g.M.Maker.value c.args.search.now.maker.now)) c.args.out.now.items) (map (made_of (g.M.Maker.value c.args.search.now.maker.now)) c.loop-i.out.items)) (all_taken c.args.sorted.now c.loop-i.i c.loop-i-test.false) c.loop-i.invariant.chains

pub returns-in_err-add_step-clause-halt : goal.returns-in_err-add_step-clause-halt
returns-in_err-add_step-clause-halt g c =
    let A = g.M.Maker.makes c.args.search.now.maker.now in
    let step = step_of c.index-sorted-i.result.now in
    let sorted = map (λ (s : Bor Step). step_of s.now) c.args.sorted.now in
    at_exit (g.M.Maker.enough c.args.search.now.maker.now) (OfNodes c.args.search.now.lexicon.now c.in_ok-graph.graph A c.args.search.now.depth c.args.search.now.arrivals.now step (length c.in_ok-graph.graph)) (OfSome (OfStep c.args.search.now.lexicon.now c.args.search.now.spelling.now A c.args.search.now.depth c.args.search.now.arrivals.now) sorted) c.from_residual-in_err-add_step.result
    c.in_err-add_step.field-0.0 c.from_residual-in_err-add_step.ensures.1
    (step_is c.args.search.now.lexicon.now c.args.search.now.spelling.now c.in_ok-graph.graph A c.args.search.now.depth c.args.search.now.arrivals.now sorted step (subst (λ w. IsSpelled c.args.search.now.spelling.now w c.args.search.now.depth c.in_ok-graph.graph) c.as_str.ensures.value c.in_ok-graph.ensures)
    (Has-at (λ (s : Bor Step). step_of s.now) c.args.sorted.now c.loop-i.i c.index-sorted-i.result step c.loop-i-test.true c.index-sorted-i.is refl)) c.in_err-add_step.ensures.halt
