use Rattle.std.proofs.Common.{[], map, ap, subst}
use Rattle.morph_analysis.specs.Inner.Adding.{AddsThose, OfSome, OfStep}
use Rattle.morph_analysis.specs.Views.{made_of}
use Rattle.morph_analysis.specs.LatticeViews.{step_of}
use denote.Ref.{Bor}
use Rattle.morph_analysis.specs.declared.lattice.Step.{Step}
use Rattle.morph_analysis.proofs.StepLemmas.{steps_same}
use Rattle.morph_analysis.specs.Made.{MayHalt}
use Rattle.morph_analysis.proofs.EnoughLemmas.{at_exit, steps_are}
use Rattle.morph_analysis.proofs.analysis.chains_of.Goals as goal

pub returns-clause-all : goal.returns-clause-all
returns-clause-all g c =
    steps_same c.args.lexicon.now c.args.spelling.now (g.M.Maker.makes c.args.maker.now) c.args.depth (map step_of c.args.steps.now) c.in_ok-arrivals.arrivals (map (λ (s : Bor Step). step_of s.now) c.in_ok-sorted.sorted.items) [] (map (made_of (g.M.Maker.value c.args.maker.now)) c.add_steps.new.out.items) c.in_ok-arrivals.ensures c.in_ok-sorted.ensures
    (subst (λ l. AddsThose (OfSome (OfStep c.args.lexicon.now c.args.spelling.now (g.M.Maker.makes c.args.maker.now) c.args.depth c.in_ok-arrivals.arrivals) (map (λ (s : Bor Step). step_of s.now) l)) [] (map (made_of (g.M.Maker.value c.args.maker.now)) c.add_steps.new.out.items)) c.deref.ensures.value
    (subst (λ l. AddsThose (OfSome (OfStep c.args.lexicon.now c.args.spelling.now (g.M.Maker.makes c.args.maker.now) c.args.depth c.in_ok-arrivals.arrivals) (map (λ (s : Bor Step). step_of s.now) c.deref.result.now)) l (map (made_of (g.M.Maker.value c.args.maker.now)) c.add_steps.new.out.items)) (ap (map (made_of (g.M.Maker.value c.args.maker.now))) c.new-out.ensures.items) c.in_ok-add_steps.ensures.all))

pub returns-in_err-add_steps-clause-halt : goal.returns-in_err-add_steps-clause-halt
returns-in_err-add_steps-clause-halt g c =
    let S = g.M.Maker.enough c.args.maker.now in
    let A = g.M.Maker.makes c.args.maker.now in
    let steps = map step_of c.args.steps.now in
    let sorted = map (λ (s : Bor Step). step_of s.now) c.in_ok-sorted.sorted.items in
    at_exit S (OfSome (OfStep c.args.lexicon.now c.args.spelling.now A c.args.depth c.in_ok-arrivals.arrivals) sorted) (OfSome (OfStep c.args.lexicon.now c.args.spelling.now A c.args.depth steps) steps) c.from_residual-in_err-add_steps.result c.in_err-add_steps.field-0.0 c.from_residual-in_err-add_steps.ensures.1
    (steps_are c.args.lexicon.now c.args.spelling.now A c.args.depth steps c.in_ok-arrivals.arrivals sorted c.in_ok-arrivals.ensures c.in_ok-sorted.ensures)
    (subst (λ l. MayHalt S (OfSome (OfStep c.args.lexicon.now c.args.spelling.now A c.args.depth c.in_ok-arrivals.arrivals) (map (λ (s : Bor Step). step_of s.now) l)) c.in_err-add_steps.field-0.0) c.deref.ensures.value c.in_err-add_steps.ensures.halt)
