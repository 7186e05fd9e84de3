use Rattle.std.proofs.Common.{[], map, refl, subst}
use Rattle.morph_analysis.specs.Inner.Adding.{AddsThose, OfSome, OfStep}
use Rattle.morph_analysis.specs.Views.{made_of}
use Rattle.morph_analysis.specs.LatticeViews.{step_of, lattice_of}
use Rattle.morph_analysis.proofs.OrderLemmas.{are_chains}
use Rattle.morph_analysis.specs.Made.{IsMadeChain, MayHalt}
use Rattle.morph_analysis.proofs.StepLemmas.{is_chain}
use Rattle.morph_analysis.proofs.EnoughLemmas.{at_exit}
use Rattle.morph_analysis.proofs.analysis.made_chains.Goals as goal

pub returns-clause-all : goal.returns-clause-all
returns-clause-all g c =
    let A = g.M.Maker.makes c.args.maker.now in
    let view = made_of (g.M.Maker.value c.args.maker.now) in
    are_chains (g.M.Maker.value c.args.maker.now) _ c.args.lexicon.now c.args.spelling.now A c.laws.ensures.one (lattice_of c.args.lattice.now) c.args.depth c.in_ok-out.out.items c.sort_once.new.items.items
    (subst (λ l. AddsThose (OfSome (OfStep c.args.lexicon.now c.args.spelling.now A c.args.depth (map step_of l)) (map step_of l)) [] (map view c.in_ok-out.out.items)) c.deref.ensures.value c.in_ok-out.ensures.all) c.in_ok-sort_once.ensures.sorted
    c.in_ok-sort_once.ensures.kept c.in_ok-sort_once.ensures.only (λ a b. refl)

pub returns-in_err-out-clause-halt : goal.returns-in_err-out-clause-halt
returns-in_err-out-clause-halt g c =
    let S = g.M.Maker.enough c.args.maker.now in
    let A = g.M.Maker.makes c.args.maker.now in
    let l = lattice_of c.args.lattice.now in
    at_exit S (OfSome (OfStep c.args.lexicon.now c.args.spelling.now A c.args.depth l.steps) l.steps) (IsMadeChain A c.args.lexicon.now c.args.spelling.now l c.args.depth) c.from_residual.result c.in_err-out.field-0.0 c.from_residual.ensures.1 (is_chain c.args.lexicon.now c.args.spelling.now A l c.args.depth)
    (subst (λ k. MayHalt S (OfSome (OfStep c.args.lexicon.now c.args.spelling.now A c.args.depth (map step_of k)) (map step_of k)) c.in_err-out.field-0.0) c.deref.ensures.value c.in_err-out.ensures.halt)
