use Rattle.std.proofs.Common.{◌+◌, map, take, subst, refl}
use Rattle.morph_analysis.specs.Inner.Adding.{AddsThose, OfSome, OfWords}
use Rattle.morph_analysis.specs.Views.{made_of}
use Rattle.morph_analysis.proofs.Lists.{map_take_next, all_taken, Has-at}
use Rattle.morph_analysis.specs.LatticeViews.{step_of}
use Rattle.lexicon.specs.Groups.{group_of}
use Rattle.morph_analysis.proofs.AddLemmas.{some_none, some_more}
use Rattle.morph_analysis.proofs.GroupLemmas.{of_node}
use Rattle.lexicon.specs.Groups.{AreGroupsOf}
use Rattle.morph_analysis.specs.Inner.Adding.{OfNode}
use Rattle.morph_analysis.proofs.EnoughLemmas.{at_exit, node_is}
use Rattle.morph_analysis.proofs.analysis.add_node.Goals as goal

pub loop-group-init : goal.loop-group-init
loop-group-init g c = some_none (OfWords c.args.graph.now (g.M.Maker.makes c.args.search.now.maker.now) c.args.search.now.depth c.args.search.now.arrivals.now (step_of c.args.step.now) c.args.node) (map (made_of (g.M.Maker.value c.args.search.now.maker.now)) c.args.out.now.items)

pub loop-group-preserved : goal.loop-group-preserved
loop-group-preserved g c =
    let groups = c.by_last-groups.result.now in
    some_more (OfWords c.args.graph.now (g.M.Maker.makes c.args.search.now.maker.now) c.args.search.now.depth c.args.search.now.arrivals.now (step_of c.args.step.now) c.args.node) (map group_of (take c.loop-group.group-index groups)) (map group_of (take (c.loop-group.group-index + 1) groups)) (group_of c.group-item.result)
    (map (made_of (g.M.Maker.value c.args.search.now.maker.now)) c.args.out.now.items) (map (made_of (g.M.Maker.value c.args.search.now.maker.now)) c.loop-group.out.items) (map (made_of (g.M.Maker.value c.args.search.now.maker.now)) c.add_group.new.out.items) (map_take_next group_of groups c.loop-group.group-index c.group-item.result c.loop-group-test.true c.group-item.is) c.loop-group.invariant
    c.in_ok-add_group.ensures.all

pub returns-clause-all : goal.returns-clause-all
returns-clause-all g c =
    let groups = c.by_last-groups.result.now in
    of_node c.args.search.now.lexicon.now c.args.graph.now (g.M.Maker.makes c.args.search.now.maker.now) c.args.search.now.depth c.args.search.now.arrivals.now (step_of c.args.step.now) c.args.node (map group_of groups) (map (made_of (g.M.Maker.value c.args.search.now.maker.now)) c.args.out.now.items) (map (made_of (g.M.Maker.value c.args.search.now.maker.now)) c.loop-group.out.items)
    (subst (λ w. AreGroupsOf c.args.search.now.lexicon.now w (map group_of groups)) c.word.ensures c.by_last-groups.ensures)
    (subst (λ l. AddsThose (OfSome (OfWords c.args.graph.now (g.M.Maker.makes c.args.search.now.maker.now) c.args.search.now.depth c.args.search.now.arrivals.now (step_of c.args.step.now) c.args.node) (map group_of l)) (map (made_of (g.M.Maker.value c.args.search.now.maker.now)) c.args.out.now.items) (map (made_of (g.M.Maker.value c.args.search.now.maker.now)) c.loop-group.out.items))
    (all_taken groups c.loop-group.group-index c.loop-group-test.false) c.loop-group.invariant)

pub returns-in_err-add_group-clause-halt : goal.returns-in_err-add_group-clause-halt
returns-in_err-add_group-clause-halt g c =
    let A = g.M.Maker.makes c.args.search.now.maker.now in
    let groups = c.by_last-groups.result.now in
    let one = group_of c.group-item.result in
    at_exit (g.M.Maker.enough c.args.search.now.maker.now) (OfWords c.args.graph.now A c.args.search.now.depth c.args.search.now.arrivals.now (step_of c.args.step.now) c.args.node one) (OfNode c.args.search.now.lexicon.now c.args.graph.now A c.args.search.now.depth c.args.search.now.arrivals.now (step_of c.args.step.now) c.args.node) c.from_residual.result c.in_err-add_group.field-0.0 c.from_residual.ensures.1
    (node_is c.args.search.now.lexicon.now c.args.graph.now A c.args.search.now.depth c.args.search.now.arrivals.now (step_of c.args.step.now) c.args.node (map group_of groups) one (subst (λ w. AreGroupsOf c.args.search.now.lexicon.now w (map group_of groups)) c.word.ensures c.by_last-groups.ensures)
    (Has-at group_of groups c.loop-group.group-index c.group-item.result one c.loop-group-test.true c.group-item.is refl)) c.in_err-add_group.ensures.halt
