use Rattle.std.proofs.Common.{◌≡◌, true, false, sym, ◌∙◌, refl, ap, subst, arith}
use Rattle.tree_model.specs.Trees.{IsRooted}
use Rattle.book_signs.specs.Trees.{signs_of, roots_of}
use Rattle.rule_trees.specs.Mothers.{IsShortIn, graph_view}
use Rattle.rule_trees.specs.Inner.Owing.{OwesDaughters}
use Rattle.rule_trees.proofs.RootLemmas.{none_rooted_first, root_below, root_next, root_found, root_none}
use Rattle.rule_trees.proofs.OweLemmas.{full_owes}
use Rattle.rule_trees.proofs.roots.rooted.Goals as goal

pub rooted_by-requires-clause-within : goal.rooted_by-requires-clause-within
rooted_by-requires-clause-within c = root_below (signs_of c.args.signs.now) c.roots-roots.result.now c.loop-i.i 0 c.roots-roots.ensures (omega arith)

pub rooted_by-requires-clause-short : goal.rooted_by-requires-clause-short
rooted_by-requires-clause-short c = subst (IsShortIn c.args.signs.now) (sym c.graph-graph.ensures) c.laws.ensures.short

pub rooted_by-requires-clause-owes : goal.rooted_by-requires-clause-owes
rooted_by-requires-clause-owes c = subst (OwesDaughters c.args.signs.now) (sym c.graph-graph.ensures) (full_owes c.args.signs.now c.args.full.now.graph c.requires)

pub loop-i-init : goal.loop-i-init
loop-i-init c = none_rooted_first (signs_of c.args.signs.now) (graph_view c.args.signs.now c.graph-graph.result.now) (roots_of (signs_of c.args.signs.now))

pub loop-i-preserved : goal.loop-i-preserved
loop-i-preserved c =
    root_next (signs_of c.args.signs.now) (graph_view c.args.signs.now c.graph-graph.result.now) c.roots-roots.result.now c.loop-i.i 0 c.roots-roots.ensures (omega arith)
    (λ r. let e : true ≡ false = sym (c.in_ok-rooted_by.ensures.1 r) ∙ c.if-branch.false in cc) c.loop-i.invariant

pub returns-then-branch : goal.returns-then-branch
returns-then-branch c =
    let seen = c.laws.ensures.seen ∙ ap (graph_view c.args.signs.now) (sym c.graph-graph.ensures) in
    (λ e. subst (IsRooted (signs_of c.args.signs.now)) (sym seen) (root_found (signs_of c.args.signs.now) (graph_view c.args.signs.now c.graph-graph.result.now) c.roots-roots.result.now c.loop-i.i 0 c.roots-roots.ensures (omega arith) (c.in_ok-rooted_by.ensures.0 c.if-branch.true)), λ r. refl)

pub returns : goal.returns
returns c =
    let seen = c.laws.ensures.seen ∙ ap (graph_view c.args.signs.now) (sym c.graph-graph.ensures) in (
      λ e. absurd (let z : false ≡ true = e in cc),
      λ r. absurd (root_none (signs_of c.args.signs.now) (graph_view c.args.signs.now c.graph-graph.result.now) c.roots-roots.result.now c.loop-i.i c.roots-roots.ensures (omega arith) c.loop-i.invariant (subst (IsRooted (signs_of c.args.signs.now)) seen r)),
    )
