use Rattle.std.proofs.Common.{◌≡◌, true, false, sym, ◌∙◌, refl, arith}
use Rattle.book_signs.specs.Trees.{signs_of, roots_of}
use Rattle.rule_trees.specs.Mothers.{graph_view}
use Rattle.rule_trees.proofs.RootLemmas.{none_rooted_first, root_below, root_next, root_found, root_none}
use Rattle.line_charts.proofs.rooted.is_rooted.Goals as goal

pub rooted_by-requires-clause-within : goal.rooted_by-requires-clause-within
rooted_by-requires-clause-within c = root_below (signs_of c.args.signs.now) c.roots-roots.result.now c.loop-i.i 0 c.roots-roots.ensures (omega arith)

pub loop-i-init : goal.loop-i-init
loop-i-init c = none_rooted_first (signs_of c.args.signs.now) (graph_view c.args.signs.now c.args.graph.now) (roots_of (signs_of c.args.signs.now))

pub loop-i-preserved : goal.loop-i-preserved
loop-i-preserved c =
    root_next (signs_of c.args.signs.now) (graph_view c.args.signs.now c.args.graph.now) c.roots-roots.result.now c.loop-i.i 0 c.roots-roots.ensures (omega arith)
    (λ r. let e : true ≡ false = sym (c.in-Ok.ensures.1 r) ∙ c.if-yes.false in cc) c.loop-i.invariant

pub returns-then-yes : goal.returns-then-yes
returns-then-yes c =
    (λ e. root_found (signs_of c.args.signs.now) (graph_view c.args.signs.now c.args.graph.now) c.roots-roots.result.now c.loop-i.i 0 c.roots-roots.ensures (omega arith) (c.in-Ok.ensures.0 c.if-yes.true), λ r. refl)

pub returns : goal.returns
returns c = (
  λ e. absurd (let z : false ≡ true = e in cc),
  λ r. absurd (root_none (signs_of c.args.signs.now) (graph_view c.args.signs.now c.args.graph.now) c.roots-roots.result.now c.loop-i.i c.roots-roots.ensures (omega arith) c.loop-i.invariant r),
)
