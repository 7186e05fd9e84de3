use Rattle.std.proofs.Common.{◌≡◌, ◌∙◌, Some, false, length, sym, ap}
use Rattle.fs_graph.specs.GraphMap.{node_at}
use Rattle.fs_graph.specs.Facts.{path_of}
use Rattle.mrs_places.specs.Paths.{paths_of}
use Rattle.relation_fit.specs.Lists.{list_seen}
use Rattle.relation_fit.specs.Tests.{misfits}
use Rattle.relation_fit.proofs.Misfits.{misfit_told}
use Rattle.relation_fit.proofs.Nodes.{node_inside}
use Rattle.relation_fit.proofs.Turning.{between_ends}
use Rattle.relation_fit.proofs.fitting.has_misfit.Goals as goal

pub misfits-requires-clause-inside : goal.misfits-requires-clause-inside
misfits-requires-clause-inside c =
    let g = c.args.graph.now in
    let at : node_at g (path_of c.args.list.now.start.items) ≡ Some c.in-Some-at.start.0 = ap (λ p. node_at g (path_of p)) (sym c.deref-2.ensures.value) ∙ sym c.in-Some-at.ensures in
    node_inside g c.laws.ensures (path_of c.args.list.now.start.items) c.in-Some-at.start.0 at

pub returns-clause-hopeless : goal.returns-clause-hopeless
returns-clause-hopeless c = λ yes g input f asked e q paths sought part.
    let types = c.args.types.now in
    let graph = c.args.graph.now in
    let p = paths_of c.args.paths.now in
    let l = list_seen c.args.list.now in
    let start : node_at graph (path_of c.args.list.now.start.items) ≡ Some c.in-Some-at.start.0 = ap (λ r. node_at graph (path_of r)) (sym c.deref-2.ensures.value) ∙ sym c.in-Some-at.ensures in
    let end : node_at graph (path_of c.args.list.now.end.items) ≡ Some c.in-Some.end.0 = ap (λ r. node_at graph (path_of r)) (sym c.deref.ensures.value) ∙ sym c.in-Some.ensures in
    misfit_told g input l asked paths c.args.sought.now.eps.items sought graph c.laws.ensures f part types p e q
    (between_ends types graph p c.args.sought.now.eps.items l c.in-Some-at.start.0 c.in-Some.end.0 end start
    ∙ ap (λ es. misfits types graph p es l.rest c.in-Some.end.0 (length graph.types) c.in-Some-at.start.0 false) (sym c.deref-3.ensures.value) ∙ sym c.misfits.ensures ∙ yes)
