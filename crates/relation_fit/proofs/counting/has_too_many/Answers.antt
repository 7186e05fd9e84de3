use Rattle.std.proofs.Common.{◌<◌, IfSome, length, subst, arith}
use Rattle.std.proofs.lemmas.Bool.{ltb-true}
use Rattle.std.proofs.lemmas.List.{length-map}
use Rattle.fs_graph.specs.declared.graph.Node.{Node}
use Rattle.relation_fit.specs.Lists.{list_seen}
use Rattle.relation_fit.specs.Inner.Cells.{AreCells, nodes_of}
use Rattle.relation_fit.proofs.Elements.{too_many}
use Rattle.relation_fit.proofs.counting.has_too_many.Goals as goal

pub returns-in-Some : goal.returns-in-Some
returns-in-Some c = λ yes g input f asked e shows.
    let l = list_seen c.args.list.now in
    let cells = nodes_of c.in-Some.found.items in
    let are = subst (λ o. IfSome o (λ v. AreCells c.args.graph.now l (nodes_of v.items))) c.in-Some.is c.in_ok-found.ensures in
    let less : c.args.most < c.len.result = ltb-true c.args.most c.len.result yes in
    let long = length-map c.in-Some.found.items (λ (n : Node). n.0) in
    let more : length input.meaning.eps < length cells = omega (arith, e, less, c.len.ensures, c.in-Some.found.ok.0, long) in
    too_many g asked.order input asked.same_below l asked.list asked.apart c.args.graph.now c.laws.ensures f shows cells are more
