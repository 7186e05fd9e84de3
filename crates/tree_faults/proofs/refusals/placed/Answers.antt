use Rattle.std.proofs.Common.{◌<◌, ◌∙◌, length, map, Vec, Global, Bor, sym, ap, arith}
use Rattle.std.proofs.lemmas.List.{length-map, get_or-map, map-append}
use Rattle.fs_graph.specs.declared.facts.Feat.{Feat}
use Rattle.fs_graph.specs.Facts.{path_of}
use Rattle.fs_graph.specs.GraphMap.{GraphMap}
use Rattle.book_signs.specs.Trees.{paths_of}
use Rattle.tree_faults.specs.Inner.Structures.{placed_of}
use Rattle.tree_faults.proofs.Refusing.{pairs_next}
use Rattle.tree_faults.proofs.refusals.placed.Goals as goal

pub loop-i-preserved : goal.loop-i-preserved
loop-i-preserved c =
    let i = c.loop-i.i in
    let lg : i < length c.args.graphs.now = omega arith in
    let lp : i < length c.args.places.now = omega (arith, lg, c.requires) in
    let p = path_of c.deref.result.now in
    let g = c.index-graphs-i.result.now in
    let at_place = ap path_of c.deref.ensures.value ∙ ap (λ (v : Vec Feat Global). path_of v.items) c.index-places-i.is ∙ sym (get_or-map (λ (v : Vec Feat Global). path_of v.items) c.args.places.now i c.index-places-i.result p lp) in
    let at_graph = ap (λ (b : Bor GraphMap). b.now) c.index-graphs-i.is ∙ sym (get_or-map (λ (b : Bor GraphMap). b.now) c.args.graphs.now i c.index-graphs-i.result g lg) in
    pairs_next (paths_of c.args.places.now) (map (λ (b : Bor GraphMap). b.now) c.args.graphs.now) i p g (map placed_of c.loop-i.parts.items) (map placed_of c.push-in-loop-i.new.self.items) _
    (omega (arith, lp, length-map c.args.places.now (λ (v : Vec Feat Global). path_of v.items))) (omega (arith, lg, length-map c.args.graphs.now (λ (b : Bor GraphMap). b.now))) at_place at_graph
    (ap (map placed_of) c.in_ok-push-2.ensures.items ∙ map-append placed_of c.loop-i.parts.items _) c.loop-i.invariant
