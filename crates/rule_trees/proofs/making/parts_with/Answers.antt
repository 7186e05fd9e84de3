use Rattle.std.proofs.Common.{◌<◌, ◌∙◌, length, map, Vec, Global, Bor, sym, ap, arith}
use Rattle.std.proofs.lemmas.List.{length-map, get_or-map}
use Rattle.fs_graph.specs.declared.facts.Feat.{Feat}
use Rattle.fs_graph.specs.Facts.{path_of}
use Rattle.fs_graph.specs.GraphMap.{GraphMap}
use Rattle.book_signs.specs.Trees.{paths_of}
use Rattle.rule_trees.proofs.MakingLemmas.{daughters_next}
use Rattle.rule_trees.proofs.making.parts_with.Goals as goal

pub loop-i-preserved : goal.loop-i-preserved
loop-i-preserved c =
    let i = c.loop-i.i in
    let lg : i < length c.args.daughters.now = omega arith in
    let lp : i < length c.args.places.now = omega (arith, lg, c.requires) in
    let p = path_of c.in_ok-place.place.items in
    let g = c.index-daughters-i.result.now in
    let at_place = ap path_of (c.in_ok-place.ensures.items ∙ c.deref.ensures.value) ∙ ap (λ (v : Vec Feat Global). path_of v.items) c.index-places-i.is ∙ sym (get_or-map (λ (v : Vec Feat Global). path_of v.items) c.args.places.now i c.index-places-i.result p lp) in
    let at_graph = ap (λ (b : Bor GraphMap). b.now) c.index-daughters-i.is ∙ sym (get_or-map (λ (b : Bor GraphMap). b.now) c.args.daughters.now i c.index-daughters-i.result g lg) in
    daughters_next c.args.owed.now (paths_of c.args.places.now) (map (λ (b : Bor GraphMap). b.now) c.args.daughters.now) i p g c.loop-i.parts c.add_cut.new.self _
    (omega (arith, lp, length-map c.args.places.now (λ (v : Vec Feat Global). path_of v.items))) (omega (arith, lg, length-map c.args.daughters.now (λ (b : Bor GraphMap). b.now))) at_place at_graph c.in_ok-add_cut.ensures.ok c.loop-i.invariant
