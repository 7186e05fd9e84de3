use Rattle.std.proofs.Common.{◌≡◌, [], map, sym, rules}
use Rattle.mrs_model.specs.Views.{property_of}
use Rattle.mrs_places.specs.Paths.{paths_of}
use Rattle.mrs_extract.proofs.Spreading.{count_map}
use Rattle.mrs_extract.proofs.Gathering.{begin_waiting, begin_told, all_found, found_differ, told_exactly}
use Rattle.mrs_extract.proofs.properties.properties.Goals as goal

pub loop-next-init : goal.loop-next-init
loop-next-init c =
    let g = c.args.graph.now in
    let p = paths_of c.args.paths.now in
    let is = c.laws.ensures in
    let count = sym (count_map _ c.args.paths.now.feats.items) in
    record {
      waiting = begin_waiting g is p c.args.types.now c.args.n.0 c.requires.inside c.requires.of _ count _ c.new.ensures.items _ _ c.new-2.ensures.items c.in_ok-wait.ensures;
      told = begin_told g is p c.args.types.now c.args.n.0 c.requires.inside c.requires.of _ count _ c.new.ensures.items _ _ c.new-2.ensures.items c.in_ok-wait.ensures _ c.new-3.ensures.items;
    }

pub in_order-requires : goal.in_order-requires
in_order-requires c =
    let g = c.args.graph.now in
    let p = paths_of c.args.paths.now in
    let none : c.loop-next.spread.waiting.items ≡ [] = search rules in
    found_differ g c.args.types.now p c.laws.ensures c.requires.paths c.requires.of c.args.n.0 c.requires.inside _
    (all_found g c.args.types.now p c.args.n.0 _ c.loop-next.spread.waiting.items (map property_of c.loop-next.spread.found.items) none c.loop-next.invariant.told)

pub returns-clause-props : goal.returns-clause-props
returns-clause-props c =
    let g = c.args.graph.now in
    let p = paths_of c.args.paths.now in
    let none : c.loop-next.spread.waiting.items ≡ [] = search rules in
    told_exactly g c.args.types.now p c.laws.ensures c.args.n.0 c.requires.inside (map property_of c.loop-next.spread.found.items) _
    (all_found g c.args.types.now p c.args.n.0 _ c.loop-next.spread.waiting.items (map property_of c.loop-next.spread.found.items) none c.loop-next.invariant.told) c.in_ok-props.ensures.same
