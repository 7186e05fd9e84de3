use Rattle.std.proofs.Common.{◌<◌, length, arith}
use Rattle.closed_lists.specs.Names.{IsReadable}
use Rattle.constraint_expand.specs.Books.{numbered_of, instance_of}
use Rattle.book_shapes.specs.Shapes.{lists_of, instances_of, HasItsDaughters}
use Rattle.book_shapes.proofs.PlaceLemmas.{seen_at, each_at}
use Rattle.book_signs.specs.Signed.{ArePlaces}
use Rattle.book_signs.specs.Trees.{paths_of}
use Rattle.book_signs.proofs.PlaceLemmas.{placed_next}
use Rattle.book_signs.proofs.placing.all_places.Goals as goal

pub places_of-requires-clause-readable : goal.places_of-requires-clause-readable
places_of-requires-clause-readable c =
    let b = c.args.book.now in
    let i = c.loop-i.i in
    let within : i < length b.instances.items = omega (arith, c.loop-i-test.true, c.len-i-end.ensures, b.instances.ok.0) in
    each_at (λ x. IsReadable b.system.types (lists_of (numbered_of b.names)) b.system.path_limit x.structure) (instances_of b) i (instance_of c.index.result.now) c.requires.readable
    (seen_at instance_of b.instances.items i c.index.result.now within c.index.ensures)

pub places_of-requires-clause-daughters : goal.places_of-requires-clause-daughters
places_of-requires-clause-daughters c =
    let b = c.args.book.now in
    let i = c.loop-i.i in
    let within : i < length b.instances.items = omega (arith, c.loop-i-test.true, c.len-i-end.ensures, b.instances.ok.0) in
    each_at (HasItsDaughters b) (instances_of b) i (instance_of c.index.result.now) c.requires.daughters (seen_at instance_of b.instances.items i c.index.result.now within c.index.ensures)

pub loop-i-preserved : goal.loop-i-preserved
loop-i-preserved c =
    let b = c.args.book.now in
    let i = c.loop-i.i in
    let within : i < length b.instances.items = omega (arith, c.loop-i-test.true, c.len-i-end.ensures, b.instances.ok.0) in
    placed_next (ArePlaces b) (λ p. paths_of p.items) (instances_of b) i (instance_of c.index.result.now) c.loop-i.all.items c.push.new.self.items c.in_ok-places_of.field-0
    (seen_at instance_of b.instances.items i c.index.result.now within c.index.ensures) c.in_ok-push.ensures.items c.in_ok-places_of.ensures c.loop-i.invariant
