use Rattle.std.proofs.Common.{◌∙◌, ap}
use Rattle.fs_graph.specs.GraphMap.{reader_of}
use Rattle.fs_graph.specs.Facts.{path_of}
use Rattle.sieve.specs.Sketches.{type_along, below_place}
use Rattle.sieve.proofs.Lines.{one_more}
use Rattle.sieve.proofs.paths.types_below.Goals as goal

pub loop-path-preserved : goal.loop-path-preserved
loop-path-preserved c =
    let f = type_along (below_place (path_of c.args.place.now) (reader_of c.args.graph.now)) in
    one_more f c.args.paths.now c.loop-path.path-index c.path-item.result c.loop-path.types.items c.push.new.self.items c.in_ok-type_below.field-0 c.loop-path-test.true c.path-item.is
    c.in_ok-push.ensures.items (c.in_ok-type_below.ensures ∙ ap (λ p. f (path_of p)) c.deref.ensures.value) c.loop-path.invariant
