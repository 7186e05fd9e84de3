use Rattle.fs_graph.specs.Facts.{path_of}
use Rattle.book_signs.specs.Signed.{element_path}
use Rattle.book_signs.proofs.PlaceLemmas.{paths_next}
use Rattle.book_signs.proofs.placing.element_paths.Goals as goal

pub loop-k-preserved : goal.loop-k-preserved
loop-k-preserved c =
    paths_next (λ p. path_of p.items) (element_path (path_of c.args.list.now) c.args.first.0 c.args.rest.0) c.loop-k.k c.loop-k.paths.items c.push.new.self.items c.in_ok-element_path.field-0 c.in_ok-push.ensures.items
    c.in_ok-element_path.ensures c.loop-k.invariant
