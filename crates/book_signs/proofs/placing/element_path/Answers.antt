use Rattle.std.proofs.Common.{refl}
use Rattle.fs_graph.specs.Facts.{path_of}
use Rattle.book_signs.proofs.PlaceLemmas.{path_next}
use Rattle.book_signs.proofs.placing.element_path.Goals as goal

pub loop-before-preserved : goal.loop-before-preserved
loop-before-preserved c =
    path_next (path_of c.args.list.now) c.loop-before._before c.args.rest.0 c.loop-before.path.items c.push.new.self.items c.args.rest c.in_ok-push.ensures.items refl c.loop-before.invariant
