use Rattle.std.proofs.Common.{◌∙◌, ap}
use Rattle.fs_graph.specs.GraphMap.{reader_of}
use Rattle.fs_graph.specs.Facts.{path_of}
use Rattle.sieve.specs.Sketches.{type_along}
use Rattle.sieve.proofs.paths.type_below.Goals as goal

pub returns : goal.returns
returns c =
    c.type_along.ensures ∙ ap (λ w. type_along (reader_of c.args.graph.now) (path_of w)) c.deref.ensures.value ∙ ap (type_along (reader_of c.args.graph.now)) c.in_ok-whole.ensures
