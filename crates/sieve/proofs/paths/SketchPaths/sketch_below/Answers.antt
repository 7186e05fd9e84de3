use Rattle.std.proofs.Common.{◌∙◌, ap, map}
use Rattle.fs_graph.specs.GraphMap.{reader_of}
use Rattle.fs_graph.specs.Facts.{path_of}
use Rattle.sieve.specs.Sketches.{type_along, below_place}
use Rattle.sieve.specs.Inner.{lines_of, numbers_of}
use Rattle.sieve.proofs.Lines.{lines_along}
use Rattle.sieve.proofs.paths.SketchPaths.sketch_below.Goals as goal

pub returns : goal.returns
returns c =
    let r = below_place (path_of c.args.place.now) (reader_of c.args.graph.now) in
    c.at.ensures ∙ ap (λ ps. lines_of ps (numbers_of c.in_ok-types.types.items)) c.in_ok-paths.ensures
    ∙ ap (λ ts. lines_of c.args.self.now ts) (c.in_ok-types.ensures ∙ ap (λ ps. map (type_along r) ps) c.list.ensures) ∙ lines_along r c.args.self.now
