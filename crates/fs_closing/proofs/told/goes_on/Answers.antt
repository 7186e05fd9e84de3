use Rattle.std.proofs.Common.{length, drop, ◌∙◌, ap}
use Rattle.std.proofs.lemmas.List.{map-append}
use Rattle.std.proofs.lemmas.Slice.Eq.{starts_is}
use Rattle.fs_graph.specs.Facts.{path_of}
use Rattle.fs_closing.proofs.ToldLemmas.{feat_eq, feat_eq-Decides}
use Rattle.fs_closing.proofs.told.goes_on.Goals as goal

pub returns : goal.returns
returns c = λ e.
    let path = c.args.path.now in
    let from = c.args.from.now in
    let is = (starts_is {E = feat_eq} feat_eq-Decides path from c.starts_with.result c.starts_with.ensures.value).0 e in
    (path_of (drop (length from) path), ap path_of is ∙ map-append (λ f. f.0) from (drop (length from) path))
