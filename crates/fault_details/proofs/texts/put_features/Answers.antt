use Rattle.std.proofs.Common.{◌<◌, length, subst, arith}
use Rattle.std.proofs.lemmas.List.{get_or-map, length-map}
use Rattle.std.proofs.lemmas.List.Elements.{All-get_or}
use Rattle.fs_graph.specs.Facts.{path_of}
use Rattle.fault_details.proofs.texts.put_features.Goals as goal

pub put_feature-requires : goal.put_feature-requires
put_feature-requires c =
    let size = length-map c.args.path.now (λ f. f.0) in
    let low = c.loop-feat-test.true in
    subst (λ z. z < length c.args.feats.now) (get_or-map (λ f. f.0) c.args.path.now c.loop-feat.feat-index (record { 0 = 0 }) 0 low)
    (All-get_or (λ f. f < length c.args.feats.now) (path_of c.args.path.now) c.loop-feat.feat-index 0 (omega arith) c.requires)
