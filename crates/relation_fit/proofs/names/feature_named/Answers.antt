use Rattle.std.proofs.Common.{◌<◌, ◌∙◌, length, sym, arith}
use Rattle.std.specs.String.{string_bytes}
use Rattle.std.proofs.lemmas.List.{length-map}
use Rattle.std.proofs.lemmas.Slice.Eq.{bytes_eq-Decides}
use Rattle.mrs_extract.proofs.Named.{named_at}
use Rattle.relation_fit.proofs.names.feature_named.Goals as goal

pub returns-then-eq : goal.returns-then-eq
returns-then-eq c =
    let feats = c.args.paths.now.feats.items in
    let inside : c.loop-k.k < length feats = omega (arith, c.loop-k-test.true, c.len-k-end.ensures, c.args.paths.now.feats.ok.0) in
    let long = length-map feats string_bytes in
    let same = (bytes_eq-Decides c.as_str.result.now c.args.name.now).0 (sym c.eq.ensures ∙ c.if-eq.true) in
    (omega (arith, inside, long), sym (named_at feats c.index.result.now c.loop-k.k inside c.index.ensures) ∙ sym c.as_str.ensures.value ∙ same)
