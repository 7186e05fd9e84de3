use Rattle.std.proofs.Common.{◌≡◌, ◌≤◌, length, ap, arith}
use Rattle.std.specs.String.{string_bytes}
use Rattle.type_hierarchy.specs.Decls.{texts}
use Rattle.mrs_places.specs.Settled.{feature_said}
use Rattle.mrs_places.proofs.Numbers.{gathered_all}
use Rattle.mrs_places.proofs.names.feats_of.Goals as goal

pub returns : goal.returns
returns c =
    let xs = c.args.names.now.items in
    let same : c.deref-name-items.result.now ≡ xs = c.deref-name-items.ensures.value in
    let past : length xs ≤ c.loop-name.name-index = omega (arith, ap length same) in
    gathered_all (feature_said (texts c.args.feats.now)) string_bytes xs c.loop-name.name-index _ past c.loop-name.invariant
