use Rattle.std.proofs.Common.{◌≡◌, ◌≤◌, length, map, String, Vec, ap, arith}
use Rattle.std.specs.Global.{Global}
use Rattle.type_hierarchy.specs.Decls.{texts}
use Rattle.constraint_expand.specs.Books.{feature_named}
use Rattle.constraint_expand.proofs.NumberLemmas.{gathered_all}
use Rattle.constraint_expand.proofs.numbers.paths.Goals as goal

pub returns : goal.returns
returns c =
    let xs = c.args.names.now.items in
    let same : c.deref-path-items.result.now ≡ xs = c.deref-path-items.ensures.value in
    let past : length xs ≤ c.loop-path.path-index = omega (arith, ap length same) in
    gathered_all (map (feature_named (texts c.args.feats.now))) (λ (p : Vec (String Global) Global). texts p.items) xs c.loop-path.path-index _ past c.loop-path.invariant
