use Rattle.std.proofs.Common.{◌≡◌, ◌∙◌, sym, length, vec_len, arith, rules}
use Rattle.mrs_extract.proofs.Named.{sort_in, sort_found, sort_next}
use Rattle.mrs_extract.proofs.variables.sort_of.Goals as goal

pub is_below-requires-clause-above_in : goal.is_below-requires-clause-above_in
is_below-requires-clause-above_in c =
    let n : vec_len c.args.paths.now.sorts ≡ length c.args.paths.now.sorts.items = search rules in
    sort_in _ _ c.loop-k.k _ c.requires.sorts_in (omega (arith, n, c.len-k-end.ensures, c.loop-k-test.true)) c.index-sort.ensures

pub returns-then-is_below : goal.returns-then-is_below
returns-then-is_below c =
    let n : vec_len c.args.paths.now.sorts ≡ length c.args.paths.now.sorts.items = search rules in
    c.as_str.ensures.value ∙ sym (sort_found c.args.types.now c.args.t.0 c.args.paths.now.sorts.items c.loop-k.k _ (omega (arith, n, c.len-k-end.ensures, c.loop-k-test.true)) c.index-sort.ensures (sym c.is_below.ensures ∙ c.if-is_below.true))
    ∙ c.loop-k.invariant

pub loop-k-preserved : goal.loop-k-preserved
loop-k-preserved c =
    let n : vec_len c.args.paths.now.sorts ≡ length c.args.paths.now.sorts.items = search rules in
    sym (sort_next c.args.types.now c.args.t.0 c.args.paths.now.sorts.items c.loop-k.k _ (omega (arith, n, c.len-k-end.ensures, c.loop-k-test.true)) c.index-sort.ensures (sym c.is_below.ensures ∙ c.if-is_below.false))
    ∙ c.loop-k.invariant
