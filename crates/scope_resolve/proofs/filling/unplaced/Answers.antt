use Rattle.std.proofs.Common.{ℕ, ◌≡◌, ◌<◌, ◌≤◌, ◌∙◌, length, vec_len, sym, ap, arith, rules, true, false}
use Rattle.std.specs.Prelude.{slice_index_or}
use Rattle.scope_resolve.proofs.Each.{there_at, each_more, each_whole}
use Rattle.scope_resolve.proofs.filling.unplaced.Goals as goal

pub returns-then-not-mark_at : goal.returns-then-not-mark_at
returns-then-not-mark_at c =
    let ls = c.args.net.now.labels in
    let e : vec_len ls ≡ length ls.items = search rules in
    let l : c.loop-k.k < length ls.items = omega (arith, e, c.len-k-end.ensures, c.loop-k-test.true) in
    let m = c.mark_at.ensures ∙ ap (λ ms. slice_index_or ms c.index-label.result.now false) c.deref.ensures.value in
    (there_at ls.items c.loop-k.k c.index-label.result.now l c.index-label.ensures, sym m ∙ c.if-not-mark_at.true)

pub loop-k-preserved : goal.loop-k-preserved
loop-k-preserved c =
    let ls = c.args.net.now.labels in
    let e : vec_len ls ≡ length ls.items = search rules in
    let l : c.loop-k.k < length ls.items = omega (arith, e, c.len-k-end.ensures, c.loop-k-test.true) in
    let m = c.mark_at.ensures ∙ ap (λ ms. slice_index_or ms c.index-label.result.now false) c.deref.ensures.value in
    each_more (λ (v : ℕ). slice_index_or c.args.ways.now.placed.items v false ≡ true) ls.items c.loop-k.k c.index-label.result.now l c.index-label.ensures c.loop-k.invariant (sym m ∙ c.if-not-mark_at.false)

pub returns : goal.returns
returns c =
    let ls = c.args.net.now.labels in
    let e : vec_len ls ≡ length ls.items = search rules in
    let l : length ls.items ≤ c.loop-k.k = omega (arith, e, c.len-k-end.ensures, c.loop-k-test.false) in
    each_whole (λ (v : ℕ). slice_index_or c.args.ways.now.placed.items v false ≡ true) ls.items c.loop-k.k l c.loop-k.invariant
