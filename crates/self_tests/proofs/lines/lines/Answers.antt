use Rattle.std.proofs.Common.{◌≡◌, ◌+◌, ◌++◌, ◌∷◌, [], ◌∙◌, ℕ, sym, ap, arith, map, List, Vec, Global}
use Rattle.std.proofs.lemmas.List.{map-append}
use Rattle.std.proofs.lemmas.List.FromFn.{map-range_with_len_more}
use Rattle.std.specs.List.{range_with_len}
use Rattle.self_tests.specs.Lines.{line}
use Rattle.self_tests.proofs.lines.lines.Goals as goal

pub loop-i-preserved : goal.loop-i-preserved
loop-i-preserved c =
    let i = c.loop-i.i in
    let items = λ (v : Vec ℕ Global). v.items in
    let made = c.in_ok-line.field-0 in
    let from : ℕ → List ℕ = λ n. line (c.args.start + n) in
    let same : 0 + i ≡ i = omega arith in
    ap (map items) c.in_ok-push.ensures.items ∙ map-append items c.loop-i.lines.items (made ∷ [])
    ∙ ap (λ t. t ++ made.items ∷ []) c.loop-i.invariant ∙ ap (λ t. map from (range_with_len 0 i) ++ t ∷ []) c.in_ok-line.ensures
    ∙ sym (map-range_with_len_more from 0 i i same)
