use Rattle.std.proofs.Common.{◌≡◌, ◌<◌, ◌+◌, ◌++◌, ◌∷◌, [], ◌∙◌, ℕ, sym, ap, subst, map, take, add-one, Vec, Global}
use Rattle.std.proofs.lemmas.List.{map-append}
use Rattle.std.specs.List.{range_with_len}
use Rattle.type_hierarchy.specs.Table.{completed_count}
use Rattle.command_files.proofs.Spaced.{take-whole}
use Rattle.grammar_commands.specs.TypeReports.{type_line, type_lines}
use Rattle.grammar_commands.proofs.TypeLines.{range-at, range-length, lines-length, lines-more}
use Rattle.grammar_commands.proofs.types.type_lines.Goals as goal

pub loop-number-preserved : goal.loop-number-preserved
loop-number-preserved c =
    let table = c.args.table.now in
    let i = c.loop-number.number in
    let n = completed_count table in
    let line = c.in_ok-type_line.field-0 in
    let items = λ (l : Vec ℕ Global). l.items in
    let inside : i < n = subst (λ m. i < m) c.counts-number-end.ensures.completed c.loop-number-test.true in
    ap (map items) c.in_ok-push.ensures.items ∙ map-append items c.loop-number.lines.items (line ∷ [])
    ∙ ap (λ t. t ++ line.items ∷ []) c.loop-number.invariant ∙ ap (λ l. take i (type_lines table) ++ l ∷ []) c.in_ok-type_line.ensures
    ∙ sym (lines-more (type_line table) (range_with_len 0 n) i i (range-length n i inside) (range-at n i inside))
    ∙ ap (λ k. take k (type_lines table)) (sym (add-one i))

pub returns : goal.returns
returns c =
    let table = c.args.table.now in
    let all = lines-length table c.loop-number.number c.counts-number-end.result.completed c.counts-number-end.ensures.completed c.loop-number-test.false in
    c.loop-number.invariant ∙ take-whole (type_lines table) c.loop-number.number all
