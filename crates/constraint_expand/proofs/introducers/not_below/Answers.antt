use Rattle.std.proofs.Common.{◌≡◌, ◌<◌, ◌∙◌, true, length, slice_index_or, sym, arith}
use Rattle.type_hierarchy.specs.declared.types.Ty.{Ty}
use Rattle.type_hierarchy.specs.Table.{is_below}
use Rattle.type_facts.proofs.ListLemmas.{each_next}
use Rattle.constraint_expand.proofs.IntroducerLemmas.{writer_at, read_is}
use Rattle.constraint_expand.proofs.introducers.not_below.Goals as goal

pub returns-then-not-at_or_below : goal.returns-then-not-at_or_below
returns-then-not-at_or_below c =
    let within : c.loop-writer.writer-index < length c.args.writers.now = omega arith in
    (writer_at c.args.writers.now c.loop-writer.writer-index _ within, sym c.at_or_below.ensures ∙ c.if-not-at_or_below.true)

pub loop-writer-preserved : goal.loop-writer-preserved
loop-writer-preserved c =
    let xs = c.args.writers.now in
    let i = c.loop-writer.writer-index in
    let none : Ty = record { 0 = 0 } in
    let x : Ty = slice_index_or xs i none in
    let within : i < length xs = omega arith in
    each_next (λ u. is_below c.args.types.now u c.args.top.0 ≡ true) (λ t. t.0) xs i x within (read_is xs i none within) c.loop-writer.invariant
    (sym c.at_or_below.ensures ∙ c.if-not-at_or_below.false)
