use Rattle.std.proofs.Common.{◌≡◌, ◌<◌, ◌∙◌, true, length, slice_index_or, sym, arith}
use Rattle.std.proofs.lemmas.Bool.{false≢true}
use Rattle.type_hierarchy.specs.declared.types.Ty.{Ty}
use Rattle.type_hierarchy.specs.Table.{is_below}
use Rattle.type_facts.proofs.ListLemmas.{true_not_false, each_next}
use Rattle.constraint_expand.proofs.IntroducerLemmas.{writer_within, writer_at, read_is}
use Rattle.constraint_expand.proofs.introducers.is_most_general.Goals as goal
use Rattle.constraint_expand.proofs.introducers.is_most_general.Goals.{else-writer-t-via-then-writer-t+else-at_or_below, else-writer-t-via-else-writer-t}

pub loop-writer-init : goal.loop-writer-init
loop-writer-init c = λ u h. elim h [ ]

pub at_or_below-requires-clause-a_in : goal.at_or_below-requires-clause-a_in
at_or_below-requires-clause-a_in c = writer_within _ c.args.writers.now c.requires.within c.args.t.0 c.requires.writes

pub returns-then-at_or_below : goal.returns-then-at_or_below
returns-then-at_or_below c =
    let within : c.loop-writer.writer-index < length c.args.writers.now = omega arith in (
      λ e. absurd (false≢true e),
      λ g. absurd (c.if-writer-t.true (g.highest _ (writer_at c.args.writers.now c.loop-writer.writer-index _ within) (sym c.at_or_below.ensures ∙ c.if-at_or_below.true))),
    )

pub loop-writer-preserved : goal.loop-writer-preserved
loop-writer-preserved c =
    let xs = c.args.writers.now in
    let i = c.loop-writer.writer-index in
    let none : Ty = record { 0 = 0 } in
    let x : Ty = slice_index_or xs i none in
    let within : i < length xs = omega arith in
    each_next (λ u. is_below c.args.types.now c.args.t.0 u ≡ true → u ≡ c.args.t.0) (λ t. t.0) xs i x within (read_is xs i none within) c.loop-writer.invariant
    (elim c.else-writer-t.branch [ else-writer-t-via-then-writer-t+else-at_or_below w ↦ λ up. true_not_false _ up (sym w.at_or_below.ensures ∙ w.if-at_or_below.false) | else-writer-t-via-else-writer-t w ↦ λ up. w.if-writer-t.false ])
