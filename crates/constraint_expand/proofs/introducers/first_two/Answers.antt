use Rattle.std.proofs.Common.{◌<◌, ◌≤◌, inl, inr, length, slice_index_or, ap, arith}
use Rattle.type_hierarchy.specs.declared.types.Ty.{Ty}
use Rattle.constraint_expand.specs.Introducers.{numbers_of}
use Rattle.type_facts.proofs.ListLemmas.{true_not_false}
use Rattle.constraint_expand.proofs.IntroducerLemmas.{writer_at, read_is, two_begin, two_taken, two_passed, two_all, two_same}
use Rattle.constraint_expand.proofs.introducers.first_two.Goals as goal
use Rattle.constraint_expand.proofs.introducers.first_two.Goals.{then-t-b+then-t-a+then-is_most_general, else-t-b, else-t-b-via-then-t-b+then-t-a+else-is_most_general, else-t-b-via-then-t-b+else-t-a, else-t-b-via-else-t-b}

pub loop-writer-init : goal.loop-writer-init
loop-writer-init c =
    two_begin c.args.types.now (numbers_of c.args.writers.now) c.args.x.0 c.args.y.0 _ _ c.requires.x_general c.requires.y_general c.in_order.ensures.rising c.in_order.ensures.same

pub is_most_general-requires-clause-writes : goal.is_most_general-requires-clause-writes
is_most_general-requires-clause-writes c =
    let within : c.loop-writer.writer-index < length c.args.writers.now = omega arith in
    writer_at c.args.writers.now c.loop-writer.writer-index _ within

pub loop-writer-preserved : goal.loop-writer-preserved
loop-writer-preserved c =
    let types = c.args.types.now in
    let xs = c.args.writers.now in
    let i = c.loop-writer.writer-index in
    let none : Ty = record { 0 = 0 } in
    let x : Ty = slice_index_or xs i none in
    let a = c.loop-writer.a.0 in
    let b = c.loop-writer.b.0 in
    let within : i < length xs = omega arith in
    let is = read_is xs i none within in
    elim c.if-t-b.branch [
      | then-t-b+then-t-a+then-is_most_general w ↦
          two_same types (numbers_of xs) _ _ _ _ _ (ap (λ t. t.0) w.a-is) (ap (λ t. t.0) w.b-is)
          (two_taken types xs i a b w.lesser.result.0.0 w.lesser.result.1.0 x within is (w.is_most_general.ensures.0 w.if-is_most_general.true) w.if-t-b.true c.loop-writer.invariant w.lesser.ensures)
      | else-t-b w ↦
          two_same types (numbers_of xs) _ _ _ _ _ (ap (λ t. t.0) w.a-is) (ap (λ t. t.0) w.b-is)
          (two_passed types xs i a b x within is
          (elim w.else-t-b.branch [
            | else-t-b-via-then-t-b+then-t-a+else-is_most_general v ↦ λ g. true_not_false _ (v.is_most_general.ensures.1 g) v.if-is_most_general.false
            | else-t-b-via-then-t-b+else-t-a v ↦ λ g. inl v.if-t-a.false
            | else-t-b-via-else-t-b v ↦ λ g. inr v.if-t-b.false
          ])
          c.loop-writer.invariant)
    ]

pub returns : goal.returns
returns c =
    let past : length c.args.writers.now ≤ c.loop-writer.writer-index = omega arith in
    two_all c.args.types.now c.args.writers.now c.loop-writer.writer-index c.loop-writer.a.0 c.loop-writer.b.0 past c.loop-writer.invariant
