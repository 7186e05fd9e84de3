use Rattle.std.proofs.Common.{◌<◌, ◌≤◌, ◌∙◌, length, slice_index_or, sym, ap, subst, take, ◌+◌, arith}
use Rattle.type_hierarchy.specs.declared.types.Ty.{Ty}
use Rattle.constraint_expand.specs.Introducers.{numbers_of}
use Rattle.constraint_expand.proofs.IntroducerLemmas.{IsHighestOf, writer_within, read_is, highest_none, highest_taken, highest_kept, highest_all}
use Rattle.constraint_expand.proofs.introducers.highest_from.Goals as goal
use Rattle.constraint_expand.proofs.introducers.highest_from.Goals.{then-at_or_below, else-at_or_below}

pub loop-writer-init : goal.loop-writer-init
loop-writer-init c = highest_none c.args.types.now (numbers_of c.args.writers.now) c.args.start.0 c.laws.ensures c.requires.writes

pub at_or_below-requires-clause-a_in : goal.at_or_below-requires-clause-a_in
at_or_below-requires-clause-a_in c = writer_within _ c.args.writers.now c.requires.within c.loop-writer.highest.0 c.loop-writer.invariant.writes

pub loop-writer-preserved : goal.loop-writer-preserved
loop-writer-preserved c =
    let types = c.args.types.now in
    let xs = c.args.writers.now in
    let i = c.loop-writer.writer-index in
    let none : Ty = record { 0 = 0 } in
    let x : Ty = slice_index_or xs i none in
    let within : i < length xs = omega arith in
    let is = read_is xs i none within in
    elim c.if-at_or_below.branch [
      | then-at_or_below w ↦
          subst (λ h. IsHighestOf types (numbers_of xs) (numbers_of (take (i + 1) xs)) c.args.start.0 h) (sym (ap (λ t. t.0) w.highest-is))
          (highest_taken types xs i c.args.start.0 c.loop-writer.highest.0 x c.laws.ensures within is (sym c.at_or_below.ensures ∙ w.if-at_or_below.true) c.loop-writer.invariant)
      | else-at_or_below w ↦
          subst (λ h. IsHighestOf types (numbers_of xs) (numbers_of (take (i + 1) xs)) c.args.start.0 h) (sym (ap (λ t. t.0) w.highest-is))
          (highest_kept types xs i c.args.start.0 c.loop-writer.highest.0 x within is (sym c.at_or_below.ensures ∙ w.if-at_or_below.false) c.loop-writer.invariant)
    ]

pub returns-clause-highest : goal.returns-clause-highest
returns-clause-highest c =
    let past : length c.args.writers.now ≤ c.loop-writer.writer-index = omega arith in
    highest_all c.args.types.now c.args.writers.now c.loop-writer.writer-index c.args.start.0 c.loop-writer.highest.0 past c.loop-writer.invariant

pub returns-clause-above : goal.returns-clause-above
returns-clause-above c = c.loop-writer.invariant.above
