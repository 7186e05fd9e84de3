use Rattle.std.proofs.Common.{◌<◌, length, map, subst, arith}
use Rattle.std.proofs.lemmas.List.{length-map}
use Rattle.grammar_files.specs.Placings.{placed_of}
use Rattle.grammar_types.specs.SettleViews.{IsEarliestOfAll}
use Rattle.grammar_types.proofs.settle.settle_types.Goals as goal

pub repeat_fault-requires-clause-first : goal.repeat_fault-requires-clause-first
repeat_fault-requires-clause-first c =
    let xs = c.args.walked.now.statements.items in
    let e : IsEarliestOfAll (map placed_of xs) c.in_ok-place.place = subst (λ ys. IsEarliestOfAll (map placed_of ys) c.in_ok-place.place) c.deref.ensures.value c.in_ok-place.ensures in
    (e.is_repeat (omega (arith, length-map xs placed_of)), λ j h r. e.none_before j h r)

pub written-requires-clause-once : goal.written-requires-clause-once
written-requires-clause-once c = λ k r.
    let xs = c.args.walked.now.statements.items in
    let e : IsEarliestOfAll (map placed_of xs) c.in_ok-place.place = subst (λ ys. IsEarliestOfAll (map placed_of ys) c.in_ok-place.place) c.deref.ensures.value c.in_ok-place.ensures in
    let within : k < length (map placed_of xs) = r.2.0 in
    e.none_before k (omega (arith, length-map xs placed_of)) r
