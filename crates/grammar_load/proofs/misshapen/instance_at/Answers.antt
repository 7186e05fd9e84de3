use Rattle.std.proofs.Common.{◌<◌, ◌≤◌, ◌∙◌, true, false, length, map, filter, sym, ap, arith}
use Rattle.std.specs.Prelude.{slice_get}
use Rattle.std.proofs.lemmas.List.{length-map}
use Rattle.grammar_files.specs.Placings.{placed_of}
use Rattle.grammar_files.specs.Statements.{defines_instance}
use Rattle.book_shapes.proofs.PlaceLemmas.{seen_at}
use Rattle.grammar_load.proofs.InstanceLemmas.{kept_at, count_next, none_there}
use Rattle.grammar_load.proofs.misshapen.instance_at.Goals as goal
use Rattle.grammar_load.proofs.misshapen.instance_at.Goals.{then-defines_instance+else-seen-place, else-defines_instance}

pub returns-then-seen-place : goal.returns-then-seen-place
returns-then-seen-place c =
    let xs = c.args.statements.now in
    let ps = map placed_of xs in
    let i = c.loop-i.i in
    let x = c.index-statements-i.result in
    let within : i < length xs = omega arith in
    let there = kept_at defines_instance ps i (placed_of x) (seen_at placed_of xs i x within c.index-statements-i.is) (sym c.defines_instance.ensures ∙ c.if-defines_instance.true) in
    sym (ap (slice_get (filter defines_instance ps)) (sym c.if-seen-place.true ∙ c.loop-i.invariant.0) ∙ there)

pub loop-i-preserved : goal.loop-i-preserved
loop-i-preserved c =
    let xs = c.args.statements.now in
    let ps = map placed_of xs in
    let i = c.loop-i.i in
    let x = c.index-statements-i.result in
    let within : i < length xs = omega arith in
    let at = seen_at placed_of xs i x within c.index-statements-i.is in
    let had = c.loop-i.invariant.0 in
    let le = c.loop-i.invariant.1 in
    elim c.if-defines_instance.branch [
      | then-defines_instance+else-seen-place w ↦
          let next = count_next defines_instance ps i (placed_of x) true at (sym c.defines_instance.ensures ∙ w.if-defines_instance.true) in
          (omega (arith, w.seen-is, had, next), omega (arith, w.seen-is, le, w.if-seen-place.false))
      | else-defines_instance w ↦
          let next = count_next defines_instance ps i (placed_of x) false at (sym c.defines_instance.ensures ∙ w.if-defines_instance.false) in
          (omega (arith, w.seen-is, had, next), omega (arith, w.seen-is, le))
    ]

pub returns : goal.returns
returns c =
    let xs = c.args.statements.now in
    let ps = map placed_of xs in
    let past : length ps ≤ c.loop-i.i = omega (arith, c.loop-i-test.false, length-map xs placed_of) in
    sym (none_there defines_instance ps c.loop-i.i c.args.place past (omega (arith, c.loop-i.invariant.0, c.loop-i.invariant.1)))
