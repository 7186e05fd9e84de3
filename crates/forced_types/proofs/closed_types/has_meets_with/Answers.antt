use Rattle.std.proofs.Common.{ℕ, ◌≡◌, Some, slice_index_or, arith}
use Rattle.type_hierarchy.specs.Table.{meet_of}
use Rattle.fs_model.specs.Claims.{Has}
use Rattle.fs_closing.proofs.HasLemmas.{Has-at}
use Rattle.forced_types.proofs.TypeLemmas.{at_every, one_more}
use Rattle.forced_types.proofs.closed_types.has_meets_with.Goals as goal

pub has_meet-requires-clause-second : goal.has_meet-requires-clause-second
has_meet-requires-clause-second c = c.requires.list _ (Has-at c.args.list.now c.loop-i.i 0 (omega (arith, c.loop-i-test.true)))

pub returns : goal.returns
returns c = λ _.
    at_every c.args.list.now (λ u. (m : ℕ) → meet_of c.args.given.system.now.types c.args.ty u ≡ Some m → Has m c.args.list.now) 0
    (λ k h. c.loop-i.invariant k (omega (arith, c.loop-i-test.false)))

pub loop-i-preserved : goal.loop-i-preserved
loop-i-preserved c =
    one_more (λ k. (m : ℕ) → meet_of c.args.given.system.now.types c.args.ty (slice_index_or c.args.list.now k 0) ≡ Some m → Has m c.args.list.now)
    c.loop-i.i c.loop-i.invariant (c.has_meet.ensures c.if-not-has_meet.false)
