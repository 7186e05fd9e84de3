use Rattle.std.proofs.Common.{◌≡◌, ◌<◌, length, slice_index_or, arith, sym, subst, ◌∙◌}
use Rattle.std.proofs.lemmas.List.{get_or_read}
use Rattle.fs_closing.proofs.HasLemmas.{Has-at}
use Rattle.forced_types.specs.Inner.Closed.{IsPartTold}
use Rattle.forced_types.proofs.TypeLemmas.{at_every, one_more}
use Rattle.forced_types.proofs.nodes.Nodes.are_parts_told.Goals as goal

pub is_part_told-requires-clause-part : goal.is_part_told-requires-clause-part
is_part_told-requires-clause-part c = Has-at c.args.given.parts.now c.loop-i.i c.index-given-i.result (omega (arith, c.loop-i-test.true))

pub loop-i-preserved : goal.loop-i-preserved
loop-i-preserved c = λ j h d.
    let parts = c.args.given.parts.now in
    let i_in : c.loop-i.i < length parts = omega (arith, c.loop-i-test.true) in
    let is : slice_index_or parts c.loop-i.i c.index-given-i.result ≡ slice_index_or parts c.loop-i.i d =
    sym c.index-given-i.is ∙ get_or_read parts c.loop-i.i c.index-given-i.result i_in c.index-given-i.is d in
    one_more (λ k. IsPartTold c.args.given c.args.self.now (slice_index_or parts k d)) c.loop-i.i (λ k b. c.loop-i.invariant k b d)
    (subst (IsPartTold c.args.given c.args.self.now) is (c.is_part_told.ensures c.if-not-is_part_told.false)) j h

pub returns : goal.returns
returns c = λ _ p h.
    at_every c.args.given.parts.now (IsPartTold c.args.given c.args.self.now) p (λ k i. c.loop-i.invariant k (omega (arith, c.loop-i-test.false, i)) p) p h
