use Rattle.std.proofs.Common.{arith, ◌∙◌, sym, slice_index_or}
use Rattle.fs_closing.proofs.HasLemmas.{Has-at}
use Rattle.forced_types.proofs.steps.covers.Goals as goal

pub at_or_below-requires-clause-a_in : goal.at_or_below-requires-clause-a_in
at_or_below-requires-clause-a_in c = c.requires.list _ (Has-at c.args.list.now c.loop-i.i 0 (omega arith))

pub returns-then-at_or_below : goal.returns-then-at_or_below
returns-then-at_or_below c = λ _. record {
  lower = slice_index_or c.args.list.now c.loop-i.i 0;
  has = Has-at c.args.list.now c.loop-i.i 0 (omega arith);
  under = sym c.at_or_below.ensures ∙ c.if-at_or_below.true;
}
