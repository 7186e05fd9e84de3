use Rattle.std.proofs.Common.{◌∙◌, map, length}
use Rattle.mrs_model.specs.Valid.{IsConstraint}
use Rattle.mrs_model.specs.Views.{variable_of, icon_of}
use Rattle.mrs_text.specs.Written.{constraint_parts}
use Rattle.mrs_text.proofs.Writing.{written_more, written_all, take_whole, all_at}
use Rattle.mrs_text.proofs.text.put_all_icons.Goals as goal

pub put_icon-requires-clause-within : goal.put_icon-requires-clause-within
put_icon-requires-clause-within c = all_at icon_of (IsConstraint (length c.args.vars.now)) c.args.icons.now c.loop-k.k c.index-icons-k.result c.requires.within c.loop-k-test.true c.index-icons-k.is

pub loop-k-preserved : goal.loop-k-preserved
loop-k-preserved c = record {
  size = c.put_icon.ensures.size ∙ c.loop-k.invariant.size;
  written = written_more (map variable_of c.args.vars.now) icon_of constraint_parts c.args.icons.now c.loop-k.k c.index-icons-k.result _ _ _ _ _ _ c.loop-k-test.true c.index-icons-k.is c.loop-k.invariant.written c.in_ok-put_icon.ensures.written;
}

pub returns-clause-written : goal.returns-clause-written
returns-clause-written c = written_all (map variable_of c.args.vars.now) icon_of constraint_parts c.args.icons.now c.loop-k.k _ _ _ _ (take_whole c.args.icons.now c.loop-k.k c.loop-k-test.false) c.loop-k.invariant.written
