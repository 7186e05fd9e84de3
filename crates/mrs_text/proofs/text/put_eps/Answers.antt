use Rattle.std.proofs.Common.{◌∙◌, map, length}
use Rattle.mrs_model.specs.Valid.{IsPredication}
use Rattle.mrs_model.specs.Views.{variable_of, predication_of}
use Rattle.mrs_text.specs.Written.{ep_parts}
use Rattle.mrs_text.proofs.Writing.{written_more, written_all, take_whole, all_at}
use Rattle.mrs_text.proofs.text.put_eps.Goals as goal

pub put_ep-requires-clause-within : goal.put_ep-requires-clause-within
put_ep-requires-clause-within c = (all_at predication_of (IsPredication (length c.args.vars.now)) c.args.eps.now c.loop-k.k c.index-eps-k.result c.requires.within c.loop-k-test.true c.index-eps-k.is)

pub loop-k-preserved : goal.loop-k-preserved
loop-k-preserved c = record {
  size = c.put_ep.ensures.size ∙ c.loop-k.invariant.size;
  written = written_more (map variable_of c.args.vars.now) predication_of ep_parts c.args.eps.now c.loop-k.k c.index-eps-k.result _ _ _ _ _ _ c.loop-k-test.true c.index-eps-k.is c.loop-k.invariant.written c.in_ok-put_ep.ensures.written;
}

pub returns-clause-written : goal.returns-clause-written
returns-clause-written c = written_all (map variable_of c.args.vars.now) predication_of ep_parts c.args.eps.now c.loop-k.k _ _ _ _ (take_whole c.args.eps.now c.loop-k.k c.loop-k-test.false) c.loop-k.invariant.written
