use Rattle.std.proofs.Common.{◌∙◌, map, length}
use Rattle.mrs_model.specs.Valid.{IsArgument}
use Rattle.mrs_model.specs.Views.{variable_of, argument_of}
use Rattle.mrs_text.specs.Written.{argument_parts}
use Rattle.mrs_text.proofs.Writing.{written_more, written_all, take_whole, all_at}
use Rattle.mrs_text.proofs.text.put_roles.Goals as goal

pub put_role-requires-clause-within : goal.put_role-requires-clause-within
put_role-requires-clause-within c = (all_at argument_of (IsArgument (length c.args.vars.now)) c.args.roles.now c.loop-k.k c.index-roles-k.result c.requires.within c.loop-k-test.true c.index-roles-k.is).filler

pub loop-k-preserved : goal.loop-k-preserved
loop-k-preserved c = record {
  size = c.put_role.ensures.size ∙ c.loop-k.invariant.size;
  written = written_more (map variable_of c.args.vars.now) argument_of argument_parts c.args.roles.now c.loop-k.k c.index-roles-k.result _ _ _ _ _ _ c.loop-k-test.true c.index-roles-k.is c.loop-k.invariant.written c.in_ok-put_role.ensures.written;
}

pub returns-clause-written : goal.returns-clause-written
returns-clause-written c = written_all (map variable_of c.args.vars.now) argument_of argument_parts c.args.roles.now c.loop-k.k _ _ _ _ (take_whole c.args.roles.now c.loop-k.k c.loop-k-test.false) c.loop-k.invariant.written
