use Rattle.std.proofs.Common.{sym, ◌∙◌, subst}
use Rattle.fs_closing.specs.Constraints.{IsConstraint}
use Rattle.constraint_expand.proofs.structures.known.Goals as goal

pub know-requires-clause-known : goal.know-requires-clause-known
know-requires-clause-known c = subst (IsConstraint c.args.system.now c.args.ty.0) (sym (c.in_ok-share.ensures ∙ c.in_ok-graph.ensures)) c.requires.is
