use Rattle.std.proofs.Common.{sym, subst}
use Rattle.derivation.specs.Views.{derivation_of}
use Rattle.line_commands.specs.Inner.Trees.{IsFaultOf}
use Rattle.line_commands.proofs.TreeFaults.{fault-in-front, end-of-front}
use Rattle.line_commands.proofs.trees.fault_in_front.Goals.{in-Ok-read_tree, in-Err}
use Rattle.line_commands.proofs.trees.fault_in_front.Goals as goal

pub returns : goal.returns
returns c =
    let names = c.args.names.now in
    let line = c.args.line.now in
    let r = c.requires in
    elim c.match-read_tree.branch [
      | in-Ok-read_tree w ↦ subst (IsFaultOf names line) (sym w.result-is) (end-of-front names line r.not_text c.args.end r.front c.in-Ok.front.now c.in-Ok.ensures.cases.0 (derivation_of w.in-Ok-read_tree.field-0) w.in-Ok-read_tree.ensures.tree)
      | in-Err w ↦ subst (IsFaultOf names line) (sym w.result-is) (fault-in-front names line r.not_text c.args.end r.front c.in-Ok.front.now c.in-Ok.ensures.cases.0 w.in-Err.fault w.in-Err.ensures.fault)
    ]
