use Rattle.std.proofs.Common.{subst}
use Rattle.rule_trees.specs.Mothers.{view_in}
use Rattle.mrs_lines.specs.Remembered.{MrsSigns, IsLineIn}
use Rattle.mrs_lines.proofs.memory.MrsMemory.known.Goals as goal

pub returns : goal.returns
returns c =
    let graph = c.args.full.now.graph in
    subst (λ (m : MrsSigns). IsLineIn m (view_in m.signs graph) c.in_ok-copy.copy.items) c.self.view_is
    (rw (c.in_ok-copy.ensures.items, c.deref.ensures.value) c.in-Some.ensures)
