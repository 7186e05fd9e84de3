use Rattle.std.proofs.Common.{sym, subst}
use Rattle.fs_closing.specs.Inner.Indexes.{HaveIndex}
use Rattle.fs_closing.proofs.IndexLemmas.{index_pushed}
use Rattle.fs_closing.proofs.cells.Cells.push.Goals as goal

pub invariant_of-self-else-many : goal.invariant_of-self-else-many
invariant_of-self-else-many c =
    subst (λ l. HaveIndex l c.self.inside.index.items) (sym c.in_ok-push.ensures.items) (index_pushed c.self.inside.cells.items c.args.cell c.self.inside.index.items c.self.invariant)
