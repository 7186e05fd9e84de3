use Rattle.std.proofs.Common.{subst}
use Rattle.std.specs.Prelude.{IfOk}
use Rattle.fs_graph.specs.Facts.{path_of}
use Rattle.fs_unify.specs.Owing.{ListsOwed, owed_by}
use Rattle.fs_trim.proofs.owed.Goals as goal

pub returns : goal.returns
returns c =
    let g = c.args.system.now in
    subst (λ l. IfOk c.new.result (ListsOwed g (owed_by (path_of l) (path_of c.args.cut.now.anywhere.items)))) c.deref.ensures.value
    (subst (λ l. IfOk c.new.result (ListsOwed g (owed_by (path_of c.deref.result.now) (path_of l)))) c.deref-2.ensures.value c.new.ensures)
