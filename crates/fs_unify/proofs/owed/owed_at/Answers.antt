use Rattle.std.proofs.Common.{length, map, sym, subst}
use Rattle.type_hierarchy.specs.Table.{count_of}
use Rattle.fs_graph.specs.Facts.{path_of}
use Rattle.fs_unify.specs.Owing.{speaks_of, HaveOwing}
use Rattle.fs_unify.specs.Inner.Marks.{HaveMarks}
use Rattle.fs_unify.proofs.owed.owed_at.Goals as goal

pub returns-clause-rows : goal.returns-clause-rows
returns-clause-rows c =
    let g = c.args.system.now in
    let owed = speaks_of (path_of c.args.off.at_root.now) (path_of c.args.off.anywhere.now) in
    let marked = subst (HaveMarks g owed (length g.rules)) (sym c.deref-2.ensures.value) c.in_ok-marks.ensures in
    subst (λ l. HaveOwing g owed l (count_of g.types) (map (λ row. row.items) c.in_ok-rows.rows.items)) c.deref-3.ensures.value (c.in_ok-rows.ensures owed marked)
