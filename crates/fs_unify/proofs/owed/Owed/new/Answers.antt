use Rattle.std.proofs.Common.{length, map, subst}
use Rattle.type_hierarchy.specs.Table.{count_of}
use Rattle.fs_graph.specs.Facts.{path_of}
use Rattle.fs_unify.specs.Debts.{HaveDebts}
use Rattle.fs_unify.specs.Owing.{speaks_of, HaveOwing}
use Rattle.fs_unify.proofs.owed.Owed.new.Goals as goal

pub returns : goal.returns
returns c =
    let g = c.args.system.now in
    let none = c.none.ensures.at_root in
    let further = c.in_ok-further.further in
    record {
      at_root = c.in_ok-root.ensures.rows;
      further = subst (λ l. HaveOwing g (speaks_of l (path_of c.args.anywhere.now)) further.debts.items (count_of g.types) (map (λ row. row.items) further.rows.items))
          none c.in_ok-further.ensures.rows;
      root_debts = c.in_ok-root.ensures.debts;
      further_debts = subst (λ l. HaveDebts g (speaks_of l (path_of c.args.anywhere.now)) (length g.rules) further.debts.items) none c.in_ok-further.ensures.debts;
    }
