use Rattle.std.proofs.Common.{◌*◌, ◌+◌, ◌∙◌, length, sym}
use Rattle.type_hierarchy.proofs.ColumnLemmas.{row_there, square_grown}
use Rattle.type_hierarchy.proofs.columns.enter_square.Goals as goal

pub scatter-requires-clause-sized : goal.scatter-requires-clause-sized
scatter-requires-clause-sized c = (
  length c.args.rows.now,
  c.requires.group,
  (λ r k l m e.
      row_there c.args.rows.now (64 * c.args.group + k) (64 * c.args.place + r) (sym (c.turn.ensures.turned r k l m ∙ c.gather.ensures.cells k r m l) ∙ e)),
  c.requires.columns,
)

pub returns-clause-grown : goal.returns-clause-grown
returns-clause-grown c =
    square_grown c.args.columns.now c.scatter.new.columns c.args.rows.now c.turn.new.block c.args.place c.args.group
    (λ r k l m. c.turn.ensures.turned r k l m ∙ c.gather.ensures.cells k r m l) c.scatter.ensures.grown

pub returns-clause-columns : goal.returns-clause-columns
returns-clause-columns c =
    c.scatter.ensures.rows (length c.args.rows.now)
    (λ r k l m e. row_there c.args.rows.now (64 * c.args.group + k) (64 * c.args.place + r) (sym (c.turn.ensures.turned r k l m ∙ c.gather.ensures.cells k r m l) ∙ e)) c.requires.columns
