use Rattle.std.proofs.Common.{subst}
use Rattle.fs_closing.specs.Keeps.{deep_of}
use Rattle.fs_drawing.specs.Drawing.{Shows}
use Rattle.fs_drawing.proofs.DrawLemmas.{answers_none}
use Rattle.fs_drawing.proofs.draw.draw_left.Goals as goal

pub graph_from-requires-clause-picture : goal.graph_from-requires-clause-picture
graph_from-requires-clause-picture c =
    subst (Shows c.args.nodes.now c.args.limit c.args.off c.draw.new.picture) c.if-drawn.true c.in_ok-drawn.ensures

pub returns-clause-answers : goal.returns-clause-answers
returns-clause-answers c =
    answers_none (deep_of c.args.nodes.now) c.args.limit c.args.off
    (subst (Shows c.args.nodes.now c.args.limit c.args.off c.draw.new.picture) c.if-drawn.false c.in_ok-drawn.ensures)
