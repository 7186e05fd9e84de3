use Rattle.fs_closing.specs.NodeTable.{table_of}
use Rattle.fs_drawing.specs.Drawing.{leaves_of}
use Rattle.fs_drawing.proofs.PictureLemmas.{drawn_plan, drawn_picture}
use Rattle.fs_drawing.proofs.draw.lay_out.Goals as goal

pub draw_met-requires-clause-drawn : goal.draw_met-requires-clause-drawn
draw_met-requires-clause-drawn c = c.in_ok-begin.ensures (leaves_of c.args.off)

pub returns : goal.returns
returns c =
    let p = c.draw_met.new.picture in
    let t = table_of c.args.nodes.now in (
      drawn_plan t (leaves_of c.args.off) p c.in_ok-draw_met.ensures.all c.in_ok-draw_met.ensures.few,
      drawn_picture t (leaves_of c.args.off) p c.in_ok-draw_met.ensures.all c.in_ok-draw_met.ensures.few,
    )
