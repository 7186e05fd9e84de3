use Rattle.std.proofs.Common.{◌≡◌, length, subst, arith}
use Rattle.fs_closing.specs.NodeTable.{table_of}
use Rattle.fs_drawing.specs.Drawing.{leaves_of, DrawsMet}
use Rattle.fs_drawing.proofs.draw.draw_met.Goals as goal

pub returns-then-k-len-clause-all : goal.returns-then-k-len-clause-all
returns-then-k-len-clause-all c =
    let is : c.loop-k.k ≡ length c.loop-k.picture.met.nodes.items = omega (arith, c.loop-k.invariant.drawn.within, c.if-k-len.true, c.len.ensures, c.loop-k.picture.met.nodes.ok) in
    subst (λ k. DrawsMet (table_of c.args.nodes.now) (leaves_of c.args.off) k c.loop-k.picture) is c.loop-k.invariant.drawn
