use Rattle.std.proofs.Common.{arith}
use Rattle.forced_types.specs.Inner.Sound.{entry_in}
use Rattle.forced_types.proofs.SoundLemmas.{entry_count}
use Rattle.forced_types.proofs.StepLemmas.{arc_has}
use Rattle.forced_types.proofs.nodes.Nodes.is_flat.Goals as goal

pub returns : goal.returns
returns c = λ _.
    let t = c.args.self.now in
    record {
      up_in = λ n h. let i = (c.requires.entries.each n (omega (arith, entry_count t, h))).up_in in omega (arith, entry_count t);
      twice = λ n h. c.loop-n.invariant n (omega (arith, c.loop-n-test.false, c.size-n-end.ensures, h));
      arc_in = λ n f m h e.
          let a = arc_has (entry_in t n).arcs f m e in
          let i = ((c.requires.entries.each n (omega (arith, entry_count t, h))).arc_in a.0 a.1).0 in
          let d = a.3 in
          omega (arith, entry_count t);
    }
