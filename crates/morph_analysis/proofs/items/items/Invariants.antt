use Rattle.std.proofs.Common.{◌≡◌, ◌+◌, ◌++◌, List, length, map}
use Rattle.morph_analysis.specs.LatticeLines.{ItemTree, Items}
use Rattle.morph_analysis.specs.Inner.Lines.{item_of, BeginsWith}
use Rattle.std.specs.Prelude.{encode_utf8_all, false}
use Rattle.morph_analysis.proofs.items.items.Given as goal

abbrev pub invariant-loop-left : goal.invariant-loop-left
invariant-loop-left l = record {
  items : (more : List ItemTree) → Items l.left.at l.left.letters.now more → Items 0 l.letters (map item_of l.out.items ++ more);
  begins : BeginsWith false l.left.letters.now;
  size : l.left.at + length (encode_utf8_all l.left.letters.now) ≡ length (encode_utf8_all l.letters);
}

abbrev pub decreases-loop-left : goal.decreases-loop-left
decreases-loop-left l = length l.left.letters.now
