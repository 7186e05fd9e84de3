use Rattle.std.proofs.Common.{◌≤◌, ℕ, List, length, vec_len}
use denote.Text.{Utf8}
use denote.Shadow.{shadow}
use Rattle.std.specs.List.{All}
use Rattle.tree_reading.specs.Grammars.{TreeGrammar, IsNamedWell}
use Rattle.tree_reading.specs.Inner.Begun.{IsAfter, AreCountedIn}
use Rattle.tree_reading.specs.Inner.Closed.{IsChildCounted}
use Rattle.tree_reading.proofs.reading.rise.Given as goal

abbrev pub invariant-loop-rule : goal.invariant-loop-rule
invariant-loop-rule l = record {
  text : shadow (Utf8 l.rest);
  after : (g : TreeGrammar) (whole : List ℕ) → IsAfter g l.fn.stack.items l.fn.child whole l.fn.text → IsNamedWell g → IsAfter g l.stack.items l.below whole l.rest;
  counted : All AreCountedIn l.stack.items;
  below_counted : IsChildCounted l.below;
  shorter : length l.rest ≤ length l.fn.text;
}

abbrev pub decreases-loop-rule : goal.decreases-loop-rule
decreases-loop-rule l = vec_len l.stack
