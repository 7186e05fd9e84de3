use Rattle.std.proofs.Common.{◌≤◌, ◌++◌, length}
use denote.Text.{Utf8}
use denote.Shadow.{shadow}
use Rattle.tree_reading.specs.Inner.Frames.{front, frames_of}
use Rattle.tree_reading.specs.Inner.Begun.{IsBefore}
use Rattle.tree_reading.proofs.opening.descend.Given as goal

abbrev pub invariant-rules : goal.invariant-rules
invariant-rules l = record {
  text : shadow (Utf8 l.rest);
  before : IsBefore l.names l.stack.items (front (frames_of l.names.names l.fn.stack.items) ++ l.fn.text) l.rest;
  shorter : length l.rest ≤ length l.fn.text;
}

abbrev pub decreases-rules : goal.decreases-rules
decreases-rules l = length l.rest
