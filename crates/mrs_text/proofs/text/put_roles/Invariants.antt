use Rattle.std.proofs.Common.{◌≡◌, map, take}
use Rattle.std.specs.List.{flat_map}
use Rattle.mrs_model.specs.Views.{variable_of, argument_of}
use Rattle.mrs_text.specs.Written.{argument_parts}
use Rattle.mrs_text.specs.Inner.Writing.{IsWritten}
use Rattle.mrs_text.proofs.text.put_roles.Given as goal

abbrev pub invariant-loop-k : goal.invariant-loop-k
invariant-loop-k l = record {
  size : l.seen.size ≡ l.fn.seen.size;
  written : IsWritten (map variable_of l.vars) (flat_map argument_parts (map argument_of (take l.k l.roles))) l.fn.seen l.fn.into.items l.seen l.into.items;
}
