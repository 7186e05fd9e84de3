use Rattle.std.proofs.Common.{◌≡◌, map, take}
use Rattle.std.specs.List.{flat_map}
use Rattle.mrs_model.specs.Views.{variable_of, icon_of}
use Rattle.mrs_text.specs.Written.{constraint_parts}
use Rattle.mrs_text.specs.Inner.Writing.{IsWritten}
use Rattle.mrs_text.proofs.text.put_all_icons.Given as goal

abbrev pub invariant-loop-k : goal.invariant-loop-k
invariant-loop-k l = record {
  size : l.seen.size ≡ l.fn.seen.size;
  written : IsWritten (map variable_of l.vars) (flat_map constraint_parts (map icon_of (take l.k l.icons))) l.fn.seen l.fn.into.items l.seen l.into.items;
}
