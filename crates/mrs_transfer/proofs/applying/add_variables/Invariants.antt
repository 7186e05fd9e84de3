use Rattle.std.specs.Prelude.{◌≡◌, ◌+◌, ◌++◌, map, take, length, string_bytes}
use Rattle.mrs_model.specs.Views.{variable_of}
use Rattle.transfer_model.specs.Applying.{new_variable, numbers}
use Rattle.mrs_transfer.proofs.applying.add_variables.Given as goal

abbrev pub invariant-loop-text : goal.invariant-loop-text
invariant-loop-text l = record {
  size : length l.all.items ≡ length l.fn.all.items + l.text-index;
  all : map variable_of l.all.items ≡ map variable_of l.fn.all.items ++ map new_variable (map string_bytes (take l.text-index l.letters));
  vars : l.vars.items ≡ l.fn.vars.items ++ numbers (length l.fn.all.items) l.text-index;
}
