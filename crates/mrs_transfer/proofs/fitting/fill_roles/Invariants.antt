use Rattle.std.specs.Prelude.{map, string_bytes}
use Rattle.mrs_model.specs.Views.{variable_of, argument_of}
use Rattle.mrs_transfer.specs.Inner.Matching.{Narrows}
use Rattle.mrs_transfer.proofs.Roles.{FilledTo, WrittenTo}
use Rattle.mrs_transfer.proofs.fitting.fill_roles.Given as goal

abbrev pub invariant-loop-role : goal.invariant-loop-role
invariant-loop-role l = Narrows (map variable_of l.all) (map string_bytes l.letters) (FilledTo (map argument_of l.there) (map argument_of l.written) l.role-index) (WrittenTo (map argument_of l.written) l.role-index) l.fn.pairs.items l.pairs.items
