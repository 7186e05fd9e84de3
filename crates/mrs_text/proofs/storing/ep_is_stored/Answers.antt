use Rattle.std.proofs.Common.{List, map, subst}
use Rattle.std.specs.List.{All}
use Rattle.std.specs.Str.{IsUtf8}
use Rattle.mrs_model.specs.declared.Role.{Role}
use Rattle.mrs_model.specs.Views.{argument_of}
use Rattle.mrs_text.specs.Stored.{IsStoredArgument}
use Rattle.mrs_text.proofs.storing.ep_is_stored.Goals as goal

pub returns : goal.returns
returns c = record {
  pred = subst IsUtf8 c.as_str-pred.ensures.value c.as_str-pred.utf8;
  args = subst (λ (xs : List Role). All IsStoredArgument (map argument_of xs)) c.deref.ensures.value c.roles_are_stored.ensures;
  span = c.span_is_stored.ensures;
}
