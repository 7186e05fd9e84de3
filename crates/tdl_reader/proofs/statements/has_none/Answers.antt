use Rattle.std.proofs.Common.{◌∙◌, ap}
use Rattle.std.specs.Prelude.{◌==◌}
use Rattle.tdl_reader.proofs.Stacks.{none_left}
use Rattle.tdl_reader.proofs.statements.has_none.Goals as goal

pub returns : goal.returns
returns c = c.is_empty.ensures ∙ (ap (λ n. n == 0) c.args.frames.now.ok.0 ∙ none_left c.args.frames.now.items)
