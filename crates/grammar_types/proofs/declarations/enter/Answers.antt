use Rattle.std.proofs.Common.{◌∙◌}
use Rattle.grammar_files.specs.Placings.{placed_of}
use Rattle.grammar_types.proofs.SettleRepeats.{entered}
use Rattle.grammar_types.proofs.declarations.enter.Goals as goal

pub returns-in_ok-is_new-in-Some : goal.returns-in_ok-is_new-in-Some
returns-in_ok-is_new-in-Some c =
    entered c.args.status (placed_of c.args.placed.now) c.args.names.now.keys c.insert_full.new.self.keys c.in_ok-clone-in-Some.field-0 c.in_ok-is_new-in-Some.is_new
    c.in-Some.ensures.0 (c.in_ok-clone-in-Some.ensures.cases ∙ c.in-Some.ensures.1) c.in_ok-is_new-in-Some.ensures.added c.in_ok-is_new-in-Some.ensures.keys
