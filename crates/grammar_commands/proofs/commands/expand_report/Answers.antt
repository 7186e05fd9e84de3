use Rattle.std.proofs.Common.{option_map}
use Rattle.grammar_load.specs.Views.{grammar_of}
use Rattle.grammar_commands.proofs.CommandLemmas.{some-book}
use Rattle.grammar_commands.proofs.commands.expand_report.Goals as goal

pub report_on-requires-clause-book : goal.report_on-requires-clause-book
report_on-requires-clause-book g c = some-book _ c.args.name.now (option_map (λ s. s.now) c.args.settings) (grammar_of c.in_ok-grammar.grammar) c.in_ok-grammar.ensures.grammar
