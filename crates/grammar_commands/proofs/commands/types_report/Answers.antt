use Rattle.std.proofs.Common.{◌∙◌, ap, refl}
use Rattle.grammar_load.specs.Views.{grammar_of}
use Rattle.grammar_commands.specs.TypeReports.{type_lines}
use Rattle.grammar_commands.proofs.commands.types_report.Goals as goal

pub returns : goal.returns
returns g c = λ lines. (grammar_of c.in_ok-grammar.grammar, c.in_ok-grammar.ensures.grammar, (c.in-Ok.ensures ∙ ap type_lines c.types.ensures, refl))
