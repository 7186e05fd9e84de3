use Rattle.grammar_rules.specs.Views.{item_answer}
use Rattle.line_commands.proofs.answering.Parser.parsed.Goals as goal

pub returns-clause-report : goal.returns-clause-report
returns-clause-report c =
    record { answer = item_answer c.in_ok-answer.answer; is = c.in_ok-answer.ensures.answer; lines_are = c.in_ok-report.ensures.lines; refused_is = c.in_ok-report.ensures.refused }
