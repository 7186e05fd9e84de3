use Rattle.std.proofs.Common.{◌∙◌, ap, sym}
use Rattle.fs_unify.specs.Rules.{Grammar}
use Rattle.grammar_commands.specs.Commands.{TypesReport}
use Rattle.grammar_commands.specs.TypeReports.{type_lines}
use Rattle.grammar_commands.proofs.CommandLemmas.{lawful}
use Rattle.grammar_commands.proofs.laws.types_lawful.Goals as goal

pub returns : goal.returns
returns c =
    let laws = c.grammar_laws.ensures in
    lawful laws.one_grammar laws.one_fault laws.not_both laws.calm TypesReport (λ g h same pieces others refused may p q. (p.0 ∙ ap (λ (s : Grammar). type_lines s.types) same.book.system ∙ sym q.0, p.1 ∙ sym q.1))
