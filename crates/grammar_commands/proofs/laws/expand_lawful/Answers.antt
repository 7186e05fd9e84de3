use Rattle.grammar_commands.specs.Commands.{ExpandReport}
use Rattle.grammar_commands.proofs.CommandLemmas.{lawful}
use Rattle.grammar_commands.proofs.SameReports.{one-expansion}
use Rattle.grammar_commands.proofs.laws.expand_lawful.Goals as goal

pub returns : goal.returns
returns c =
    let laws = c.grammar_laws.ensures in
    λ name entry settings verbose. lawful laws.one_grammar laws.one_fault laws.not_both laws.calm (ExpandReport entry) (λ g h same pieces others refused may p q. one-expansion c.path_laws.ensures g h same entry pieces others refused may p q) name settings verbose
