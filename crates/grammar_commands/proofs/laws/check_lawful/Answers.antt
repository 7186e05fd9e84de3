use Rattle.std.proofs.Common.{◌∙◌, ◌∷◌, [], ap, sym}
use Rattle.grammar_commands.specs.Commands.{CheckReport}
use Rattle.grammar_commands.proofs.CheckLemmas.{check-same}
use Rattle.grammar_commands.proofs.CommandLemmas.{lawful}
use Rattle.grammar_commands.proofs.laws.check_lawful.Goals as goal

pub returns : goal.returns
returns c =
    let laws = c.grammar_laws.ensures in
    lawful laws.one_grammar laws.one_fault laws.not_both laws.calm CheckReport (λ g h same pieces others refused may p q. (p.0 ∙ ap (λ line. line ∷ []) (check-same g.book h.book same.book) ∙ sym q.0, p.1 ∙ sym q.1))
