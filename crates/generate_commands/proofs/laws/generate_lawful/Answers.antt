use Rattle.generate_commands.proofs.GenerateLaws.{generate-laws}
use Rattle.generate_commands.proofs.laws.generate_lawful.Goals as goal

pub returns : goal.returns
returns c =
    let laws = c.grammar_laws.ensures in
    generate-laws laws.one_grammar laws.one_fault laws.not_both laws.calm c.said_laws.ensures.views c.one_signs.ensures c.sentence_laws.ensures c.one_meaning.ensures c.no_fault.ensures c.one_place.ensures
