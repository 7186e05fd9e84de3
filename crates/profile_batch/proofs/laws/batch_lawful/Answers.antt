use Rattle.profile_batch.proofs.BatchLaws.{batch-laws}
use Rattle.profile_batch.proofs.laws.batch_lawful.Goals as goal

pub returns : goal.returns
returns c = λ grammar settings verbose profile limits most.
    let laws = c.grammar_laws.ensures in
    let texts = c.text_laws.ensures in
    batch-laws laws.one_grammar laws.one_fault laws.not_both laws.calm (record { one_text = texts.one_text; one_fault = texts.one_fault; not_both = texts.not_both; calm = texts.calm }) grammar settings verbose profile
    c.said_laws.ensures.views c.one_signs.ensures c.parse_laws.ensures.one limits most
