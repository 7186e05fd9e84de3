use Rattle.self_tests.proofs.OneSummary.{self-test-laws}
use Rattle.self_tests.proofs.laws.self_test_lawful.Goals as goal

pub returns : goal.returns
returns c =
    let laws = c.grammar_laws.ensures in
    self-test-laws laws.one_grammar laws.one_fault laws.not_both c.said_laws.ensures.views c.one_signs.ensures c.parse_laws.ensures.one
