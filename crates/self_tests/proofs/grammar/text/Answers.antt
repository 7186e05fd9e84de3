use Rattle.self_tests.proofs.grammar.text.Goals as goal

-- the bytes of the constant are those of the lines, by computation
pub returns : goal.returns
returns c = c.in_ok-text.ensures.items
