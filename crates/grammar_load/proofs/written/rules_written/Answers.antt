use Rattle.std.proofs.Common.{◌≡◌, ◌∙◌, map, refl, sym, ap}
use Rattle.std.proofs.lemmas.List.{take_all}
use Rattle.grammar_files.specs.Placings.{placed_of}
use Rattle.grammar_load.specs.Spellings.{rule_written, defines_lexical, spellings_of, lexical_rules}
use Rattle.grammar_load.proofs.GatherLemmas.{gathered}
use Rattle.grammar_load.proofs.written.rules_written.Goals as goal

pub loop-placed-preserved : goal.loop-placed-preserved
loop-placed-preserved c =
    gathered (λ p. rule_written p.statement) defines_lexical placed_of c.args.statements.now c.loop-placed.placed-index c.placed-item.result (defines_lexical (placed_of c.placed-item.result)) _ _ c.loop-placed-test.true c.placed-item.is refl c.loop-placed.invariant c.in_ok-add_rule.ensures

pub returns : goal.returns
returns c = c.loop-placed.invariant ∙ ap (λ l. spellings_of (lexical_rules (map placed_of l))) (take_all c.loop-placed.placed-index c.args.statements.now c.loop-placed-test.false)
