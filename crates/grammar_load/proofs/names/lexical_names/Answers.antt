use Rattle.std.proofs.Common.{◌≡◌, ◌∙◌, map, sym, ap}
use Rattle.std.proofs.lemmas.List.{take_all}
use Rattle.grammar_files.specs.Placings.{placed_of}
use Rattle.grammar_files.specs.Statements.{name_of}
use Rattle.grammar_load.specs.Spellings.{lexical_rules, defines_lexical}
use Rattle.grammar_load.proofs.GatherLemmas.{gathered}
use Rattle.grammar_load.proofs.names.lexical_names.Goals as goal

pub loop-placed-preserved : goal.loop-placed-preserved
loop-placed-preserved c =
    gathered name_of defines_lexical placed_of c.args.statements.now c.loop-placed.placed-index c.placed-item.result c.defines_lexical.result _ _ c.loop-placed-test.true c.placed-item.is c.defines_lexical.ensures c.loop-placed.invariant c.in_ok-add_name.ensures

pub returns : goal.returns
returns c = c.loop-placed.invariant ∙ ap (λ l. map name_of (lexical_rules (map placed_of l))) (take_all c.loop-placed.placed-index c.args.statements.now c.loop-placed-test.false)
