use Rattle.std.proofs.Common.{◌≡◌, length, map, arith}
use Rattle.std.proofs.lemmas.List.{length-map}
use Rattle.grammar_files.specs.Placings.{placed_of}
use Rattle.grammar_types.proofs.SettleRepeats.{earliest_of_all}
use Rattle.grammar_types.proofs.declarations.first_repeat.Goals as goal

pub returns : goal.returns
returns c =
    earliest_of_all (map placed_of c.args.statements.now) _ _ _ _ _ _ c.in_ok-types.ensures c.in_ok-entries.ensures c.in_ok-lex_rules.ensures c.in_ok-rules.ensures c.in_ok-roots.ensures
    (omega (arith, length-map c.args.statements.now placed_of))
