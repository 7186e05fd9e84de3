use Rattle.std.proofs.Common.{◌≡◌, map, take}
use Rattle.grammar_files.specs.Placings.{placed_of}
use Rattle.spelling_rules.specs.Views.{rule_of}
use Rattle.grammar_load.specs.Spellings.{spellings_of, lexical_rules}
use Rattle.grammar_load.proofs.written.rules_written.Given as goal

abbrev pub invariant-loop-placed : goal.invariant-loop-placed
invariant-loop-placed l = map rule_of l.out.items ≡ spellings_of (lexical_rules (map placed_of (take l.placed-index l.statements)))
