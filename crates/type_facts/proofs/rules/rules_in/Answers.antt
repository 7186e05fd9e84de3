use Rattle.std.proofs.Common.{◌<◌, ◌≤◌, ◌∙◌, [], ◌∷◌, cond, length, map, ap, arith}
use Rattle.std.specs.List.{flat_map}
use Rattle.std.proofs.lemmas.List.{take_all}
use Rattle.body_facts.specs.WordTables.{table_of}
use Rattle.grammar_files.specs.Placings.{placed_of}
use Rattle.grammar_files.specs.Statements.{defines_type}
use Rattle.type_facts.specs.Facts.{rule_of}
use Rattle.type_facts.proofs.ListLemmas.{push_step}
use Rattle.type_facts.proofs.RuleLemmas.{rules_are}
use Rattle.type_facts.proofs.rules.rules_in.Goals as goal

pub loop-placed-preserved : goal.loop-placed-preserved
loop-placed-preserved c =
    let xs = c.args.statements.now in
    let within : c.loop-placed.placed-index < length xs = omega arith in
    push_step (λ p. cond (defines_type (placed_of p)) (rule_of (table_of c.args.words.now) (map placed_of xs) (placed_of p) ∷ []) []) _ _ [] xs c.loop-placed.placed-index c.placed-item.result within
    c.placed-item.is c.in_ok-push_rule.ensures c.loop-placed.invariant

pub returns : goal.returns
returns c =
    let xs = c.args.statements.now in
    let past : length xs ≤ c.loop-placed.placed-index = omega arith in
    c.loop-placed.invariant
    ∙ ap (flat_map (λ p. cond (defines_type (placed_of p)) (rule_of (table_of c.args.words.now) (map placed_of xs) (placed_of p) ∷ []) [])) (take_all c.loop-placed.placed-index xs past)
    ∙ rules_are (table_of c.args.words.now) xs
