use Rattle.std.proofs.Common.{◌<◌, ◌≤◌, ◌∙◌, length, map, ap, arith}
use Rattle.std.proofs.lemmas.List.{take_all}
use Rattle.grammar_files.specs.Placings.{placed_of}
use Rattle.constraint_expand.specs.Unknowns.{is_defined}
use Rattle.constraint_expand.specs.Found.{has_text_key}
use Rattle.constraint_expand.proofs.DefinedLemmas.{defined_next}
use Rattle.constraint_expand.proofs.unknown.defined_names.Goals as goal

pub loop-placed-preserved : goal.loop-placed-preserved
loop-placed-preserved c = λ n.
    let xs = c.args.statements.now in
    let i = c.loop-placed.placed-index in
    let within : i < length xs = omega arith in
    defined_next n xs i c.placed-item.result (has_text_key c.loop-placed.names.keys n) _ within c.placed-item.is (c.in_ok-add_name.ensures n) (c.loop-placed.invariant n)

pub returns : goal.returns
returns c = λ n.
    let xs = c.args.statements.now in
    let past : length xs ≤ c.loop-placed.placed-index = omega arith in
    c.loop-placed.invariant n ∙ ap (λ l. is_defined (map placed_of l) n) (take_all c.loop-placed.placed-index xs past)
