use Rattle.std.proofs.Common.{◌≡◌, ◌<◌, ◌≤◌, ◌∙◌, length, map, sym, arith}
use Rattle.grammar_files.specs.Placings.{placed_of}
use Rattle.grammar_types.proofs.SettleDecls.{found_here, found_nowhere, find_named}
use Rattle.grammar_types.proofs.declarations.definition_of.Goals as goal

pub returns-then-defines_type_named : goal.returns-then-defines_type_named
returns-then-defines_type_named c =
    let xs = c.args.statements.now in
    let within : c.loop-placed.placed-index < length xs = omega arith in
    found_here c.args.name.now xs c.loop-placed.placed-index c.placed-item.result within c.placed-item.is (sym c.defines_type_named.ensures ∙ c.if-defines_type_named.true) c.loop-placed.invariant
    ∙ find_named c.args.name.now (map placed_of xs)

pub returns : goal.returns
returns c =
    let xs = c.args.statements.now in
    let past : length xs ≤ c.loop-placed.placed-index = omega arith in
    found_nowhere c.args.name.now xs c.loop-placed.placed-index past c.loop-placed.invariant ∙ find_named c.args.name.now (map placed_of xs)
