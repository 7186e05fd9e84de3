use Rattle.std.proofs.Common.{◌≡◌, ◌<◌, ◌≤◌, ◌∙◌, [], length, map, sym, ap, arith}
use Rattle.std.specs.List.{flat_map}
use Rattle.std.proofs.lemmas.List.{take_all}
use Rattle.grammar_files.specs.Placings.{placed_of}
use Rattle.type_hierarchy.specs.Decls.{texts}
use Rattle.grammar_files.specs.BodyStrings.{strings_of_body}
use Rattle.grammar_types.specs.Typings.{is_heeded}
use Rattle.grammar_types.specs.SettleViews.{with_each, strings_written}
use Rattle.grammar_types.specs.Typings.{body_written}
use Rattle.grammar_types.proofs.SettleLists.{each_step, flat_map-map, flat_map-if, from_none}
use Rattle.grammar_types.proofs.strings.strings_in.Goals as goal

pub loop-placed-preserved : goal.loop-placed-preserved
loop-placed-preserved c =
    let within : c.loop-placed.placed-index < length c.args.statements.now = omega arith in
    each_step (λ p. strings_written (placed_of p)) _ _ [] c.args.statements.now c.loop-placed.placed-index c.placed-item.result within c.placed-item.is
    c.in_ok-add_statement.ensures c.loop-placed.invariant

pub returns : goal.returns
returns c =
    let past : length c.args.statements.now ≤ c.loop-placed.placed-index = omega arith in
    ap texts c.in_ok-strings.ensures ∙ c.loop-placed.invariant
    ∙ ap (λ l. with_each [] (flat_map (λ p. strings_written (placed_of p)) l)) (take_all c.loop-placed.placed-index c.args.statements.now past)
    ∙ ap (with_each []) (flat_map-map strings_written placed_of c.args.statements.now
    ∙ flat_map-if (λ p. is_heeded p.status) (λ p. strings_of_body (body_written p.statement)) (map placed_of c.args.statements.now))
    ∙ from_none _
