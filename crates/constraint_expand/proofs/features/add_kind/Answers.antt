use Rattle.std.proofs.Common.{◌<◌, ◌≤◌, ◌∙◌, length, map, filter, ap, sym, arith}
use Rattle.std.specs.List.{flat_map}
use Rattle.std.proofs.lemmas.List.{take_all}
use Rattle.body_facts.specs.Writing.{list_names}
use Rattle.type_hierarchy.specs.Decls.{texts}
use Rattle.grammar_files.specs.Placings.{placed_of}
use Rattle.constraint_expand.specs.Kinds.{picks}
use Rattle.constraint_expand.specs.Features.{uses_in}
use Rattle.constraint_expand.specs.Found.{with_each, features_under}
use Rattle.type_facts.proofs.ListLemmas.{flat_map-map, flat_map-if}
use Rattle.constraint_expand.proofs.NameLemmas.{each_step, map-flat_map}
use Rattle.constraint_expand.proofs.features.add_kind.Goals as goal

pub loop-placed-preserved : goal.loop-placed-preserved
loop-placed-preserved c =
    let within : c.loop-placed.placed-index < length c.args.statements.now = omega arith in
    each_step (λ p. features_under (list_names c.args.names.now) c.args.kind (placed_of p)) _ _ (texts c.args.features.now.keys) c.args.statements.now c.loop-placed.placed-index c.placed-item.result within
    c.placed-item.is c.in_ok-add_statement.ensures c.loop-placed.invariant

pub returns : goal.returns
returns c =
    let xs = c.args.statements.now in
    let n = list_names c.args.names.now in
    let past : length xs ≤ c.loop-placed.placed-index = omega arith in
    c.loop-placed.invariant
    ∙ ap (λ l. with_each (texts c.args.features.now.keys) (flat_map (λ p. features_under n c.args.kind (placed_of p)) l)) (take_all c.loop-placed.placed-index xs past)
    ∙ ap (with_each (texts c.args.features.now.keys)) (flat_map-map (features_under n c.args.kind) placed_of xs
    ∙ flat_map-if (picks c.args.kind) (λ p. map (λ u. u.feature) (uses_in n p)) (map placed_of xs)
    ∙ sym (map-flat_map (λ u. u.feature) (uses_in n) (filter (picks c.args.kind) (map placed_of xs))))
