use Rattle.std.proofs.Common.{◌<◌, ◌≤◌, ◌∙◌, [], length, ap, arith}
use Rattle.std.specs.List.{flat_map}
use Rattle.std.proofs.lemmas.List.{take_all}
use Rattle.body_facts.specs.Writing.{list_names}
use Rattle.grammar_files.specs.Placings.{placed_of}
use Rattle.constraint_expand.specs.Found.{writings_by}
use Rattle.type_facts.proofs.ListLemmas.{push_step}
use Rattle.constraint_expand.proofs.WriterLemmas.{writers_flat}
use Rattle.constraint_expand.proofs.writers.writers_by_feature.Goals as goal

pub loop-placed-preserved : goal.loop-placed-preserved
loop-placed-preserved c = λ f.
    let within : c.loop-placed.placed-index < length c.args.statements.now = omega arith in
    push_step (λ p. writings_by c.args.types.now (list_names c.args.names.now) f (placed_of p)) _ _ [] c.args.statements.now c.loop-placed.placed-index c.placed-item.result within
    c.placed-item.is (c.in_ok-note_statement.ensures f) (c.loop-placed.invariant f)

pub returns : goal.returns
returns c = λ f.
    let xs = c.args.statements.now in
    let past : length xs ≤ c.loop-placed.placed-index = omega arith in
    c.loop-placed.invariant f
    ∙ ap (flat_map (λ p. writings_by c.args.types.now (list_names c.args.names.now) f (placed_of p))) (take_all c.loop-placed.placed-index xs past)
    ∙ writers_flat c.args.types.now (list_names c.args.names.now) f xs
