use Rattle.std.proofs.Common.{◌≡◌, ◌≤◌, ◌∙◌, length, ap, arith}
use Rattle.std.specs.List.{flat_map}
use Rattle.std.proofs.lemmas.List.{take_all}
use Rattle.grammar_files.specs.Placings.{placed_of}
use Rattle.grammar_types.specs.SettleViews.{parents_by}
use Rattle.grammar_types.proofs.SettleDecls.{added_are}
use Rattle.grammar_types.proofs.declarations.added_parents.Goals as goal

pub returns : goal.returns
returns c = λ n.
    let xs = c.args.statements.now in
    let past : length xs ≤ c.loop-placed.placed-index = omega arith in
    c.loop-placed.invariant n ∙ ap (flat_map (λ p. parents_by (placed_of p) n)) (take_all c.loop-placed.placed-index xs past) ∙ added_are n xs
