use Rattle.std.proofs.Common.{◌≤◌, ◌∙◌, ◌++◌, length, map, ap, arith}
use Rattle.std.specs.List.{flat_map}
use Rattle.std.proofs.lemmas.List.{take_all}
use Rattle.body_facts.specs.WordTables.{table_of}
use Rattle.grammar_files.specs.Placings.{placed_of}
use Rattle.grammar_files.specs.Statements.{statement_at}
use Rattle.type_facts.specs.Facts.{said_by}
use Rattle.type_facts.proofs.rules.facts_of_type.Goals as goal

pub returns : goal.returns
returns c =
    let xs = c.args.addenda.now in
    let w = table_of c.args.words.now in
    let past : length xs ≤ c.loop-place.place-index = omega arith in
    c.loop-place.invariant
    ∙ ap (λ l. said_by w (placed_of c.args.placed.now) ++ flat_map (λ k. said_by w (statement_at (map placed_of c.args.statements.now) k)) l) (take_all c.loop-place.place-index xs past)
