use Rattle.std.proofs.Common.{◌≡◌, ◌<◌, ◌∙◌, ◌++◌, length, map, ap, sym, arith}
use Rattle.std.specs.List.{flat_map, range_with_len}
use Rattle.std.proofs.lemmas.List.{length-map}
use Rattle.grammar_files.specs.Placings.{placed_of}
use Rattle.type_facts.specs.Notes.{noted}
use Rattle.grammar_files.specs.Statements.{statement_at}
use Rattle.type_facts.specs.Addenda.{place_by}
use Rattle.type_facts.proofs.Numbered.{at_placed}
use Rattle.type_facts.proofs.RuleLemmas.{places_next}
use Rattle.type_facts.proofs.rules.addenda_by_name.Goals as goal

pub loop-i-preserved : goal.loop-i-preserved
loop-i-preserved c = λ n.
    let xs = c.args.statements.now in
    let ps = map placed_of xs in
    let i = c.loop-i.i in
    let within : i < length xs = omega arith in
    let here = at_placed xs i c.index-statements-i.result within c.index-statements-i.is in
    places_next (λ k. place_by n (statement_at ps k) k) (noted c.loop-i.addenda.entries n) _ i
    (c.in_ok-note_addendum.ensures n ∙ ap (λ p. noted c.loop-i.addenda.entries n ++ place_by n p i) (sym here)) (c.loop-i.invariant n)

pub returns : goal.returns
returns c = λ n.
    let xs = c.args.statements.now in
    let ps = map placed_of xs in
    let all : c.loop-i.i ≡ length ps = omega (arith, length-map xs placed_of) in
    c.loop-i.invariant n ∙ ap (λ m. flat_map (λ k. place_by n (statement_at ps k) k) (range_with_len 0 m)) all
