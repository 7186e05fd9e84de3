use Rattle.std.proofs.Common.{◌<◌, ◌^◌, ◌∙◌, length, map, sym, ap, subst}
use Rattle.chart_model.specs.Sums.{counts_size}
use Rattle.mrs_model.specs.Views.{meaning_of}
use Rattle.mrs_places.specs.Paths.{feature_of, paths_of}
use Rattle.tree_model.specs.Mothers.{RuleSystem}
use Rattle.packed_items.specs.Answers.{limits_in}
use Rattle.generated_leaves.proofs.SumLemmas.{if_ok}
use Rattle.book_signs.specs.Trees.{signs_of}
use Rattle.generated_leaves.specs.Views.{leaf_seen}
use Rattle.generated_leaves.specs.Given.{input_of}
use Rattle.mrs_generate.specs.Answers.{words_by, IsSentenceAnswer}
use Rattle.mrs_generate.specs.Inner.Put.{IsPut}
use Rattle.mrs_generate.specs.Views.{answer_seen}
use Rattle.mrs_generate.proofs.Calls.{call_belong, over_answer, over_order}
use Rattle.mrs_generate.proofs.Sifted.{sifted_fit, unsifted}
use Rattle.mrs_generate.proofs.Sound.{known_sound, known_made, known_proper}
use Rattle.mrs_generate.proofs.answering.answer_over.Goals as goal

pub make-counted-requires-clause-system : goal.make-counted-requires-clause-system
make-counted-requires-clause-system g c = c.requires.grammar.shapes.grammar ∙ sym c.system.ensures

pub make-counted-requires-clause-small : goal.make-counted-requires-clause-small
make-counted-requires-clause-small g c = subst (λ b. counts_size b < 2 ^ 32) (sym c.in_ok-again.ensures) c.requires.known.small

pub make-counted-requires-clause-each : goal.make-counted-requires-clause-each
make-counted-requires-clause-each g c = c.requires.known.even ∙ sym (ap (λ (k : RuleSystem). length k.rules) c.requires.grammar.shapes.rules)

pub chart_leaves-requires-clause-sound : goal.chart_leaves-requires-clause-sound
chart_leaves-requires-clause-sound g c =
    let t = c.args.grammar.now.signs.now in
    let input = input_of t.book.system.types (paths_of c.args.grammar.now.paths.now) (map feature_of c.args.grammar.now.c_cont.now) (meaning_of c.args.leafed.mrs.now) in
    known_sound (leaf_seen t) (signs_of t) (words_by t c.args.grammar.now.lexicon.now c.args.grammar.now.spelling.now) input c.args.search.now.limits.now c.args.leafed.own.items c.args.leafed.bound.now c.args.leafed.leaves.now c.requires.known c.structure_laws.ensures.sound

pub chart_leaves-requires-clause-made : goal.chart_leaves-requires-clause-made
chart_leaves-requires-clause-made g c =
    let t = c.args.grammar.now.signs.now in
    let input = input_of t.book.system.types (paths_of c.args.grammar.now.paths.now) (map feature_of c.args.grammar.now.c_cont.now) (meaning_of c.args.leafed.mrs.now) in
    known_made (leaf_seen t) (signs_of t) (words_by t c.args.grammar.now.lexicon.now c.args.grammar.now.spelling.now) input c.args.search.now.limits.now c.args.leafed.own.items c.args.leafed.bound.now c.args.leafed.leaves.now c.requires.known c.structure_laws.ensures.made

pub chart_leaves-requires-clause-proper : goal.chart_leaves-requires-clause-proper
chart_leaves-requires-clause-proper g c =
    let t = c.args.grammar.now.signs.now in
    let input = input_of t.book.system.types (paths_of c.args.grammar.now.paths.now) (map feature_of c.args.grammar.now.c_cont.now) (meaning_of c.args.leafed.mrs.now) in
    known_proper (leaf_seen t) (signs_of t) (words_by t c.args.grammar.now.lexicon.now c.args.grammar.now.spelling.now) input c.args.search.now.limits.now c.args.leafed.own.items c.args.leafed.bound.now c.args.leafed.leaves.now c.requires.known c.laws.ensures.order

pub invariant_of-realized : goal.invariant_of-realized
invariant_of-realized g c = record { paths_are = c.requires.grammar.paths; feats = c.requires.grammar.feats; valid = ∣ c.requires.valid ∣₁ }

pub answer_sieved-found-requires-clause-leaves : goal.answer_sieved-found-requires-clause-leaves
answer_sieved-found-requires-clause-leaves g c κs within =
    let r = c.make-counted.result in
    call_belong c.args.grammar.now.signs.now c.args.grammar.now.shapes.now c.requires.grammar.shapes c.args.leafed.bound.now c.args.leafed.own.items r
    (record { shapes = c.make-counted.ensures.shapes; bound_is = c.make-counted.ensures.bound ∙ c.in_ok-again.ensures; own_is = c.make-counted.ensures.own }) c.in_ok-into.into.items c.in_ok-into.ensures.stand

pub answer_sieved-found-requires-clause-fit : goal.answer_sieved-found-requires-clause-fit
answer_sieved-found-requires-clause-fit g c κs within =
    let t = c.args.grammar.now.signs.now in
    let r = c.make-counted.result in
    sifted_fit t c.args.grammar.now.shapes.now c.requires.grammar.shapes c.laws.ensures.order (words_by t c.args.grammar.now.lexicon.now c.args.grammar.now.spelling.now) (paths_of c.args.grammar.now.paths.now) (map feature_of c.args.grammar.now.c_cont.now) (meaning_of c.args.leafed.mrs.now) c.args.search.now.limits.now c.args.leafed.own.items c.args.leafed.bound.now (map (leaf_seen t) c.args.leafed.leaves.now) c.requires.known
    c.rule_laws.ensures.agree c.realized_laws.ensures c.in_ok-into.into.items c.in_ok-into.ensures.lined r
    (record { shapes = c.make-counted.ensures.shapes; bound_is = c.make-counted.ensures.bound ∙ c.in_ok-again.ensures; own_is = c.make-counted.ensures.own })
    c.pruned_laws.ensures c.requires.grammar.paths c.in_ok-sieve.sieve c.in_ok-sieve.ensures

pub put_together-requires : goal.put_together-requires
put_together-requires g c =
    let t = c.args.grammar.now.signs.now in
    let input = input_of t.book.system.types (paths_of c.args.grammar.now.paths.now) (map feature_of c.args.grammar.now.c_cont.now) (meaning_of c.args.leafed.mrs.now) in
    let r = c.make-counted.result in
    over_order t c.args.grammar.now.shapes.now c.requires.grammar.shapes c.laws.ensures.order (words_by t c.args.grammar.now.lexicon.now c.args.grammar.now.spelling.now) input c.args.search.now.limits.now c.args.leafed.own.items c.args.leafed.bound.now (map (leaf_seen t) c.args.leafed.leaves.now) c.requires.known
    c.rule_laws.ensures.agree c.realized_laws.ensures c.in_ok-into.into.items c.in_ok-into.ensures.lined r
    (record { shapes = c.make-counted.ensures.shapes; bound_is = c.make-counted.ensures.bound ∙ c.in_ok-again.ensures; own_is = c.make-counted.ensures.own })
    c.in-Ok.found (unsifted t c.args.grammar.now.shapes.now c.requires.grammar.shapes c.laws.ensures.order (words_by t c.args.grammar.now.lexicon.now c.args.grammar.now.spelling.now) (paths_of c.args.grammar.now.paths.now) (map feature_of c.args.grammar.now.c_cont.now) (meaning_of c.args.leafed.mrs.now) c.args.search.now.limits.now c.args.leafed.own.items c.args.leafed.bound.now (map (leaf_seen t) c.args.leafed.leaves.now) c.requires.known
    c.rule_laws.ensures.agree c.realized_laws.ensures c.in_ok-into.into.items c.in_ok-into.ensures.lined r
    (record { shapes = c.make-counted.ensures.shapes; bound_is = c.make-counted.ensures.bound ∙ c.in_ok-again.ensures; own_is = c.make-counted.ensures.own })
    c.pruned_laws.ensures c.requires.grammar.paths c.in_ok-sieve.sieve c.in_ok-sieve.ensures c.in-Ok.found c.in-Ok.ensures)

pub returns-in-Ok : goal.returns-in-Ok
returns-in-Ok g c =
    let t = c.args.grammar.now.signs.now in
    let words = words_by t c.args.grammar.now.lexicon.now c.args.grammar.now.spelling.now in
    let input = input_of t.book.system.types (paths_of c.args.grammar.now.paths.now) (map feature_of c.args.grammar.now.c_cont.now) (meaning_of c.args.leafed.mrs.now) in
    let r = c.make-counted.result in
    if_ok (λ a. IsPut c.in-Ok.found (answer_seen a)) (λ a. IsSentenceAnswer (signs_of t) words input c.args.search.now.limits.now.lexical c.args.search.now.limits.now.empty (limits_in c.args.search.now.limits.now) (answer_seen a)) c.put_together.result
    (λ a put.
    over_answer t c.args.grammar.now.shapes.now c.requires.grammar.shapes c.laws.ensures.order words input c.args.search.now.limits.now c.args.leafed.own.items c.args.leafed.bound.now (map (leaf_seen t) c.args.leafed.leaves.now) c.requires.known
    c.rule_laws.ensures.agree c.realized_laws.ensures c.in_ok-into.into.items c.in_ok-into.ensures.lined r
    (record { shapes = c.make-counted.ensures.shapes; bound_is = c.make-counted.ensures.bound ∙ c.in_ok-again.ensures; own_is = c.make-counted.ensures.own })
    c.in-Ok.found (answer_seen a) (unsifted t c.args.grammar.now.shapes.now c.requires.grammar.shapes c.laws.ensures.order (words_by t c.args.grammar.now.lexicon.now c.args.grammar.now.spelling.now) (paths_of c.args.grammar.now.paths.now) (map feature_of c.args.grammar.now.c_cont.now) (meaning_of c.args.leafed.mrs.now) c.args.search.now.limits.now c.args.leafed.own.items c.args.leafed.bound.now (map (leaf_seen t) c.args.leafed.leaves.now) c.requires.known
    c.rule_laws.ensures.agree c.realized_laws.ensures c.in_ok-into.into.items c.in_ok-into.ensures.lined r
    (record { shapes = c.make-counted.ensures.shapes; bound_is = c.make-counted.ensures.bound ∙ c.in_ok-again.ensures; own_is = c.make-counted.ensures.own })
    c.pruned_laws.ensures c.requires.grammar.paths c.in_ok-sieve.sieve c.in_ok-sieve.ensures c.in-Ok.found c.in-Ok.ensures) put)
    c.put_together.ensures

pub sieve_of-requires-clause-made : goal.sieve_of-requires-clause-made
sieve_of-requires-clause-made g c =
    let t = c.args.grammar.now.signs.now in
    let input = input_of t.book.system.types (paths_of c.args.grammar.now.paths.now) (map feature_of c.args.grammar.now.c_cont.now) (meaning_of c.args.leafed.mrs.now) in
    known_made (leaf_seen t) (signs_of t) (words_by t c.args.grammar.now.lexicon.now c.args.grammar.now.spelling.now) input c.args.search.now.limits.now c.args.leafed.own.items c.args.leafed.bound.now c.args.leafed.leaves.now c.requires.known c.structure_laws.ensures.made

pub sieve_of-requires-clause-threaded : goal.sieve_of-requires-clause-threaded
sieve_of-requires-clause-threaded g c = c.requires.grammar.contributors.list
