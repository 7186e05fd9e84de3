use Rattle.std.proofs.Common.{◌∙◌, map, sym, ap, subst}
use Rattle.chart_model.specs.declared.counts.Counts.{Counts}
use Rattle.mrs_model.specs.Views.{meaning_of}
use Rattle.mrs_places.specs.Paths.{feature_of, paths_of}
use Rattle.generate_model.specs.Bags.{BagTree, distinct, preds_of}
use Rattle.book_signs.specs.Trees.{signs_of}
use Rattle.generated_leaves.specs.Views.{leaf_seen, leaves_seen}
use Rattle.generated_leaves.specs.Given.{input_of, own_counts}
use Rattle.generated_leaves.specs.Placed.{own_by_place}
use Rattle.mrs_generate.specs.Answers.{words_by}
use Rattle.mrs_generate.specs.Inner.Known.{IsKnown}
use Rattle.mrs_generate.proofs.Known.{asks, deep_answer, leaves_known}
use Rattle.mrs_generate.proofs.generating.generate.Goals as goal

pub returns-in-TooDeep : goal.returns-in-TooDeep
returns-in-TooDeep g c =
    let t = c.args.grammar.now.signs.now in
    let paths = paths_of c.args.grammar.now.paths.now in
    let cont = map feature_of c.args.grammar.now.c_cont.now in
    let meaning = meaning_of c.args.mrs.now in
    let by = c.args.grammar.now.contributors.now in
    deep_answer t c.laws.ensures.order c.rule_laws.ensures.even c.rule_laws.ensures.told c.args.grammar.now.lexicon.now c.args.grammar.now.spelling.now paths cont meaning c.args.search.now.limits.now by c.requires.grammar.contributors c.in_ok-bound.bound.empty
    (ap (λ (b : Counts). b.empty) c.in_ok-bound.ensures.bound) (leaves_seen t c.in_ok-leaves_of.field-0) (ap (leaves_seen t) c.in-TooDeep.is)
    (c.in_ok-leaves_of.ensures t (words_by t c.args.grammar.now.lexicon.now c.args.grammar.now.spelling.now) (input_of t.book.system.types paths cont meaning) (own_by_place (signs_of t) (own_counts (distinct (preds_of meaning)) by.rules))
    (asks t c.laws.ensures.order c.rule_laws.ensures.even c.rule_laws.ensures.told c.args.grammar.now.lexicon.now c.args.grammar.now.spelling.now paths cont meaning c.args.search.now.limits.now by c.requires.grammar.contributors c.deref.result.now c.deref.ensures.value c.in_ok-bag.bag c.in_ok-bag.ensures))

pub answer_over-requires-clause-known : goal.answer_over-requires-clause-known
answer_over-requires-clause-known g c κs within =
    let t = c.args.grammar.now.signs.now in
    let paths = paths_of c.args.grammar.now.paths.now in
    let cont = map feature_of c.args.grammar.now.c_cont.now in
    let meaning = meaning_of c.args.mrs.now in
    let by = c.args.grammar.now.contributors.now in
    let words = words_by t c.args.grammar.now.lexicon.now c.args.grammar.now.spelling.now in
    let input = input_of t.book.system.types paths cont meaning in
    subst (λ xs. IsKnown (signs_of t) words input c.args.search.now.limits.now c.in_ok-own-in-Leaves.own.items c.in_ok-bound.bound (map (leaf_seen t) xs)) (sym c.deref-in-Leaves.ensures.value)
    (leaves_known t c.laws.ensures.order c.rule_laws.ensures.even c.rule_laws.ensures.told c.args.grammar.now.lexicon.now c.args.grammar.now.spelling.now paths cont meaning c.args.search.now.limits.now by c.requires.grammar.contributors c.in_ok-bound.bound c.in_ok-bound.ensures.bound
    c.in_ok-bound.ensures.small c.in_ok-own-in-Leaves.own.items (c.in_ok-own-in-Leaves.ensures ∙ ap (λ (b : BagTree). own_counts b.places by.rules) c.in_ok-bag.ensures) (leaves_seen t c.in_ok-leaves_of.field-0) (map (leaf_seen t) c.in-Leaves.leaves.items) (ap (leaves_seen t) c.in-Leaves.is)
    (c.in_ok-leaves_of.ensures t words input (own_by_place (signs_of t) (own_counts (distinct (preds_of meaning)) by.rules))
    (asks t c.laws.ensures.order c.rule_laws.ensures.even c.rule_laws.ensures.told c.args.grammar.now.lexicon.now c.args.grammar.now.spelling.now paths cont meaning c.args.search.now.limits.now by c.requires.grammar.contributors c.deref.result.now c.deref.ensures.value c.in_ok-bag.bag c.in_ok-bag.ensures)))
