use Rattle.std.proofs.Common.{◌<◌, length, map, sym, subst}
use Rattle.std.specs.Prelude.{All}
use Rattle.book_signs.specs.Trees.{signs_of}
use Rattle.mrs_places.specs.Paths.{feature_of, paths_of}
use Rattle.generated_leaves.specs.Given.{IsGivenAt}
use Rattle.generated_leaves.proofs.ListLemmas.{given_more}
use Rattle.generated_leaves.proofs.PlaceLemmas.{rule_places_low, all_rules}
use Rattle.generated_leaves.proofs.rules.RulePredicates.make.Goals as goal

pub given_at-requires-clause-place : goal.given_at-requires-clause-place
given_at-requires-clause-place c =
    let g = signs_of c.args.signs.now in
    subst (λ ps. All (λ q. q < length g.instances) ps) (sym c.phrase_rules-places.ensures) (rule_places_low g) c.loop-place.place-index 0 c.loop-place-test.true

pub loop-place-preserved : goal.loop-place-preserved
loop-place-preserved c =
    let t = c.args.signs.now in
    given_more (IsGivenAt (signs_of t) t.book.system.types (paths_of c.args.paths.now) (map feature_of c.args.c_cont.now)) c.phrase_rules-places.result.now c.loop-place.place-index 0 _ _ c.in_ok-given_at.field-0
    c.loop-place-test.true c.in_ok-push.ensures.items c.in_ok-given_at.ensures c.loop-place.invariant

pub returns : goal.returns
returns c =
    let t = c.args.signs.now in
    all_rules (signs_of t) (IsGivenAt (signs_of t) t.book.system.types (paths_of c.args.paths.now) (map feature_of c.args.c_cont.now)) c.phrase_rules-places.result.now c.loop-place.place-index _
    c.phrase_rules-places.ensures c.loop-place-test.false c.loop-place.invariant
