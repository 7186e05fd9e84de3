use Rattle.std.proofs.Common.{◌≡◌, ◌+◌, Some, refl, arith}
use Rattle.std.specs.Prelude.{slice_get}
use Rattle.tree_model.specs.Mothers.{Rule}
use Rattle.tree_model.specs.Signs.{rule_system}
use Rattle.generate_model.specs.Threading.{IsThreading}
use Rattle.book_signs.specs.Trees.{signs_of}
use Rattle.relation_fit.specs.Lists.{list_seen}
use Rattle.realized_trees.proofs.Rules.{place_in, rule_below, rule_here}
use Rattle.realized_trees.proofs.Seen.{each_next}
use Rattle.realized_trees.proofs.threading.all_thread.Goals as goal

pub rule_threads-requires : goal.rule_threads-requires
rule_threads-requires c = place_in (signs_of c.args.signs.now) c.phrase_rules-rules.result.now c.phrase_rules-rules.ensures c.loop-k.k 0 c.loop-k-test.true

pub loop-k-preserved : goal.loop-k-preserved
loop-k-preserved c =
    let g = signs_of c.args.signs.now in
    let l = list_seen c.args.list.now in
    each_next (λ n. (rule : Rule) → slice_get (rule_system g).rules n ≡ Some rule → IsThreading (rule_system g) l.rest l.ends rule) c.loop-k.k (c.loop-k.k + 1) c.loop-k.invariant
    (λ rule e. c.in_ok-rule_threads.ensures c.if-not-branch.false rule (rule_here g c.phrase_rules-rules.result.now c.phrase_rules-rules.ensures c.loop-k.k 0 rule e)) refl

pub returns : goal.returns
returns c = λ told n rule e.
    let b = rule_below (signs_of c.args.signs.now) c.phrase_rules-rules.result.now c.phrase_rules-rules.ensures n rule e in
    c.loop-k.invariant n (omega (arith, b, c.loop-k-test.false)) rule e
