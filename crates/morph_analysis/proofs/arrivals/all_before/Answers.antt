use Rattle.std.proofs.Common.{◌+◌, [], map, take, get_or, sym, subst}
use Rattle.morph_analysis.proofs.ArrivalLemmas.{rising_from, sorted_once}
use Rattle.morph_analysis.specs.LatticeViews.{step_of}
use Rattle.std.proofs.lemmas.List.{take_more}
use Rattle.morph_analysis.proofs.Lists.{all_taken}
use denote.Ref.{Bor}
use Rattle.morph_analysis.specs.declared.lattice.Step.{Step}
use Rattle.morph_analysis.specs.Inner.Adding.{AddsThose, OfSome, Precedes}
use Rattle.lexicon.specs.Words.{Has}
use Rattle.morph_analysis.proofs.AddLemmas.{some_none, some_more}
use Rattle.std.proofs.lemmas.List.Filters.{dedup_is}
use Rattle.std.proofs.lemmas.List.Kept.{Contains-dedup_nat, Contains-from_dedup}
use Rattle.std.proofs.lemmas.Map.Keys.{IsStrictlyIncreasing-dedup}
use Rattle.morph_analysis.proofs.arrivals.all_before.Goals as goal

pub loop-node-init : goal.loop-node-init
loop-node-init c = subst (λ l. AddsThose (OfSome (λ to from. Has (record { from = from; to = to; word = c.args.word.now }) (map (λ (s : Bor Step). step_of s.now) c.args.sorted.now)) []) [] l) (sym c.new-out.ensures.items) (some_none (λ to from. Has (record { from = from; to = to; word = c.args.word.now }) (map (λ (s : Bor Step). step_of s.now) c.args.sorted.now)) [])

pub loop-node-preserved : goal.loop-node-preserved
loop-node-preserved c =
    some_more (λ to from. Has (record { from = from; to = to; word = c.args.word.now }) (map (λ (s : Bor Step). step_of s.now) c.args.sorted.now)) (take c.loop-node.node-index c.args.nodes.now) (take (c.loop-node.node-index + 1) c.args.nodes.now) (get_or c.args.nodes.now c.loop-node.node-index 0) [] c.loop-node.out.items c.add_before.new.out.items
    (take_more c.args.nodes.now c.loop-node.node-index 0 c.loop-node-test.true) c.loop-node.invariant c.in_ok-add_before.ensures

pub returns-clause-these : goal.returns-clause-these
returns-clause-these c =
    let is = dedup_is _ _ _ c.dedup.ensures.filtered in
    sorted_once (Precedes (map (λ (s : Bor Step). step_of s.now) c.args.sorted.now) c.args.word.now c.args.nodes.now) c.loop-node.out.items c.sort_unstable.new.self.items c.dedup.new.self.items c.sort_unstable.ensures.permutation
    (λ x h. rw is (Contains-dedup_nat _ x h)) (λ x h. Contains-from_dedup _ _ x (rw is at h))
    (subst (λ l. AddsThose (OfSome (λ to from. Has (record { from = from; to = to; word = c.args.word.now }) (map (λ (s : Bor Step). step_of s.now) c.args.sorted.now)) l) [] c.loop-node.out.items) (all_taken c.args.nodes.now c.loop-node.node-index c.loop-node-test.false) c.loop-node.invariant)

pub returns-clause-rising : goal.returns-clause-rising
returns-clause-rising c = rising_from c.dedup.new.self.items (rw (dedup_is _ _ _ c.dedup.ensures.filtered) (IsStrictlyIncreasing-dedup _ c.sort_unstable.ensures.sorted))
