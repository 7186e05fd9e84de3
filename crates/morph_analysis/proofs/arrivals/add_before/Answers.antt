use Rattle.std.proofs.Common.{rules, arith, ◌≡◌, ◌∙◌, false, suc, map, get_or, sym, ap, subst}
use Rattle.morph_analysis.proofs.ArrivalLemmas.{before_next, none_before, none_after, same_get, not_below}
use Rattle.morph_analysis.specs.LatticeViews.{step_of}
use Rattle.morph_analysis.proofs.Lists.{all_taken}
use denote.Ref.{Bor}
use Rattle.morph_analysis.specs.declared.lattice.Step.{Step}
use Rattle.morph_analysis.specs.Inner.Adding.{AddsThose}
use Rattle.lexicon.specs.Words.{Has}
use Rattle.std.proofs.Common.{leb, leb-true}
use Rattle.std.proofs.lemmas.List.Sorted.{IsPartitionPoint-from_clause, IsPartitionedBy-leb}
use Rattle.morph_analysis.proofs.arrivals.add_before.Goals as goal

pub loop-i-init : goal.loop-i-init
loop-i-init c =
    let parted = IsPartitionedBy-leb (λ (s : Bor Step). suc s.now.to) c.args.sorted.now c.args.node (λ i j d le lt. let to = c.requires i j d le lt in omega (arith, to)) in
    let point = IsPartitionPoint-from_clause (λ (s : Bor Step). leb (suc s.now.to) c.args.node) c.args.sorted.now c.partition_point-begin.result c.partition_point-begin.ensures.partitioned parted (λ a r q k. search rules) in
    none_before (λ (s : Bor Step). step_of s.now) c.args.sorted.now c.partition_point-begin.result c.args.node c.args.word.now c.args.out.now.items (λ k d lt. leb-true _ _ (point.0 k d (omega arith) lt))

pub returns-then-step-node : goal.returns-then-step-node
returns-then-step-node c =
    let parted = IsPartitionedBy-leb (λ (s : Bor Step). suc s.now.to) c.args.sorted.now c.args.node (λ i j d le lt. let to = c.requires i j d le lt in omega (arith, to)) in
    let point = IsPartitionPoint-from_clause (λ (s : Bor Step). leb (suc s.now.to) c.args.node) c.args.sorted.now c.partition_point-begin.result c.partition_point-begin.ensures.partitioned parted (λ a r q k. search rules) in
    let step = c.index-sorted-i.result in
    let far = not_below step.now.to c.args.node (subst (λ (s : Bor Step). leb (suc s.now.to) c.args.node ≡ false) (sym c.index-sorted-i.is) (point.1 c.loop-i.i step c.loop-i.auto.i c.loop-i-test.true)) in
    none_after (λ (s : Bor Step). step_of s.now) c.args.sorted.now c.loop-i.i c.args.node c.args.word.now c.args.out.now.items c.loop-i.out.items
    (λ k d le lt.
    let later = c.requires c.loop-i.i k d le lt in
    let same : get_or c.args.sorted.now c.loop-i.i d ≡ c.index-sorted-i.result = same_get c.args.sorted.now c.loop-i.i d c.index-sorted-i.result c.loop-i-test.true ∙ sym c.index-sorted-i.is in
    omega (arith, later, ap (λ (s : Bor Step). s.now.to) same, far, c.if-step-node.true))
    c.loop-i.invariant

pub loop-i-preserved : goal.loop-i-preserved
loop-i-preserved c =
    before_next (λ (s : Bor Step). step_of s.now) c.args.sorted.now c.loop-i.i c.index-sorted-i.result c.args.node c.args.word.now c.args.out.now.items c.loop-i.out.items c.add_from.new.out.items c.loop-i-test.true c.index-sorted-i.is c.if-step-node.false
    c.loop-i.invariant c.in_ok-add_from.ensures

pub returns : goal.returns
returns c =
    subst (λ l. AddsThose (λ from. Has (record { from = from; to = c.args.node; word = c.args.word.now }) (map (λ (s : Bor Step). step_of s.now) l)) c.args.out.now.items c.loop-i.out.items) (all_taken c.args.sorted.now c.loop-i.i c.loop-i-test.false) c.loop-i.invariant
