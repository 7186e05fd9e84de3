use Rattle.std.proofs.Common.{◌≡◌, ◌∙◌, ℕ, ◌+◌, [], ◌++◌, refl, subst, length, length-append, arith}
use Rattle.std.proofs.lemmas.List.{length-map, length-set}
use Rattle.std.proofs.Common.{ap}
use Rattle.atomic_table.proofs.Lists.{at_index}
use Rattle.crossbeam_deque.specs.Handles.{worker_view}
use Rattle.chart_workers.specs.Balance.{weigh}
use Rattle.chart_workers.specs.Whole.{pass_place, in_first, Settles}
use Rattle.chart_workers.proofs.Counts.{deque_counted, more_counted, left_on}
use Rattle.chart_workers.proofs.Pooled.{linked_of, parts_of}
use Rattle.chart_workers.proofs.Known.{known_first, settles_by, settles_one, known_later, one_more}
use Rattle.chart_workers.proofs.settling.settle.Goals as goal

pub gather-requires : goal.gather-requires
gather-requires c = record { linked = linked_of c.args.passes.items c.requires }

pub loop-at-init : goal.loop-at-init
loop-at-init c = let g = c.gather.ensures in record {
  known = λ t p e le. known_first _ c.gather.new.passes.items c.args.passes.items g.linked g.empty g.all t p e;
  done = λ t lt. absurd (omega arith);
  count = (let a = ap (λ l. length l) g.places in let x = length-map c.gather.new.passes.items pass_place in let y = length-map c.args.passes.items pass_place in omega arith);
  pushed = refl;
  taken = refl;
  left = ([], refl, λ h. refl);
}

pub left-requires : goal.left-requires
left-requires c =
    let i = c.loop-at.invariant in let p = c.index_mut-pass.result.now in
    let t = c.loop-at-test.true in let n = c.len-at-end.ensures in let m = i.count in let o = c.gather.new.passes.ok in let g = c.gather.ensures in
    let a = ap (λ l. length l) g.places in let x = length-map c.gather.new.passes.items pass_place in let y = length-map c.args.passes.items pass_place in
    i.known c.loop-at.at p (at_index c.loop-at.passes.items c.loop-at.at p (omega arith) c.index_mut-pass.ensures.value) (omega arith) (λ v. v.parts) (λ v w. refl) ∙ parts_of c.args.passes.items c.requires c.loop-at.at (omega arith)

pub loop-at-preserved : goal.loop-at-preserved
loop-at-preserved c =
    let i = c.loop-at.invariant in let p = c.index_mut-pass.result.now in let at = c.loop-at.at in let orig = c.args.passes.items in
    let t = c.loop-at-test.true in let n = c.len-at-end.ensures in let m = i.count in let o = c.gather.new.passes.ok in let g = c.gather.ensures in
    let a = ap (λ l. length l) g.places in let x = length-map c.gather.new.passes.items pass_place in let y = length-map orig pass_place in
    let here = at_index c.loop-at.passes.items at p (omega arith) c.index_mut-pass.ensures.value in
    let known = i.known at p here (omega arith) in
    let one = settles_one orig at (worker_view p.own) c.left.ensures.0 known c.left.ensures.2 in record {
      known = known_later c.loop-at.passes.items orig at c.left.new.self i.known;
      done = one_more (Settles orig) at i.done one;
      count = length-set c.loop-at.passes.items at c.left.new.self ∙ i.count;
      pushed = c.add.ensures.0 ∙ deque_counted (λ v. length v.put) orig at c.loop-at.settled.pushed p.pushed (length (worker_view p.own).put) i.pushed p.pushes (known (λ v. length v.put) (λ v w. length-append v.put w.put));
      taken = c.add.ensures.1 ∙ deque_counted (λ v. length v.taken) orig at c.loop-at.settled.taken p.taken (length (worker_view p.own).taken) i.taken p.takes (known (λ v. length v.taken) (λ v w. length-append v.taken w.taken));
      left = (
        i.left.0 ++ c.left.ensures.0,
        c.add.ensures.2 ∙ more_counted c.loop-at.settled.left _ i.left.0 c.left.ensures.0 i.left.1 c.left.ensures.1,
        left_on orig at i.left.0 c.left.ensures.0 i.left.2 (settles_by orig at (worker_view p.own) c.left.ensures.0 known c.left.ensures.2),
      );
    }

pub returns-clause-left : goal.returns-clause-left
returns-clause-left c =
    let i = c.loop-at.invariant in let t = c.loop-at-test.false in let n = c.len-at-end.ensures in let m = i.count in let o = c.gather.new.passes.ok in let g = c.gather.ensures in
    let a = ap (λ l. length l) g.places in let x = length-map c.gather.new.passes.items pass_place in let y = length-map c.args.passes.items pass_place in let e = c.loop-at.auto.at-end in
    let end : c.loop-at.at ≡ length c.args.passes.items = omega arith in (
      i.left.0,
      i.left.1,
      λ h. subst (λ (k : ℕ). in_first (λ v. weigh h v.put) c.args.passes.items k ≡ in_first (λ v. weigh h v.taken) c.args.passes.items k + weigh h i.left.0) end (i.left.2 h),
    )
