use Rattle.std.proofs.Common.{ℕ, ◌≡◌, ◌<◌, ◌≤◌, ◌+◌, ◌∙◌, ◌↔◌, length, get_or, slice_index, true, false, take, ap, sym, subst, arith, List, Bool}
use Rattle.std.specs.Prelude.{Contains}
use Rattle.std.proofs.lemmas.List.{length-replicate, length-set}
use Rattle.scope_resolve.proofs.Each.{there_at}
use Rattle.scope_resolve.proofs.Tests.{take_whole}
use Rattle.scope_resolve.proofs.Tabling.{marks_first, mark_more}
use Rattle.scope_resolve.proofs.Owning.{read_any}
use Rattle.scope_resolve.proofs.tables.marks.Goals as goal

pub loop-k-init : goal.loop-k-init
loop-k-init c =
    let e = c.in_ok-out.ensures.items_if_clones_equal (λ y e. e) in
    record {
      size = ap length e ∙ length-replicate _ _;
      known = λ v. subst (λ (ms : List Bool). (get_or ms v false ≡ true) ↔ Contains (take 0 c.args.numbers.now) v) (sym e) (marks_first _ c.args.numbers.now v);
    }

pub mark-requires : goal.mark-requires
mark-requires c =
    let ns = c.args.numbers.now in
    let l : c.loop-k.k < length ns = omega (arith, c.loop-k-test.true) in
    let i = c.room-room.ensures (slice_index ns c.loop-k.k) (there_at ns c.loop-k.k (slice_index ns c.loop-k.k) l (read_any ns c.loop-k.k 0 (slice_index ns c.loop-k.k) l)) in
    omega (arith, i, c.loop-k.invariant.size)

pub loop-k-preserved : goal.loop-k-preserved
loop-k-preserved c =
    let ns = c.args.numbers.now in
    let x = slice_index ns c.loop-k.k in
    let l : c.loop-k.k < length ns = omega (arith, c.loop-k-test.true) in
    let e = read_any ns c.loop-k.k 0 x l in
    let i = c.room-room.ensures x (there_at ns c.loop-k.k x l e) in
    let lt : x < length c.loop-k.out.items = omega (arith, i, c.loop-k.invariant.size) in
    record {
      size = ap length c.mark.ensures ∙ (length-set c.loop-k.out.items x true ∙ c.loop-k.invariant.size);
      known = λ v. subst (λ (ms : List Bool). (get_or ms v false ≡ true) ↔ Contains (take (c.loop-k.k + 1) ns) v) (sym c.mark.ensures) (mark_more c.loop-k.out.items ns c.loop-k.k x lt l e c.loop-k.invariant.known v);
    }

pub returns : goal.returns
returns c = λ v.
    let l : length c.args.numbers.now ≤ c.loop-k.k = omega (arith, c.loop-k-test.false) in
    subst (λ (ns : List ℕ). (get_or c.loop-k.out.items v false ≡ true) ↔ Contains ns v) (take_whole c.args.numbers.now c.loop-k.k l) (c.loop-k.invariant.known v)
