use Rattle.std.proofs.Common.{ℕ, ◌≡◌, ◌<◌, ◌≤◌, ◌+◌, ◌∙◌, length, get_or, slice_index, true, false, take, ap, sym, subst, arith, List, Bool}
use Rattle.std.proofs.lemmas.List.{length-replicate, length-set}
use Rattle.scope_model.specs.declared.Opening.{Opening}
use Rattle.scope_model.specs.States.{AreApart}
use Rattle.scope_resolve.proofs.Each.{there_at, each_whole}
use Rattle.scope_resolve.proofs.Tests.{take_whole}
use Rattle.scope_resolve.proofs.Tabling.{apart_more, twice}
use Rattle.scope_resolve.proofs.Owning.{AreSeen, AreOwned, seen_first, owned_first, apart_first, seen_more, owned_more, opening_at, opening_is, seen_as}
use Rattle.scope_resolve.proofs.tables.owners.Goals as goal

pub loop-k-init : goal.loop-k-init
loop-k-init c =
    let os = c.args.openings.now in
    let e = c.in_ok-owner.ensures.items_if_clones_equal (λ y e. e) in
    let s = c.in_ok-seen.ensures.items_if_clones_equal (λ y e. e) in
    record {
      owners = ap length e ∙ length-replicate _ _;
      seens = ap length s ∙ length-replicate _ _;
      known = subst (λ (ms : List Bool). AreSeen ms (take 0 os)) (sym s) (seen_first _ os);
      owned = owned_first _ os;
      apart = apart_first os;
    }

pub returns-then-mark_at : goal.returns-then-mark_at
returns-then-mark_at c =
    let os = c.args.openings.now in
    let o = opening_at os c.loop-k.k in
    let l : c.loop-k.k < length os = omega (arith, c.loop-k-test.true) in
    λ a. twice c.loop-k.seen.items os c.loop-k.k o l (opening_is os c.loop-k.k l) c.loop-k.invariant.known (seen_as _ _ _ true _ c.deref.ensures.value c.mark_at.ensures c.if-mark_at.true) a

pub mark-requires : goal.mark-requires
mark-requires c =
    let os = c.args.openings.now in
    let o = opening_at os c.loop-k.k in
    let l : c.loop-k.k < length os = omega (arith, c.loop-k-test.true) in
    let i = c.requires o (there_at os c.loop-k.k o l (opening_is os c.loop-k.k l)) in
    omega (arith, i, c.loop-k.invariant.seens)

pub own-requires : goal.own-requires
own-requires c =
    let os = c.args.openings.now in
    let o = opening_at os c.loop-k.k in
    let l : c.loop-k.k < length os = omega (arith, c.loop-k-test.true) in
    let i = c.requires o (there_at os c.loop-k.k o l (opening_is os c.loop-k.k l)) in
    omega (arith, i, c.loop-k.invariant.owners)

pub loop-k-preserved : goal.loop-k-preserved
loop-k-preserved c =
    let os = c.args.openings.now in
    let k = c.loop-k.k in
    let o = opening_at os c.loop-k.k in
    let v = c.loop-k.invariant in
    let seen = c.loop-k.seen.items in
    let owner = c.loop-k.owner.items in
    let l : k < length os = omega (arith, c.loop-k-test.true) in
    let e = opening_is os k l in
    let i = c.requires o (there_at os k o l e) in
    let s : o.hole < length seen = omega (arith, i, v.seens) in
    let w : o.hole < length owner = omega (arith, i, v.owners) in
    let new : get_or seen o.hole false ≡ false = seen_as _ _ _ false _ c.deref.ensures.value c.mark_at.ensures c.if-mark_at.false in
    record {
      owners = ap length c.own.ensures ∙ (length-set owner o.hole o.label ∙ v.owners);
      seens = ap length c.mark.ensures ∙ (length-set seen o.hole true ∙ v.seens);
      known = subst (λ (ms : List Bool). AreSeen ms (take (k + 1) os)) (sym c.mark.ensures) (seen_more seen owner os k o l e v.known s);
      owned = subst (λ (ns : List ℕ). AreOwned ns (take (k + 1) os)) (sym c.own.ensures) (owned_more seen owner os k o l e v.known w new v.owned);
      apart = apart_more seen os k o l e v.known new v.apart;
    }

pub returns : goal.returns
returns c =
    let os = c.args.openings.now in
    let owner = c.loop-k.owner.items in
    let l : length os ≤ c.loop-k.k = omega (arith, c.loop-k-test.false) in
    (subst AreApart (take_whole os c.loop-k.k l) c.loop-k.invariant.apart, each_whole (λ (o : Opening). slice_index owner o.hole ≡ o.label) os c.loop-k.k l c.loop-k.invariant.owned)
