use Rattle.std.proofs.Common.{◌≡◌, ◌∙◌, List, length, vec_len, ap, subst, rules}
use Rattle.std.proofs.lemmas.List.{length-replicate}
use Rattle.scope_model.specs.declared.Opening.{Opening}
use Rattle.scope_resolve.specs.Inner.Masks.{AreBegun}
use Rattle.scope_resolve.proofs.Seeing.{seen_placed, seen_below, seen_chain}
use Rattle.scope_resolve.proofs.ways.Ways.see.Goals as goal

pub returns-clause-below : goal.returns-clause-below
returns-clause-below c =
    let n = c.args.net.now in
    let begun = subst (λ (os : List Opening). AreBegun n.is_body.items os (length os) c.begin.new.below.items c.begin.new.under.items c.begin.new.chain.items) c.deref-3.ensures.value c.begin.ensures in
    seen_below n c.args.trail.now c.requires.net c.requires.going c.list_opens.new.opens.items c.begin.new.below.items c.begin.new.under.items c.begin.new.chain.items c.climb.new.below.items c.climb.new.chain.items
    begun c.climb.ensures.ways c.climb.ensures.kept

pub returns-clause-chain : goal.returns-clause-chain
returns-clause-chain c =
    let n = c.args.net.now in
    let begun = subst (λ (os : List Opening). AreBegun n.is_body.items os (length os) c.begin.new.below.items c.begin.new.under.items c.begin.new.chain.items) c.deref-3.ensures.value c.begin.ensures in
    seen_chain n c.args.trail.now c.requires.net c.requires.going c.list_opens.new.opens.items c.begin.new.below.items c.begin.new.under.items c.begin.new.chain.items c.climb.new.below.items c.climb.new.chain.items
    begun c.climb.ensures.bodies

pub returns-clause-placed : goal.returns-clause-placed
returns-clause-placed c =
    let n = c.args.net.now in
    let e : vec_len n.is_label ≡ length n.is_label.items = search rules in
    let size : length c.mark_plugs.new.placed.items ≡ length n.is_label.items = c.mark_plugs.ensures.labels ∙ (ap length c.in_ok-unmark.ensures ∙ (length-replicate _ _ ∙ (c.len-labels.ensures ∙ e))) in
    seen_placed n c.args.trail.now c.requires.net c.requires.going c.mark_plugs.new.placed.items size c.mark_plugs.ensures.placed
