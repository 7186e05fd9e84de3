use Rattle.std.proofs.Common.{◌≡◌, ◌∷◌, [], Some, refl}
use Rattle.std.proofs.lemmas.Iterator.Adapters.{YieldsList-from_once, YieldsList-from_rev_slice}
use Rattle.std.proofs.lemmas.Iterator.Consumers.{YieldsList-from_chain, YieldsList-from_copied, YieldsList-at}
use Rattle.std.proofs.lemmas.Iterator.Search.{cmp_from_yields_List}
use Rattle.std.proofs.lemmas.List.{reverse-append}
use Rattle.std.specs.Ordering.{nat_cmp}
use Rattle.derivation.proofs.order.compare_inwards.Goals as goal

pub returns : goal.returns
returns c =
    let a = c.chain-inwards.ensures in
    let b = c.chain.ensures in
    rw (reverse-append (c.args.entry ∷ []) c.args.rules.now, reverse-append (c.args.other_entry ∷ []) c.args.other_rules.now)
    (cmp_from_yields_List (λ x y. y ≡ x) _ nat_cmp _ c.cmp.ensures.ran
    (YieldsList-from_chain
    (YieldsList-at a.first (YieldsList-from_copied (YieldsList-at c.copied.ensures.source (YieldsList-from_rev_slice c.args.rules.now cc))))
    (YieldsList-at a.second (YieldsList-from_once (Some c.args.entry) c.once.ensures.item))
    a.first_done a.second_done)
    (λ it e. YieldsList-at e (YieldsList-from_chain
    (YieldsList-at b.first (YieldsList-from_copied (YieldsList-at c.copied-2.ensures.source (YieldsList-from_rev_slice c.args.other_rules.now cc))))
    (YieldsList-at b.second (YieldsList-from_once (Some c.args.other_entry) c.once-2.ensures.item))
    b.first_done b.second_done))
    (λ x y. refl))
