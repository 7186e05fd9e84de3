-- The order of chains, with what is made of them.
use Rattle.std.specs.declared.cmp.Ordering.{Ordering}
use Rattle.std.specs.Cmp.{IsTotalOrder, then_total, on_total, nat_cmp_total}
use Rattle.std.specs.Cmp.Lexicographic.{nat_list_cmp_total, lists_total}
use Rattle.morph_analysis.specs.Chains.{ChainTree, chain_order}
use Rattle.morph_analysis.specs.declared.made.MadeChain.{MadeChain}
use Rattle.morph_analysis.specs.Views.{chain_of}

pub chain_total : IsTotalOrder chain_order
chain_total =
    then_total (on_total (λ (c : ChainTree). c.from) nat_cmp_total)
    (then_total (on_total (λ (c : ChainTree). c.to) nat_cmp_total)
    (then_total (on_total (λ (c : ChainTree). c.entry) nat_cmp_total)
    (then_total (on_total (λ (c : ChainTree). c.rules) nat_list_cmp_total) (on_total (λ (c : ChainTree). c.words) (lists_total nat_list_cmp_total)))))

abbrev pub made_order : {T : Type 0} → MadeChain T → MadeChain T → Ordering
made_order a b = chain_order (chain_of a.chain) (chain_of b.chain)

pub made_total : {T : Type 0} → IsTotalOrder (made_order {T = T})
made_total {T} = on_total (λ (x : MadeChain T). chain_of x.chain) chain_total
