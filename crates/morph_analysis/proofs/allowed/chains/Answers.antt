use Rattle.std.proofs.Common.{◌≡◌, ◌∙◌, map, sym, ap, subst}
use Rattle.std.proofs.lemmas.Simd.{map-map}
use Rattle.morph_analysis.specs.Chains.{AreChains}
use Rattle.morph_analysis.specs.Made.{MadeTree}
use Rattle.morph_analysis.specs.Views.{chain_of, made_of}
use Rattle.morph_analysis.specs.LatticeViews.{lattice_of}
use Rattle.morph_analysis.proofs.OrderLemmas.{allowed_chains}
use Rattle.morph_analysis.proofs.allowed.chains.Goals as goal

pub returns : goal.returns
returns c =
    let made = c.in-Ok.made.items in
    let same : map (λ (x : MadeTree (Unit {0})). x.chain) (map (made_of (λ m. tt)) made) ≡ map chain_of c.in_ok-chains.chains.items =
    map-map (λ (x : MadeTree (Unit {0})). x.chain) (made_of (λ m. tt)) made ∙ sym (map-map chain_of (λ x. x.chain) made) ∙ ap (map chain_of) (sym c.in_ok-chains.ensures) in
    subst (AreChains c.args.lexicon.now c.args.spelling.now c.args.feeds.now (lattice_of c.args.lattice.now) c.args.depth) same
    (allowed_chains c.args.lexicon.now c.args.spelling.now c.args.feeds.now (lattice_of c.args.lattice.now) c.args.depth (map (made_of (λ m. tt)) made) c.in-Ok.ensures.all)
