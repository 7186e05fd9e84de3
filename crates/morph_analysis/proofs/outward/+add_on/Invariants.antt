use Rattle.std.proofs.Common.{◌≡◌, ◌++◌, ◌-◌, [], ◌∷◌, length, map, take, string_bytes}
use Rattle.morph_analysis.specs.Inner.Adding.{AddsThose, OfSome, IsOf}
use Rattle.morph_analysis.specs.Inner.Routes.{IsAlong}
use Rattle.morph_analysis.specs.Views.{edge_of, made_of}
use Rattle.morph_analysis.proofs.outward.+add_on.Given as goal

abbrev pub decreases-add_on : goal.decreases-add_on
decreases-add_on g l = l.search.now.depth - length l.route.rules.items

abbrev pub invariant-loop-edge : goal.invariant-loop-edge
invariant-loop-edge g l =
    AddsThose (OfSome (λ e. IsOf (λ x. x ≡ l.entry) (IsAlong l.stem.graph.now (g.M.Maker.makes l.search.maker.now) l.search.depth l.route.rules.items e) (λ m. m ≡ l.from) (map string_bytes l.stem.front.now ++ string_bytes l.stem.step.now.word ∷ []) l.stem.step.now.to) (map edge_of (take l.edge-index l.edge-items)))
    (map (made_of (g.M.Maker.value l.search.maker.now)) l.initial.out.items) (map (made_of (g.M.Maker.value l.search.maker.now)) l.out.items)
