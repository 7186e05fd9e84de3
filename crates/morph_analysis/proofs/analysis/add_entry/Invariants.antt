use Rattle.std.proofs.Common.{◌≡◌, ◌++◌, [], ◌∷◌, map, take, string_bytes}
use Rattle.morph_analysis.specs.Inner.Adding.{AddsThose, OfSome, IsOf}
use Rattle.morph_analysis.specs.Inner.Routes.{IsRouteOf}
use Rattle.morph_analysis.specs.Views.{made_of}
use Rattle.morph_analysis.proofs.analysis.add_entry.Given as goal

abbrev pub invariant-loop-from : goal.invariant-loop-from
invariant-loop-from g l =
    AddsThose (OfSome (λ m. IsOf (λ e. e ≡ l.entry) (IsRouteOf l.stem.graph.now (g.M.Maker.makes l.search.maker.now) l.search.depth l.stem.node) (λ k. k ≡ m) (map string_bytes l.stem.front.now ++ string_bytes l.stem.step.now.word ∷ []) l.stem.step.now.to) (take l.from-index l.froms)) (map (made_of (g.M.Maker.value l.search.maker.now)) l.initial.out.items) (map (made_of (g.M.Maker.value l.search.maker.now)) l.out.items)
