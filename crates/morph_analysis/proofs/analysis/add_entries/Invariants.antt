use Rattle.std.proofs.Common.{◌≡◌, ◌++◌, [], ◌∷◌, map, take, string_bytes}
use Rattle.morph_analysis.specs.Inner.Adding.{AddsThose, OfSome, IsOf}
use Rattle.lexicon.specs.Words.{Has}
use Rattle.morph_analysis.specs.Views.{made_of}
use Rattle.morph_analysis.specs.Inner.Routes.{IsRouteOf}
use Rattle.morph_analysis.proofs.analysis.add_entries.Given as goal

abbrev pub invariant-loop-entry : goal.invariant-loop-entry
invariant-loop-entry g l =
    AddsThose (OfSome (λ a. IsOf (λ e. e ≡ a) (IsRouteOf l.stem.graph.now (g.M.Maker.makes l.search.maker.now) l.search.depth l.stem.node) (λ k. Has k l.froms.items) (map string_bytes l.stem.front.now ++ string_bytes l.stem.step.now.word ∷ []) l.stem.step.now.to) (take l.entry-index l.entries)) (map (made_of (g.M.Maker.value l.search.maker.now)) l.initial.out.items) (map (made_of (g.M.Maker.value l.search.maker.now)) l.out.items)
