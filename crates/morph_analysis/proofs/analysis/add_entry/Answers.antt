use Rattle.std.proofs.Common.{◌≡◌, ◌+◌, ◌++◌, [], ◌∷◌, map, take, get_or, string_bytes, subst}
use Rattle.morph_analysis.specs.Inner.Adding.{AddsThose, OfSome, IsOf}
use Rattle.morph_analysis.specs.Inner.Routes.{IsRouteOf}
use Rattle.morph_analysis.specs.Views.{made_of}
use Rattle.std.proofs.lemmas.List.{take_more}
use Rattle.morph_analysis.proofs.Lists.{all_taken, has_nat}
use Rattle.morph_analysis.proofs.AddLemmas.{some_none, some_more, of_froms}
use Rattle.lexicon.specs.Words.{Has}
use Rattle.morph_analysis.proofs.EnoughLemmas.{at_exit, from_is}
use Rattle.morph_analysis.proofs.analysis.add_entry.Goals as goal

pub loop-from-init : goal.loop-from-init
loop-from-init g c = some_none (λ m. IsOf (λ e. e ≡ c.args.entry) (IsRouteOf c.args.stem.now.graph.now (g.M.Maker.makes c.args.search.now.maker.now) c.args.search.now.depth c.args.stem.now.node) (λ k. k ≡ m) (map string_bytes c.args.stem.now.front.now ++ string_bytes c.args.stem.now.step.now.word ∷ []) c.args.stem.now.step.now.to) (map (made_of (g.M.Maker.value c.args.search.now.maker.now)) c.args.out.now.items)

pub loop-from-preserved : goal.loop-from-preserved
loop-from-preserved g c =
    some_more (λ m. IsOf (λ e. e ≡ c.args.entry) (IsRouteOf c.args.stem.now.graph.now (g.M.Maker.makes c.args.search.now.maker.now) c.args.search.now.depth c.args.stem.now.node) (λ k. k ≡ m) (map string_bytes c.args.stem.now.front.now ++ string_bytes c.args.stem.now.step.now.word ∷ []) c.args.stem.now.step.now.to) (take c.loop-from.from-index c.args.froms.now)
    (take (c.loop-from.from-index + 1) c.args.froms.now) (get_or c.args.froms.now c.loop-from.from-index 0) (map (made_of (g.M.Maker.value c.args.search.now.maker.now)) c.args.out.now.items) (map (made_of (g.M.Maker.value c.args.search.now.maker.now)) c.loop-from.out.items) (map (made_of (g.M.Maker.value c.args.search.now.maker.now)) c.add_from.new.out.items)
    (take_more c.args.froms.now c.loop-from.from-index 0 c.loop-from-test.true) c.loop-from.invariant c.in_ok-add_from.ensures.all

pub returns-clause-all : goal.returns-clause-all
returns-clause-all g c =
    of_froms (λ e. e ≡ c.args.entry) (IsRouteOf c.args.stem.now.graph.now (g.M.Maker.makes c.args.search.now.maker.now) c.args.search.now.depth c.args.stem.now.node) c.args.froms.now (map string_bytes c.args.stem.now.front.now ++ string_bytes c.args.stem.now.step.now.word ∷ []) c.args.stem.now.step.now.to (map (made_of (g.M.Maker.value c.args.search.now.maker.now)) c.args.out.now.items) (map (made_of (g.M.Maker.value c.args.search.now.maker.now)) c.loop-from.out.items)
    (subst (λ l. AddsThose (OfSome (λ m. IsOf (λ e. e ≡ c.args.entry) (IsRouteOf c.args.stem.now.graph.now (g.M.Maker.makes c.args.search.now.maker.now) c.args.search.now.depth c.args.stem.now.node) (λ k. k ≡ m) (map string_bytes c.args.stem.now.front.now ++ string_bytes c.args.stem.now.step.now.word ∷ []) c.args.stem.now.step.now.to) l) (map (made_of (g.M.Maker.value c.args.search.now.maker.now)) c.args.out.now.items) (map (made_of (g.M.Maker.value c.args.search.now.maker.now)) c.loop-from.out.items))
    (all_taken c.args.froms.now c.loop-from.from-index c.loop-from-test.false) c.loop-from.invariant)

pub returns-in_err-add_from-clause-halt : goal.returns-in_err-add_from-clause-halt
returns-in_err-add_from-clause-halt g c =
    let R = IsRouteOf c.args.stem.now.graph.now (g.M.Maker.makes c.args.search.now.maker.now) c.args.search.now.depth c.args.stem.now.node in
    let words = map string_bytes c.args.stem.now.front.now ++ string_bytes c.args.stem.now.step.now.word ∷ [] in
    let m = get_or c.args.froms.now c.loop-from.from-index 0 in
    at_exit (g.M.Maker.enough c.args.search.now.maker.now) (IsOf (λ e. e ≡ c.args.entry) R (λ k. k ≡ m) words c.args.stem.now.step.now.to) (IsOf (λ e. e ≡ c.args.entry) R (λ k. Has k c.args.froms.now) words c.args.stem.now.step.now.to) c.from_residual.result c.in_err-add_from.field-0.0 c.from_residual.ensures.1
    (from_is (λ e. e ≡ c.args.entry) R c.args.froms.now words c.args.stem.now.step.now.to m (has_nat c.args.froms.now c.loop-from.from-index c.loop-from-test.true)) c.in_err-add_from.ensures.halt
