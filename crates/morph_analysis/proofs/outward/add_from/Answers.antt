use Rattle.std.proofs.Common.{◌≡◌, ◌++◌, [], ◌∷◌, map, string_bytes, subst, refl}
use Rattle.morph_analysis.specs.Inner.Adding.{AddsThose, IsOf}
use Rattle.morph_analysis.specs.Inner.Routes.{IsOn}
use Rattle.morph_analysis.specs.Views.{made_of}
use Rattle.morph_analysis.proofs.RouteLemmas.{none_begun, no_begun, on_begun}
use Rattle.morph_analysis.specs.Inner.Routes.{IsRouteOf}
use Rattle.morph_analysis.specs.Made.{MayHalt}
use Rattle.morph_analysis.proofs.EnoughLemmas.{at_exit, begun_is}
use Rattle.morph_analysis.proofs.outward.add_from.Goals as goal

pub returns-in-None-clause-all : goal.returns-in-None-clause-all
returns-in-None-clause-all g c =
    let A = g.M.Maker.makes c.args.search.now.maker.now in
    let words = map string_bytes c.args.stem.now.front.now ++ string_bytes c.args.stem.now.step.now.word ∷ [] in
    no_begun c.args.stem.now.graph.now A c.args.search.now.depth c.args.entry (λ m. m ≡ c.args.from) words c.args.stem.now.step.now.to c.args.stem.now.node (map (made_of (g.M.Maker.value c.args.search.now.maker.now)) c.args.out.now.items)
    (none_begun c.args.stem.now.graph.now A c.args.search.now.depth c.laws.ensures.inner c.args.stem.now.node c.args.entry (rw c.in-None.is at c.in_ok-begin.ensures))

pub returns-in_ok-add_on-in-Some-clause-all : goal.returns-in_ok-add_on-in-Some-clause-all
returns-in_ok-add_on-in-Some-clause-all g c =
    let A = g.M.Maker.makes c.args.search.now.maker.now in
    let view = made_of (g.M.Maker.value c.args.search.now.maker.now) in
    let words = map string_bytes c.args.stem.now.front.now ++ string_bytes c.args.stem.now.step.now.word ∷ [] in
    on_begun c.args.stem.now.graph.now A c.args.search.now.depth (λ e. e ≡ c.args.entry) (λ m. m ≡ c.args.from) words c.args.stem.now.step.now.to c.args.stem.now.node (map view c.args.out.now.items) (map view c.add_on.new.out.items)
    (subst (λ l. AddsThose (IsOf (λ e. e ≡ c.args.entry) (IsOn c.args.stem.now.graph.now A c.args.search.now.depth l c.args.stem.now.node) (λ m. m ≡ c.args.from) words c.args.stem.now.step.now.to) (map view c.args.out.now.items) (map view c.add_on.new.out.items)) c.new-rules.ensures.items c.in_ok-add_on-in-Some.ensures.all)

pub returns-in_err-add_on-in-Some-clause-halt : goal.returns-in_err-add_on-in-Some-clause-halt
returns-in_err-add_on-in-Some-clause-halt g c =
    let S = g.M.Maker.enough c.args.search.now.maker.now in
    let A = g.M.Maker.makes c.args.search.now.maker.now in
    let words = map string_bytes c.args.stem.now.front.now ++ string_bytes c.args.stem.now.step.now.word ∷ [] in
    at_exit S (IsOf (λ e. e ≡ c.args.entry) (IsOn c.args.stem.now.graph.now A c.args.search.now.depth [] c.args.stem.now.node) (λ m. m ≡ c.args.from) words c.args.stem.now.step.now.to) (IsOf (λ e. e ≡ c.args.entry) (IsRouteOf c.args.stem.now.graph.now A c.args.search.now.depth c.args.stem.now.node) (λ m. m ≡ c.args.from) words c.args.stem.now.step.now.to) c.from_residual-in_err-add_on-in-Some.result
    c.in_err-add_on-in-Some.field-0.0 c.from_residual-in_err-add_on-in-Some.ensures.1 (begun_is c.args.stem.now.graph.now A c.args.search.now.depth (λ e. e ≡ c.args.entry) (λ m. m ≡ c.args.from) words c.args.stem.now.step.now.to c.args.stem.now.node [] refl)
    (subst (λ l. MayHalt S (IsOf (λ e. e ≡ c.args.entry) (IsOn c.args.stem.now.graph.now A c.args.search.now.depth l c.args.stem.now.node) (λ m. m ≡ c.args.from) words c.args.stem.now.step.now.to) c.in_err-add_on-in-Some.field-0.0) c.new-rules.ensures.items c.in_err-add_on-in-Some.ensures.halt)
