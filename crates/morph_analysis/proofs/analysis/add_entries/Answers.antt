use Rattle.std.proofs.Common.{◌≡◌, ◌∙◌, ◌+◌, ◌++◌, [], ◌∷◌, map, take, get_or, string_bytes, refl, sym, subst}
use Rattle.morph_analysis.specs.Inner.Adding.{AddsThose, OfSome, IsOf}
use Rattle.lexicon.specs.Words.{Has}
use Rattle.morph_analysis.specs.Views.{made_of}
use Rattle.std.proofs.lemmas.List.{take_more}
use Rattle.morph_analysis.proofs.Lists.{all_taken, empty_list, has_nat}
use Rattle.morph_analysis.specs.LatticeViews.{step_of}
use Rattle.morph_analysis.specs.Inner.Routes.{IsRouteOf}
use Rattle.morph_analysis.proofs.AddLemmas.{some_none, some_more, of_entries, no_fronts}
use Rattle.morph_analysis.specs.Inner.Adding.{OfGroup}
use Rattle.morph_analysis.specs.Made.{MayHalt}
use Rattle.morph_analysis.proofs.EnoughLemmas.{at_exit, entry_is}
use Rattle.morph_analysis.proofs.analysis.add_entries.Goals as goal

pub returns-then-is_empty-clause-all : goal.returns-then-is_empty-clause-all
returns-then-is_empty-clause-all g c =
    no_fronts c.args.stem.now.graph.now (g.M.Maker.makes c.args.search.now.maker.now) c.args.search.now.depth c.args.search.now.arrivals.now (step_of c.args.stem.now.step.now) c.args.stem.now.node (map string_bytes c.args.stem.now.front.now) (λ e. Has e c.args.entries.now) c.in_ok-froms.froms.items (map (made_of (g.M.Maker.value c.args.search.now.maker.now)) c.args.out.now.items) c.in_ok-froms.ensures
    (empty_list c.in_ok-froms.froms.items _ c.in_ok-froms.froms.ok.0 (sym c.is_empty.ensures ∙ c.if-is_empty.true))

pub loop-entry-init : goal.loop-entry-init
loop-entry-init g c = some_none (λ a. IsOf (λ e. e ≡ a) (IsRouteOf c.args.stem.now.graph.now (g.M.Maker.makes c.args.search.now.maker.now) c.args.search.now.depth c.args.stem.now.node) (λ k. Has k c.in_ok-froms.froms.items) (map string_bytes c.args.stem.now.front.now ++ string_bytes c.args.stem.now.step.now.word ∷ []) c.args.stem.now.step.now.to) (map (made_of (g.M.Maker.value c.args.search.now.maker.now)) c.args.out.now.items)

pub loop-entry-preserved : goal.loop-entry-preserved
loop-entry-preserved g c =
    some_more (λ a. IsOf (λ e. e ≡ a) (IsRouteOf c.args.stem.now.graph.now (g.M.Maker.makes c.args.search.now.maker.now) c.args.search.now.depth c.args.stem.now.node) (λ k. Has k c.in_ok-froms.froms.items) (map string_bytes c.args.stem.now.front.now ++ string_bytes c.args.stem.now.step.now.word ∷ []) c.args.stem.now.step.now.to) (take c.loop-entry.entry-index c.args.entries.now) (take (c.loop-entry.entry-index + 1) c.args.entries.now) (get_or c.args.entries.now c.loop-entry.entry-index 0) (map (made_of (g.M.Maker.value c.args.search.now.maker.now)) c.args.out.now.items) (map (made_of (g.M.Maker.value c.args.search.now.maker.now)) c.loop-entry.out.items)
    (map (made_of (g.M.Maker.value c.args.search.now.maker.now)) c.add_entry.new.out.items) (take_more c.args.entries.now c.loop-entry.entry-index 0 c.loop-entry-test.true) c.loop-entry.invariant
    (subst (λ l. AddsThose (IsOf (λ e. e ≡ get_or c.args.entries.now c.loop-entry.entry-index 0) (IsRouteOf c.args.stem.now.graph.now (g.M.Maker.makes c.args.search.now.maker.now) c.args.search.now.depth c.args.stem.now.node) (λ k. Has k l) (map string_bytes c.args.stem.now.front.now ++ string_bytes c.args.stem.now.step.now.word ∷ []) c.args.stem.now.step.now.to) (map (made_of (g.M.Maker.value c.args.search.now.maker.now)) c.loop-entry.out.items) (map (made_of (g.M.Maker.value c.args.search.now.maker.now)) c.add_entry.new.out.items)) c.deref.ensures.value c.in_ok-add_entry.ensures.all)

pub returns-clause-all : goal.returns-clause-all
returns-clause-all g c =
    of_entries c.args.stem.now.graph.now (g.M.Maker.makes c.args.search.now.maker.now) c.args.search.now.depth c.args.search.now.arrivals.now (step_of c.args.stem.now.step.now) c.args.stem.now.node (map string_bytes c.args.stem.now.front.now) (map string_bytes c.args.stem.now.front.now ++ string_bytes c.args.stem.now.step.now.word ∷ []) c.args.entries.now c.in_ok-froms.froms.items
    (map (made_of (g.M.Maker.value c.args.search.now.maker.now)) c.args.out.now.items) (map (made_of (g.M.Maker.value c.args.search.now.maker.now)) c.loop-entry.out.items) c.in_ok-froms.ensures refl
    (subst (λ l. AddsThose (OfSome (λ a. IsOf (λ e. e ≡ a) (IsRouteOf c.args.stem.now.graph.now (g.M.Maker.makes c.args.search.now.maker.now) c.args.search.now.depth c.args.stem.now.node) (λ k. Has k c.in_ok-froms.froms.items) (map string_bytes c.args.stem.now.front.now ++ string_bytes c.args.stem.now.step.now.word ∷ []) c.args.stem.now.step.now.to) l) (map (made_of (g.M.Maker.value c.args.search.now.maker.now)) c.args.out.now.items) (map (made_of (g.M.Maker.value c.args.search.now.maker.now)) c.loop-entry.out.items)) (all_taken c.args.entries.now c.loop-entry.entry-index c.loop-entry-test.false) c.loop-entry.invariant)

pub returns-in_err-add_entry-clause-halt : goal.returns-in_err-add_entry-clause-halt
returns-in_err-add_entry-clause-halt g c =
    let S = g.M.Maker.enough c.args.search.now.maker.now in
    let A = g.M.Maker.makes c.args.search.now.maker.now in
    let R = IsRouteOf c.args.stem.now.graph.now A c.args.search.now.depth c.args.stem.now.node in
    let front = map string_bytes c.args.stem.now.front.now in
    let words = front ++ string_bytes c.args.stem.now.step.now.word ∷ [] in
    let a = get_or c.args.entries.now c.loop-entry.entry-index 0 in
    at_exit S (IsOf (λ e. e ≡ a) R (λ k. Has k c.in_ok-froms.froms.items) words c.args.stem.now.step.now.to) (OfGroup c.args.stem.now.graph.now A c.args.search.now.depth c.args.search.now.arrivals.now (step_of c.args.stem.now.step.now) c.args.stem.now.node front (λ e. Has e c.args.entries.now)) c.from_residual-in_err-add_entry.result c.in_err-add_entry.field-0.0
    c.from_residual-in_err-add_entry.ensures.1
    (entry_is c.args.stem.now.graph.now A c.args.search.now.depth c.args.search.now.arrivals.now (step_of c.args.stem.now.step.now) c.args.stem.now.node front c.args.entries.now c.in_ok-froms.froms.items a c.in_ok-froms.ensures (has_nat c.args.entries.now c.loop-entry.entry-index c.loop-entry-test.true))
    (subst (λ l. MayHalt S (IsOf (λ e. e ≡ a) R (λ k. Has k l) words c.args.stem.now.step.now.to) c.in_err-add_entry.field-0.0) c.deref.ensures.value c.in_err-add_entry.ensures.halt)
