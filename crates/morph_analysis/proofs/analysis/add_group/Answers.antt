use Rattle.std.proofs.Common.{◌∙◌, ◌-◌, ◌<◌, length, map, take, string_bytes, sym, ap, subst}
use Rattle.morph_analysis.specs.Inner.Adding.{AddsThose, OfGroup}
use Rattle.lexicon.specs.Words.{Has}
use Rattle.morph_analysis.specs.Views.{made_of}
use Rattle.morph_analysis.proofs.Lists.{empty_list, filled}
use Rattle.morph_analysis.specs.LatticeViews.{step_of}
use Rattle.morph_analysis.proofs.ArrivalLemmas.{front_last}
use Rattle.lexicon.specs.Groups.{group_of}
use Rattle.morph_analysis.proofs.AddLemmas.{of_words, no_words}
use Rattle.morph_analysis.specs.Inner.Adding.{OfWords}
use Rattle.morph_analysis.specs.Made.{MayHalt}
use Rattle.morph_analysis.proofs.EnoughLemmas.{at_exit, group_is}
use Rattle.morph_analysis.proofs.analysis.add_group.Goals as goal

pub returns-then-is_empty-clause-all : goal.returns-then-is_empty-clause-all
returns-then-is_empty-clause-all g c =
    no_words c.args.graph.now (g.M.Maker.makes c.args.search.now.maker.now) c.args.search.now.depth c.args.search.now.arrivals.now (step_of c.args.step.now) c.args.node (group_of c.args.group.now) (map (made_of (g.M.Maker.value c.args.search.now.maker.now)) c.args.out.now.items)
    (ap (map string_bytes) (empty_list c.args.group.now.words.items _ c.args.group.now.words.ok.0 (sym c.is_empty.ensures ∙ c.if-is_empty.true)))

pub front_of-front-requires : goal.front_of-front-requires
front_of-front-requires g c = subst (λ l. 0 < length l) (sym c.deref.ensures.value) (filled c.args.group.now.words.items _ c.args.group.now.words.ok.0 (sym c.is_empty.ensures ∙ c.if-is_empty.false))

pub returns-clause-all : goal.returns-clause-all
returns-clause-all g c =
    let some = filled c.args.group.now.words.items _ c.args.group.now.words.ok.0 (sym c.is_empty.ensures ∙ c.if-is_empty.false) in
    let front = front_last c.args.group.now.words.items c.front_of-front.result.now some (c.front_of-front.ensures ∙ ap (λ l. take (length l - 1) l) c.deref.ensures.value) in
    of_words c.args.graph.now (g.M.Maker.makes c.args.search.now.maker.now) c.args.search.now.depth c.args.search.now.arrivals.now (step_of c.args.step.now) c.args.node (group_of c.args.group.now) (map string_bytes c.front_of-front.result.now) front.0 (map (made_of (g.M.Maker.value c.args.search.now.maker.now)) c.args.out.now.items) (map (made_of (g.M.Maker.value c.args.search.now.maker.now)) c.add_entries.new.out.items) front.1
    (subst (λ l. AddsThose (OfGroup c.args.graph.now (g.M.Maker.makes c.args.search.now.maker.now) c.args.search.now.depth c.args.search.now.arrivals.now (step_of c.args.step.now) c.args.node (map string_bytes c.front_of-front.result.now) (λ e. Has e l)) (map (made_of (g.M.Maker.value c.args.search.now.maker.now)) c.args.out.now.items) (map (made_of (g.M.Maker.value c.args.search.now.maker.now)) c.add_entries.new.out.items)) c.deref-2.ensures.value
    c.in_ok-add_entries.ensures.all)

pub returns-in_err-add_entries-clause-halt : goal.returns-in_err-add_entries-clause-halt
returns-in_err-add_entries-clause-halt g c =
    let S = g.M.Maker.enough c.args.search.now.maker.now in
    let A = g.M.Maker.makes c.args.search.now.maker.now in
    let some = filled c.args.group.now.words.items _ c.args.group.now.words.ok.0 (sym c.is_empty.ensures ∙ c.if-is_empty.false) in
    let front = front_last c.args.group.now.words.items c.front_of-front.result.now some (c.front_of-front.ensures ∙ ap (λ l. take (length l - 1) l) c.deref.ensures.value) in
    let words = map string_bytes c.front_of-front.result.now in
    at_exit S (OfGroup c.args.graph.now A c.args.search.now.depth c.args.search.now.arrivals.now (step_of c.args.step.now) c.args.node words (λ e. Has e c.args.group.now.entries.items)) (OfWords c.args.graph.now A c.args.search.now.depth c.args.search.now.arrivals.now (step_of c.args.step.now) c.args.node (group_of c.args.group.now)) c.from_residual.result c.in_err-add_entries.field-0.0
    c.from_residual.ensures.1 (group_is c.args.graph.now A c.args.search.now.depth c.args.search.now.arrivals.now (step_of c.args.step.now) c.args.node (group_of c.args.group.now) words front.0 front.1)
    (subst (λ l. MayHalt S (OfGroup c.args.graph.now A c.args.search.now.depth c.args.search.now.arrivals.now (step_of c.args.step.now) c.args.node words (λ e. Has e l)) c.in_err-add_entries.field-0.0) c.deref-2.ensures.value c.in_err-add_entries.ensures.halt)
