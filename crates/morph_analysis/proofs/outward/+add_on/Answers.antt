use Rattle.std.proofs.Common.{◌≡◌, ◌<◌, ◌∙◌, ◌+◌, ◌++◌, [], ◌∷◌, length, map, take, get_or, string_bytes, refl, sym, ap, subst, arith, length-append}
use Rattle.std.proofs.lemmas.List.{map-append, take_more, get_or_default}
use Rattle.lexicon.specs.Words.{Has}
use Rattle.morph_analysis.specs.Inner.Adding.{AddsThose, OfSome, IsOf}
use Rattle.morph_analysis.specs.Inner.Routes.{IsAlong}
use Rattle.morph_analysis.specs.Views.{edge_of, made_of}
use Rattle.morph_analysis.proofs.Lists.{all_taken, Has-at}
use Rattle.morph_analysis.proofs.AddLemmas.{some_more}
use Rattle.morph_analysis.proofs.RouteLemmas.{all_on, on_longer, no_along}
use Rattle.morph_analysis.proofs.outward.+add_on.Goals.{in-Some+in_ok-add_on-in-Some, in-None}
use Rattle.morph_analysis.specs.Inner.Routes.{IsOn, IsEnded}
use Rattle.morph_analysis.proofs.EnoughLemmas.{at_exit, longer_is, ended_is}
use Rattle.morph_analysis.proofs.outward.+add_on.Goals as goal

pub longer-requires-clause-to : goal.longer-requires-clause-to
longer-requires-clause-to g t c =
    let items = c.edges-edge-items.result.now in
    let i = c.loop-edge.edge-index in
    let x = get_or items i (record { rule = 0; to = 0 }) in
    c.requires.within.edges c.args.route.node (edge_of x) c.requires.node
    (subst (Has (edge_of x)) c.edges-edge-items.ensures (Has-at edge_of items i x (edge_of x) c.loop-edge-test.true (get_or_default items i (record { rule = 0; to = 0 }) x c.loop-edge-test.true) refl))

pub add_on-requires : goal.add_on-requires
add_on-requires g t c = λ κs le.
    let items = c.edges-edge-items.result.now in
    let i = c.loop-edge.edge-index in
    let x = get_or items i (record { rule = 0; to = 0 }) in
    let has = subst (Has (edge_of x)) c.edges-edge-items.ensures (Has-at edge_of items i x (edge_of x) c.loop-edge-test.true (get_or_default items i (record { rule = 0; to = 0 }) x c.loop-edge-test.true) refl) in
    let h = rw c.in-Some.is at c.in_ok-longer.ensures in
    let size = ap length h.is ∙ length-append c.args.route.rules.items ((edge_of x).rule ∷ []) in (
      omega (arith, size, h.room),
      (le.0, (le.1.0, (le.1.1, (c.requires.within, (subst (λ n. n < length c.args.stem.now.graph.now) (sym h.node_is) (c.requires.within.edges c.args.route.node (edge_of x) c.requires.node has), (omega (arith, size, h.room), h.made)))))),
    )

pub loop-edge-preserved : goal.loop-edge-preserved
loop-edge-preserved g t c =
    let A = g.M.Maker.makes c.args.search.now.maker.now in
    let view = made_of (g.M.Maker.value c.args.search.now.maker.now) in
    let words = map string_bytes c.args.stem.now.front.now ++ string_bytes c.args.stem.now.step.now.word ∷ [] in
    let rules = c.args.route.rules.items in
    let items = c.edges-edge-items.result.now in
    let i = c.loop-edge.edge-index in
    let x = get_or items i (record { rule = 0; to = 0 }) in
    let old = map view c.loop-edge.out.items in
    some_more (λ e. IsOf (λ z. z ≡ c.args.entry) (IsAlong c.args.stem.now.graph.now A c.args.search.now.depth rules e) (λ m. m ≡ c.args.from) words c.args.stem.now.step.now.to) (map edge_of (take i items)) (map edge_of (take (i + 1) items)) (edge_of x) (map view c.args.out.now.items) old (map view c.match-branch-2.out.items)
    (ap (map edge_of) (take_more items i (record { rule = 0; to = 0 }) c.loop-edge-test.true) ∙ map-append edge_of (take i items) (x ∷ [])) c.loop-edge.invariant
    (elim c.match-branch-2.branch [
      | in-Some+in_ok-add_on-in-Some w ↦
          subst (λ o. AddsThose (IsOf (λ z. z ≡ c.args.entry) (IsAlong c.args.stem.now.graph.now A c.args.search.now.depth rules (edge_of x)) (λ m. m ≡ c.args.from) words c.args.stem.now.step.now.to) old (map view o.items)) (sym w.out-is)
          (on_longer c.args.stem.now.graph.now A c.args.search.now.depth (λ z. z ≡ c.args.entry) (λ m. m ≡ c.args.from) words c.args.stem.now.step.now.to rules w.in-Some.next.rules.items (edge_of x) c.args.entry w.in-Some.next.node (g.M.Maker.value c.args.search.now.maker.now w.in-Some.next.made) old (map view w.add_on.new.out.items)
          (rw w.in-Some.is at c.in_ok-longer.ensures) w.in_ok-add_on-in-Some.ensures.all)
      | in-None w ↦
          subst (λ o. AddsThose (IsOf (λ z. z ≡ c.args.entry) (IsAlong c.args.stem.now.graph.now A c.args.search.now.depth rules (edge_of x)) (λ m. m ≡ c.args.from) words c.args.stem.now.step.now.to) old (map view o.items)) (sym w.out-is)
          (no_along c.args.stem.now.graph.now A c.args.search.now.depth c.args.entry (λ m. m ≡ c.args.from) words c.args.stem.now.step.now.to rules (edge_of x) old (rw w.in-None.is at c.in_ok-longer.ensures))
    ])

pub returns-clause-all : goal.returns-clause-all
returns-clause-all g t c =
    let A = g.M.Maker.makes c.args.search.now.maker.now in
    let view = made_of (g.M.Maker.value c.args.search.now.maker.now) in
    let words = map string_bytes c.args.stem.now.front.now ++ string_bytes c.args.stem.now.step.now.word ∷ [] in
    let rules = c.args.route.rules.items in
    let items = c.edges-edge-items.result.now in
    all_on c.args.stem.now.graph.now A c.args.search.now.depth (λ e. e ≡ c.args.entry) (λ m. m ≡ c.args.from) words c.args.stem.now.step.now.to rules c.args.route.node (map view c.args.out.now.items) (map view c.loop-edge.out.items) (map view c.add_ended.new.out.items) c.requires.node c.requires.shallow
    (subst (λ l. AddsThose (OfSome (λ e. IsOf (λ z. z ≡ c.args.entry) (IsAlong c.args.stem.now.graph.now A c.args.search.now.depth rules e) (λ m. m ≡ c.args.from) words c.args.stem.now.step.now.to) l) (map view c.args.out.now.items) (map view c.loop-edge.out.items))
    (ap (map edge_of) (all_taken items c.loop-edge.edge-index c.loop-edge-test.false) ∙ c.edges-edge-items.ensures) c.loop-edge.invariant) c.in_ok-add_ended.ensures.all

pub returns-in_err-add_on-in-Some-clause-halt : goal.returns-in_err-add_on-in-Some-clause-halt
returns-in_err-add_on-in-Some-clause-halt g t c =
    let A = g.M.Maker.makes c.args.search.now.maker.now in
    let words = map string_bytes c.args.stem.now.front.now ++ string_bytes c.args.stem.now.step.now.word ∷ [] in
    let rules = c.args.route.rules.items in
    let next = c.in-Some.next in
    let items = c.edges-edge-items.result.now in
    let i = c.loop-edge.edge-index in
    let x = get_or items i (record { rule = 0; to = 0 }) in
    let has = subst (Has (edge_of x)) c.edges-edge-items.ensures (Has-at edge_of items i x (edge_of x) c.loop-edge-test.true (get_or_default items i (record { rule = 0; to = 0 }) x c.loop-edge-test.true) refl) in
    at_exit (g.M.Maker.enough c.args.search.now.maker.now) (IsOf (λ e. e ≡ c.args.entry) (IsOn c.args.stem.now.graph.now A c.args.search.now.depth next.rules.items next.node) (λ m. m ≡ c.args.from) words c.args.stem.now.step.now.to) (IsOf (λ e. e ≡ c.args.entry) (IsOn c.args.stem.now.graph.now A c.args.search.now.depth rules c.args.route.node) (λ m. m ≡ c.args.from) words c.args.stem.now.step.now.to)
    c.from_residual-in_err-add_on-in-Some.result c.in_err-add_on-in-Some.field-0.0 c.from_residual-in_err-add_on-in-Some.ensures.1
    (longer_is c.args.stem.now.graph.now A c.args.search.now.depth (λ e. e ≡ c.args.entry) (λ m. m ≡ c.args.from) words c.args.stem.now.step.now.to rules next.rules.items (edge_of x) c.args.entry next.node c.args.route.node (g.M.Maker.value c.args.search.now.maker.now next.made) c.requires.node has (rw c.in-Some.is at c.in_ok-longer.ensures))
    c.in_err-add_on-in-Some.ensures.halt

pub returns-in_err-add_ended-clause-halt : goal.returns-in_err-add_ended-clause-halt
returns-in_err-add_ended-clause-halt g t c =
    let A = g.M.Maker.makes c.args.search.now.maker.now in
    let words = map string_bytes c.args.stem.now.front.now ++ string_bytes c.args.stem.now.step.now.word ∷ [] in
    let rules = c.args.route.rules.items in
    at_exit (g.M.Maker.enough c.args.search.now.maker.now) (IsOf (λ e. e ≡ c.args.entry) (IsEnded A rules c.args.route.node) (λ m. m ≡ c.args.from) words c.args.stem.now.step.now.to) (IsOf (λ e. e ≡ c.args.entry) (IsOn c.args.stem.now.graph.now A c.args.search.now.depth rules c.args.route.node) (λ m. m ≡ c.args.from) words c.args.stem.now.step.now.to)
    c.from_residual-in_err-add_ended.result c.in_err-add_ended.field-0.0 c.from_residual-in_err-add_ended.ensures.1 (ended_is c.args.stem.now.graph.now A c.args.search.now.depth (λ e. e ≡ c.args.entry) (λ m. m ≡ c.args.from) words c.args.stem.now.step.now.to rules c.args.route.node c.requires.shallow)
    c.in_err-add_ended.ensures.halt
