use Rattle.std.proofs.Common.{◌∙◌, All, Some, map, ap, sym, subst}
use Rattle.book_signs.specs.Trees.{signs_of}
use Rattle.forest_unpack.specs.Parts.{parts_of}
use Rattle.rule_trees.specs.Fulls.{FullTree}
use Rattle.rule_trees.specs.Mothers.{IsMother, IsMotherOf, AppliesTo, IsShortIn, graph_view, view_in}
use Rattle.rule_trees.specs.Inner.Owing.{OwesDaughters}
use Rattle.rule_trees.proofs.WithinLemmas.{never_applies, no_mother}
use Rattle.rule_trees.proofs.BoundLemmas.{all_short, fulls_seen}
use Rattle.rule_trees.proofs.OweLemmas.{all_owe}
use Rattle.rule_trees.proofs.mothers.mother_of.Goals as goal

pub made-requires-clause-short : goal.made-requires-clause-short
made-requires-clause-short c =
    subst (All (IsShortIn c.args.signs.now)) (sym (ap (map (λ d. d.now)) c.deref.ensures.value ∙ c.in_ok-daughters.ensures))
    (all_short c.args.signs.now (λ (f : FullTree). f.graph) (parts_of c.args.parts.now) c.requires.made)

pub made-requires-clause-owes : goal.made-requires-clause-owes
made-requires-clause-owes c =
    subst (All (OwesDaughters c.args.signs.now)) (sym (ap (map (λ d. d.now)) c.deref.ensures.value ∙ c.in_ok-daughters.ensures))
    (all_owe c.args.signs.now (λ (f : FullTree). f.graph) (parts_of c.args.parts.now) c.requires.made)

pub returns-clause-full : goal.returns-clause-full
returns-clause-full c v m =
    let t = c.args.signs.now in
    let ds = map (λ d. d.now) c.deref.result.now in
    no_mother t c.args.place ds c.in_ok-graph.field-0 c.in-None.is c.in_ok-graph.ensures v
    (subst (λ fs. IsMother (signs_of t) c.args.place fs v) (sym (fulls_seen t (λ (f : FullTree). f.graph) ds (parts_of c.args.parts.now) (ap (map (λ d. d.now)) c.deref.ensures.value ∙ c.in_ok-daughters.ensures) c.requires.made)) m)

pub returns-clause-never : goal.returns-clause-never
returns-clause-never c e h =
    let t = c.args.signs.now in
    let ds = map (λ d. d.now) c.deref.result.now in
    never_applies t c.args.place ds c.in_ok-graph.field-0 c.in-None.is c.in_ok-graph.ensures
    (subst (AppliesTo (signs_of t) c.args.place) (sym (fulls_seen t (λ (f : FullTree). f.graph) ds (parts_of c.args.parts.now) (ap (map (λ d. d.now)) c.deref.ensures.value ∙ c.in_ok-daughters.ensures) c.requires.made)) h)

pub returns-in-Some-clause-full : goal.returns-in-Some-clause-full
returns-in-Some-clause-full c =
    let t = c.args.signs.now in
    let ds = map (λ d. d.now) c.deref.result.now in
    let made : IsMotherOf t c.args.place ds (Some c.in-Some.graph) = subst (IsMotherOf t c.args.place ds) c.in-Some.is c.in_ok-graph.ensures in
    let mother : IsMother (signs_of t) c.args.place (map (graph_view t) ds) (view_in t c.in_ok-full-in-Some.full.graph) =
    subst (IsMother (signs_of t) c.args.place (map (graph_view t) ds)) (sym c.in_ok-full-in-Some.ensures) made.0 in
    subst (λ fs. IsMother (signs_of t) c.args.place fs (view_in t c.in_ok-full-in-Some.full.graph))
    (fulls_seen t (λ (f : FullTree). f.graph) ds (parts_of c.args.parts.now) (ap (map (λ d. d.now)) c.deref.ensures.value ∙ c.in_ok-daughters.ensures) c.requires.made) mother
