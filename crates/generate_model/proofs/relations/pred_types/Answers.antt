use Rattle.std.proofs.Common.{◌≡◌, ◌∙◌, map, option_map, ap, subst}
use Rattle.mrs_places.specs.Paths.{feature_of, paths_of}
use Rattle.mrs_places.specs.Inner.Walked.{nodes_of}
use Rattle.generate_model.specs.Contributing.{PredTypes}
use Rattle.generate_model.specs.Inner.Reading.{IsListOf, types_in}
use Rattle.generate_model.proofs.ReadLemmas.{types_listed, types_unlisted}
use Rattle.generate_model.proofs.ListLemmas.{if_ok}
use Rattle.generate_model.proofs.relations.pred_types.Goals as goal

pub returns-in-Some-clause-types : goal.returns-in-Some-clause-types
returns-in-Some-clause-types c =
    let g = c.args.graph.now in
    let types = c.args.types.now in
    let p = paths_of c.args.paths.now in
    let base = map feature_of c.args.base.now in
    let list = subst (λ o. IsListOf g types p base (option_map (λ v. nodes_of v.items) o)) c.in-Some.is c.in_ok-cells.ensures.list in
    if_ok (λ v. map (λ t. t.0) v.items ≡ types_in g p (nodes_of c.deref.result.now)) (λ v. PredTypes g types p base (map (λ t. t.0) v.items)) c.types_of.result
    (λ v e. types_listed g types p base (nodes_of c.in-Some.cells.items) _ list (e ∙ ap (λ l. types_in g p (nodes_of l)) c.deref.ensures.value)) c.types_of.ensures.types

pub returns-in-None-clause-types : goal.returns-in-None-clause-types
returns-in-None-clause-types c =
    let g = c.args.graph.now in
    let types = c.args.types.now in
    let p = paths_of c.args.paths.now in
    let base = map feature_of c.args.base.now in
    types_unlisted g types p base _ (subst (λ o. IsListOf g types p base (option_map (λ v. nodes_of v.items) o)) c.in-None.is c.in_ok-cells.ensures.list) (ap (map (λ t. t.0)) c.new.ensures.items)
