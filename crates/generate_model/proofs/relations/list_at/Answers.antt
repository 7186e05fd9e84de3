use Rattle.std.proofs.Common.{map, option_map, sym}
use Rattle.mrs_places.specs.Paths.{feature_of, paths_of}
use Rattle.mrs_places.specs.Inner.Walked.{nodes_of}
use Rattle.generate_model.specs.Inner.Reading.{IsWalked, IsListOf}
use Rattle.generate_model.proofs.ReadLemmas.{no_path, no_rels, no_start, list_of}
use Rattle.generate_model.proofs.ListLemmas.{if_ok}
use Rattle.generate_model.proofs.relations.list_at.Goals as goal

pub returns-in_default-clause-list : goal.returns-in_default-clause-list
returns-in_default-clause-list c = no_path _ _ _ _ (sym c.in_default.ensures.at)

pub returns-in_default-step-clause-list : goal.returns-in_default-step-clause-list
returns-in_default-step-clause-list c = no_rels _ _ _ _ _ (sym c.in-Some.ensures.at) (sym c.in_default-step.ensures.at)

pub returns-in_default-step-2-clause-list : goal.returns-in_default-step-2-clause-list
returns-in_default-step-2-clause-list c = no_start _ _ _ _ _ _ (sym c.in-Some.ensures.at) (sym c.in-Some-step.ensures.at) (sym c.in_default-step-2.ensures.at)

pub returns-clause-list : goal.returns-clause-list
returns-clause-list c =
    let g = c.args.graph.now in
    let types = c.args.types.now in
    let p = paths_of c.args.paths.now in
    if_ok (λ o. IsWalked g types p (option_map (λ n. n.0) c.step-last.result) c.in-Some-step-2.start.0 (option_map (λ v. nodes_of v.items) o)) (λ o. IsListOf g types p (map feature_of c.args.base.now) (option_map (λ v. nodes_of v.items) o)) c.walked.result
    (λ o h. list_of g types p (map feature_of c.args.base.now) _ _ _ _ (option_map (λ v. nodes_of v.items) o) (sym c.in-Some.ensures.at) (sym c.in-Some-step.ensures.at) (sym c.in-Some-step-2.ensures.at) c.step-last.ensures.at h)
    c.walked.ensures.walked
