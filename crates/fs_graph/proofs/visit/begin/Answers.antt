use Rattle.std.proofs.Common.{[], ◌∷◌, ◌++◌, ◌∙◌, ap, slice_set, slice_index_or}
use Rattle.fs_graph.specs.Visits.{plan_of}
use Rattle.fs_graph.proofs.HeightLemmas.{heights_begin}
use Rattle.fs_graph.proofs.VisitCode.{visit_begins}
use Rattle.fs_graph.proofs.visit.begin.Goals as goal

pub returns-clause-going : goal.returns-clause-going
returns-clause-going c =
    λ arcs able. visit_begins c.args.nodes c.args.starts.now arcs able _ _ _ _ (ap (λ l. slice_set l 0 0) c.in_ok-refill.ensures)
    (c.in_ok-push.ensures.items ∙ ap (λ l. l ++ 0 ∷ []) c.clear.ensures.items) c.in_ok-reopen.ensures
    (c.in_ok-push-2.ensures.items ∙ ap (λ l. l ++ record { node = 0; next = slice_index_or c.args.starts.now 0 0 } ∷ []) c.clear-2.ensures.items)

pub returns-clause-heights : goal.returns-clause-heights
returns-clause-heights c = λ arcs. heights_begin (plan_of c.args.nodes c.args.starts.now arcs) _ _ c.in_ok-reopen.ensures c.in_ok-refill-2.ensures
