use Rattle.std.proofs.Common.{◌∙◌, ◌<◌, ◌^◌, length, map, All, ap, sym, subst, arith}
use Rattle.packed_items.specs.Answers.{limits_in}
use Rattle.grammar_load.specs.Views.{grammar_of}
use Rattle.profile_reports.specs.ItemsViews.{item_kept}
use Rattle.profile_reports.specs.Comparing.{is_some_lacking}
use Rattle.profile_reports.specs.Lines.{report_lines, is_refused}
use Rattle.profile_batch.specs.Results.{AreResultsOrGaps}
use Rattle.profile_batch.specs.Views.{trees_of}
use Rattle.profile_batch.proofs.Few.{few-trees}
use Rattle.profile_batch.proofs.Reported.{as-many, reported}
use Rattle.profile_batch.proofs.batching.report_with.Goals as goal

pub batch-requires-clause-few : goal.batch-requires-clause-few
batch-requires-clause-few g c κs within =
    let few = c.in_ok-items.ensures.few in
    let text = c.requires.few in
    subst (λ is. length is < 2 ^ 32) (sym c.deref.ensures.value) (omega (arith, few, text))

pub batch-requires-clause-trees : goal.batch-requires-clause-trees
batch-requires-clause-trees g c κs within =
    subst (All (λ i. trees_of i < 2 ^ 32)) (sym c.deref.ensures.value) (few-trees (length c.args.text.now) c.in_ok-items.items.items c.in_ok-items.ensures.within c.requires.few)

pub report_on-requires-clause-few : goal.report_on-requires-clause-few
report_on-requires-clause-few g c =
    let few = c.in_ok-items.ensures.few in
    let text = c.requires.few in
    subst (λ is. length is < 2 ^ 32) (sym c.deref-2.ensures.value) (omega (arith, few, text))

pub report_on-requires-clause-each : goal.report_on-requires-clause-each
report_on-requires-clause-each g c =
    let z = c.in_ok-results.ensures in
    let limits = c.args.batch_of.now.limits in
    ap length c.deref-3.ensures.value
    ∙ as-many z.0 (limits_in limits) limits.lexical c.in_ok-items.items.items c.in_ok-results.results.items
    (subst (λ is. AreResultsOrGaps z.0 (limits_in limits) limits.lexical (map item_kept is) c.in_ok-results.results.items) c.deref.ensures.value z.2)
    ∙ sym (ap length c.deref-2.ensures.value)

pub returns : goal.returns
returns g c =
    let limits = c.args.batch_of.now.limits in
    let items = c.in_ok-items.items.items in
    let results = c.in_ok-results.results.items in
    let found = c.in_ok-found.found in
    let z = c.in_ok-results.ensures in
    let are = subst (λ is. AreResultsOrGaps z.0 (limits_in limits) limits.lexical (map item_kept is) results) c.deref.ensures.value z.2 in
    reported (grammar_of c.args.grammar.now) (limits_in limits) limits.lexical c.args.text.now items results c.in_ok-items.ensures.items (z.0, z.1, are) found c.some_lacking.result
    (c.in_ok-found.ensures.lines ∙ ap (λ is. report_lines (map item_kept is) c.deref-3.result.now) c.deref-2.ensures.value ∙ ap (report_lines (map item_kept items)) c.deref-3.ensures.value)
    (c.in_ok-found.ensures.refused ∙ ap (λ is. is_refused (map item_kept is) c.deref-3.result.now) c.deref-2.ensures.value ∙ ap (is_refused (map item_kept items)) c.deref-3.ensures.value)
    (c.some_lacking.ensures ∙ ap is_some_lacking c.deref-4.ensures.value) c.told.result c.told.ensures
