use Rattle.std.proofs.Common.{◌≡◌, ◌∙◌, ◌<◌, sym, ap, subst, map, All, length, slice_get, is_some, true}
use Rattle.std.proofs.lemmas.List.{map-append}
use Rattle.chart_model.specs.Chart as model
use Rattle.chart_model.specs.Picked.{picked}
use Rattle.chart_core.specs.Lists.{lists_of, bucket}
use Rattle.chart_core.specs.CoreView.{limits_of}
use Rattle.chart_core.specs.View.{rows_of, into_of, task_of, write_all}
use Rattle.chart_core.proofs.Found.{all_at, partials_found}
use Rattle.chart_core.proofs.Partner.{host_tasks_are}
use Rattle.chart_core.proofs.chart.Core.host_tasks.Goals as goal

pub host_pairs-requires-clause-places : goal.host_pairs-requires-clause-places
host_pairs-requires-clause-places g c =
    let core = c.args.self.now in
    let rows = core.rows.items in
    let ps = bucket (lists_of core.ends) c.begin.result in
    let all : All (λ p. p < length rows) ps = all_at (λ p. p < length rows) ps (λ n p a. c.requires.sound.sound.ends.inside _ n p a) in
    subst (λ rs. All (λ p. p < length rs) c.at-places.result.now) (sym c.deref.ensures.value) (subst (All (λ p. p < length rows)) (sym c.at-places.ensures) all)

pub returns-clause-tasks : goal.returns-clause-tasks
returns-clause-tasks g c =
    let k = g.S.Shapes.calculus c.args.shapes.now in
    let m = g.S.Shapes.meaning c.args.shapes.now in
    let core = c.args.self.now in
    let rows = core.rows.items in
    let into = write_all (into_of rows) c.args.frosted.now c.args.number in
    let joins = g.met.S.Shapes.joins c.args.shapes.now in
    let found = partials_found k m g.S.Cover.Cover.begins g.S.Cover.Cover.ends (λ x y j. g.met.S.Cover.Cover.meets (g.S.Shapes.bound_of c.args.shapes.now) x y (subst (λ o. is_some o ≡ true) (joins x y) j)) rows (lists_of core.ends) c.requires.sound.sound.ends into c.args.number c.args.cover.now in
    let places : c.at-places.result.now ≡ bucket (lists_of core.ends) (g.S.Cover.Cover.begins c.args.cover.now) = c.at-places.ensures ∙ ap (bucket (lists_of core.ends)) c.begin.ensures in
    let more : map task_of c.in_ok-more.more.items ≡ picked k (model.host_task k into c.args.cover.now c.args.number) (slice_get (rows_of m rows)) (bucket (lists_of core.ends) (g.S.Cover.Cover.begins c.args.cover.now)) =
    subst (λ ps. map task_of c.in_ok-more.more.items ≡ picked k (model.host_task k into c.args.cover.now c.args.number) (slice_get (rows_of m rows)) ps) places (rw c.deref.ensures.value at c.in_ok-more.ensures.pairs) in
    let first : map task_of c.in_ok-found.found.items ≡ model.rule_tasks c.args.number 0 k.rules = c.in_ok-found.ensures.pairs ∙ ap (model.rule_tasks c.args.number 0) c.rules.ensures in
    ap (map task_of) c.in_ok-append.ensures.items
    ∙ map-append task_of c.in_ok-found.found.items c.in_ok-more.more.items
    ∙ host_tasks_are k (limits_of core) (rows_of m rows) into c.args.number c.args.cover.now c.args.level (map task_of c.in_ok-found.found.items) (map task_of c.in_ok-more.more.items) c.if-level-self.false first (more ∙ sym found)
