use Rattle.std.proofs.Common.{◌<◌, ◌≤◌, ◌+◌, ◌++◌, ◌∷◌, [], ap, sym, subst, ◌∙◌, arith, length}
use Rattle.std.proofs.lemmas.List.{nil_from_length}
use Rattle.chart_core.specs.Kept.{core_of, rows_in}
use Rattle.forest_unpack.specs.Plans.{rank_at}
use Rattle.forest_unpack.specs.Inner.Making.{AreMaking, IsRoot, left_of}
use Rattle.forest_unpack.specs.Inner.Memos.{known_in}
use Rattle.forest_unpack.proofs.Growing.{fresh_at, grows_same, grows_on}
use Rattle.forest_unpack.proofs.Memos.{stays_same, stays_on}
use Rattle.forest_unpack.proofs.Waiting.{begun, few_wait, one_waits}
use Rattle.forest_unpack.proofs.listing.list.Goals as goal

pub loop-list-init : goal.loop-list-init
loop-list-init g c =
    let value = g.F.Fulls.value c.args.plan.now.fulls.now in
    let w = g.F.Fulls.wholes c.args.plan.now.fulls.now in
    let rows = rows_in (core_of c.args.plan.now.finished.now) in
    let table = c.args.lists.now.table.items in
    let first = c.in_ok-first.first in
    let free = fresh_at table c.args.host c.index.result.now (omega (arith, c.requires.host, c.requires.table)) c.index.ensures (sym c.if-is_some.ensures) in
    let e = c.in_ok-push.ensures.items ∙ ap (λ zs. zs ++ first ∷ []) c.new-waiting.ensures.items in (
      grows_same value table,
      λ x. x,
      c.requires.gathered,
      stays_same value w c.args.memo.now table c.requires.ready,
      subst (IsRoot table c.args.host) (sym e) c.in_ok-first.ensures.host_is,
      one_waits value w rows c.args.lists.now.cut (known_in value c.args.memo.now) table c.args.plan.now.ranks.now first _ e (begun value w rows c.args.lists.now.cut (known_in value c.args.memo.now) table c.args.host first c.requires.host free c.in_ok-first.ensures),
    )

pub step-requires-clause-lists : goal.step-requires-clause-lists
step-requires-clause-lists g c =
    let value = g.F.Fulls.value c.args.plan.now.fulls.now in
    let w = g.F.Fulls.wholes c.args.plan.now.fulls.now in
    subst (AreMaking value w c.loop-list.lists.cut (rows_in (core_of c.args.plan.now.finished.now)) (known_in value c.loop-list.memo) c.loop-list.lists.table.items c.args.plan.now.ranks.now) c.in-Some.ensures.items c.loop-list.invariant.5

pub loop-list-preserved : goal.loop-list-preserved
loop-list-preserved g c =
    let value = g.F.Fulls.value c.args.plan.now.fulls.now in
    let w = g.F.Fulls.wholes c.args.plan.now.fulls.now in
    let s = c.in_ok-step.ensures in (
      grows_on value c.args.lists.now.table.items c.loop-list.lists.table.items c.step.new.lists.table.items c.loop-list.invariant.0 s.grows,
      λ x. s.cut (c.loop-list.invariant.1 x),
      s.gathered,
      stays_on value w c.args.memo.now c.loop-list.memo c.step.new.memo c.loop-list.lists.table.items c.step.new.lists.table.items c.loop-list.invariant.3 s.ready,
      s.root c.args.host (subst (IsRoot c.loop-list.lists.table.items c.args.host) c.in-Some.ensures.items c.loop-list.invariant.4),
      s.lists_are,
    )

pub loop-list-smaller : goal.loop-list-smaller
loop-list-smaller g c =
    let value = g.F.Fulls.value c.args.plan.now.fulls.now in
    let w = g.F.Fulls.wholes c.args.plan.now.fulls.now in
    let rows = rows_in (core_of c.args.plan.now.finished.now) in
    let ranks = c.args.plan.now.ranks.now in
    let table = c.loop-list.lists.table.items in
    let short = few_wait value w rows c.loop-list.lists.cut (known_in value c.loop-list.memo) table ranks c.args.host c.loop-list.waiting.items c.loop-list.invariant.5 c.loop-list.invariant.4 in
    let less = c.in_ok-step.ensures.falls (rank_at ranks c.args.host) (subst (λ zs. length zs ≤ rank_at ranks c.args.host + 1) c.in-Some.ensures.items short) in
    subst (λ zs. left_of (rank_at ranks c.args.host) c.step.new.lists.table.items c.step.new.waiting.items < left_of (rank_at ranks c.args.host) table zs) (sym c.in-Some.ensures.items) less

pub returns-clause-listed : goal.returns-clause-listed
returns-clause-listed g c =
    let over = nil_from_length c.loop-list.waiting.items (let a = c.in_default.ensures.cases.0 in let ok = c.loop-list.waiting.ok in omega arith) in
    subst (IsRoot c.loop-list.lists.table.items c.args.host) over c.loop-list.invariant.4
