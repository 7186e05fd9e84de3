use Rattle.std.proofs.Common.{◌++◌, ◌∷◌, [], ap, sym, subst, ◌∙◌, length}
use Rattle.chart_core.specs.Kept.{core_of, rows_in}
use Rattle.forest_unpack.specs.Plans.{IsGathered}
use Rattle.forest_unpack.specs.Items.{items_of}
use Rattle.forest_unpack.specs.Inner.Making.{IsLower, IsMaking, Stepped}
use Rattle.forest_unpack.specs.Inner.Memos.{AreReached, IsReady, StaysReady, known_in}
use Rattle.forest_unpack.proofs.Reaching.{gathered_reached}
use Rattle.forest_unpack.proofs.Waiting.{last, stepped_made, stepped_waits}
use Rattle.forest_unpack.proofs.listing.step.Goals as goal

pub go_on-requires-clause-reached : goal.go_on-requires-clause-reached
go_on-requires-clause-reached g c =
    let fulls = c.args.plan.now.fulls.now in
    subst (AreReached (g.F.Fulls.value fulls) (g.F.Fulls.wholes fulls) (g.F.Fulls.named fulls)) (sym c.deref.ensures.value)
    (gathered_reached (g.F.Fulls.value fulls) (g.F.Fulls.wholes fulls) (g.F.Fulls.named fulls) (g.F.Fulls.ruled fulls) c.args.plan.now.left c.args.lists.now.cut (rows_in (core_of c.args.plan.now.finished.now)) c.args.plan.now.members.now.last.items c.args.plan.now.members.now.before.items c.args.plan.now.ranks.now c.args.lists.now.table.items c.requires.plan c.requires.gathered)

pub go_on-requires-clause-ready : goal.go_on-requires-clause-ready
go_on-requires-clause-ready g c = subst (IsReady (g.F.Fulls.value c.args.plan.now.fulls.now) (g.F.Fulls.wholes c.args.plan.now.fulls.now) c.args.memo.now) (sym c.deref.ensures.value) c.requires.ready

pub go_on-requires-clause-list : goal.go_on-requires-clause-list
go_on-requires-clause-list g c =
    let value = g.F.Fulls.value c.args.plan.now.fulls.now in
    let w = g.F.Fulls.wholes c.args.plan.now.fulls.now in
    let rows = rows_in (core_of c.args.plan.now.finished.now) in
    let known = known_in value c.args.memo.now in
    subst (λ t. IsMaking value w c.args.lists.now.cut rows known t c.args.list) (sym c.deref.ensures.value)
    (last value w rows c.args.lists.now.cut known c.args.lists.now.table.items c.args.plan.now.ranks.now c.args.waiting.now.items c.args.list c.requires.lists)

pub returns-in_ok-items-in-None : goal.returns-in_ok-items-in-None
returns-in_ok-items-in-None g c =
    let value = g.F.Fulls.value c.args.plan.now.fulls.now in
    let w = g.F.Fulls.wholes c.args.plan.now.fulls.now in
    let rows = rows_in (core_of c.args.plan.now.finished.now) in
    let table = c.args.lists.now.table.items in
    let seen = c.deref.ensures.value in
    let d = c.go_on.new.cut in
    let again = c.go_on.new.list in
    let ensured = c.in_ok-go_on.ensures in
    stepped_made value w rows c.args.plan.now.left c.args.lists.now.cut d ensured.cut c.args.memo.now c.go_on.new.memo table c.args.plan.now.ranks.now c.args.waiting.now.items c.args.list again
    c.requires.lists c.requires.gathered (subst (StaysReady value w c.args.memo.now c.go_on.new.memo) seen ensured.ready) ensured.host
    (subst (λ t. IsMaking value w d rows (known_in value c.go_on.new.memo) t again) seen ensured.list) c.requires.table
    c.in_ok-items-in-None.items (subst (λ t. IsGathered value w d rows t again.host (items_of value again.made.items)) seen (rw c.in-None.is at c.in_ok-go_on.ensures.done)) c.in_ok-items-in-None.ensures.sifted c.in_ok-items-in-None.ensures.numbered

pub returns-in_ok-push-in-Some-2 : goal.returns-in_ok-push-in-Some-2
returns-in_ok-push-in-Some-2 g c =
    let value = g.F.Fulls.value c.args.plan.now.fulls.now in
    let w = g.F.Fulls.wholes c.args.plan.now.fulls.now in
    let rows = rows_in (core_of c.args.plan.now.finished.now) in
    let table = c.args.lists.now.table.items in
    let seen = c.deref.ensures.value in
    let d = c.go_on.new.cut in
    let again = c.go_on.new.list in
    let ensured = c.in_ok-go_on.ensures in
    let needed = c.in_ok-needed-in-Some.needed in
    let pushed = c.in_ok-push-in-Some-2.ensures.items ∙ ap (λ zs. zs ++ needed ∷ []) c.in_ok-push-in-Some.ensures.items in
    subst (Stepped value w c.args.plan.now.left rows c.args.plan.now.ranks.now c.args.lists.now.cut d c.args.memo.now c.go_on.new.memo table table (c.args.waiting.now.items ++ c.args.list ∷ [])) (sym pushed)
    (stepped_waits value w rows c.args.plan.now.left c.args.lists.now.cut d ensured.cut c.args.memo.now c.go_on.new.memo table c.args.plan.now.ranks.now c.args.waiting.now.items c.args.list again
    c.requires.lists c.requires.gathered (subst (StaysReady value w c.args.memo.now c.go_on.new.memo) seen ensured.ready) ensured.host
    (subst (λ t. IsMaking value w d rows (known_in value c.go_on.new.memo) t again) seen ensured.list) c.requires.table
    c.in-Some.daughter needed (subst (λ t. IsLower (length rows) c.args.plan.now.ranks.now t again.host c.in-Some.daughter) seen (rw c.in-Some.is at c.in_ok-go_on.ensures.done)) c.in_ok-needed-in-Some.ensures)
