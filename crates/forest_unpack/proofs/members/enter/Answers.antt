use Rattle.std.proofs.Common.{rules, ◌≡◌, ◌∙◌, subst, sym}
use Rattle.std.specs.Prelude.{Some, Result, Ok, Err, OnOk, slice_set}
use Rattle.chart_core.specs.Kept.{core_of, rows_in}
use Rattle.forest_unpack.proofs.Entering.{host_low, members_skip, members_add}
use Rattle.forest_unpack.proofs.members.enter.Goals as goal

-- what follows from both of what stands after an Ok
on_both : {A E P Q R : Type 0} (r : Result A E) → OnOk r P → OnOk r Q → (P → Q → R) → OnOk r R
on_both (Ok x) p q f = f p q
on_both (Err e) p q f = tt

pub returns-then-is_partial : goal.returns-then-is_partial
returns-then-is_partial g c =
    members_skip (rows_in (core_of c.args.finished.now)) c.args.row.0 c.args.members.now.last.items c.args.members.now.before.items _ c.row.result.now c.requires.members c.row.ensures (sym c.is_partial.ensures ∙ c.if-is_partial.true) c.in_ok-push.ensures.items

pub add-requires : goal.add-requires
add-requires g c = host_low (rows_in (core_of c.args.finished.now)) c.args.row.0 c.args.members.now.last.items c.args.members.now.before.items c.host_of-host.result.0 c.requires.members c.host_of-host.ensures

pub returns : goal.returns
returns g c =
    let made = rows_in (core_of c.args.finished.now) in
    let last = c.args.members.now.last.items in
    let before = c.args.members.now.before.items in
    let host = c.host_of-host.result.0 in
    let same : c.in-Ok.number ≡ c.args.row.0 = search rules in
    on_both c.add.result c.add.ensures.last c.add.ensures.before
    (λ put e. members_add made c.args.row.0 last before c.add.new.self.last.items c.add.new.self.before.items host c.requires.members c.host_of-host.ensures (subst (λ n. c.add.new.self.last.items ≡ slice_set last host (Some n)) same put) e)
