use Rattle.std.proofs.Common.{ℕ, Vec, sym, subst, arith}
use Rattle.std.specs.Global.{Global}
use Rattle.glb_completion.specs.Inner.Kinds.{AreKinds}
use Rattle.glb_completion.proofs.GrowingLemmas.{row_bits}
use Rattle.glb_completion.proofs.SpreadLemmas.{closed_met}
use Rattle.glb_completion.proofs.KindLemmas.{kind_noted, seen_met, open_covered}
use Rattle.glb_completion.proofs.spread.meet_kind.Goals as goal

pub is_open-requires-clause-in_set : goal.is_open-requires-clause-in_set
is_open-requires-clause-in_set c = row_bits c.args.h.now c.args.family.now.sets.keys c.args.at c.args.t c.requires.growing.rows c.requires.at_in c.requires.t_in

pub is_open-requires-clause-in_above : goal.is_open-requires-clause-in_above
is_open-requires-clause-in_above c = row_bits c.args.h.now c.args.family.now.above.items c.args.at c.args.t c.requires.growing.above_rows (omega (arith, c.requires.at_in, c.requires.growing.pairs)) c.requires.t_in

pub returns-then-not-is_open-clause-met : goal.returns-then-not-is_open-clause-met
returns-then-not-is_open-clause-met c =
    closed_met c.args.h.now c.requires.laws c.args.family.now.sets.keys c.args.family.now.above.items c.args.at c.args.t c.is_open.result c.requires.at_in c.requires.t_in c.requires.growing c.if-not-is_open.true c.is_open.ensures

pub returns-then-not-branch-clause-met : goal.returns-then-not-branch-clause-met
returns-then-not-branch-clause-met c =
    let h = c.args.h.now in
    let keys = c.args.family.now.sets.keys in
    let kinds = c.args.kinds.now in
    let over = open_covered h c.requires.laws keys c.args.family.now.above.items c.args.at c.args.t kinds.shared.items c.is_open.result c.requires.growing c.requires.at_in c.requires.t_in c.requires.kinds.has c.is_open.ensures c.if-not-is_open.false in
    seen_met h c.requires.laws keys kinds.keys.keys _ c.args.at c.args.t kinds.shared.items kinds.places.items c.row.result.now _ c.requires.kinds c.requires.at_in c.requires.t_in c.row.ensures.members over c.in_ok-is_new.ensures.looks c.if-not-branch.true

pub returns-clause-more_kinds : goal.returns-clause-more_kinds
returns-clause-more_kinds c =
    let h = c.args.h.now in
    let keys = c.args.family.now.sets.keys in
    let kinds = c.args.kinds.now in
    let new = c.is_new.new.self in
    let over = open_covered h c.requires.laws keys c.args.family.now.above.items c.args.at c.args.t kinds.shared.items c.is_open.result c.requires.growing c.requires.at_in c.requires.t_in c.requires.kinds.has c.is_open.ensures c.if-not-is_open.false in
    let noted = kind_noted h keys c.meet_with.new.family.sets.keys c.args.at c.args.t kinds.shared.items kinds.places.items c.row.result.now kinds.keys.keys new.keys.keys _ c.requires.kinds c.in_ok-meet_with.ensures.more c.requires.at_in c.requires.t_in
    c.row.ensures.members over c.in_ok-meet_with.ensures.met c.in_ok-is_new.ensures.looks in
    subst (λ (s : Vec ℕ Global). AreKinds h c.meet_with.new.family.sets.keys c.args.at s.items new.places.items new.keys.keys) (sym c.in_ok-is_new.ensures.shared)
    (subst (λ (p : Vec ℕ Global). AreKinds h c.meet_with.new.family.sets.keys c.args.at kinds.shared.items p.items new.keys.keys) (sym c.in_ok-is_new.ensures.same_places) noted)
