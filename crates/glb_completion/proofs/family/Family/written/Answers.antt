use Rattle.std.proofs.Common.{◌≡◌, ◌∙◌, ◌<◌, ◌++◌, ◌∷◌, [], cond, ℕ, ap, subst, sym, arith}
use Rattle.type_hierarchy.specs.Bits.{has_bit, IsRow}
use Rattle.type_hierarchy.specs.Table.{has_member, set_of}
use Rattle.glb_completion.proofs.GrowingLemmas.{begins, begins_new, begins_more, begun}
use Rattle.glb_completion.proofs.family.Family.written.Goals as goal

pub loop-t-init : goal.loop-t-init
loop-t-init c = begins c.args.h.now _ c.in_ok-above.above.items c.with_hasher-sets.ensures.empty c.in_ok-above.ensures.rows c.in_ok-above.ensures.size c.in_ok-above.ensures.members

pub loop-t-preserved : goal.loop-t-preserved
loop-t-preserved c =
    let laws = c.count-t-end.ensures.laws in
    let in_t : c.loop-t.t < c.args.h.now.written = omega (arith, c.loop-t-test.true, c.count-t-end.ensures.count) in
    let members : (x : ℕ) → x < c.args.h.now.written → has_bit c.in_ok-row.row.items x ≡ has_member (set_of c.args.h.now c.loop-t.t) x = λ x l. ap (λ q. has_bit q x) c.in_ok-row.ensures.items ∙ c.row.ensures.members x l in
    let new = begins_new c.args.h.now laws c.loop-t.sets.keys c.in_ok-above.above.items c.loop-t.t c.in_ok-row.row.items c.loop-t.invariant in_t members in
    begins_more c.args.h.now laws c.loop-t.sets.keys c.in_ok-above.above.items _ c.loop-t.t c.in_ok-row.row c.loop-t.invariant in_t
    (subst (IsRow c.args.h.now.written) (sym c.in_ok-row.ensures.items) c.row.ensures.row) members
    (c.in_ok-insert.ensures.keys ∙ ap (λ b. cond b c.loop-t.sets.keys (c.loop-t.sets.keys ++ c.in_ok-row.row ∷ [])) new)

pub returns-clause-growing : goal.returns-clause-growing
returns-clause-growing c = begun c.args.h.now c.count-t-end.ensures.laws c.loop-t.sets.keys c.in_ok-above.above.items c.loop-t.t c.loop-t.invariant (omega (arith, c.loop-t-test.false, c.count-t-end.ensures.count))
