use Rattle.std.proofs.Common.{◌≡◌, ◌<◌, length, All, sym, ◌∙◌, ap, subst, arith, rules}
use Rattle.std.proofs.lemmas.List.{length-map, length-replicate}
use Rattle.type_hierarchy.specs.Inner.Reach.{lists}
use Rattle.type_hierarchy.proofs.ReachLemmas.{reaching_starts, reaching_on, nil_of, reaching_ends, code_visits, row_at, row_in, popped_in, Visits}
use Rattle.type_hierarchy.proofs.order.above.Goals as goal

pub loop-x-init : goal.loop-x-init
loop-x-init c =
    let none = c.in_ok-seen.ensures.items_if_clones_equal (λ y e. e) in
    let size : length c.in_ok-seen.seen.items ≡ length c.args.parents.now = ap length none ∙ length-replicate _ _ in
    let in_row = row_in c.args.parents.now _ c.args.from c.index-parents-from.result _ c.requires.range c.requires.from_in c.index-parents-from.is c.deref.ensures.value in
    let row = row_at c.args.parents.now c.args.from c.index-parents-from.result _ c.requires.from_in c.index-parents-from.is c.deref.ensures.value in
    reaching_starts (lists c.args.parents.now) c.args.from (length c.args.parents.now) c.in_ok-seen.seen.items c.visit.new.seen.items c.new-stack.result.items c.visit.new.stack.items
    (sym (length-map c.args.parents.now (λ v. v.items))) none c.new-stack.ensures.items
    (subst (λ ys. Visits ys c.in_ok-seen.seen.items c.new-stack.result.items c.visit.new.seen.items c.visit.new.stack.items) (sym row)
    (code_visits _ _ _ _ _ c.in_ok-visit.ensures (subst (λ n. All (λ y. y < n) c.deref.result.now) (sym size) in_row)))

pub bounds-parents-x : goal.bounds-parents-x
bounds-parents-x c = popped_in c.args.parents.now c.args.from c.in-Some.x _ _ _ c.loop-x.invariant c.in-Some.ensures.items

pub offset_bounds-parents-x : goal.offset_bounds-parents-x
offset_bounds-parents-x c =
    let h : c.in-Some.x < length c.args.parents.now = popped_in c.args.parents.now c.args.from c.in-Some.x _ _ _ c.loop-x.invariant c.in-Some.ensures.items in
    search rules

pub visit-requires-in-Some : goal.visit-requires-in-Some
visit-requires-in-Some c =
    let h = popped_in c.args.parents.now c.args.from c.in-Some.x _ _ _ c.loop-x.invariant c.in-Some.ensures.items in
    subst (λ n. All (λ y. y < n) c.deref-in-Some.result.now) (sym (c.loop-x.invariant.size ∙ length-map c.args.parents.now (λ v. v.items)))
    (row_in c.args.parents.now _ c.in-Some.x c.index-parents-x.result _ c.requires.range h c.index-parents-x.is c.deref-in-Some.ensures.value)

pub loop-x-preserved : goal.loop-x-preserved
loop-x-preserved c =
    (reaching_on (lists c.args.parents.now) c.args.from c.in-Some.x _ _ _ _ _ c.loop-x.invariant c.in-Some.ensures.items
    (let h = popped_in c.args.parents.now c.args.from c.in-Some.x _ _ _ c.loop-x.invariant c.in-Some.ensures.items in
    subst (λ ys. Visits ys c.loop-x.seen.items c.pop.new.self.items c.visit-in-Some.new.seen.items c.visit-in-Some.new.stack.items)
    (sym (row_at c.args.parents.now c.in-Some.x c.index-parents-x.result _ h c.index-parents-x.is c.deref-in-Some.ensures.value))
    (code_visits _ _ _ _ _ c.in_ok-visit-2.ensures
    (subst (λ n. All (λ y. y < n) c.deref-in-Some.result.now) (sym (c.loop-x.invariant.size ∙ length-map c.args.parents.now (λ v. v.items)))
    (row_in c.args.parents.now _ c.in-Some.x c.index-parents-x.result _ c.requires.range h c.index-parents-x.is c.deref-in-Some.ensures.value))))).0

pub loop-x-smaller : goal.loop-x-smaller
loop-x-smaller c =
    (reaching_on (lists c.args.parents.now) c.args.from c.in-Some.x _ _ _ _ _ c.loop-x.invariant c.in-Some.ensures.items
    (let h = popped_in c.args.parents.now c.args.from c.in-Some.x _ _ _ c.loop-x.invariant c.in-Some.ensures.items in
    subst (λ ys. Visits ys c.loop-x.seen.items c.pop.new.self.items c.visit-in-Some.new.seen.items c.visit-in-Some.new.stack.items)
    (sym (row_at c.args.parents.now c.in-Some.x c.index-parents-x.result _ h c.index-parents-x.is c.deref-in-Some.ensures.value))
    (code_visits _ _ _ _ _ c.in_ok-visit-2.ensures
    (subst (λ n. All (λ y. y < n) c.deref-in-Some.result.now) (sym (c.loop-x.invariant.size ∙ length-map c.args.parents.now (λ v. v.items)))
    (row_in c.args.parents.now _ c.in-Some.x c.index-parents-x.result _ c.requires.range h c.index-parents-x.is c.deref-in-Some.ensures.value))))).1

pub returns : goal.returns
returns c =
    let none : length c.loop-x.stack.items ≡ 0 = omega (arith, c.in_default.ensures.cases.0, c.loop-x.stack.ok) in
    reaching_ends _ _ _ _ c.loop-x.invariant (nil_of c.loop-x.stack.items none)
