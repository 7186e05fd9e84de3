use Rattle.std.proofs.Common.{◌≡◌, ◌<◌, vec_len, vec_capacity, arith, subst, sym, ap, ◌∙◌, slice_get, slice_set, Some}
use Rattle.chart_core.specs.Lists.{slot}
use Rattle.chart_core.proofs.Buckets.{set_same, get_set}
use Rattle.chart_core.proofs.places.Places.reserve.Goals as goal

pub returns-in_err-reserve-clause-same : goal.returns-in_err-reserve-clause-same
returns-in_err-reserve-clause-same c = set_same (λ v. v.items) c.args.self.now.lists.items c.slot-slot.result c.index_mut.result.now c.reserve.new.self c.slot-slot.ensures.inside c.index_mut.ensures.value c.in_err-reserve.ensures.items

pub returns-clause-same : goal.returns-clause-same
returns-clause-same c = set_same (λ v. v.items) c.args.self.now.lists.items c.slot-slot.result c.index_mut.result.now c.reserve.new.self c.slot-slot.ensures.inside c.index_mut.ensures.value c.in_ok-reserve.ensures.items

pub returns-clause-room : goal.returns-clause-room
returns-clause-room c = λ v e.
    let lists = c.args.self.now.lists.items in
    let same = set_same (λ v. v.items) lists c.slot-slot.result c.index_mut.result.now c.reserve.new.self c.slot-slot.ensures.inside c.index_mut.ensures.value c.in_ok-reserve.ensures.items in
    let at = c.slot-slot.ensures.is ∙ ap (λ ls. slot ls c.args.key) (sym same) in
    let there : slice_get (slice_set lists c.slot-slot.result c.reserve.new.self) c.slot-slot.result ≡ Some v = subst (λ i. slice_get (slice_set lists c.slot-slot.result c.reserve.new.self) i ≡ Some v) (sym at) e in
    let s = get_set lists c.slot-slot.result c.reserve.new.self c.slot-slot.ensures.inside in
    let z : c.reserve.new.self ≡ v = cc in
    let r : vec_len c.reserve.new.self < vec_capacity c.reserve.new.self = (let o = c.in_ok-reserve.ensures.ok in omega arith) in
    subst (λ u. vec_len u < vec_capacity u) z r
