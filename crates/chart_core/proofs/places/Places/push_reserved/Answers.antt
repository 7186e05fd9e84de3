use Rattle.std.proofs.Common.{◌≡◌, ◌++◌, [], ◌∷◌, sym, ◌∙◌, ap, subst, slice_get, slice_set, Some}
use Rattle.chart_core.specs.Lists.{lists_of, list_at, bucket}
use Rattle.chart_core.proofs.Buckets.{set_list, list_here, get_here}
use Rattle.chart_core.proofs.places.Places.push_reserved.Goals as goal

pub push_reserved-requires : goal.push_reserved-requires
push_reserved-requires c =
    let lists = c.args.self.now.lists.items in
    c.requires.room c.index_mut.result.now (subst (λ i. slice_get lists i ≡ Some c.index_mut.result.now) c.slot-slot.ensures.is (get_here lists c.slot-slot.result c.index_mut.result.now c.slot-slot.ensures.inside c.index_mut.ensures.value))

pub returns-clause-added : goal.returns-clause-added
returns-clause-added c =
    let lists = c.args.self.now.lists.items in
    let b : bucket (lists_of c.args.self.now) c.args.key ≡ c.index_mut.result.now.items = ap (list_at (lists_of c.args.self.now)) (sym c.slot-slot.ensures.is) ∙ list_here (λ v. v.items) lists c.slot-slot.result c.index_mut.result.now c.slot-slot.ensures.inside c.index_mut.ensures.value in
    set_list (λ v. v.items) lists c.slot-slot.result c.push_reserved.new.self (bucket (lists_of c.args.self.now) c.args.key ++ c.args.number ∷ []) (c.push_reserved.ensures.items ∙ ap (λ xs. xs ++ c.args.number ∷ []) (sym b))
    ∙ ap (λ i. slice_set (lists_of c.args.self.now) i (bucket (lists_of c.args.self.now) c.args.key ++ c.args.number ∷ [])) c.slot-slot.ensures.is
