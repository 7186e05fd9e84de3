use Rattle.std.proofs.Common.{◌≡◌, ◌++◌, [], ◌∷◌, sym, ◌∙◌, ap, slice_set}
use Rattle.chart_core.specs.Lists.{list_at, bucket}
use Rattle.chart_core.proofs.Buckets.{set_list, list_here}
use Rattle.packed_forests.specs.Inner.Found.{lists_in}
use Rattle.packed_forests.proofs.index.Index.push.Goals as goal

pub returns-clause-added : goal.returns-clause-added
returns-clause-added c =
    let lists = c.args.self.now.lists.items in
    let all = lists_in c.args.self.now in
    let b : bucket all c.args.key ≡ c.index_mut.result.now.items = ap (list_at all) (sym c.slot-slot.ensures.is) ∙ list_here (λ v. v.items) lists c.slot-slot.result c.index_mut.result.now c.slot-slot.ensures.inside c.index_mut.ensures.value in
    set_list (λ v. v.items) lists c.slot-slot.result c.push.new.self (bucket all c.args.key ++ c.args.number ∷ []) (c.in_ok-push.ensures.items ∙ ap (λ xs. xs ++ c.args.number ∷ []) (sym b))
    ∙ ap (λ i. slice_set all i (bucket all c.args.key ++ c.args.number ∷ [])) c.slot-slot.ensures.is
