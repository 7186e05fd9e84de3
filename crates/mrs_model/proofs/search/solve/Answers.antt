use Rattle.std.proofs.Common.{◌≡◌, ◌∙◌, sym, rules, length, false, replicate}
use Rattle.mrs_model.specs.Inner.State.{task_of}
use Rattle.mrs_model.proofs.Searching.{knows_start}
use Rattle.mrs_model.proofs.Going.{elements_length, all_free, length_free, length_vars}
use Rattle.mrs_model.proofs.search.solve.Goals as goal

pub loop-search-init : goal.loop-search-init
loop-search-init c =
    let r = elements_length c.args.sides.right.now in
    let u : c.in_ok-vec.field-0.items ≡ replicate (length c.args.sides.right.now) false = search rules in
    rw (c.in_ok-with_capacity.ensures.items, u)
    (knows_start (task_of c.args.sides) _ _ _ c.requires.begins (length_free _ ∙ sym r) (λ k. all_free _ k) (c.requires.size ∙ sym (length_vars c.args.sides.vars.left.now)))
