use Rattle.std.proofs.Common.{arith, drop, take, length, ◌∙◌, ◌-◌, ◌≤◌, ap, sym, subst, ◌≡◌}
use Rattle.std.proofs.lemmas.List.{length-take-le}
use Rattle.lkb_io.proofs.Ends.{take-given}
use Rattle.lkb_io.proofs.Greatest.{up_to-within}
use Rattle.lkb_io.proofs.memory.MemSourceSource.read.Goals as goal

pub returns-clause-ok : goal.returns-clause-ok
returns-clause-ok c =
    let bytes = c.self.inside.bytes.items in
    let at = c.self.inside.at in
    let count = c.up_to-count.result in
    let same = c.deref-2.ensures.value in
    let chosen = c.up_to-count.ensures in
    let least = c.min.ensures in
    let below = up_to-within c.self.inside.greatest c.min.result in
    let within : count ≤ length c.args.into.now = omega (arith, chosen, least, below) in
    let given = c.copy_from_slice.ensures in
    sym (ap (λ v. v.left) c.self.view_is) ∙ take-given bytes c.copy_from_slice.new.self (drop count c.args.into.now) at count
    (given.len ∙ length-take-le count c.args.into.now within)
    (subst (λ bs. c.copy_from_slice.new.self ≡ take count (take (length bs - at) (drop at bs))) same given.after)
