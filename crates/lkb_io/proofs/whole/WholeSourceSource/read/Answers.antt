use Rattle.std.proofs.Common.{arith, drop, take, length, ◌∙◌, ◌-◌, ◌≤◌, sym, subst, ◌≡◌}
use Rattle.std.proofs.lemmas.List.{length-take-le}
use Rattle.lkb_io.proofs.Ends.{take-given}
use Rattle.lkb_io.proofs.whole.WholeSourceSource.read.Goals as goal

pub returns-clause-ok : goal.returns-clause-ok
returns-clause-ok c =
    let bytes = c.self.inside.bytes.items in
    let at = c.self.inside.at in
    let count = c.min-count.result in
    let same = c.deref.ensures.value in
    let least = c.min-count.ensures in
    let within : count ≤ length c.args.into.now = omega (arith, least) in
    let given = c.copy_from_slice.ensures in
    sym c.self.view_is ∙ take-given bytes c.copy_from_slice.new.self (drop count c.args.into.now) at count
    (given.len ∙ length-take-le count c.args.into.now within)
    (subst (λ bs. c.copy_from_slice.new.self ≡ take count (take (length bs - at) (drop at bs))) same given.after)
