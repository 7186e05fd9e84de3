use Rattle.std.proofs.Common.{ℕ, ◌≡◌, ◌+◌, ◌∙◌, nat_eq, length, vec_len, arith, rules}
use Rattle.scope_model.proofs.Count.{count}
use Rattle.scope_resolve.specs.Inner.Nets.{frame_in}
use Rattle.scope_resolve.proofs.Rooms.{unequal}
use Rattle.scope_resolve.proofs.resolving.has_room.Goals as goal

pub returns : goal.returns
returns c = λ e p r.
    let n = c.args.net.now in
    let labels : vec_len n.labels ≡ length n.labels.items = search rules in
    let openings : vec_len n.parts.openings ≡ length n.parts.openings.items = search rules in
    let one = count (frame_in n.parts) p r n.labels.items c.requires.once c.requires.labels in
    unequal c.len.result (c.len-2.result + 1) e (omega (arith, c.len.ensures, c.len-2.ensures, labels, openings, one))
