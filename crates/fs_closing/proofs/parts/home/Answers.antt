use Rattle.std.proofs.Common.{◌≡◌, ◌<◌, length, Some, sym, ◌∙◌, ap, subst, arith}
use Rattle.std.proofs.lemmas.List.{get_or_read}
use Rattle.fs_closing.specs.Beside.{home}
use Rattle.fs_closing.proofs.HomeLemmas.{homes_read}
use Rattle.fs_closing.proofs.parts.home.Goals as goal

pub index-requires : goal.index-requires
index-requires c =
    let homes = c.beside.inside.homes.items in
    let place : c.args.n < length c.beside.inside.homes.items = omega (arith, c.len.ensures, c.beside.inside.homes.ok, c.if-at-len.false) in
    let is = get_or_read homes c.args.n c.index-behind.result.now place c.index-behind.ensures 0 in
    let r = homes_read c.beside.inside.parts.items homes c.args.n c.index-behind.result.now c.beside.invariant is c.if-behind-eq0.false in
    omega (arith, r.0, c.beside.inside.parts.ok)

pub returns : goal.returns
returns c =
    let homes = c.beside.inside.homes.items in
    let place : c.args.n < length c.beside.inside.homes.items = omega (arith, c.len.ensures, c.beside.inside.homes.ok, c.if-at-len.false) in
    let is = get_or_read homes c.args.n c.index-behind.result.now place c.index-behind.ensures 0 in
    let r = homes_read c.beside.inside.parts.items homes c.args.n c.index-behind.result.now c.beside.invariant is c.if-behind-eq0.false in
    subst (λ l. Some c.index.result.now ≡ home c.args.n l) c.beside.view_is (ap Some c.index.ensures ∙ sym (r.1 c.index.result.now))
