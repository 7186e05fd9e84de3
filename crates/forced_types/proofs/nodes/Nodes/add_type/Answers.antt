use Rattle.std.proofs.Common.{◌≡◌, ◌<◌, arith, subst, Some}
use Rattle.fs_model.specs.Claims.{Has}
use Rattle.type_hierarchy.specs.Table.{TypeTable, count_of, meet_of}
use Rattle.forced_types.specs.Forced.{met}
use Rattle.forced_types.specs.Inner.Sound.{path_in, entry_in}
use Rattle.forced_types.proofs.SoundLemmas.{entry_count}
use Rattle.forced_types.proofs.nodes.Nodes.add_type.Goals as goal

pub put_in_place-requires-clause-ty : goal.put_in_place-requires-clause-ty
put_in_place-requires-clause-ty c = subst (λ (x : TypeTable). c.in-Some.both < count_of x) c.types.ensures c.in-Some.ensures.within

pub put_in_place-requires-clause-forced : goal.put_in_place-requires-clause-forced
put_in_place-requires-clause-forced c =
    let t = c.args.self.now in
    let at = c.requires.sound.entries.each c.args.n (omega (arith, entry_count t, c.requires.node)) in
    let r = c.in-Some.ensures.common in
    let has : Has r.0 (entry_in t c.args.n).types = subst (Has r.0) c.types-2.ensures r.1 in
    let is : meet_of c.args.given.system.now.types r.0 c.args.ty ≡ Some c.in-Some.both = subst (λ (x : TypeTable). meet_of x r.0 c.args.ty ≡ Some c.in-Some.both) c.types.ensures r.2 in
    met (path_in t c.args.n) r.0 c.args.ty c.in-Some.both (at.type_forced r.0 has) c.requires.forced is
