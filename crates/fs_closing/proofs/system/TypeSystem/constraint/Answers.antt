use Rattle.std.proofs.Common.{◌≡◌, ◌<◌, length, ap, subst, arith}
use Rattle.std.proofs.lemmas.List.{get_or_read}
use Rattle.type_hierarchy.specs.Table.{count_of}
use Rattle.fs_closing.specs.Constraints.{IsConstraint}
use Rattle.fs_closing.specs.Rules.{Grammar}
use Rattle.fs_closing.proofs.KnownLemmas.{knows_at}
use Rattle.fs_closing.proofs.system.TypeSystem.constraint.Goals as goal

pub returns : goal.returns
returns c =
    let starts = c.self.inside.starts.items in
    let x = c.index.result.now in
    let place : c.args.t < length c.self.inside.starts.items =
    omega (arith, c.self.invariant.known.each, ap (λ (g : Grammar). count_of g.types) c.self.view_is, c.requires) in
    let is = get_or_read starts c.args.t c.index-behind.result.now place c.index-behind.ensures 0 in
    subst (λ (g : Grammar). (x.ty ≡ c.args.t) × IsConstraint g c.args.t x.graph) c.self.view_is
    (knows_at _ c.self.inside.known.items starts c.args.t c.index-behind.result.now x c.self.invariant.known is c.if-behind-eq0.false c.index.ensures)
