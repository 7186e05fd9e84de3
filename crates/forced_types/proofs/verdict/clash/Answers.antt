use Rattle.std.proofs.Common.{◌≡◌, Some, arith, sym, subst, ap, ◌∙◌}
use Rattle.type_hierarchy.specs.Laws.{HasTypeLaws}
use Rattle.fs_model.specs.Claims.{Has}
use Rattle.fs_graph.specs.Facts.{path_of}
use Rattle.forced_types.specs.Inner.Closed.{walk_in}
use Rattle.forced_types.specs.Inner.Apart.{IsLeastApart}
use Rattle.forced_types.proofs.SoundLemmas.{entry_count}
use Rattle.forced_types.proofs.ClosedLemmas.{walk-ends}
use Rattle.forced_types.proofs.VerdictSteps.{first_clash}
use Rattle.forced_types.proofs.verdict.clash.Goals as goal

pub types-requires : goal.types-requires
types-requires c =
    let t = c.args.nodes.now in
    (walk-ends t c.requires.closed.flat 0 c.in-Some.end (path_of c.deref.result.now) c.requires.closed.filled (sym c.follow.ensures ∙ c.in-Some.is)).0

pub least_apart-requires : goal.least_apart-requires
least_apart-requires c = λ x m.
    let t = c.args.nodes.now in
    let inside = (walk-ends t c.requires.closed.flat 0 c.in-Some.end (path_of c.deref.result.now) c.requires.closed.filled (sym c.follow.ensures ∙ c.in-Some.is)).0 in
    (c.requires.sound.entries.each c.in-Some.end (omega (arith, entry_count t, inside))).type_in x (subst (Has x) c.types.ensures m)

pub returns-in-Some-least_apart : goal.returns-in-Some-least_apart
returns-in-Some-least_apart c =
    let g = c.args.given in
    let t = c.args.nodes.now in
    let walk : walk_in t 0 (path_of c.in_ok-path.path.items) ≡ Some c.in-Some.end =
    ap (λ x. walk_in t 0 (path_of x)) (sym c.deref.ensures.value) ∙ sym c.follow.ensures ∙ c.in-Some.is in
    first_clash g t c.requires.sound c.requires.closed (subst HasTypeLaws c.types-types.ensures c.laws.ensures) (path_of c.in_ok-path.path.items)
    c.in-Some-least_apart.apart c.in-Some.end c.in_ok-path.ensures walk
    (subst (λ x. IsLeastApart g.system.now.types x c.in-Some-least_apart.apart) c.types.ensures c.in-Some-least_apart.ensures.some)
