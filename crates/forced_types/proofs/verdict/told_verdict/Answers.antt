use Rattle.std.proofs.Common.{◌≡◌, arith, sym, subst, ap, ◌∙◌}
use Rattle.type_hierarchy.specs.Laws.{HasTypeLaws}
use Rattle.fs_graph.specs.Facts.{path_of}
use Rattle.forced_types.specs.declared.search.Aim.TheVariants.{Clash as ClashAim, Long as LongAim}
use Rattle.forced_types.specs.Inner.Sound.{entry_in}
use Rattle.forced_types.specs.Inner.Search.{AreMarked, mark_at}
use Rattle.forced_types.proofs.VerdictSteps.{no_clash, no_long, first_long}
use Rattle.forced_types.proofs.verdict.told_verdict.Goals as goal

pub returns-then-is_near-2 : goal.returns-then-is_near-2
returns-then-is_near-2 c =
    let g = c.args.given in
    let t = c.args.nodes.now in
    let laws : HasTypeLaws g.system.now.types = subst HasTypeLaws c.types-types.ensures c.laws.ensures in
    let root : c.mark.result ≡ mark_at c.in_ok-clashes.clashes.items (entry_in t 0).up =
    c.mark.ensures ∙ ap (λ l. mark_at l c.up.result) c.deref.ensures.value ∙ ap (mark_at c.in_ok-clashes.clashes.items) c.up.ensures in (
      no_clash g t c.requires.sound c.requires.closed laws c.in_ok-clashes.clashes.items c.in_ok-clashes.ensures
          (λ h. c.is_near.ensures.far c.if-is_near.false (omega (arith, root, c.most.ensures, h))),
      first_long g t c.requires.sound c.requires.closed laws (path_of c.in_ok-path.path.items) c.in_ok-path.ensures,
    )

pub returns : goal.returns
returns c =
    let g = c.args.given in
    let t = c.args.nodes.now in
    let laws : HasTypeLaws g.system.now.types = subst HasTypeLaws c.types-types.ensures c.laws.ensures in
    let root : c.mark.result ≡ mark_at c.in_ok-clashes.clashes.items (entry_in t 0).up =
    c.mark.ensures ∙ ap (λ l. mark_at l c.up.result) c.deref.ensures.value ∙ ap (mark_at c.in_ok-clashes.clashes.items) c.up.ensures in
    let root' : c.mark-2.result ≡ mark_at c.in_ok-lacks.lacks.items (entry_in t 0).up =
    c.mark-2.ensures ∙ ap (λ l. mark_at l c.up-2.result) c.deref-2.ensures.value ∙ ap (mark_at c.in_ok-lacks.lacks.items) c.up-2.ensures in (
      no_clash g t c.requires.sound c.requires.closed laws c.in_ok-clashes.clashes.items c.in_ok-clashes.ensures
          (λ h. c.is_near.ensures.far c.if-is_near.false (omega (arith, root, c.most.ensures, h))),
      no_long g t c.requires.sound c.requires.closed laws c.in_ok-lacks.lacks.items c.in_ok-lacks.ensures
          (λ h. c.is_near-2.ensures.far c.if-is_near-2.false (omega (arith, root', h))),
    )

pub clash-requires-clause-marked : goal.clash-requires-clause-marked
clash-requires-clause-marked c = subst (λ l. AreMarked c.args.given c.args.nodes.now ClashAim l) (sym c.deref-then-is_near.ensures.value) c.in_ok-clashes.ensures

pub path_to-requires-clause-marked : goal.path_to-requires-clause-marked
path_to-requires-clause-marked c = subst (λ l. AreMarked c.args.given c.args.nodes.now LongAim l) (sym c.deref-then-is_near-2.ensures.value) c.in_ok-lacks.ensures
