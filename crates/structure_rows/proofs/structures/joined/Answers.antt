use Rattle.std.proofs.Common.{◌<◌, All, refl, sym, ap, subst}
use Rattle.fs_graph.specs.Facts.{path_of}
use Rattle.fs_unify.proofs.SampleLemmas.{two_placed}
use Rattle.structure_rows.proofs.structures.joined.Goals as goal

pub unifies-requires-clause-parts : goal.unifies-requires-clause-parts
unifies-requires-clause-parts c =
    let at = path_of c.args.at.items in
    two_placed c.args.system.now (path_of c.new.result.items) at c.args.a.now c.args.b.now c.new-parts.result c.add.new.self c.add_closed.new.self
    c.new-parts.ensures c.in_ok-add.ensures.ok c.in_ok-add_closed.ensures.ok (ap path_of c.new.ensures.items)
    (subst (λ n. All (λ f. f < n) at) (sym c.requires.feats)
    (subst (λ fs. All (λ f. f < 5) (path_of fs)) c.deref.ensures.value (c.if-not-path_in.ensures refl)))
    c.requires.a c.requires.b

pub unify-requires-clause-parts : goal.unify-requires-clause-parts
unify-requires-clause-parts c =
    let at = path_of c.args.at.items in
    two_placed c.args.system.now (path_of c.new.result.items) at c.args.a.now c.args.b.now c.new-parts.result c.add.new.self c.add_closed.new.self
    c.new-parts.ensures c.in_ok-add.ensures.ok c.in_ok-add_closed.ensures.ok (ap path_of c.new.ensures.items)
    (subst (λ n. All (λ f. f < n) at) (sym c.requires.feats)
    (subst (λ fs. All (λ f. f < 5) (path_of fs)) c.deref.ensures.value (c.if-not-path_in.ensures refl)))
    c.requires.a c.requires.b
