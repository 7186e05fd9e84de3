use Rattle.std.proofs.Common.{◌≡◌, ◌<◌, length, map, Some, sym, subst, arith}
use Rattle.fs_trim.specs.Cutting.{IsShort}
use Rattle.book_signs.specs.Signed.{facts_of}
use Rattle.closed_lists.specs.Names.{IsReadable}
use Rattle.constraint_expand.specs.Books.{numbered_of, instance_of}
use Rattle.book_shapes.specs.Shapes.{lists_of, instances_of}
use Rattle.book_shapes.proofs.PlaceLemmas.{seen_at, each_at}
use Rattle.book_signs.specs.Conditions.{IsClosed}
use Rattle.book_signs.specs.Trees.{SignTree, paths_of, signs_of, facts_at}
use Rattle.book_signs.proofs.SignLemmas.{within, stands_instance, facts_there, short_instance}
use Rattle.book_signs.proofs.signs.SignBook.structure.Goals as goal

pub index-requires : goal.index-requires
index-requires c =
    let b = c.self.inside.book.now in
    let placings = map (λ p. paths_of p.items) c.self.inside.places.items in
    let z = within b placings c.args.place c.self.invariant.placed (subst (λ (t : SignTree). c.args.place < length (signs_of t).instances) (sym c.self.view_is) c.requires) in
    omega (arith, z.0, b.instances.ok.0)

pub returns-clause-facts : goal.returns-clause-facts
returns-clause-facts c =
    let b = c.self.inside.book.now in
    let placings = map (λ p. paths_of p.items) c.self.inside.places.items in
    let z = within b placings c.args.place c.self.invariant.placed (subst (λ (t : SignTree). c.args.place < length (signs_of t).instances) (sym c.self.view_is) c.requires) in
    let s = stands_instance b placings c.args.place c.index.result.now z.0 z.1 c.index.ensures in
    subst (λ (t : SignTree). facts_at (signs_of t) c.args.place ≡ Some (facts_of t.book.system c.index.result.now.structure)) c.self.view_is
    (facts_there b placings c.args.place (instance_of c.index.result.now) s.0 s.1)

pub returns-clause-closed : goal.returns-clause-closed
returns-clause-closed c =
    let b = c.self.inside.book.now in
    let placings = map (λ p. paths_of p.items) c.self.inside.places.items in
    let z = within b placings c.args.place c.self.invariant.placed (subst (λ (t : SignTree). c.args.place < length (signs_of t).instances) (sym c.self.view_is) c.requires) in
    subst (λ (t : SignTree). IsClosed t.book.system c.index.result.now.structure) c.self.view_is
    (each_at (λ i. IsClosed b.system i.structure) (instances_of b) c.args.place (instance_of c.index.result.now) c.self.invariant.whole.closed (seen_at instance_of b.instances.items c.args.place c.index.result.now z.0 c.index.ensures))

pub returns-clause-short : goal.returns-clause-short
returns-clause-short c =
    let b = c.self.inside.book.now in
    let placings = map (λ p. paths_of p.items) c.self.inside.places.items in
    let z = within b placings c.args.place c.self.invariant.placed (subst (λ (t : SignTree). c.args.place < length (signs_of t).instances) (sym c.self.view_is) c.requires) in
    let at = seen_at instance_of b.instances.items c.args.place c.index.result.now z.0 c.index.ensures in
    let lists = lists_of (numbered_of b.names) in
    subst (λ (t : SignTree). IsShort t.book.system c.index.result.now.structure) c.self.view_is
    (short_instance b.system lists c.index.result.now.structure c.laws.ensures
    (each_at (λ i. IsReadable b.system.types lists b.system.path_limit i.structure) (instances_of b) c.args.place (instance_of c.index.result.now) c.self.invariant.whole.readable at)
    (each_at (λ i. IsClosed b.system i.structure) (instances_of b) c.args.place (instance_of c.index.result.now) c.self.invariant.whole.closed at).answer.graph_in)
