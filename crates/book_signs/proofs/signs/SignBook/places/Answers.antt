use Rattle.std.proofs.Common.{◌≡◌, ◌<◌, ◌∙◌, length, map, Some, ap, sym, subst, arith}
use Rattle.std.proofs.lemmas.List.{length-map}
use Rattle.constraint_expand.specs.Books.{instance_of}
use Rattle.book_shapes.specs.Shapes.{instances_of}
use Rattle.book_shapes.proofs.PlaceLemmas.{seen_at, each_at}
use Rattle.book_signs.specs.Signed.{ArePlaces}
use Rattle.book_signs.specs.Conditions.{IsClosed}
use Rattle.book_signs.specs.Trees.{SignTree, paths_of, signs_of, places_at, ArePathsIn}
use Rattle.book_signs.proofs.SignLemmas.{within, places_there, places_within, zip_at}
use Rattle.book_signs.proofs.signs.SignBook.places.Goals as goal

pub index-requires : goal.index-requires
index-requires c =
    let b = c.self.inside.book.now in
    let placings = map (λ p. paths_of p.items) c.self.inside.places.items in
    let z = within b placings c.args.place c.self.invariant.placed (subst (λ (t : SignTree). c.args.place < length (signs_of t).instances) (sym c.self.view_is) c.requires) in
    omega (arith, z.0, b.instances.ok.0)

pub index-requires-2 : goal.index-requires-2
index-requires-2 c =
    let b = c.self.inside.book.now in
    let placings = map (λ p. paths_of p.items) c.self.inside.places.items in
    let z = within b placings c.args.place c.self.invariant.placed (subst (λ (t : SignTree). c.args.place < length (signs_of t).instances) (sym c.self.view_is) c.requires) in
    omega (arith, z.1, length-map c.self.inside.places.items (λ p. paths_of p.items), c.self.inside.places.ok.0)

pub returns-clause-places : goal.returns-clause-places
returns-clause-places c =
    let b = c.self.inside.book.now in
    let placings = map (λ p. paths_of p.items) c.self.inside.places.items in
    let z = within b placings c.args.place c.self.invariant.placed (subst (λ (t : SignTree). c.args.place < length (signs_of t).instances) (sym c.self.view_is) c.requires) in
    let lt : c.args.place < length c.self.inside.places.items = omega (arith, z.1, length-map c.self.inside.places.items (λ p. paths_of p.items)) in
    let i = seen_at instance_of b.instances.items c.args.place c.index.result.now z.0 c.index.ensures in
    let p = seen_at (λ p. paths_of p.items) c.self.inside.places.items c.args.place c.index-2.result.now lt c.index-2.ensures in
    subst (λ (t : SignTree). places_at (signs_of t) c.args.place ≡ Some (paths_of c.deref.result.now)) c.self.view_is
    (places_there b placings c.args.place (instance_of c.index.result.now) (paths_of c.index-2.result.now.items) (record { instance_at = i; places_are = p }) ∙ ap (λ l. Some (paths_of l)) (sym c.deref.ensures.value))

pub returns-clause-within : goal.returns-clause-within
returns-clause-within c =
    let b = c.self.inside.book.now in
    let placings = map (λ p. paths_of p.items) c.self.inside.places.items in
    let z = within b placings c.args.place c.self.invariant.placed (subst (λ (t : SignTree). c.args.place < length (signs_of t).instances) (sym c.self.view_is) c.requires) in
    let lt : c.args.place < length c.self.inside.places.items = omega (arith, z.1, length-map c.self.inside.places.items (λ p. paths_of p.items)) in
    let i = seen_at instance_of b.instances.items c.args.place c.index.result.now z.0 c.index.ensures in
    let p = seen_at (λ p. paths_of p.items) c.self.inside.places.items c.args.place c.index-2.result.now lt c.index-2.ensures in
    let here = zip_at (ArePlaces b) (instances_of b) placings c.args.place (instance_of c.index.result.now) (paths_of c.index-2.result.now.items) c.self.invariant.placed i p in
    let closed = each_at (λ i. IsClosed b.system i.structure) (instances_of b) c.args.place (instance_of c.index.result.now) c.self.invariant.whole.closed i in
    subst (λ (t : SignTree). ArePathsIn t.book.system (paths_of c.deref.result.now)) c.self.view_is
    (subst (λ l. ArePathsIn b.system (paths_of l)) (sym c.deref.ensures.value)
    (places_within b (instance_of c.index.result.now) (paths_of c.index-2.result.now.items) c.laws.ensures closed.answer.graph_in here))
