use Rattle.std.proofs.Common.{◌<◌, ◌∙◌, length, Some, ap, sym, subst, arith}
use Rattle.std.proofs.lemmas.List.{length-map}
use Rattle.fs_graph.specs.Facts.{path_of}
use Rattle.constraint_expand.specs.declared.books.Book.{Book}
use Rattle.constraint_expand.specs.Books.{instance_of}
use Rattle.book_shapes.proofs.PlaceLemmas.{seen_at}
use Rattle.book_signs.specs.Signed.{kind_of, IsSignsOf}
use Rattle.book_signs.specs.Trees.{signs_of, paths_of}
use Rattle.tree_names.specs.TreeGrammars.{part_by}
use Rattle.tree_names.proofs.Made.{part_made, few_places, as_many}
use Rattle.tree_names.proofs.names.part_at.Goals as goal

pub index-instance-requires : goal.index-instance-requires
index-instance-requires c =
    let b = c.book-book.result.now in
    let g = signs_of c.args.signs.now in
    let is = subst (λ (x : Book). IsSignsOf x g) (sym c.book-book.ensures) c.laws.ensures.signs in
    let many = as_many b g is in
    omega (arith, many, b.instances.ok.0, c.requires)

pub overflow_cast-places : goal.overflow_cast-places
overflow_cast-places c =
    let few = few_places (signs_of c.args.signs.now) c.laws.ensures.arities c.args.place (paths_of c.places-places.result.now) c.places-places.ensures.places in
    let same = length-map c.places-places.result.now (λ p. path_of p.items) in
    omega (arith, few, same)

pub returns : goal.returns
returns c =
    let b = c.book-book.result.now in
    let g = signs_of c.args.signs.now in
    let is = subst (λ (x : Book). IsSignsOf x g) (sym c.book-book.ensures) c.laws.ensures.signs in
    let many = as_many b g is in
    let within : c.args.place < length b.instances.items = omega (arith, many, c.requires) in
    let at = seen_at instance_of b.instances.items c.args.place c.index-instance.result.now within c.index-instance.ensures in
    let made = part_made b g is c.args.place (instance_of c.index-instance.result.now) (paths_of c.places-places.result.now) at c.places-places.ensures.places in
    let count = length-map c.places-places.result.now (λ p. path_of p.items) in
    made ∙ (λ k. Some (part_by (kind_of c.index-instance.result.now.status) (count k))) ∙ ap Some (sym c.part_by.ensures)
