use Rattle.std.proofs.Common.{sym, subst, arith}
use Rattle.constraint_expand.specs.declared.books.Book.{Book}
use Rattle.book_signs.specs.Signed.{IsSignsOf}
use Rattle.book_signs.specs.Trees.{signs_of}
use Rattle.tree_names.proofs.Made.{parts_next, parts_whole, as_many}
use Rattle.tree_names.proofs.names.parts_of.Goals as goal

pub part_at-part-requires : goal.part_at-part-requires
part_at-part-requires c =
    let b = c.book-book.result.now in
    let g = signs_of c.args.signs.now in
    let many = as_many b g (subst (λ (x : Book). IsSignsOf x g) (sym c.book-book.ensures) c.laws.ensures.signs) in
    omega (arith, many, b.instances.ok.0)

pub loop-place-preserved : goal.loop-place-preserved
loop-place-preserved c =
    parts_next (signs_of c.args.signs.now).instances c.loop-place.place c.loop-place.parts.items c.push.new.self.items c.part_at-part.result c.in_ok-push.ensures.items c.part_at-part.ensures c.loop-place.invariant

pub returns : goal.returns
returns c =
    let b = c.book-book.result.now in
    let g = signs_of c.args.signs.now in
    let many = as_many b g (subst (λ (x : Book). IsSignsOf x g) (sym c.book-book.ensures) c.laws.ensures.signs) in
    parts_whole g.instances c.loop-place.place c.loop-place.parts.items (omega (arith, many, b.instances.ok.0)) c.loop-place.invariant
