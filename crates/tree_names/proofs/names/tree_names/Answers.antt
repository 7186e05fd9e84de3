use Rattle.std.proofs.Common.{map, sym, subst}
use Rattle.std.specs.String.{string_bytes}
use Rattle.constraint_expand.specs.declared.books.Book.{Book}
use Rattle.book_signs.specs.Signed.{IsSignsOf}
use Rattle.book_signs.specs.Trees.{signs_of}
use Rattle.grammar_load.specs.Views.{grammar_of}
use Rattle.tree_reading.specs.Grammars.{IsNamedWell, IsNamedApart}
use Rattle.tree_names.proofs.Apart.{named_well, named_apart}
use Rattle.tree_names.proofs.names.tree_names.Goals as goal

pub new-requires-clause-well : goal.new-requires-clause-well
new-requires-clause-well c =
    let g = signs_of c.args.signs.now in
    let is = subst (λ (b : Book). IsSignsOf b g) c.requires.book c.laws.ensures.signs in
    subst (λ ns. IsNamedWell (record { names = map string_bytes ns; parts = c.in_ok-parts.parts.items })) (sym c.deref.ensures.value)
    (subst (λ ps. IsNamedWell (record { names = map string_bytes c.args.grammar.now.names.items; parts = ps })) (sym c.in_ok-parts.ensures)
    (named_well (grammar_of c.args.grammar.now) g c.requires.loaded c.requires.named is))

pub new-requires-clause-apart : goal.new-requires-clause-apart
new-requires-clause-apart c =
    let g = signs_of c.args.signs.now in
    let is = subst (λ (b : Book). IsSignsOf b g) c.requires.book c.laws.ensures.signs in
    subst (λ ns. IsNamedApart (record { names = map string_bytes ns; parts = c.in_ok-parts.parts.items })) (sym c.deref.ensures.value)
    (subst (λ ps. IsNamedApart (record { names = map string_bytes c.args.grammar.now.names.items; parts = ps })) (sym c.in_ok-parts.ensures)
    (named_apart (grammar_of c.args.grammar.now) g c.requires.loaded c.requires.named is))
