use Rattle.std.proofs.Common.{◌∙◌, map, ap, subst}
use Rattle.std.specs.Option.{option_map}
use Rattle.type_hierarchy.specs.Decls.{texts}
use Rattle.constraint_expand.specs.Books.{feature_named}
use Rattle.book_shapes.specs.Shapes.{AreFound}
use Rattle.grammar_load.proofs.shapes.found_entries.Goals as goal

pub returns : goal.returns
returns c =
    subst (λ o. AreFound c.args.book.now o c.in_ok-entries.entries)
    (ap (map (option_map (λ f. f.0))) c.deref-2.ensures.value ∙ c.in_ok-orth.ensures ∙ ap (λ l. map (feature_named (texts l)) (texts c.args.path.now.items)) c.deref.ensures.value)
    c.in_ok-entries.ensures
