-- The instances of a book can be read.
use Rattle.std.proofs.Common.{ℕ, ◌≡◌, ◌<◌, List, [], ◌∷◌, take, Option, None, Some, sym, ◌∙◌, ap, arith}
use Rattle.std.specs.Prelude.{IfSome}
use Rattle.std.specs.List.{AllZip}
use Rattle.std.specs.Str.{bytes_eq}
use Rattle.std.proofs.lemmas.List.{length-take}
use Rattle.std.proofs.lemmas.List.Quantifiers.{position-Some}
use Rattle.type_hierarchy.specs.Decls.{Name, texts}
use Rattle.type_hierarchy.specs.Named.{type_named}
use Rattle.type_hierarchy.specs.Table.{TypeTable, count_of, completed_count}
use Rattle.fs_unify.specs.Rules.{Grammar}
use Rattle.constraint_expand.specs.declared.books.Book.{Book}
use Rattle.constraint_expand.specs.Books.{Numbered, numbered_of, numbered_in, InstanceMap, IsInstanceOf, IsBookOf}
use Rattle.grammar_files.specs.Placings.{PlacedTree}
use Rattle.grammar_files.specs.Statements.{instances_in}
use Rattle.constraint_expand.specs.Systems.{Settled}
use Rattle.lexicon.specs.Words.{Each}
use Rattle.closed_lists.specs.Names.{IsReadable}
use Rattle.book_shapes.specs.Shapes.{lists_of, instances_of, AreReadable}

-- a completed type that has a name is one of the types
type_in : (types : TypeTable) (n : Name) (k : ℕ) → type_named types n ≡ Some k → k < count_of types
type_in types n k e =
    let p = position-Some (bytes_eq n) (take (completed_count types) types.names) k [] e in
    omega (arith, p.0, length-take (completed_count types) types.names)

named_in : (types : TypeTable) (n : Name) (o : Option ℕ) → o ≡ type_named types n → IfSome o (λ t. t < count_of types)
named_in types n None e = tt
named_in types n (Some k) e = type_in types n k (sym e)

readable_one : (g : Grammar) (s : Settled) (feats : List Name) (names : Numbered) (p : PlacedTree) (i : InstanceMap) → names ≡ numbered_in g.types feats s → IsInstanceOf g s feats p i → IsReadable g.types (lists_of names) g.path_limit i.structure
readable_one g s feats names p i e h =
    record {
      types_in = h.answer.graph_in.types_in;
      cons_in = named_in g.types s.lists.cons names.cons (ap (λ n. n.cons) e);
      null_in = named_in g.types s.lists.null names.null (ap (λ n. n.null) e);
      bounded = λ path n at. h.structure.0.bounded path ((h.structure.1.paths path).1 (n, at));
    }

readable_each : (g : Grammar) (s : Settled) (feats : List Name) (names : Numbered) (ps : List PlacedTree) (is : List InstanceMap) → names ≡ numbered_in g.types feats s → AllZip (IsInstanceOf g s feats) ps is
    → Each (λ i. IsReadable g.types (lists_of names) g.path_limit i.structure) is
readable_each g s feats names [] [] e h = tt
readable_each g s feats names [] (i ∷ is) e h = absurd h
readable_each g s feats names (p ∷ ps) [] e h = absurd h
readable_each g s feats names (p ∷ ps) (i ∷ is) e h = (readable_one g s feats names p i e h.0, readable_each g s feats names ps is e h.1)

pub readable : (types : TypeTable) (s : Settled) (ps : List PlacedTree) (b : Book) → IsBookOf types s ps b → AreReadable b
readable types s ps b h =
    readable_each b.system s (texts b.feats.items) (numbered_of b.names) (instances_in ps) (instances_of b)
    (h.names ∙ ap (λ t. numbered_in t (texts b.feats.items) s) (sym h.system.types_are)) h.instances
