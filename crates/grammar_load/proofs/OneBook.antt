-- The statements of a grammar have one book, up to how its structures' nodes are numbered.
use Rattle.std.proofs.Common.{ℕ, ◌≡◌, ◌<◌, List, [], ◌∷◌, take, Some, sym, ◌∙◌, ap, subst, arith, length-take}
use Rattle.std.specs.List.{AllZip, range_with_len}
use Rattle.std.specs.Str.{bytes_eq}
use Rattle.std.proofs.lemmas.List.Quantifiers.{position-Some}
use Rattle.type_hierarchy.specs.Decls.{Name, texts}
use Rattle.type_hierarchy.specs.Laws.{HasTypeLaws}
use Rattle.type_hierarchy.specs.Named.{type_named}
use Rattle.type_hierarchy.specs.Table.{TypeTable, completed_count}
use Rattle.fs_model.specs.Laws.{AnswerIsOne}
use Rattle.fs_model.specs.Sources.{Reader, IsSameStructure, IsUnified}
use Rattle.fs_graph.specs.GraphMap.{reader_of}
use Rattle.fs_unify.specs.Given.{facts_source}
use Rattle.fs_unify.specs.Rules.{Grammar, system_of}
use Rattle.fs_unify.proofs.GivenLemmas.{order_of_laws}
use Rattle.grammar_files.specs.Placings.{PlacedTree}
use Rattle.grammar_files.specs.Statements.{instances_in}
use Rattle.constraint_expand.specs.declared.books.Book.{Book}
use Rattle.constraint_expand.specs.Books.{numbered_in, IsInstanceOf, IsConstraintOf, IsBookOf}
use Rattle.constraint_expand.specs.Systems.{Settled, constraint_claims, instance_claims, words_of}
use Rattle.grammar_load.specs.Outcomes.{AreSameGraphs, IsSameInstance, IsSameBook}
use Rattle.grammar_load.proofs.OneSystem.{one-system}
use Rattle.book_shapes.specs.Shapes.{instances_of}

pub type-there : (types : TypeTable) (name : Name) (t : ℕ) → type_named types name ≡ Some t → t < completed_count types
type-there types name t e =
    let r = position-Some (bytes_eq name) (take (completed_count types) types.names) t [] e in
    omega (arith, r.0, length-take (completed_count types) types.names)

-- what stands beside one list in two ways
zip_two : {A B C : Type 0} (R : A → B → Type 0) (Q : A → C → Type 0) (S : B → C → Type 0) → ((x : A) (y : B) (z : C) → R x y → Q x z → S y z) → (xs : List A) (ys : List B) (zs : List C) → AllZip R xs ys → AllZip Q xs zs → AllZip S ys zs
zip_two R Q S to [] [] [] a b = tt
zip_two R Q S to [] [] (z ∷ zs) a b = absurd b
zip_two R Q S to [] (y ∷ ys) zs a b = absurd a
zip_two R Q S to (x ∷ xs) [] zs a b = absurd a
zip_two R Q S to (x ∷ xs) (y ∷ ys) [] a b = absurd b
zip_two R Q S to (x ∷ xs) (y ∷ ys) (z ∷ zs) a b = (to x y z a.0 b.0, zip_two R Q S to xs ys zs a.1 b.1)

-- one structure of the same claims under one type system
one_graph : AnswerIsOne → (g : Grammar) → HasTypeLaws g.types → (claims : List _) (a b : Reader) → IsUnified (system_of g) (facts_source claims) (Some a) → IsUnified (system_of g) (facts_source claims) (Some b) → IsSameStructure a b
one_graph one g laws claims a b x y = one (system_of g) (order_of_laws g laws) (facts_source claims) (Some a) (Some b) x y

module _ (one : AnswerIsOne) (types : TypeTable) (s : Settled) (ps : List PlacedTree) (laws : HasTypeLaws types) (b c : Book) (x : IsBookOf types s ps b) (y : IsBookOf types s ps c) where
  same : (texts b.feats.items ≡ texts c.feats.items) × (b.system ≡ c.system)
  same = one-system types s ps laws (texts b.feats.items) (texts c.feats.items) b.system c.system x.system y.system

  own : HasTypeLaws c.system.types
  own = subst HasTypeLaws (sym y.system.types_are) laws

  constraints : AreSameGraphs b.constraints.items c.constraints.items
  constraints =
      zip_two (IsConstraintOf c.system) (IsConstraintOf c.system) (λ g h. IsSameStructure (reader_of g) (reader_of h))
      (λ t g h p q. one_graph one c.system own (constraint_claims t) (reader_of g) (reader_of h) p.structure q.structure)
      (range_with_len 0 (completed_count c.system.types)) b.constraints.items c.constraints.items
      (subst (λ (g : Grammar). AllZip (IsConstraintOf g) (range_with_len 0 (completed_count g.types)) b.constraints.items) same.1 x.constraints) y.constraints

  instances : AllZip IsSameInstance (instances_of b) (instances_of c)
  instances =
      let feats = texts c.feats.items in
      zip_two (IsInstanceOf c.system s feats) (IsInstanceOf c.system s feats) IsSameInstance
      (λ p i j u v. record {
        status = u.status ∙ sym v.status;
        structure = one_graph one c.system own (instance_claims (words_of c.system.types s.lists feats) p) (reader_of i.structure) (reader_of j.structure) u.structure v.structure;
      })
      (instances_in ps) (instances_of b) (instances_of c)
      (subst (λ (g : Grammar). AllZip (IsInstanceOf g s feats) (instances_in ps) (instances_of b)) same.1
      (subst (λ (f : List Name). AllZip (IsInstanceOf b.system s f) (instances_in ps) (instances_of b)) same.0 x.instances))
      y.instances

  pub one_book : IsSameBook b c
  one_book =
      record {
        system = same.1;
        features = same.0;
        constraints = constraints;
        instances = instances;
        numbered = x.names ∙ ap (λ f. numbered_in types f s) same.0 ∙ sym y.names;
      }
