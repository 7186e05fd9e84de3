-- What is asked of a book.
use Rattle.std.specs.Prelude.{◌≡◌, length}
use Rattle.fs_model.specs.Claims.{IsBare}
use Rattle.fs_model.specs.Closure.{IsConsistent}
use Rattle.fs_model.specs.Sources.{Told}
use Rattle.fs_graph.specs.GraphMap.{GraphMap, reader_of}
use Rattle.fs_unify.specs.Rules.{Grammar, system_of}
use Rattle.fs_unify.specs.Placing.{IsAnswerIn}
use Rattle.tree_model.specs.Views.{source_alone}
use Rattle.constraint_expand.specs.declared.books.Book.{Book}
use Rattle.lexicon.specs.Words.{Each}
use Rattle.book_shapes.specs.Shapes.{instances_of, AreReadable, HasItsDaughters}

-- a structure is consistent and closed under the type system
pub record IsClosed (g : Grammar) (structure : GraphMap) : Type 0 where
  pub answer : IsAnswerIn g structure
  pub consistent : IsConsistent (system_of g) (Told (source_alone (reader_of structure)))

-- Nothing is said of the top type, and each feature has its introducer; the structure of each instance is consistent and closed, and
-- its lists can be read; rules have their daughters.
pub record IsWhole (b : Book) : Type 0 where
  pub features : length b.feats.items ≡ length b.system.introducers
  pub bare : IsBare (system_of b.system)
  pub closed : Each (λ i. IsClosed b.system i.structure) (instances_of b)
  pub readable : AreReadable b
  pub daughters : Each (HasItsDaughters b) (instances_of b)
