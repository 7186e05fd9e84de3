-- What a book of signs keeps; only private clauses cite it.
use Rattle.std.specs.Prelude.{◌≡◌, List, [], map}
use Rattle.std.specs.List.{AllZip}
use Rattle.fs_model.specs.Claims.{Path}
use Rattle.fs_unify.specs.Owing.{OwedRules, ListsOwed}
use Rattle.fs_trim.specs.Cutting.{owed_of}
use Rattle.tree_model.specs.Cuts.{Cut}
use Rattle.tree_model.specs.Signs.{Kind}
use Rattle.constraint_expand.specs.declared.books.Book.{Book}
use Rattle.constraint_expand.specs.declared.books.Instance.{Instance}
use Rattle.constraint_expand.specs.Books.{numbered_of}
use Rattle.book_shapes.specs.Shapes.{instances_of}
use Rattle.book_signs.specs.Signed.{kind_of, known_of, ArePlaces}
use Rattle.book_signs.specs.Conditions.{IsWhole}
use Rattle.book_signs.specs.Inner.Noted.{AreKinds}
use Rattle.book_signs.specs.declared.kinds.Kinds.{Kinds}

abbrev pub kinds_in : List Instance → List Kind
kinds_in is = map (λ i. kind_of i.status) is

-- the parts belong to the book
pub record AreKept (b : Book) (placings : List (List Path)) (daughters restrictors : Cut) (owed : OwedRules) (kinds : Kinds) : Type 0 where
  pub whole : IsWhole b
  pub placed : AllZip (ArePlaces b) (instances_of b) placings
  pub daughters_are : daughters ≡ record { at_root = known_of (numbered_of b.names).daughter_features; anywhere = [] }
  pub restrictors_are : restrictors ≡ record { at_root = []; anywhere = known_of (numbered_of b.names).restrictors }
  pub owed_are : ListsOwed b.system (owed_of daughters) owed
  pub kinds_are : AreKinds (kinds_in b.instances.items) kinds
