-- One instance of a book: what can be read of it, its daughters and its words.
use Rattle.std.proofs.Common.{ℕ, ◌≡◌, ◌<◌, Bool, false, List, length, get_or, Option, sym, subst}
use Rattle.std.specs.Prelude.{◌↔◌, IsTrue}
use Rattle.type_hierarchy.specs.Table.{TypeTable}
use Rattle.constraint_expand.specs.declared.books.Book.{Book}
use Rattle.constraint_expand.specs.declared.books.Instance.{Instance}
use Rattle.constraint_expand.specs.Books.{numbered_of, instance_of}
use Rattle.closed_lists.specs.Names.{ListTree, IsReadable}
use Rattle.book_shapes.specs.Daughters.{HasDaughters}
use Rattle.book_shapes.specs.Shapes.{lists_of, instances_of, AreReadable, HasItsDaughters}
use Rattle.book_shapes.proofs.PlaceLemmas.{seen_at, each_at, clash}

pub readable_at : (b : Book) (i : ℕ) (x : Instance) (types : TypeTable) (names : ListTree) (limit : ℕ) → AreReadable b → i < length b.instances.items → x ≡ get_or b.instances.items i x → types ≡ b.system.types
    → names ≡ lists_of (numbered_of b.names) → limit ≡ b.system.path_limit → IsReadable types names limit x.structure
readable_at b i x types names limit all within at t n l =
    let g = b.system in
    let lists = lists_of (numbered_of b.names) in
    let here : IsReadable g.types lists g.path_limit x.structure =
    each_at (λ y. IsReadable g.types lists g.path_limit y.structure) (instances_of b) i (instance_of x) all (seen_at instance_of b.instances.items i x within at) in
    subst (λ k. IsReadable k names limit x.structure) (sym t) (subst (λ k. IsReadable g.types k limit x.structure) (sym n) (subst (λ k. IsReadable g.types lists k x.structure) (sym l) here))

-- what a test of daughters says of an instance
pub daughters_of : (b : Book) (x : Instance) (types : TypeTable) (names : ListTree) (args : List (Option ℕ)) (r : Bool) → types ≡ b.system.types → names ≡ lists_of (numbered_of b.names) → args ≡ (numbered_of b.names).args_path
    → IsTrue r ↔ HasDaughters types names args x.status x.structure → IsTrue r ↔ HasItsDaughters b (instance_of x)
daughters_of b x types names args r t n a h =
    let g = b.system in
    let lists = lists_of (numbered_of b.names) in
    subst (λ k. IsTrue r ↔ HasDaughters g.types lists k x.status x.structure) a
    (subst (λ k. IsTrue r ↔ HasDaughters g.types k args x.status x.structure) n (subst (λ k. IsTrue r ↔ HasDaughters k names args x.status x.structure) t h))

pub has_none : {P : Type 0} (r : Bool) → r ≡ false → IsTrue r ↔ P → P → ⊥
has_none r f h p = clash r (h.1 p) f
