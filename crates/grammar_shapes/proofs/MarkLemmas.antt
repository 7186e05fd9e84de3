-- Graphs of one structure stand for one structure.
use Rattle.std.proofs.Common.{◌≡◌, true, List, sym, subst}
use Rattle.fs_model.specs.Claims.{Path, System}
use Rattle.fs_model.specs.Sources.{Reader, IsSameStructure, Subsumes}
use Rattle.tree_model.specs.Structures.{IsPartialOrder}
use Rattle.tree_model.specs.Views.{view}
use Rattle.tree_model.proofs.Overs.{over_one}
use Rattle.tree_model.proofs.ViewLemmas.{subsumes_over}

subsumed : (s : System) → IsPartialOrder s → (a b : Reader) → IsSameStructure a b → Subsumes s a b
subsumed s o a b h = record {
  paths = h.there;
  equalities = λ p q n m x y z. h.equal p q n m x y z;
  types = λ p n m x y. subst (λ t. s.is_below t (a.type_of n) ≡ true) (h.types p n m x y) (o.reflexive (a.type_of n));
}

subsumed_back : (s : System) → IsPartialOrder s → (a b : Reader) → IsSameStructure a b → Subsumes s b a
subsumed_back s o a b h = record {
  paths = h.there_back;
  equalities = λ p q n m x y z. h.equal_back p q n m x y z;
  types = λ p n m x y. subst (λ t. s.is_below t (b.type_of n) ≡ true) (sym (h.types p m n y x)) (o.reflexive (b.type_of n));
}

pub same_view : (s : System) → IsPartialOrder s → (ps : List Path) (a b : Reader) → IsSameStructure a b → view ps a ≡ view ps b
same_view s o ps a b h =
    over_one s o (view ps a) (view ps b)
    (subsumes_over s ps a b (subsumed s o a b h)) (subsumes_over s ps b a (subsumed_back s o a b h))
