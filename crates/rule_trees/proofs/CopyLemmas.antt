-- A cut that cuts nothing off, and one structure as two graphs.
use Rattle.std.proofs.Common.{◌≡◌, true, List, [], ◌∷◌, None, refl, sym, subst}
use Rattle.std.specs.Prelude.{not, if◌then◌else◌}
use Rattle.std.specs.List.{list_all}
use Rattle.fs_model.specs.Claims.{Path, System, IsOrder}
use Rattle.fs_model.specs.Sources.{Reader, IsSameStructure, Subsumes}
use Rattle.tree_model.specs.Cuts.{Cut, has_feature, is_kept}
use Rattle.tree_model.specs.Views.{view, without, IsKeptOf}
use Rattle.tree_model.proofs.Overs.{over_one}
use Rattle.tree_model.proofs.ViewLemmas.{subsumes_over}

abbrev no_cut : Cut
no_cut = record { at_root = []; anywhere = [] }

all_left : (p : Path) → list_all (λ g. not (has_feature [] g)) p ≡ true
all_left [] = refl
all_left (f ∷ p) = all_left p

all_kept : (p : Path) → is_kept no_cut p ≡ true
all_kept [] = refl
all_kept (f ∷ p) = all_left (f ∷ p)

without_none : (r : Reader) → without no_cut r ≡ r
without_none r = λ i. record { node_at = λ p. (same p) i; type_of = r.type_of }
  where
    same : (p : Path) → (if is_kept no_cut p then r.node_at p else None) ≡ r.node_at p
    same p = rw (all_kept p) refl

pub same_kept : (cut : Cut) (r k : Reader) → cut ≡ no_cut → IsKeptOf cut r k → IsSameStructure r k
same_kept cut r k e h = subst (λ a. IsSameStructure a k) (without_none r) (subst (λ c. IsKeptOf c r k) e h)

subsumed : (s : System) → IsOrder s → (a b : Reader) → IsSameStructure a b → Subsumes s a b
subsumed s o a b h = record {
  paths = h.there;
  equalities = λ p q n m x y z. h.equal p q n m x y z;
  types = λ p n m x y. subst (λ t. s.is_below t (a.type_of n) ≡ true) (h.types p n m x y) (o.reflexive (a.type_of n));
}

subsumed_back : (s : System) → IsOrder s → (a b : Reader) → IsSameStructure a b → Subsumes s b a
subsumed_back s o a b h = record {
  paths = h.there_back;
  equalities = λ p q n m x y z. h.equal_back p q n m x y z;
  types = λ p n m x y. subst (λ t. s.is_below t (b.type_of n) ≡ true) (sym (h.types p m n y x)) (o.reflexive (b.type_of n));
}

-- graphs of one structure have one view
pub same_view : (s : System) → IsOrder s → (ps : List Path) (a b : Reader) → IsSameStructure a b → view ps a ≡ view ps b
same_view s o ps a b h =
    over_one s (record { reflexive = o.reflexive; transitive = o.transitive; antisymmetric = o.antisymmetric }) (view ps a) (view ps b)
    (subsumes_over s ps a b (subsumed s o a b h)) (subsumes_over s ps b a (subsumed_back s o a b h))
