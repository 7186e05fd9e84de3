-- What unification answers: one structure, and none where a table has a clash, a path that is too long or a cycle.
use Rattle.std.proofs.Common.{ℕ, suc, ◌≡◌, ◌≢◌, ◌≤◌, ◌<◌, ◌*◌, Option, Some, None, List, [], ◌∷◌, ◌++◌, length, refl, sym, ◌∙◌, subst, append-nil, arith, length-append}
use Rattle.fs_model.specs.Claims.{Path, Claim, exists_at, System, IsOrder}
use Rattle.fs_model.specs.Closure.{Closure, IsConsistent, IsStructure}
use Rattle.fs_model.specs.Sources.{Reader, IsSameStructure, Source, Told, IsGraphOf, IsUnified, IsSameAnswer}
use Rattle.fs_model.specs.Table.{Table, NodeClaim, by_node, walk}
use Rattle.fs_model.specs.Steps.{Closes}
use Rattle.fs_model.specs.Numbering.{seen, HasHeights}
use Rattle.fs_model.proofs.TableLemmas.{walk-append, walk_ends, Table-structure, Table-typed}
use Rattle.fs_model.proofs.SubsumeLemmas.{walk-height, walk-cycle, repeated}

-- two structures of one closure are one
pub one_structure : (s : System) → IsOrder s → (g : Claim → Type 0) (a b : Reader) → IsGraphOf s g a → IsGraphOf s g b → IsSameStructure a b
one_structure s o g a b x y = record {
  there = λ p n e. (y.paths p).0 ((x.paths p).1 (n, e));
  there_back = λ p n e. (x.paths p).0 ((y.paths p).1 (n, e));
  equal = λ p q n m e f d. ends b.node_at p q m d ((y.equalities p q).0 ((x.equalities p q).1 (n, e, f)));
  equal_back = λ p q n m e f d. ends a.node_at p q m d ((x.equalities p q).0 ((y.equalities p q).1 (n, e, f)));
  types = λ p n m e d. o.antisymmetric _ _ (x.types_above p n _ e (y.types_there p m d)) (y.types_above p m _ d (x.types_there p n e));
}
  where
    ends : (node_at : Path → Option ℕ) (p q : Path) (m : ℕ) → node_at p ≡ Some m → (k : ℕ) × (node_at p ≡ Some k) × (node_at q ≡ Some k) →
        node_at q ≡ Some m
    ends node_at p q m d r = let e : Some m ≡ Some r.0 = sym d ∙ r.1 in r.2 ∙ sym e

pub answer_is_one : (s : System) → IsOrder s → (source : Source) (a b : Option Reader) → IsUnified s source a → IsUnified s source b → IsSameAnswer a b
answer_is_one s o source None None x y = tt
answer_is_one s o source None (Some b) x y = absurd (x y.0)
answer_is_one s o source (Some a) None x y = absurd (y x.0)
answer_is_one s o source (Some a) (Some b) x y = one_structure s o (Told source) a b x.1 y.1

-- a node whose path is too long
pub path_clash : (s : System) (g : Claim → Type 0) (t : Table) (work : List NodeClaim) (w : ℕ → Path) (n : ℕ) → n < t.size →
    Closes s g t work w → s.path_limit < length (w n) → IsConsistent s g → ⊥
path_clash s g t work w n h old long ok =
    let there = subst (λ x. Closure s g (exists_at x)) (append-nil (w n)) (old.sound.stated_in _ (by_node n h)) in
    let short = ok.bounded (w n) there in
    omega arith

-- a walk that is too long
pub walk_clash : (s : System) → IsOrder s → (g : Claim → Type 0) (t : Table) (w : ℕ → Path) (p : Path) (n : ℕ) → Closes s g t [] w →
    walk t 0 p ≡ Some n → s.path_limit < length p → IsConsistent s g → ⊥
walk_clash s o g t w p n old e long ok =
    let there = ((Table-structure s o g t old.table old.filled w old.sound old.complete).paths p).1 (n, e) in
    let short = ok.bounded p there in
    omega arith

not_empty : (q : Path) → q ≢ [] → 0 < length q
not_empty [] apart = absurd (apart refl)
not_empty (f ∷ q) apart = omega arith

-- a cycle
pub cycle_clash : (s : System) → IsOrder s → (g : Claim → Type 0) (t : Table) (w : ℕ → Path) (p q : Path) (n : ℕ) → Closes s g t [] w →
    walk t 0 p ≡ Some n → q ≢ [] → walk t n q ≡ Some n → IsConsistent s g → ⊥
cycle_clash s o g t w p q n old e apart round ok =
    let ends = walk_ends t old.table 0 n p old.filled e in
    let k = suc s.path_limit in
    let turns = walk-cycle t old.table n q ends.1 round k in
    let all = walk-append t old.table 0 n p (repeated k q) e ∙ turns.0 in
    walk_clash s o g t w (p ++ repeated k q) n old all
    (omega (arith, length-append p (repeated k q), turns.1, more k (length q) (not_empty q apart))) ok
  where
    more : (k l : ℕ) → 0 < l → k ≤ k * l
    more k l h = grind arith

-- a table without work, with heights within the limit
pub table_is_unified : (s : System) → IsOrder s → (g : Claim → Type 0) (t : Table) (w : ℕ → Path) (height : ℕ → ℕ) → Closes s g t [] w →
    HasHeights t height → height (t.live 0) ≤ s.path_limit → IsConsistent s g × IsGraphOf s g (seen t)
table_is_unified s o g t w height old falls low = (
  record {
    typed = λ p u v a b. Table-typed s o g t old.table old.filled old.complete p u v a b;
    bounded = bounded;
  },
  structure_is,
)
  where
    structure_is : IsStructure s g (walk t 0) t.type_of
    structure_is = Table-structure s o g t old.table old.filled w old.sound old.complete

    bounded : (p : Path) → Closure s g (exists_at p) → length p ≤ s.path_limit
    bounded p a =
        let end = (structure_is.paths p).0 a in
        omega (arith, walk-height t old.table height falls 0 end.0 p old.filled end.1)
