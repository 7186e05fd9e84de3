-- Nodes at paths of a graph.
use Rattle.std.specs.Prelude.{ℕ, ◌≡◌, ◌<◌, Option, Some, None, [], ◌∷◌, ◌++◌, length}
use Rattle.std.proofs.Common.{refl, sym, ◌∙◌}
use Rattle.fs_model.specs.Claims.{Path}
use Rattle.fs_model.proofs.TableLemmas.{walk-append, walk_ends}
use Rattle.fs_graph.specs.GraphMap.{GraphMap, IsGraph, node_at, table_of, arc_to, arcs_at}

pub some_one : {n m : ℕ} {o : Option ℕ} → o ≡ Some n → o ≡ Some m → n ≡ m
some_one {n} {m} e f = let h : Some n ≡ Some m = sym e ∙ f in cc

module _ (g : GraphMap) (is : IsGraph g) where
  pub node_inside : (p : Path) (n : ℕ) → node_at g p ≡ Some n → n < length g.types
  node_inside p n e = (walk_ends (table_of g) is.numbered.table 0 n p is.numbered.filled e).0

  one_arc : (o : Option ℕ) → elim o as (λ _. Option ℕ) [ None ↦ None | Some m ↦ Some m ] ≡ o
  one_arc None = refl
  one_arc (Some m) = refl

  pub node_next : (p : Path) (n f : ℕ) → node_at g p ≡ Some n → node_at g (p ++ f ∷ []) ≡ arc_to (arcs_at g n) f
  node_next p n f e = walk-append (table_of g) is.numbered.table 0 n p (f ∷ []) e ∙ one_arc (arc_to (arcs_at g n) f)
