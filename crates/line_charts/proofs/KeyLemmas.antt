-- How graphs are compared.
use Rattle.std.proofs.Common.{ℕ, ◌≡◌, List, length, map, drop, min, refl, sym, ap, ◌∙◌}
use Rattle.std.specs.declared.cmp.Ordering.{Ordering}
use Rattle.std.specs.declared.cmp.Ordering.TheVariants.{Less, Equal, Greater}
use Rattle.std.specs.Ordering.{ordering_then, nat_cmp, on}
use Rattle.std.specs.Cmp.Lexicographic.{slice_cmp}
use Rattle.type_hierarchy.specs.declared.types.Ty.{Ty}
use Rattle.fs_graph.specs.GraphMap.{GraphMap}
use Rattle.derivation.proofs.Lists.{slice_cmp-on}
use Rattle.derivation.proofs.Orders.{slice_cmp-end}
use Rattle.line_charts.specs.Keys.{compare_arcs, compare_graphs}

-- where one list has ended, by their lengths
pub compared_end : {A : Type 0} (R : A → A → Ordering) (xs ys : List A) (n x y : ℕ) → x ≡ length xs → y ≡ length ys → n ≡ min x y → nat_cmp x y ≡ slice_cmp R (drop n xs) (drop n ys)
compared_end R xs ys n x y a b e = ap (λ k. nat_cmp k y) a ∙ ap (nat_cmp (length xs)) b ∙ sym (slice_cmp-end R xs ys n (e ∙ ap (λ k. min k y) a ∙ ap (min (length xs)) b))

-- types by their numbers
pub types_compared : (ts us : List Ty) (xs ys : List ℕ) → map (λ t. t.0) ts ≡ xs → map (λ t. t.0) us ≡ ys → slice_cmp (on (λ (t : Ty). t.0) nat_cmp) ts us ≡ slice_cmp nat_cmp xs ys
types_compared ts us xs ys a b = slice_cmp-on nat_cmp (λ t. t.0) ts us ∙ ap (λ zs. slice_cmp nat_cmp zs (map (λ t. t.0) us)) a ∙ ap (slice_cmp nat_cmp xs) b

then_differs : (o p : Ordering) → (o ≡ Equal → ⊥) → o ≡ ordering_then o p
then_differs Less p h = refl
then_differs Equal p h = absurd (h refl)
then_differs Greater p h = refl

-- graphs of the same types, and of others
pub graphs_by_arcs : (g h : GraphMap) (o : Ordering) → Equal ≡ slice_cmp nat_cmp g.types h.types → o ≡ slice_cmp (slice_cmp compare_arcs) g.arcs h.arcs → o ≡ compare_graphs g h
graphs_by_arcs g h o e f = f ∙ ap (λ p. ordering_then p (slice_cmp (slice_cmp compare_arcs) g.arcs h.arcs)) e

pub graphs_by_types : (g h : GraphMap) (o : Ordering) → o ≡ slice_cmp nat_cmp g.types h.types → (o ≡ Equal → ⊥) → o ≡ compare_graphs g h
graphs_by_types g h o e n = then_differs o (slice_cmp (slice_cmp compare_arcs) g.arcs h.arcs) n ∙ ap (λ p. ordering_then p (slice_cmp (slice_cmp compare_arcs) g.arcs h.arcs)) e
