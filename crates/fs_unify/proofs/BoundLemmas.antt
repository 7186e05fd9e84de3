-- Bounds of a graph's nodes, arc by arc.
use Rattle.std.proofs.Common.{ℕ, ◌≡◌, ◌≤◌, ◌<◌, ◌+◌, ◌-◌, ◌⊎◌, inl, inr, true, Some, List, [], ◌∷◌, ◌++◌, length, sym, ◌∙◌, ap, subst, arith}
use Rattle.std.specs.List.{slice_get}
use Rattle.std.proofs.lemmas.Bool.{cases_lt}
use Rattle.std.proofs.lemmas.Option.{get_or_from_slice_get, slice_get_within}
use Rattle.type_hierarchy.specs.Table.{count_of, is_below}
use Rattle.fs_model.specs.Claims.{Has, here}
use Rattle.fs_graph.specs.declared.graph.GraphArc.{GraphArc}
use Rattle.fs_graph.specs.GraphMap.{GraphMap, type_at, arcs_at}
use Rattle.fs_closing.specs.declared.tasks.Bound.{Bound}
use Rattle.fs_closing.specs.Rules.{Grammar, system_of}
use Rattle.fs_closing.proofs.HasLemmas.{Has-left, Has-right, Has-either, Has-one, Has-at}
use Rattle.fs_unify.specs.Debts.{HaveBounds}

-- a node's arc has a bound, or needs none
abbrev pub IsBounded : Grammar → GraphMap → List Bound → ℕ → GraphArc → Type 0
IsBounded g graph bounds k a =
    Has (record { node = k; ty = (system_of g).introducer a.feat.0 }) bounds ⊎ (is_below g.types (type_at graph k) ((system_of g).introducer a.feat.0) ≡ true)

-- the last bound is one of them
pub has_last : (bounds : List Bound) (b : Bound) (n ty : ℕ) → slice_get bounds (length bounds - 1) ≡ Some b → b.node ≡ n → b.ty ≡ ty →
    Has (record { node = n; ty = ty }) bounds
has_last bounds b n ty e node type =
    let is = get_or_from_slice_get bounds (length bounds - 1) b b e in
    let has = subst (λ x. Has x bounds) is (Has-at bounds (length bounds - 1) b (slice_get_within bounds (length bounds - 1) b e)) in
    subst (λ m. Has (record { node = m; ty = ty }) bounds) node (subst (λ u. Has (record { node = b.node; ty = u }) bounds) type has)

-- bounds of the nodes before one, and of some of its arcs
pub record AddsBounds (g : Grammar) (graph : GraphMap) (n : ℕ) (taken : List GraphArc) (bounds : List Bound) : Type 0 where
  pub before : (k : ℕ) (a : GraphArc) → k < n → Has a (arcs_at graph k) → IsBounded g graph bounds k a
  pub taken_are : (a : GraphArc) → Has a taken → IsBounded g graph bounds n a
  pub nodes_in : (b : Bound) → Has b bounds → b.node < n + 1
  pub types_in : (b : Bound) → Has b bounds → b.ty < count_of g.types
  pub introduced : (b : Bound) → Has b bounds → (a : GraphArc) × Has a (arcs_at graph b.node) × (b.ty ≡ (system_of g).introducer a.feat.0)

pub adds_none : (g : Grammar) (graph : GraphMap) (n : ℕ) (bounds : List Bound) → HaveBounds g graph n bounds → AddsBounds g graph n [] bounds
adds_none g graph n bounds old = record {
  before = old.introduces;
  taken_are = λ a h. elim h [ ];
  nodes_in = λ b h. let z = old.nodes_in b h in omega (arith, z);
  types_in = old.types_in;
  introduced = old.introduced;
}

-- an arc that has a bound, or needs none
pub adds_bounded : (g : Grammar) (graph : GraphMap) (n : ℕ) (taken taken' : List GraphArc) (a : GraphArc) (bounds : List Bound) → AddsBounds g graph n taken bounds →
    taken' ≡ taken ++ a ∷ [] → IsBounded g graph bounds n a → AddsBounds g graph n taken' bounds
adds_bounded g graph n taken taken' a bounds old is bounded = record {
  before = old.before;
  taken_are = λ x h. one x (Has-either x taken (a ∷ []) (subst (Has x) is h));
  nodes_in = old.nodes_in;
  types_in = old.types_in;
  introduced = old.introduced;
}
  where
    one : (x : GraphArc) → Has x taken ⊎ Has x (a ∷ []) → IsBounded g graph bounds n x
    one x (inl h) = old.taken_are x h
    one x (inr h) = subst (IsBounded g graph bounds n) (sym (Has-one x a h)) bounded

-- an arc that gets one
pub adds_bound : (g : Grammar) (graph : GraphMap) (n : ℕ) (taken taken' : List GraphArc) (a : GraphArc) (bounds bounds' : List Bound) (ty : ℕ) →
    AddsBounds g graph n taken bounds → taken' ≡ taken ++ a ∷ [] → bounds' ≡ bounds ++ (record { node = n; ty = ty }) ∷ [] → Has a (arcs_at graph n) →
    ty ≡ (system_of g).introducer a.feat.0 → ty < count_of g.types → AddsBounds g graph n taken' bounds'
adds_bound g graph n taken taken' a bounds bounds' ty old is more has is_ty ty_in = record {
  before = λ k x h i. still k x (old.before k x h i);
  taken_are = λ x h. one x (Has-either x taken (a ∷ []) (subst (Has x) is h));
  nodes_in = λ b h. node b (split b h);
  types_in = λ b h. type b (split b h);
  introduced = λ b h. arc b (split b h);
}
  where
    new : Bound
    new = record { node = n; ty = ty }

    split : (b : Bound) → Has b bounds' → Has b bounds ⊎ Has b ((record { node = n; ty = ty }) ∷ [])
    split b h = Has-either b bounds ((record { node = n; ty = ty }) ∷ []) (subst (Has b) more h)

    still : (k : ℕ) (x : GraphArc) → IsBounded g graph bounds k x → IsBounded g graph bounds' k x
    still k x (inl h) = inl (subst (Has _) (sym more) (Has-left _ bounds ((record { node = n; ty = ty }) ∷ []) h))
    still k x (inr h) = inr h

    mine : Has (record { node = n; ty = ty }) bounds'
    mine = subst (Has (record { node = n; ty = ty })) (sym more) (Has-right _ bounds ((record { node = n; ty = ty }) ∷ []) here)

    one : (x : GraphArc) → Has x taken ⊎ Has x (a ∷ []) → IsBounded g graph bounds' n x
    one x (inl h) = still n x (old.taken_are x h)
    one x (inr h) =
        inl (subst (λ t. Has (record { node = n; ty = t }) bounds') (is_ty ∙ ap (λ (y : GraphArc). (system_of g).introducer y.feat.0) (sym (Has-one x a h))) mine)

    node : (b : Bound) → Has b bounds ⊎ Has b ((record { node = n; ty = ty }) ∷ []) → b.node < n + 1
    node b (inl h) = old.nodes_in b h
    node b (inr h) = let z : b.node ≡ n = ap (λ (x : Bound). x.node) (Has-one b _ h) in omega (arith, z)

    type : (b : Bound) → Has b bounds ⊎ Has b ((record { node = n; ty = ty }) ∷ []) → b.ty < count_of g.types
    type b (inl h) = old.types_in b h
    type b (inr h) = let z : b.ty ≡ ty = ap (λ (x : Bound). x.ty) (Has-one b _ h) in omega (arith, z, ty_in)

    arc : (b : Bound) → Has b bounds ⊎ Has b ((record { node = n; ty = ty }) ∷ []) → (x : GraphArc) × Has x (arcs_at graph b.node) × (b.ty ≡ (system_of g).introducer x.feat.0)
    arc b (inl h) = old.introduced b h
    arc b (inr h) =
        let e = Has-one b _ h in
        (a, subst (λ k. Has a (arcs_at graph k)) (sym (ap (λ (x : Bound). x.node) e)) has, ap (λ (x : Bound). x.ty) e ∙ is_ty)

-- all arcs of the node
pub adds_all : (g : Grammar) (graph : GraphMap) (n : ℕ) (taken : List GraphArc) (bounds : List Bound) → AddsBounds g graph n taken bounds → taken ≡ arcs_at graph n →
    HaveBounds g graph (n + 1) bounds
adds_all g graph n taken bounds old is = record {
  introduces = λ k a h i. by_place k a h i (cases_lt k n);
  nodes_in = old.nodes_in;
  types_in = old.types_in;
  introduced = old.introduced;
}
  where
    by_place : (k : ℕ) (a : GraphArc) → k < n + 1 → Has a (arcs_at graph k) → (k < n) ⊎ (n ≤ k) → IsBounded g graph bounds k a
    by_place k a h i (inl x) = old.before k a x i
    by_place k a h i (inr x) =
        let e : k ≡ n = omega arith in
        subst (λ m. IsBounded g graph bounds m a) (sym e) (old.taken_are a (subst (Has a) (ap (arcs_at graph) e ∙ sym is) i))

pub bounds_none : (g : Grammar) (graph : GraphMap) → HaveBounds g graph 0 []
bounds_none g graph = record {
  introduces = λ k a h i. absurd (omega arith);
  nodes_in = λ b h. elim h [ ];
  types_in = λ b h. elim h [ ];
  introduced = λ b h. elim h [ ];
}
