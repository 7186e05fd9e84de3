-- Closed lists, cell by cell.
use Rattle.std.proofs.Common.{ℕ, zero, suc, ◌≡◌, ◌<◌, ◌≤◌, ◌+◌, ◌⊎◌, inl, inr, List, [], ◌∷◌, ◌++◌, length, map, take, get_or, Option, None, Some, refl, sym, ◌∙◌, ap, subst, arith, length-append, append_assoc}
use Rattle.std.specs.Prelude.{All, slice_index_or}
use Rattle.fs_graph.specs.declared.graph.Node.{Node}
use Rattle.lexicon.specs.Words.{Each}
use Rattle.std.proofs.lemmas.List.{append-nil, take_more, map-append}
use Rattle.type_hierarchy.specs.Table.{TypeTable}
use Rattle.fs_model.specs.Claims.{Path}
use Rattle.fs_model.specs.Table.{walk}
use Rattle.fs_model.proofs.TableLemmas.{walk-append, walk-step, walk_ends}
use Rattle.fs_graph.specs.GraphMap.{GraphMap, IsGraph, table_of, type_at, arcs_at, arc_to, node_at}
use Rattle.closed_lists.specs.Names.{ListTree}
use Rattle.closed_lists.specs.Lists.{IsAtOrBelow, arc_named, Elements, ends, goes_on, HasList, IsListAt}
use Rattle.closed_lists.specs.Inner.Walked.{IsReached, AreElements}

-- what a cell's list has
pub record Beginning (types : TypeTable) (names : ListTree) (g : GraphMap) (first rest : ℕ) (elements : List ℕ) : Type 0 where
  pub more : List ℕ
  pub is : elements ≡ first ∷ more
  pub others : Elements types names g rest more

same_some : (a b : ℕ) (o : Option ℕ) → o ≡ Some a → o ≡ Some b → a ≡ b
same_some a b o e f = let z : Some a ≡ Some b = sym e ∙ f in cc

pub at_end : (types : TypeTable) (names : ListTree) (g : GraphMap) (n : ℕ) (elements : List ℕ) → IsAtOrBelow types (type_at g n) names.null → Elements types names g n elements → elements ≡ []
at_end types names g n elements h (ends _ k) = refl
at_end types names g n elements h (goes_on _ first rest more open_ c f r m) = absurd (open_ h)

pub at_cell : (types : TypeTable) (names : ListTree) (g : GraphMap) (n first rest : ℕ) (elements : List ℕ) → (IsAtOrBelow types (type_at g n) names.null → ⊥) → arc_named g n names.first ≡ Some first → arc_named g n names.rest ≡ Some rest
    → Elements types names g n elements → Beginning types names g first rest elements
at_cell types names g n first rest elements open_ f r (ends _ k) = absurd (open_ k)
at_cell types names g n first rest elements open_ f r (goes_on _ a b more _ _ fa rb m) =
    record {
      more = more;
      is = ap (λ x. x ∷ more) (same_some a first (arc_named g n names.first) fa f);
      others = subst (λ x. Elements types names g x more) (same_some b rest (arc_named g n names.rest) rb r) m;
    }

pub no_cell : (types : TypeTable) (names : ListTree) (g : GraphMap) (n : ℕ) (elements : List ℕ) → (IsAtOrBelow types (type_at g n) names.null → ⊥) → (IsAtOrBelow types (type_at g n) names.cons → ⊥) → Elements types names g n elements → ⊥
no_cell types names g n elements open_ nor (ends _ k) = open_ k
no_cell types names g n elements open_ nor (goes_on _ a b more _ c _ _ _) = nor c

none_some : (a : ℕ) (o : Option ℕ) → o ≡ None → o ≡ Some a → ⊥
none_some a o e f = let z : None ≡ Some a = sym e ∙ f in cc

pub no_first : (types : TypeTable) (names : ListTree) (g : GraphMap) (n : ℕ) (elements : List ℕ) → (IsAtOrBelow types (type_at g n) names.null → ⊥) → arc_named g n names.first ≡ None → Elements types names g n elements → ⊥
no_first types names g n elements open_ f (ends _ k) = open_ k
no_first types names g n elements open_ f (goes_on _ a b more _ _ fa _ _) = none_some a (arc_named g n names.first) f fa

pub no_rest : (types : TypeTable) (names : ListTree) (g : GraphMap) (n : ℕ) (elements : List ℕ) → (IsAtOrBelow types (type_at g n) names.null → ⊥) → arc_named g n names.rest ≡ None → Elements types names g n elements → ⊥
no_rest types names g n elements open_ r (ends _ k) = open_ k
no_rest types names g n elements open_ r (goes_on _ a b more _ _ _ rb _) = none_some b (arc_named g n names.rest) r rb

-- a node has one closed list
pub elements_one : (types : TypeTable) (names : ListTree) (g : GraphMap) (n : ℕ) (xs ys : List ℕ) → Elements types names g n xs → Elements types names g n ys → xs ≡ ys
elements_one types names g n xs ys (ends _ h) e = sym (at_end types names g n ys h e)
elements_one types names g n xs ys (goes_on _ first rest more open_ c f r m) e =
    let b = at_cell types names g n first rest ys open_ f r e in
    ap (λ l. first ∷ l) (elements_one types names g rest more b.more m b.others) ∙ sym b.is

-- a node that a path leads to is one of the graph's, and a path leads to what its arc leads to
pub reached_in : (g : GraphMap) (n k : ℕ) → IsGraph g → IsReached g n k → n < length g.types
reached_in g n k is h = (walk_ends (table_of g) is.numbered.table 0 n h.path is.numbered.filled h.leads).0

pub reached_next : (g : GraphMap) (n m f k : ℕ) → IsGraph g → IsReached g n k → arc_to (arcs_at g n) f ≡ Some m → IsReached g m (k + 1)
reached_next g n m f k is h arc =
    record {
      path = h.path ++ f ∷ [];
      leads = walk-append (table_of g) is.numbered.table 0 n h.path (f ∷ []) h.leads ∙ walk-step (table_of g) n m f [] arc;
      long = omega (arith, h.long, length-append h.path (f ∷ []));
    }

pub reached_by : (g : GraphMap) (n m k : ℕ) (f : Option ℕ) → IsGraph g → IsReached g n k → arc_named g n f ≡ Some m → IsReached g m (k + 1)
reached_by g n m k None is h arc = absurd (none_some m None refl arc)
reached_by g n m k (Some f) is h arc = reached_next g n m f k is h arc

-- cells that were passed, and the list at the node after them
pub record Passed (types : TypeTable) (names : ListTree) (g : GraphMap) (start node : ℕ) (out : List ℕ) : Type 0 where
  pub back : (rest : List ℕ) → Elements types names g node rest → Elements types names g start (out ++ rest)
  pub there : (elements : List ℕ) → Elements types names g start elements → (rest : List ℕ) × (elements ≡ out ++ rest) × Elements types names g node rest

pub passed_none : (types : TypeTable) (names : ListTree) (g : GraphMap) (n : ℕ) (out : List ℕ) → out ≡ [] → Passed types names g n n out
passed_none types names g n out e = subst (Passed types names g n n) (sym e) (record { back = λ rest h. h; there = λ elements h. (elements, refl, h) })

pub passed_cell : (types : TypeTable) (names : ListTree) (g : GraphMap) (start node first rest : ℕ) (out new : List ℕ) → (IsAtOrBelow types (type_at g node) names.null → ⊥) → IsAtOrBelow types (type_at g node) names.cons
    → arc_named g node names.first ≡ Some first → arc_named g node names.rest ≡ Some rest → new ≡ out ++ first ∷ [] → Passed types names g start node out → Passed types names g start rest new
passed_cell types names g start node first rest out new open_ c f r e p =
    subst (Passed types names g start rest) (sym e)
    (record {
      back = λ more h. subst (Elements types names g start) (sym (append_assoc out (first ∷ []) more)) (p.back (first ∷ more) (goes_on node first rest more open_ c f r h));
      there = λ elements h. next elements (p.there elements h);
    })
  where
    next : (elements : List ℕ) → (left : List ℕ) × (elements ≡ out ++ left) × Elements types names g node left → (left : List ℕ) × (elements ≡ (out ++ first ∷ []) ++ left) × Elements types names g rest left
    next elements q =
        let b = at_cell types names g node first rest q.0 open_ f r q.2 in
        (b.more, q.1 ∙ ap (λ l. out ++ l) b.is ∙ sym (append_assoc out (first ∷ []) b.more), b.others)

pub passed_all : (types : TypeTable) (names : ListTree) (g : GraphMap) (start node : ℕ) (out : List ℕ) → IsAtOrBelow types (type_at g node) names.null → Passed types names g start node out → Elements types names g start out
passed_all types names g start node out h p = subst (Elements types names g start) (append-nil out) (p.back [] (ends node h))

pub passed_open : (types : TypeTable) (names : ListTree) (g : GraphMap) (start node : ℕ) (out : List ℕ) → ((rest : List ℕ) → Elements types names g node rest → ⊥) → Passed types names g start node out → (elements : List ℕ) → Elements types names g start elements → ⊥
passed_open types names g start node out h p elements e = let q = p.there elements e in h q.0 q.2

-- a path is known once, and at a path stands one closed list
pub somes_one : (p q : List ℕ) → map (λ f. Some f) p ≡ map (λ f. Some f) q → p ≡ q
somes_one [] [] e = refl
somes_one [] (y ∷ ys) e = let z : [] ≡ Some y ∷ map (λ f. Some f) ys = e in cc
somes_one (x ∷ xs) [] e = let z : Some x ∷ map (λ f. Some f) xs ≡ [] = e in cc
somes_one (x ∷ xs) (y ∷ ys) e =
    let z : Some x ∷ map (λ f. Some f) xs ≡ Some y ∷ map (λ f. Some f) ys = e in
    let a : x ≡ y = cc in
    let b : map (λ f. Some f) xs ≡ map (λ f. Some f) ys = cc in
    ap (λ k. k ∷ xs) a ∙ ap (λ l. y ∷ l) (somes_one xs ys b)

pub list_one : (types : TypeTable) (names : ListTree) (g : GraphMap) (path : List (Option ℕ)) (xs ys : List ℕ) → HasList types names g path xs → HasList types names g path ys → xs ≡ ys
list_one types names g path xs ys h k =
    let same : h.known ≡ k.known = somes_one h.known k.known (sym h.features ∙ k.features) in
    let node : h.node ≡ k.node = (let z : Some h.node ≡ Some k.node = sym h.at ∙ ap (node_at g) same ∙ k.at in cc) in
    elements_one types names g k.node xs ys (subst (λ n. Elements types names g n xs) node h.list) k.list

pub take_next : {A : Type 0} (xs : List A) (i : ℕ) (x : A) → i < length xs → x ≡ get_or xs i x → take (i + 1) xs ≡ take i xs ++ x ∷ []
take_next xs i x lt e = take_more xs i x lt ∙ ap (λ y. take i xs ++ y ∷ []) (sym e)

-- a feature that the grammar doesn't have
pub unknown_at : {A : Type 0} (f : A → Option ℕ) (xs : List A) (i : ℕ) (x : A) (known : List ℕ) → i < length xs → x ≡ get_or xs i x → f x ≡ None → map f xs ≡ map (λ n. Some n) known → ⊥
unknown_at f [] i x known lt at none e = absurd (omega arith)
unknown_at f (y ∷ ys) i x [] lt at none e = let z : f y ∷ map f ys ≡ [] = e in cc
unknown_at f (y ∷ ys) zero x (k ∷ ks) lt at none e =
    let z : f y ∷ map f ys ≡ Some k ∷ map (λ n. Some n) ks = e in
    let q : f y ≡ Some k = cc in
    none_some k (f x) none (ap f at ∙ q)
unknown_at f (y ∷ ys) (suc i) x (k ∷ ks) lt at none e =
    let z : f y ∷ map f ys ≡ Some k ∷ map (λ n. Some n) ks = e in
    let q : map f ys ≡ map (λ n. Some n) ks = cc in
    unknown_at f ys i x ks (omega arith) at none q

pub known_next : {A B : Type 0} (f : A → Option ℕ) (g : B → ℕ) (xs : List A) (i : ℕ) (x : A) (y : B) (ys zs : List B) → i < length xs → x ≡ get_or xs i x → f x ≡ Some (g y) → zs ≡ ys ++ y ∷ []
    → map f (take i xs) ≡ map (λ n. Some n) (map g ys) → map f (take (i + 1) xs) ≡ map (λ n. Some n) (map g zs)
known_next f g xs i x y ys zs lt at e grown h =
    ap (map f) (take_next xs i x lt at) ∙ map-append f (take i xs) (x ∷ []) ∙ ap (λ l. map f (take i xs) ++ l ∷ []) e ∙ ap (λ l. l ++ Some (g y) ∷ []) h
    ∙ sym (ap (λ l. map (λ n. Some n) (map g l)) grown ∙ ap (map (λ n. Some n)) (map-append g ys (y ∷ [])) ∙ map-append (λ n. Some n) (map g ys) (g y ∷ []))

-- the list at a path is the list at the node to which it leads
pub list_found : (types : TypeTable) (names : ListTree) (g : GraphMap) (path : List (Option ℕ)) (known : Path) (node : ℕ) (o : Option (List ℕ)) → path ≡ map (λ f. Some f) known → node_at g known ≡ Some node → AreElements types names g node o → IsListAt types names g path o
list_found types names g path known node None e at none = λ es h.
    let same : h.known ≡ known = somes_one h.known known (sym h.features ∙ e) in
    let here : h.node ≡ node = same_some h.node node (node_at g known) (ap (node_at g) (sym same) ∙ h.at) at in
    none es (subst (λ n. Elements types names g n es) here h.list)
list_found types names g path known node (Some es) e at h = record { known = known; features = e; node = node; at = at; list = h }

pub no_list : (types : TypeTable) (names : ListTree) (g : GraphMap) (path : List (Option ℕ)) (known : Path) → path ≡ map (λ f. Some f) known → node_at g known ≡ None → (es : List ℕ) → HasList types names g path es → ⊥
no_list types names g path known e none es h =
    let same : h.known ≡ known = somes_one h.known known (sym h.features ∙ e) in
    none_some h.node (node_at g known) none (ap (node_at g) (sym same) ∙ h.at)

pub unknown_list : (types : TypeTable) (names : ListTree) (g : GraphMap) (path : List (Option ℕ)) → ((known : Path) → path ≡ map (λ f. Some f) known → ⊥) → (es : List ℕ) → HasList types names g path es → ⊥
unknown_list types names g path none es h = none h.known h.features

-- the elements of a list are nodes of the graph
arc_named_in : (g : GraphMap) (n m : ℕ) (f : Option ℕ) → IsGraph g → n < length g.types → arc_named g n f ≡ Some m → m < length g.types
arc_named_in g n m None is lt e = absurd (none_some m None refl e)
arc_named_in g n m (Some f) is lt e = is.numbered.table.arc_in n f m lt e

elements_in : (types : TypeTable) (names : ListTree) (g : GraphMap) (n : ℕ) (es : List ℕ) → IsGraph g → n < length g.types → Elements types names g n es → Each (λ m. m < length g.types) es
elements_in types names g n es is lt (ends _ h) = tt
elements_in types names g n es is lt (goes_on _ first rest more nn c f r m) = (arc_named_in g n first names.first is lt f, elements_in types names g rest more is (arc_named_in g n rest names.rest is lt r) m)

pub list_in : (types : TypeTable) (names : ListTree) (g : GraphMap) (path : List (Option ℕ)) (es : List ℕ) → IsGraph g → HasList types names g path es → Each (λ m. m < length g.types) es
list_in types names g path es is h = elements_in types names g h.node es is ((walk_ends (table_of g) is.numbered.table 0 h.node h.known is.numbered.filled h.at).0) h.list

pub nodes_in : (nodes : List Node) (size : ℕ) → Each (λ m. m < size) (map (λ n. n.0) nodes) → All (λ n. n.0 < size) nodes
nodes_in [] size h = λ k d lt. absurd (omega arith)
nodes_in (x ∷ xs) size h = λ k d lt. go (nodes_in xs size h.1) k d lt
  where
    go : All (λ n. n.0 < size) xs → (k : ℕ) (d : Node) → k < length (x ∷ xs) → (slice_index_or (x ∷ xs) k d).0 < size
    go rest zero d lt = h.0
    go rest (suc k) d lt = rest k d (omega arith)

-- the numbers of nodes, one after another
pub number_at : (xs : List Node) (i : ℕ) (d : Node) → i < length xs → (get_or xs i d).0 ≡ get_or (map (λ n. n.0) xs) i 0
number_at [] i d lt = absurd (omega arith)
number_at (x ∷ xs) zero d lt = refl
number_at (x ∷ xs) (suc i) d lt = number_at xs i d (omega arith)

pub numbers_more : (xs : List Node) (i : ℕ) (d : Node) → i < length xs → map (λ n. n.0) (take (i + 1) xs) ≡ map (λ n. n.0) (take i xs) ++ (get_or xs i d).0 ∷ []
numbers_more xs i d lt = ap (map (λ n. n.0)) (take_more xs i d lt) ∙ map-append (λ n. n.0) (take i xs) (get_or xs i d ∷ [])
