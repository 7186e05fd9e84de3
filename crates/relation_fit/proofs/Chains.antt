-- Nodes one after the other along one feature, and walks along lists.
use Rattle.std.specs.Prelude.{ℕ, ◌≡◌, ◌+◌, ◌<◌, ◌≤◌, true, Option, Some, None, Ok, Err, List, [], ◌∷◌, ◌++◌, length, slice_get}
use Rattle.std.proofs.Common.{refl, sym, ◌∙◌, ap, subst, arith, zero, suc}
use Rattle.type_hierarchy.specs.Table.{TypeTable}
use Rattle.fs_model.specs.Table.{walk}
use Rattle.fs_graph.specs.GraphMap.{GraphMap, IsGraph, table_of, arc_to, arc_named, arcs_at, type_at}
use Rattle.mrs_places.specs.Paths.{Feature, Paths}
use Rattle.mrs_places.specs.Looking.{Sought, Place, Walks, at_last, at_null, is_open, no_rest, goes_on, and_more, below, follow}
use Rattle.generate_model.specs.Threads.{times}
use Rattle.relation_fit.specs.Lists.{and_number, numbers}
use Rattle.relation_fit.proofs.Nodes.{some_one}

pub err_ok : {A P : Type 0} (path : List (List ℕ)) (a : A) → Err path ≡ Ok a → P
err_ok path a e = absurd (cc)

pub ok_one : {A : Type 0} (x : Sought A) (a b : A) → x ≡ Ok a → x ≡ Ok b → a ≡ b
ok_one x a b e f = let z : Ok a ≡ Ok b = sym e ∙ f in cc

nil_one : (ns : List ℕ) → Some [] ≡ Some ns → [] ≡ ns
nil_one ns e = cc

-- an element before more that was found
pub more_is : {A : Type 0} (at : A) (cells : List A) (more : Sought (List A)) → and_more at more ≡ Ok cells → (xs : List A) × (more ≡ Ok xs) × (at ∷ xs ≡ cells)
more_is at cells (Err path) o = err_ok path cells o
more_is at cells (Ok xs) o = (xs, refl, ok_one (Ok (at ∷ xs)) (at ∷ xs) cells refl o)

-- a walk that begins with an arc
pub walk_arc : (g : GraphMap) (n f k : ℕ) (q : List ℕ) → arc_to (arcs_at g n) f ≡ Some k → walk (table_of g) n (f ∷ q) ≡ walk (table_of g) k q
walk_arc g n f k q e = ap (λ o. elim o as (λ _. Option ℕ) [ None ↦ None | Some m ↦ walk (table_of g) m q ]) e

module _ (g : GraphMap) (is : IsGraph g) (rest : ℕ) where
  pub data Chain : ℕ → ℕ → ℕ → Type 0 where
    chain_end : {n e : ℕ} → n ≡ e → Chain n 0 e
    chain_more : {n k d e : ℕ} → arc_to (arcs_at g n) rest ≡ Some k → Chain k d e → Chain n (suc d) e

  pub chain_of : (m n e : ℕ) → walk (table_of g) n (times rest m) ≡ Some e → Chain n m e
  chain_of zero n e h = chain_end (let z : Some n ≡ Some e = h in cc)
  chain_of (suc m) n e h = by_arc (arc_to (arcs_at g n) rest) refl h (λ k. chain_of m k e)
    where
      by_arc : (o : Option ℕ) → arc_to (arcs_at g n) rest ≡ o → elim o as (λ _. Option ℕ) [ None ↦ None | Some k ↦ walk (table_of g) k (times rest m) ] ≡ Some e →
          ((k : ℕ) → walk (table_of g) k (times rest m) ≡ Some e → Chain k m e) → Chain n (suc m) e
      by_arc None a h f = absurd (let z : None ≡ Some e = h in cc)
      by_arc (Some k) a h f = chain_more a (f k h)

  arc_inside : (n k : ℕ) → n < length g.types → arc_to (arcs_at g n) rest ≡ Some k → k < length g.types
  arc_inside n k lt a = is.numbered.table.arc_in n rest k lt a

  chain_falls : {n d e : ℕ} → Chain n d e → n < length g.types → is.height e + d ≤ is.height n
  chain_falls (chain_end s) lt = let h = ap is.height s in omega (arith, h)
  chain_falls {n} (chain_more {k = k} a c) lt =
      let f : is.height k < is.height n = is.falls.falls n rest k lt refl a in
      let r = chain_falls c (arc_inside n k lt a) in
      omega (arith, f, r)

  pub no_return : {n d e : ℕ} → Chain n (suc d) e → n < length g.types → n ≡ e → ⊥
  no_return c lt s = let f = chain_falls c lt in let h = ap is.height s in omega (arith, f, h)

  -- a chain between two nodes has one length
  pub chain_one : {n d f e : ℕ} → Chain n d e → Chain n f e → n < length g.types → d ≡ f
  chain_one (chain_end s) (chain_end t) lt = refl
  chain_one (chain_end s) (chain_more a c) lt = absurd (no_return (chain_more a c) lt s)
  chain_one (chain_more a c) (chain_end s) lt = absurd (no_return (chain_more a c) lt s)
  chain_one {n} {e = e} (chain_more {k = k} a c) (chain_more {k = j} {d = f} b h) lt =
      let same : j ≡ k = some_one b a in
      ap suc (chain_one c (subst (λ x. Chain x f e) same h) (arc_inside n k lt a))

  module _ (types : TypeTable) (p : Paths) (rest_is : p.rest.number ≡ Some rest) (last : ℕ)
      (apart : (n k : ℕ) → n < length g.types → arc_to (arcs_at g n) rest ≡ Some k → below types (type_at g n) p.null ≡ true → ⊥) where
    none_long : (cells : List Place) (x : Sought (List Place)) → x ≡ Ok [] → x ≡ Ok cells → length cells ≡ 0
    none_long cells x e f = sym (ap length (ok_one x [] cells e f))

    more_long : (at : Place) (m : ℕ) (cells : List Place) (more : Sought (List Place)) → ((xs : List Place) → more ≡ Ok xs → length xs ≡ m) → and_more at more ≡ Ok cells → length cells ≡ suc m
    more_long at m cells (Err path) f o = err_ok path cells o
    more_long at m cells (Ok xs) f o = sym (ap length (ok_one (Ok (at ∷ xs)) (at ∷ xs) cells refl o)) ∙ ap suc (f xs refl)

    -- a walk that comes to the end of its list has as many cells as there are steps
    pub walk_long : (d : ℕ) (at : Place) → Chain at.node d last → at.node < length g.types → (out : Sought (List Place)) → Walks g types p (Some last) at out → (cells : List Place) → out ≡ Ok cells → length cells ≡ d
    walk_long zero at (chain_end s) lt out (at_last _ e) cells o = none_long cells (Ok []) refl o
    walk_long zero at (chain_end s) lt out (at_null _ e) cells o = none_long cells (Ok []) refl o
    walk_long zero at (chain_end s) lt out (is_open _ l n q) cells o = absurd (l (ap Some (sym s)))
    walk_long zero at (chain_end s) lt out (no_rest _ l n q r) cells o = absurd (l (ap Some (sym s)))
    walk_long zero at (chain_end s) lt out (goes_on _ next more l n q r w) cells o = absurd (l (ap Some (sym s)))
    walk_long (suc m) at (chain_more a c) lt out (at_last _ e) cells o = absurd (no_return (chain_more a c) lt (some_one e refl))
    walk_long (suc m) at (chain_more {k = k} a c) lt out (at_null _ e) cells o = absurd (apart at.node k lt a e)
    walk_long (suc m) at (chain_more a c) lt out (is_open _ l n q) cells o = err_ok at.path cells o
    walk_long (suc m) at (chain_more a c) lt out (no_rest _ l n q r) cells o = err_ok _ cells o
    walk_long (suc m) at (chain_more {k = k} a c) lt out (goes_on _ next more l n q r w) cells o =
        let same : k ≡ next = some_one (ap (arc_named g at.node) rest_is ∙ a) r in
        more_long at m cells more
        (λ xs e. walk_long m (record { node = next; path = at.path ++ p.rest.name ∷ [] }) (subst (λ x. Chain x m last) same c) (subst (λ x. x < length g.types) same (arc_inside at.node k lt a)) more w xs e) o

    -- and each of its cells stands as many steps on as there are cells before it
    pub walk_at : (d : ℕ) (at : Place) → Chain at.node d last → at.node < length g.types → (out : Sought (List Place)) → Walks g types p (Some last) at out → (cells : List Place) → out ≡ Ok cells →
        (i : ℕ) → i < d → (c : Place) × (slice_get cells i ≡ Some c) × (walk (table_of g) at.node (times rest i) ≡ Some c.node)
    walk_at zero at ch lt out w cells o i l = absurd (omega (arith, l))
    walk_at (suc m) at (chain_more a c) lt out (at_last _ e) cells o i l = absurd (no_return (chain_more a c) lt (some_one e refl))
    walk_at (suc m) at (chain_more {k = k} a c) lt out (at_null _ e) cells o i l = absurd (apart at.node k lt a e)
    walk_at (suc m) at (chain_more a c) lt out (is_open _ h n q) cells o i l = err_ok at.path cells o
    walk_at (suc m) at (chain_more a c) lt out (no_rest _ h n q r) cells o i l = err_ok _ cells o
    walk_at (suc m) at (chain_more {k = k} a c) lt out (goes_on _ next more h n q r w) cells o i l =
        let same : k ≡ next = some_one (ap (arc_named g at.node) rest_is ∙ a) r in
        let there : Place = record { node = next; path = at.path ++ p.rest.name ∷ [] } in
        let m_is = more_is at cells more o in
        by_place i l same m_is (λ j lj. walk_at m there (subst (λ x. Chain x m last) same c) (subst (λ x. x < length g.types) same (arc_inside at.node k lt a)) more w m_is.0 m_is.1 j lj)
      where
        by_place : (i : ℕ) → i < suc m → k ≡ next → (q : (xs : List Place) × (more ≡ Ok xs) × (at ∷ xs ≡ cells)) →
            ((j : ℕ) → j < m → (c : Place) × (slice_get q.0 j ≡ Some c) × (walk (table_of g) next (times rest j) ≡ Some c.node)) →
            (c : Place) × (slice_get cells i ≡ Some c) × (walk (table_of g) at.node (times rest i) ≡ Some c.node)
        by_place zero l same q go = (at, sym (ap (λ xs. slice_get xs 0) q.2), refl)
        by_place (suc j) l same q go =
            let z = go j (omega (arith, l)) in
            (z.0, sym (ap (λ xs. slice_get xs (suc j)) q.2) ∙ z.1, walk_arc g at.node rest next (times rest j) (a ∙ ap Some same) ∙ z.2)

-- following features is walking along their numbers
module _ (g : GraphMap) where
  cons_one : (k : ℕ) (q ns : List ℕ) → Some (k ∷ q) ≡ Some ns → k ∷ q ≡ ns
  cons_one k q ns e = cc

  pub follow_walk : (fs : List Feature) (ns : List ℕ) (n : ℕ) → numbers fs ≡ Some ns → follow g fs (Some n) ≡ walk (table_of g) n ns
  follow_walk [] ns n e = ap (walk (table_of g) n) (nil_one ns e)
  follow_walk (f ∷ fs) ns n e = by_number f.number refl (numbers fs) refl e (λ q m. follow_walk fs q m)
    where
      by_arc : (k : ℕ) (q : List ℕ) (o : Option ℕ) → ((m : ℕ) → follow g fs (Some m) ≡ walk (table_of g) m q) → follow g fs o ≡ elim o as (λ _. Option ℕ) [ None ↦ None | Some m ↦ walk (table_of g) m q ]
      by_arc k q None r = none_follows fs
        where
          none_follows : (hs : List Feature) → follow g hs None ≡ None
          none_follows [] = refl
          none_follows (h ∷ hs) = refl
      by_arc k q (Some m) r = r m

      by_number : (a : Option ℕ) → f.number ≡ a → (b : Option (List ℕ)) → numbers fs ≡ b → and_number a b ≡ Some ns → ((q : List ℕ) (m : ℕ) → numbers fs ≡ Some q → follow g fs (Some m) ≡ walk (table_of g) m q) →
          follow g (f ∷ fs) (Some n) ≡ walk (table_of g) n ns
      by_number None x b y z r = absurd (cc)
      by_number (Some k) x None y z r = absurd (cc)
      by_number (Some k) x (Some q) y z r =
          ap (λ a. follow g fs (arc_named g n a)) x ∙ by_arc k q (arc_to (arcs_at g n) k) (λ m. r q m y) ∙ ap (walk (table_of g) n) (cons_one k q ns z)
