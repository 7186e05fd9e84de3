-- The live hosts of a chart that is complete below a size decide the limits there.
use Rattle.std.specs.Prelude.{◌≡◌, ℕ, ◌+◌, ◌-◌, ◌<◌, ◌≤◌, nat_le, Bool, true, false, if◌then◌else◌, Option, Some, None, List, refl}
use Rattle.std.proofs.Common.{zero, suc, ap, subst, arith, inl, inr, leb-true}
use Rattle.std.proofs.lemmas.Bool.{leb-false}
use Rattle.chart_model.specs.Calculus.{Calculus}
use Rattle.chart_model.specs.At.{At, at_below, to_get, from_get, at_found}
use Rattle.chart_model.specs.Chart.{Chart, Leaf, Limits}
use Rattle.chart_model.specs.Classes.{Class, Member, IsPacked, IsHost}
use Rattle.chart_model.specs.Limits.{LimitAnswer, UnaryChain, Edges, Within, HasChain, HasEdges, IsBroken, IsLimitAnswer, IsClassCount}
use Rattle.chart_model.specs.Below.{host_count, edge_count, chain_count, IsCompleteBelow, DecidesBelow, AnswersBelow, IsLeastSize, answer_by}
use Rattle.chart_model.proofs.Gather.{free_at, at_free}
use Rattle.chart_model.proofs.Fewer.{fewer}
use Rattle.chart_model.proofs.Counted.{LiveRow, OneRowEach, InRange, host_classes, length-classes, listed, has_class, classes_once}

module _ {M C : Type 0} (k : Calculus M C) (limits : Limits) (leaves : List (Leaf M C)) where
  pub more_chains : (m n : ℕ) → m ≤ n → HasChain k limits leaves m → HasChain k limits leaves n
  more_chains m n l h = record { top = h.top; member = h.member; level = h.level; size = let s = h.size in omega arith }

  pub more_edges : (m n : ℕ) → m ≤ n → HasEdges k limits leaves m → HasEdges k limits leaves n
  more_edges m n l h = record { classes = h.classes; none_twice = h.none_twice; each = λ i c a. let e = h.each i c a in (e.0, let s = e.1 in omega arith); more = h.more }

  module _ (ch : Chart M C) where
    live_host : (c : Class M C) (i : ℕ) → LiveRow ch.rows ch.into i c → IsHost k limits leaves ch c i
    live_host c i l = record { row = l.row; at = to_get l.at; free = at_free ch.into i l.free; shape = l.shape; cover = l.cover; level = l.level }

    host_row : (c : Class M C) (i : ℕ) → IsHost k limits leaves ch c i → LiveRow ch.rows ch.into i c
    host_row c i h = record { row = h.row; at = from_get ch.rows i h.row h.at; free = free_at ch.into i h.free; shape = h.shape; cover = h.cover; level = h.level }

    -- a host in range is listed
    listed_host : (least most n : ℕ) (c : Class M C) (i : ℕ) → IsHost k limits leaves ch c i → least ≤ c.level → c.level ≤ most → k.size c.cover < n → (j : ℕ) × At (host_classes k least most n ch.rows ch.into) j c
    listed_host least most n c i h low high small =
        let size : k.size h.row.cover ≡ k.size c.cover = ap k.size h.cover in
        let r = has_class k least most n ch.rows ch.into i h.row c.shape (from_get ch.rows i h.row h.at) (free_at ch.into i h.free) h.shape (omega (arith, h.level)) (omega (arith, h.level)) (omega (arith, size)) in
        (r.0, subst (λ v. At (host_classes k least most n ch.rows ch.into) r.0 (record { cover = c.cover; level = v; shape = c.shape })) h.level (subst (λ v. At (host_classes k least most n ch.rows ch.into) r.0 (record { cover = v; level = h.row.level; shape = c.shape })) h.cover r.1))

    module _ (b : ℕ) (whole : IsCompleteBelow k limits leaves ch b) where
      one_each : OneRowEach ch.rows ch.into
      one_each c i j x y = whole.once c i j (live_host c i x) (live_host c j y)

      -- what is listed below the bound is packed
      listed_packed : (least most n : ℕ) → n ≤ b → (j : ℕ) (c : Class M C) → At (host_classes k least most n ch.rows ch.into) j c → IsPacked k limits leaves c × InRange k least most n c
      listed_packed least most n l j c a =
          let r = listed k least most n ch.rows ch.into j c a in
          (whole.sound c r.number (let s = r.range.small in omega arith) (live_host c r.number r.live), r.range)

      some_class : (least most n : ℕ) → 0 < host_count k least most n ch.rows ch.into → (c : Class M C) × At (host_classes k least most n ch.rows ch.into) 0 c
      some_class least most n l = at_found (host_classes k least most n ch.rows ch.into) 0 (omega (arith, length-classes k least most n ch.rows ch.into))

      chain_of : (m : ℕ) → m < b → HasChain k limits leaves m → 0 < chain_count k limits ch (m + 1)
      chain_of m l h =
          let f = whole.covered h.top (let s = h.size in omega arith) h.member in
          let a = listed_host (limits.unary + 1) (limits.unary + 1) (m + 1) (record { cover = h.top.cover; level = h.top.level; shape = f.shape }) f.number f.host (omega (arith, h.level)) (omega (arith, h.level)) (let s = h.size in omega arith) in
          omega (arith, length-classes k (limits.unary + 1) (limits.unary + 1) (m + 1) ch.rows ch.into, at_below a.1)

      of_chain : (m : ℕ) → m < b → 0 < chain_count k limits ch (m + 1) → HasChain k limits leaves m
      of_chain m l h =
          let f = some_class (limits.unary + 1) (limits.unary + 1) (m + 1) h in
          let p = listed_packed (limits.unary + 1) (limits.unary + 1) (m + 1) (omega arith) 0 f.0 f.1 in
          record { top = f.0; member = p.0.member; level = (let low = p.1.low in let high = p.1.high in omega arith); size = let s = p.1.small in omega arith }

      edges_of : (m : ℕ) → m < b → HasEdges k limits leaves m → limits.edges < edge_count k limits ch (m + 1)
      edges_of m l h =
          let few = fewer h.classes (host_classes k 0 limits.unary (m + 1) ch.rows ch.into) h.none_twice (λ i c a.
          let e = h.each i c a in
          let small : k.size c.cover < m + 1 = let s = e.1 in omega arith in
          let f = whole.found c (omega arith) e.0.packed in
          listed_host 0 limits.unary (m + 1) c f.0 f.1 (omega arith) e.0.level small) in
          omega (arith, length-classes k 0 limits.unary (m + 1) ch.rows ch.into, h.more)

      of_edges : (m : ℕ) → m < b → limits.edges < edge_count k limits ch (m + 1) → HasEdges k limits leaves m
      of_edges m l h =
          record {
            classes = host_classes k 0 limits.unary (m + 1) ch.rows ch.into;
            none_twice = classes_once k 0 limits.unary (m + 1) ch.rows ch.into one_each;
            each = λ i c a.
                let p = listed_packed 0 limits.unary (m + 1) (omega arith) i c a in
                (record { packed = p.0; level = p.1.high }, let s = p.1.small in omega arith);
            more = omega (arith, length-classes k 0 limits.unary (m + 1) ch.rows ch.into);
          }

      pub decides : DecidesBelow k limits leaves ch b
      decides = record { chains = λ m l. (chain_of m l, of_chain m l); edges = λ m l. (edges_of m l, of_edges m l) }

      -- where all covers are smaller, the live hosts of levels up to the limit are as many as the class count
      pub class_count : ((c : Class M C) → Member k limits leaves c → k.size c.cover < b) → IsClassCount k limits leaves (edge_count k limits ch b)
      class_count small =
          record {
            classes = host_classes k 0 limits.unary b ch.rows ch.into;
            none_twice = classes_once k 0 limits.unary b ch.rows ch.into one_each;
            each = λ i c a. let p = listed_packed 0 limits.unary b (omega arith) i c a in record { packed = p.0; level = p.1.high };
            all = λ c low.
                let size = small c low.packed.member in
                let f = whole.found c size low.packed in
                listed_host 0 limits.unary b c f.0 f.1 (omega arith) low.level size;
            counted = length-classes k 0 limits.unary b ch.rows ch.into;
          }

    -- what the least sizes say
    module _ (b : ℕ) (by : DecidesBelow k limits leaves ch b) where
      no_chain : (n : ℕ) → n ≤ b → chain_count k limits ch n ≤ 0 → (m : ℕ) → m < n → HasChain k limits leaves m → ⊥
      no_chain (suc n) l few m s h = let z : 0 < chain_count k limits ch (n + 1) = (by.chains n (omega arith)).0 (more_chains m n (omega arith) h) in let one : suc n ≡ n + 1 = omega arith in let g = subst (λ x. chain_count k limits ch x ≤ 0) one few in absurd (omega arith)
      no_chain zero l few m s h = absurd (omega arith)

      no_edges : (n : ℕ) → n ≤ b → edge_count k limits ch n ≤ limits.edges → (m : ℕ) → m < n → HasEdges k limits leaves m → ⊥
      no_edges (suc n) l few m s h = let z : limits.edges < edge_count k limits ch (n + 1) = (by.edges n (omega arith)).0 (more_edges m n (omega arith) h) in let one : suc n ≡ n + 1 = omega arith in let g = subst (λ x. edge_count k limits ch x ≤ limits.edges) one few in absurd (omega arith)
      no_edges zero l few m s h = absurd (omega arith)

      neither : (m : ℕ) → (HasChain k limits leaves m → ⊥) → (HasEdges k limits leaves m → ⊥) → IsBroken k limits leaves m → ⊥
      neither m c e (inl h) = c h
      neither m c e (inr h) = e h

      chain_first : (c : ℕ) → IsLeastSize (chain_count k limits ch) 0 b (Some c) → ((m : ℕ) → m < c → HasEdges k limits leaves m → ⊥) → AnswersBelow k limits leaves b (UnaryChain c)
      chain_first c is edges =
          let h = (by.chains c is.0).1 is.2 in
          (record { broken = inl h; least = λ m l. neither m (no_chain c (let s = is.0 in omega arith) is.1 m l) (edges m l) }, h)

      edges_first : (e : ℕ) → IsLeastSize (edge_count k limits ch) limits.edges b (Some e) → ((m : ℕ) → m ≤ e → HasChain k limits leaves m → ⊥) → AnswersBelow k limits leaves b (Edges e)
      edges_first e is chains =
          let h = (by.edges e is.0).1 is.2 in
          (record { broken = inr h; least = λ m l. neither m (chains m (omega arith)) (no_edges e (let s = is.0 in omega arith) is.1 m l) }, chains e (omega arith))

      by_order : (c e : ℕ) → IsLeastSize (chain_count k limits ch) 0 b (Some c) → IsLeastSize (edge_count k limits ch) limits.edges b (Some e) → (t : Bool) → nat_le c e ≡ t → AnswersBelow k limits leaves b (if t then UnaryChain c else Edges e)
      by_order c e x y true t = let l : c ≤ e = leb-true c e t in chain_first c x (λ m s. no_edges e (let z = y.0 in omega arith) y.1 m (omega arith))
      by_order c e x y false t = let l : e < c = leb-false c e t in edges_first e y (λ m s. no_chain c (let z = x.0 in omega arith) x.1 m (omega arith))

      -- the answer by the least sizes is right below the bound
      pub answers : (chain edges : Option ℕ) → IsLeastSize (chain_count k limits ch) 0 b chain → IsLeastSize (edge_count k limits ch) limits.edges b edges → AnswersBelow k limits leaves b (answer_by chain edges)
      answers None None x y = λ m l. neither m (no_chain b (omega arith) x m l) (no_edges b (omega arith) y m l)
      answers None (Some e) x y = edges_first e y (λ m s. no_chain b (omega arith) x m (let z = y.0 in omega arith))
      answers (Some c) None x y = chain_first c x (λ m s. no_edges b (omega arith) y m (let z = x.0 in omega arith))
      answers (Some c) (Some e) x y = by_order_at (nat_le c e) refl
        where
          by_order_at : (t : Bool) → nat_le c e ≡ t → AnswersBelow k limits leaves b (if nat_le c e then UnaryChain c else Edges e)
          by_order_at t f = rw f (by_order c e x y t f)

      -- where all covers are smaller, it is the answer of the limits
      pub last_answer : ((c : Class M C) → Member k limits leaves c → k.size c.cover < b) → (a : LimitAnswer) → AnswersBelow k limits leaves b a → IsLimitAnswer k limits leaves a
      last_answer small (UnaryChain n) is = is
      last_answer small (Edges n) is = is
      last_answer small Within is = within
        where
          within : (n : ℕ) → IsBroken k limits leaves n → ⊥
          within n (inl h) = let s = small h.top h.member in is (k.size h.top.cover) s (inl (record { top = h.top; member = h.member; level = h.level; size = omega arith }))
          within n (inr h) = of_list h.classes (at_found h.classes 0 (let m = h.more in omega arith))
            where
              of_list : (cs : List (Class M C)) → (c : Class M C) × At h.classes 0 c → ⊥
              of_list cs f =
                  let size = small f.0 (h.each 0 f.0 f.1).0.packed.member in
                  is (b - 1) (omega arith) (inr (record { classes = h.classes; none_twice = h.none_twice; each = λ i c a. let e = h.each i c a in (e.0, let s = small c e.0.packed.member in omega arith); more = h.more }))
