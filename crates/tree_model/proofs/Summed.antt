-- So many trees are asked for.
use Rattle.std.specs.Prelude.{◌≡◌, ◌⊎◌, ℕ, ◌+◌, ◌≤◌, List, [], ◌∷◌, ◌++◌, length, map}
use Rattle.std.proofs.Common.{inl, inr, subst, sym, arith}
use Rattle.chart_model.specs.Calculus.{Calculus}
use Rattle.chart_model.specs.At.{At}
use Rattle.chart_model.specs.Chart.{Chart, Leaf, Limits, Row}
use Rattle.chart_model.specs.Finished.{IsComplete}
use Rattle.derivation.specs.Trees.{Derivation}
use Rattle.tree_model.specs.Readings.{Wholes, IsReading, IsAccepted}
use Rattle.tree_model.specs.Forest.{AreApart}
use Rattle.tree_model.specs.Lists.{Has, has_here, has_there, AllDiffer, differ_more, Item, IsIn}
use Rattle.tree_model.proofs.Members.{Either, on_left, on_right, has_append, has_left, has_right, has_map, map_has}
use Rattle.tree_model.proofs.Making.{trees_in}
use Rattle.tree_model.proofs.Standing.{same_row}
use Rattle.tree_model.proofs.Read.{read}
use Rattle.tree_model.specs.Counts.{Class, Accepts, accepts_none, accepts_less, accepts_more, Sums, sums_stop, sums_more}
use Rattle.tree_model.proofs.Apart.{Apart, apart_none, apart_append, apart_left, apart_right, apart_between, apart_differ, length_append, length_map}
use Rattle.tree_model.proofs.Tallies.{Tally, tally_more}
use Rattle.tree_model.proofs.Hosts.{IsCounted}

module _ {C V : Type 0} (w : Wholes V C) (c : C) where
  -- so many of these items are asked for
  record Taken (xs : List (Item V)) (n : ℕ) : Type 0 where
    items : List (Item V)
    many : n ≤ length items
    apart : Apart items
    each : (x : Item V) → Has x items → Has x xs × w.accepted x.full c

  taken_none : (xs : List (Item V)) → Taken xs 0
  taken_none xs = record { items = []; many = omega arith; apart = apart_none; each = λ x h. elim h [ ] }

  taken_less : (b xs : List (Item V)) (n : ℕ) → Taken xs n → Taken (b ++ xs) n
  taken_less b xs n t = record { items = t.items; many = t.many; apart = t.apart; each = λ x h. (has_right b (t.each x h).0, (t.each x h).1) }

  taken_more : (b xs : List (Item V)) (n m : ℕ) → m ≤ length b → ((x : Item V) → Has x b → w.accepted x.full c) → Apart (b ++ xs) → Taken xs n → Taken (b ++ xs) (m + n)
  taken_more b xs n m many ok apart t = record {
    items = b ++ t.items;
    many = let l = length_append b t.items in let k = t.many in omega (arith, l, k, many);
    apart = apart_append (apart_left b xs apart) t.apart (λ x y h g. apart_between b xs apart x y h (t.each y g).0);
    each = λ x h. by x (has_append b h);
  }
    where
      by : (x : Item V) → Either x b t.items → Has x (b ++ xs) × w.accepted x.full c
      by x (on_left h) = (has_left xs h, ok x h)
      by x (on_right h) = (has_right b (t.each x h).0, (t.each x h).1)

  taken : {cs : List (Class V)} {xs : List (Item V)} {n : ℕ} → Accepts w c cs n → Tally cs xs → Apart xs → Taken xs n
  taken {xs = xs} accepts_none tally apart = taken_none xs
  taken (accepts_less {n = n} rest) (tally_more {xs = xs} b many same tally) apart = taken_less b xs n (taken rest tally (apart_right b xs apart))
  taken (accepts_more {d = d} {n = n} ok rest) (tally_more {xs = xs} b many same tally) apart =
      taken_more b xs n d.times many (λ x h. subst (λ v. w.accepted v c) (sym (same x h)) ok) apart (taken rest tally (apart_right b xs apart))

module _ {M C V : Type 0} (k : Calculus M C) (w : Wholes V C) (limits : Limits) (leaves : List (Leaf M C)) (ch : Chart M C) (complete : IsComplete k limits leaves ch) (apart : AreApart k w leaves) {A : Type 0} (host : A → ℕ) (cover : A → C) where
  -- a host, with its row
  pub record IsHost (a : A) : Type 0 where
    pub row : Row M C
    pub at : At ch.rows (host a) row
    pub is : row.cover ≡ cover a

  -- an item of one of these hosts that is asked for
  record Asked (as' : List A) (x : Item V) : Type 0 where
    one : A
    has : Has one as'
    inside : IsIn w leaves ch (host one) x
    accepted : w.accepted x.full (cover one)

  -- so many items that differ
  record Found (Q : Item V → Type 0) (n : ℕ) : Type 0 where
    items : List (Item V)
    many : n ≤ length items
    unlike : Apart items
    each : (x : Item V) → Has x items → Q x

  asked_there : (a : A) (as' : List A) (x : Item V) → Asked as' x → Asked (a ∷ as') x
  asked_there a as' x r = record { one = r.one; has = has_there r.has; inside = r.inside; accepted = r.accepted }

  -- what was found in one host and in others differs
  other_hosts : (a : A) (as' : List A) (x y : Item V) → (Has (host a) (map host as') → ⊥) → IsIn w leaves ch (host a) x → Asked as' y → x.tree ≡ y.tree → ⊥
  other_hosts a as' x y not p q e =
      let s = same_row k w limits leaves ch complete apart p.stands q.inside.stands p.full q.inside.full e in
      not (subst (λ h. Has h (map host as')) (sym s.host) (map_has host q.has))

  module _ (table : ℕ → List (Class V)) (counted : (h : ℕ) → IsCounted k w limits leaves ch complete apart h (table h)) where
    found : (Q : Item V → Type 0) {as' : List A} {n new : ℕ} → Sums w host cover table as' n new → AllDiffer (map host as') → ((x y : Item V) → Q x → Asked as' y → x.tree ≡ y.tree → ⊥) → Found Q n → Found (λ x. Q x ⊎ Asked as' x) new
    found Q sums_stop differ fresh f = record { items = f.items; many = f.many; unlike = f.unlike; each = λ x h. inl (f.each x h) }
    found Q (sums_more {a = a} {asked = as'} {n = n} {m = m} {mid = mid} accepts low rest) (differ_more not differ) fresh f =
        let t = taken w (cover a) accepts (counted (host a)).tally (counted (host a)).apart in
        let here : (x : Item V) → Has x t.items → Asked (a ∷ as') x = λ x h. record { one = a; has = has_here; inside = (counted (host a)).each x (t.each x h).0; accepted = (t.each x h).1 } in
        let now : Found (λ x. Q x ⊎ IsIn w leaves ch (host a) x × w.accepted x.full (cover a)) mid = record {
          items = f.items ++ t.items;
          many = let l = length_append f.items t.items in let p = f.many in let q = t.many in omega (arith, l, p, q, low);
          unlike = apart_append f.unlike t.apart (λ x y h g. fresh x y (f.each x h) (here y g));
          each = λ x h. by t.items (λ y g. ((here y g).inside, (here y g).accepted)) x (has_append f.items h);
        } in
        let more = found (λ x. Q x ⊎ IsIn w leaves ch (host a) x × w.accepted x.full (cover a)) rest differ others now in
        record { items = more.items; many = more.many; unlike = more.unlike; each = λ x h. known x (more.each x h) }
      where
        by : (ts : List (Item V)) → ((y : Item V) → Has y ts → IsIn w leaves ch (host a) y × w.accepted y.full (cover a)) → (x : Item V) → Either x f.items ts → Q x ⊎ IsIn w leaves ch (host a) x × w.accepted x.full (cover a)
        by ts go x (on_left h) = inl (f.each x h)
        by ts go x (on_right h) = inr (go x h)

        others : (x y : Item V) → Q x ⊎ IsIn w leaves ch (host a) x × w.accepted x.full (cover a) → Asked as' y → x.tree ≡ y.tree → ⊥
        others x y (inl q) r e = fresh x y q (asked_there a as' y r) e
        others x y (inr p) r e = other_hosts a as' x y not p.0 r e

        known : (x : Item V) → (Q x ⊎ IsIn w leaves ch (host a) x × w.accepted x.full (cover a)) ⊎ Asked as' x → Q x ⊎ Asked (a ∷ as') x
        known x (inl (inl q)) = inl q
        known x (inl (inr p)) = inr (record { one = a; has = has_here; inside = p.0; accepted = p.1 })
        known x (inr r) = inr (asked_there a as' x r)

    -- so many trees are asked for, or more
    pub record AreSo (n : ℕ) : Type 0 where
      pub some : List Derivation
      pub many : n ≤ length some
      pub differ : AllDiffer some
      pub each : (t : Derivation) → Has t some → IsAccepted k w limits leaves t

    accepted_by : (x : Item V) (t : Derivation) (h : ℕ) (c : C) (row : Row M C) → At ch.rows h row → row.cover ≡ c → IsIn w leaves ch h x → w.accepted x.full c → x.tree ≡ t → IsAccepted k w limits leaves t
    accepted_by x t h c row at e p ok is = record {
      class = record { cover = row.cover; level = row.level; shape = x.full };
      reading = subst (λ z. IsReading k w limits leaves z (record { cover = row.cover; level = row.level; shape = x.full })) is (read k w limits leaves ch complete p.stands p.full row at);
      accepted = subst (λ d. w.accepted x.full d) (sym e) ok;
    }

    -- what was summed over hosts that differ
    pub sums_are : {as' : List A} {n : ℕ} → Sums w host cover table as' 0 n → AllDiffer (map host as') → ((a : A) → Has a as' → IsHost a) → AreSo n
    sums_are {as' = as'} sums differ rows =
        let start : Found (λ x. ⊥) 0 = record { items = []; many = omega arith; unlike = apart_none; each = λ x h. elim h [ ] } in
        let f = found (λ x. ⊥) sums differ (λ x y q r e. q) start in
        record {
          some = trees_in f.items;
          many = let l = length_map (λ (i : Item V). i.tree) f.items in let m = f.many in omega (arith, l, m);
          differ = apart_differ f.unlike;
          each = λ t h. let r = has_map (λ (i : Item V). i.tree) f.items h in by t r.source r.is (f.each r.source r.has);
        }
      where
        by : (t : Derivation) (x : Item V) → x.tree ≡ t → ⊥ ⊎ Asked as' x → IsAccepted k w limits leaves t
        by t x e (inl q) = absurd q
        by t x e (inr r) = let h = rows r.one r.has in accepted_by x t (host r.one) (cover r.one) h.row h.at h.is r.inside r.accepted e
