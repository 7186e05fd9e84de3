-- Routes level by level.
use Rattle.std.specs.Prelude.{ℕ, ◌≡◌, ◌<◌, ◌≤◌, ◌⊎◌, ◌+◌, ◌-◌, All, MatchOption, Option, Some, None, List, [], ◌∷◌, ◌++◌, length, map}
use Rattle.std.proofs.Common.{inl, inr, refl, sym, ◌∙◌, ap, subst, suc, arith, length-append}
use Rattle.std.proofs.lemmas.Bool.{cases_order}
use Rattle.std.proofs.lemmas.List.{map-append, append-nil}
use Rattle.fs_model.specs.Claims.{IsOrder}
use Rattle.chart_model.specs.At.{At}
use Rattle.lexicon.specs.Words.{Has}
use Rattle.lexicon.specs.Entries.{EntryTree}
use Rattle.spelling_rules.specs.Trees.{SpellingTree}
use Rattle.tree_model.specs.Structures.{Structure}
use Rattle.tree_model.specs.Signs.{Signs}
use Rattle.morph_analysis.proofs.Lists.{Has-left, Has-right, Has-snoc}
use Rattle.lexical_items.specs.Said.{AreNumbered}
use Rattle.lexical_items.proofs.Lists.{snoc_same, at_has, has_at}
use Rattle.lexical_items.proofs.Treed.{inside}
use Rattle.morph_analysis.specs.Chains.{ChainTree}
use Rattle.lexical_items.specs.declared.route.Route as declared
use Rattle.lexical_items.specs.Inner.Keyed.{AreOf, Adds}
use Rattle.lexical_items.specs.Inner.Routes.{RouteTree, route_seen, listed, Key, key_of, above, IsChain, IsRoute, IsFirst, IsAbove, IsOver, IsDeep, IsBelow}
use Rattle.lexical_items.proofs.Keys.{of_none, of_one, of_like, of_both, adds_start, adds_like, adds_more}
use Rattle.lexical_items.proofs.Chains.{route_chain, one_key, inner, shorter}

-- the last of the numbers below the next
below_next : (n k : ℕ) → n < k + 1 → (n < k) ⊎ (n ≡ k)
below_next n k lt = by_order (cases_order n k)
  where
    by_order : (n ≡ k) ⊎ ((n < k) ⊎ (k < n)) → (n < k) ⊎ (n ≡ k)
    by_order (inl e) = inr e
    by_order (inr (inl h)) = inl h
    by_order (inr (inr h)) = absurd (omega (arith, h, lt))

module _ (lexicon : List EntryTree) (s : SpellingTree) (g : Signs) (entries rules : List ℕ) (numbered : AreNumbered entries rules lexicon s) where
  abbrev Route : Key → RouteTree → Type 0
  Route = IsRoute lexicon s g entries rules

  abbrev Chain : Key → Type 0
  Chain = IsChain lexicon s g entries rules

  abbrev First : ℕ → Key → Type 0
  First = IsFirst lexicon s g entries rules

  abbrev Above : RouteTree → ℕ → Key → Type 0
  Above = IsAbove lexicon s g entries rules

  abbrev Over : List RouteTree → ℕ → Key → Type 0
  Over = IsOver lexicon s g entries rules

  abbrev Deep : ℕ → Key → Type 0
  Deep = IsDeep lexicon s g entries rules

  abbrev Below : ℕ → Key → Type 0
  Below = IsBelow lexicon s g entries rules

  keys : (j k : Key) (r : RouteTree) → Route j r → Route k r → j ≡ k
  keys = one_key lexicon s g entries rules numbered

  pub own_at : (depth : ℕ) (level : List RouteTree) (n : ℕ) (x : RouteTree) → AreOf Route (Deep depth) level → At level n x → Route (key_of x) x
  own_at depth level n x are a =
      let h = (are.each n x a).2 in
      subst (λ j. Route j x) (let p = h.entry_is in let q = h.rules_is in λ i. record { entry = sym p i; rules = sym q i }) h

  -- this key alone, where it is a chain
  record Alone (j k : Key) : Type 0 where
    chain : Chain k
    is : k ≡ j

  alone : (k : Key) (r : RouteTree) → Route k r → AreOf Route (Alone k) (r ∷ [])
  alone k r h = of_one Route (Alone k) k r (record { chain = route_chain lexicon s g entries rules numbered k r h; is = refl }) h (λ j e. e.is)

  -- entries by themselves
  abbrev bare : ℕ → Key
  bare n = record { entry = n; rules = [] }

  bare_is : (n : ℕ) (k : Key) → k.entry ≡ n → k.rules ≡ [] → k ≡ bare n
  bare_is n k e f = λ i. record { entry = e i; rules = f i }

  pub firsts_start : (xs : List RouteTree) → xs ≡ [] → AreOf Route (First 0) xs
  firsts_start xs e = subst (AreOf Route (First 0)) (sym e) (of_none Route (First 0) (λ k h. let lt = h.under in omega (arith, lt)))

  split_first : (n : ℕ) (k : Key) → First (n + 1) k → First n k ⊎ Alone (bare n) k
  split_first n k h = elim (below_next k.entry n h.under) [ inl lt ↦ inl (record { chain = h.chain; under = lt; none = h.none }) | inr e ↦ inr (record { chain = h.chain; is = bare_is n k e h.none }) ]

  first_more : (n : ℕ) (k : Key) → First n k → First (n + 1) k
  first_more n k h = let lt = h.under in record { chain = h.chain; under = omega (arith, lt); none = h.none }

  first_alone : (n : ℕ) (k : Key) → Alone (bare n) k → First (n + 1) k
  first_alone n k h = record { chain = h.chain; under = let e = ap (λ (j : Key). j.entry) h.is in omega (arith, e); none = ap (λ (j : Key). j.rules) h.is }

  pub firsts_with : (n : ℕ) (r : RouteTree) (xs ys : List RouteTree) → Route (bare n) r → ys ≡ xs ++ r ∷ [] → AreOf Route (First n) xs → AreOf Route (First (n + 1)) ys
  firsts_with n r xs ys h e a =
      subst (AreOf Route (First (n + 1))) (sym e)
      (of_both Route keys (First n) (Alone (bare n)) (First (n + 1)) xs (r ∷ []) (λ k f o. let lt = f.under in let same = ap (λ (j : Key). j.entry) o.is in omega (arith, lt, same)) (first_more n) (first_alone n) (split_first n) a (alone (bare n) r h))

  pub firsts_without : (n : ℕ) (xs : List RouteTree) → (Chain (bare n) → ⊥) → AreOf Route (First n) xs → AreOf Route (First (n + 1)) xs
  firsts_without n xs none a =
      of_like Route (First n) (First (n + 1)) xs (first_more n)
      (λ k h. elim (split_first n k h) [ inl f ↦ f | inr o ↦ absurd (none (subst Chain o.is o.chain)) ]) a

  pub firsts_next : {T : Type 0} (value : T → Structure) (n : ℕ) (o : Option (declared.Route T)) (xs ys : List (declared.Route T)) → ys ≡ xs ++ listed o → MatchOption o (Chain (bare n) → ⊥) (λ r. Route (bare n) (route_seen value r))
      → AreOf Route (First n) (map (route_seen value) xs) → AreOf Route (First (n + 1)) (map (route_seen value) ys)
  firsts_next value n None xs ys e none a = subst (λ l. AreOf Route (First (n + 1)) (map (route_seen value) l)) (sym (e ∙ append-nil xs)) (firsts_without n (map (route_seen value) xs) none a)
  firsts_next value n (Some r) xs ys e h a = firsts_with n (route_seen value r) (map (route_seen value) xs) (map (route_seen value) ys) h (ap (map (route_seen value)) e ∙ map-append (route_seen value) xs (r ∷ [])) a

  no_rules : (rs : List ℕ) → length rs ≡ 0 → rs ≡ []
  no_rules [] e = refl
  no_rules (r ∷ rs) e = absurd (omega (arith, e))

  pub firsts_whole : (n : ℕ) (xs : List RouteTree) → length entries ≤ n → AreOf Route (First n) xs → AreOf Route (Deep 0) xs
  firsts_whole n xs le a =
      of_like Route (First n) (Deep 0) xs (λ k h. record { chain = h.chain; deep = ap length h.none })
      (λ k h. record { chain = h.chain; under = let lt = h.chain.entry_in in omega (arith, lt, le); none = no_rules k.rules h.deep }) a

  -- one rule more
  split_above : (r : RouteTree) (n : ℕ) (k : Key) → Above r (n + 1) k → Above r n k ⊎ Alone (above r n) k
  split_above r n k h =
      elim (below_next h.rule n h.under) [
        | inl lt ↦ inl (record { chain = h.chain; rule = h.rule; under = lt; is = h.is })
        | inr e ↦ inr (record { chain = h.chain; is = h.is ∙ ap (above r) e })
      ]

  above_more : (r : RouteTree) (n : ℕ) (k : Key) → Above r n k → Above r (n + 1) k
  above_more r n k h = let lt = h.under in record { chain = h.chain; rule = h.rule; under = omega (arith, lt); is = h.is }

  above_alone : (r : RouteTree) (n : ℕ) (k : Key) → Alone (above r n) k → Above r (n + 1) k
  above_alone r n k h = record { chain = h.chain; rule = n; under = omega arith; is = h.is }

  same_rule : (r : RouteTree) (m n : ℕ) → above r m ≡ above r n → m ≡ n
  same_rule r m n e = (snoc_same r.rules r.rules m n (ap (λ (j : Key). j.rules) e)).1

  pub above_start : (r : RouteTree) (xs : List RouteTree) → Adds Route (Above r 0) xs xs
  above_start r xs = adds_start Route (Above r 0) xs (λ k h. let lt = h.under in omega (arith, lt))

  pub above_with : (r : RouteTree) (n : ℕ) (next : RouteTree) (old xs ys : List RouteTree) → Route (above r n) next → ys ≡ xs ++ next ∷ [] → Adds Route (Above r n) old xs → Adds Route (Above r (n + 1)) old ys
  above_with r n next old xs ys h e a =
      adds_more Route keys (Above r n) (Alone (above r n)) (Above r (n + 1)) old xs ys (next ∷ []) (λ k f o. let lt = f.under in let same = same_rule r f.rule n (sym f.is ∙ o.is) in omega (arith, lt, same))
      (above_more r n) (above_alone r n) (split_above r n) a e (alone (above r n) next h)

  pub above_without : (r : RouteTree) (n : ℕ) (old xs : List RouteTree) → (Chain (above r n) → ⊥) → Adds Route (Above r n) old xs → Adds Route (Above r (n + 1)) old xs
  above_without r n old xs none a =
      adds_like Route (Above r n) (Above r (n + 1)) old xs (above_more r n) (λ k h. elim (split_above r n k h) [ inl f ↦ f | inr o ↦ absurd (none (subst Chain o.is o.chain)) ]) a

  pub above_next : {T : Type 0} (value : T → Structure) (r : RouteTree) (n : ℕ) (o : Option (declared.Route T)) (old : List RouteTree) (xs ys : List (declared.Route T)) → ys ≡ xs ++ listed o → MatchOption o (Chain (above r n) → ⊥) (λ x. Route (above r n) (route_seen value x))
      → Adds Route (Above r n) old (map (route_seen value) xs) → Adds Route (Above r (n + 1)) old (map (route_seen value) ys)
  above_next value r n None old xs ys e none a = subst (λ l. Adds Route (Above r (n + 1)) old (map (route_seen value) l)) (sym (e ∙ append-nil xs)) (above_without r n old (map (route_seen value) xs) none a)
  above_next value r n (Some x) old xs ys e h a = above_with r n (route_seen value x) old (map (route_seen value) xs) (map (route_seen value) ys) h (ap (map (route_seen value)) e ∙ map-append (route_seen value) xs (x ∷ [])) a

  -- all of a level, with one rule more
  pub over_start : (count : ℕ) (xs : List RouteTree) → xs ≡ [] → AreOf Route (Over [] count) xs
  over_start count xs e = subst (AreOf Route (Over [] count)) (sym e) (of_none Route (Over [] count) (λ k h. absurd h.1))

  same_inner : (x y : RouteTree) (m n : ℕ) → above x m ≡ above y n → (x.entry ≡ y.entry) × (x.rules ≡ y.rules)
  same_inner x y m n e = (ap (λ (j : Key). j.entry) e, (snoc_same x.rules y.rules m n (ap (λ (j : Key). j.rules) e)).0)

  pub over_next : (depth : ℕ) (level done more : List RouteTree) (i : ℕ) (r : RouteTree) (count : ℕ) (xs ys : List RouteTree) → AreOf Route (Deep depth) level → more ≡ done ++ r ∷ [] → At level i r → ((x : RouteTree) → Has x done → (j : ℕ) × (j < i) × At level j x)
      → AreOf Route (Over done count) xs → Adds Route (Above r count) xs ys → AreOf Route (Over more count) ys
  over_next depth level done more i r count xs ys are e at before a b =
      subst (AreOf Route (Over more count)) (sym b.is)
      (of_both Route keys (Over done count) (Above r count) (Over more count) xs b.more apart (λ k o. (o.0, subst (Has o.0) (sym e) (Has-left o.0 done (r ∷ []) o.1), o.2)) (λ k o. (r, subst (Has r) (sym e) (Has-right r done (r ∷ []) (inl refl)), o))
      (λ k o. split k o (Has-snoc o.0 r done (subst (Has o.0) e o.1))) a b.are)
    where
      split : (k : Key) (o : Over more count k) → Has o.0 done ⊎ (o.0 ≡ r) → Over done count k ⊎ Above r count k
      split k o (inl h) = inl (o.0, h, o.2)
      split k o (inr q) = inr (subst (λ x. Above x count k) q o.2)

      own : (n : ℕ) (x : RouteTree) → At level n x → Route (key_of x) x
      own n x a =
          let h = (are.each n x a).2 in
          subst (λ j. Route j x) (let p = h.entry_is in let q = h.rules_is in λ i. record { entry = sym p i; rules = sym q i }) h

      apart : (k : Key) → Over done count k → Above r count k → ⊥
      apart k o h =
          let b = before o.0 o.1 in
          let same = same_inner o.0 r o.2.rule h.rule (sym o.2.is ∙ h.is) in
          let key : key_of o.0 ≡ key_of r = (λ i. record { entry = same.0 i; rules = same.1 i }) in
          let place = are.once b.0 i o.0 r (key_of r) b.2 at (subst (λ j. Route j o.0) key (own b.0 o.0 b.2)) (own i r at) in
          omega (arith, place, b.1)

  rule_in : (k : Key) (front : List ℕ) (last : ℕ) → Chain k → k.rules ≡ front ++ last ∷ [] → last < length rules
  rule_in k front last c e =
      let c2 : ChainTree = record { entry = k.entry; rules = k.rules; words = c.ends.front ++ c.end ∷ []; from = 0; to = 0 } in
      let i = inside entries rules lexicon s numbered c2 (record { front = c.ends.front; stem = c.ends.stem; form = c.end; is_entry = c.ends.is_entry; is = refl; leads = c.ends.leads }) in
      last_in front last (subst (λ rs. All (λ n. n < length rules) rs) e i.rules_in)
    where
      last_in : (front : List ℕ) (last : ℕ) → All (λ n. n < length rules) (front ++ last ∷ []) → last < length rules
      last_in [] last h = h 0 last (omega arith)
      last_in (x ∷ xs) last h = last_in xs last (λ n d less. h (suc n) d (omega (arith, less)))

  pub over_whole : IsOrder g.system → (depth : ℕ) (level : List RouteTree) (count : ℕ) (xs : List RouteTree) → count ≡ length rules → AreOf Route (Deep depth) level → AreOf Route (Over level count) xs → AreOf Route (Deep (depth + 1)) xs
  over_whole order depth level count xs e are a = of_like Route (Over level count) (Deep (depth + 1)) xs (λ k o. deeper k o) (λ k d. over k d) a
    where
      deeper : (k : Key) → Over level count k → Deep (depth + 1) k
      deeper k o =
          let p = has_at o.0 level o.1 in
          let r = are.each p.0 o.0 p.1 in
          let long : length o.0.rules ≡ depth = ap length r.2.rules_is ∙ r.1.deep in
          let whole : length k.rules ≡ length o.0.rules + 1 = ap (λ (j : Key). length j.rules) o.2.is ∙ length-append o.0.rules (o.2.rule ∷ []) in
          record { chain = o.2.chain; deep = omega (arith, long, whole) }

      over : (k : Key) → Deep (depth + 1) k → Over level count k
      over k d =
          let deep = d.deep in
          let i = inner lexicon s g entries rules numbered order k (omega (arith, deep)) d.chain in
          let long = ap length i.is ∙ length-append i.front (i.last ∷ []) in
          let low : length i.front ≡ depth = omega (arith, deep, long) in
          let r = are.all (record { entry = k.entry; rules = i.front }) (record { chain = i.chain; deep = low }) in
          let lt = rule_in k i.front i.last d.chain i.is in
          let p = r.3.entry_is in
          let q : r.1.rules ++ i.last ∷ [] ≡ k.rules = ap (λ (l : List ℕ). l ++ i.last ∷ []) r.3.rules_is ∙ sym i.is in (
            r.1,
            at_has r.2,
            record { chain = d.chain; rule = i.last; under = subst (λ n. i.last < n) (sym e) lt; is = λ j. record { entry = sym p j; rules = sym q j } },
          )

  -- all levels
  pub below_start : (xs : List RouteTree) → xs ≡ [] → AreOf Route (Below 0) xs
  below_start xs e = subst (AreOf Route (Below 0)) (sym e) (of_none Route (Below 0) (λ k h. let lt = h.low in omega (arith, lt)))

  pub below_next_level : (depth : ℕ) (xs ys zs : List RouteTree) → AreOf Route (Below depth) xs → AreOf Route (Deep depth) ys → zs ≡ xs ++ ys → AreOf Route (Below (depth + 1)) zs
  below_next_level depth xs ys zs a b e =
      subst (AreOf Route (Below (depth + 1))) (sym e)
      (of_both Route keys (Below depth) (Deep depth) (Below (depth + 1)) xs ys (λ k l d. let lt = l.low in let same = d.deep in omega (arith, lt, same)) (λ k l. let lt = l.low in record { chain = l.chain; low = omega (arith, lt) })
      (λ k d. let same = d.deep in record { chain = d.chain; low = omega (arith, same) })
      (λ k l. elim (below_next (length k.rules) depth l.low) [ inl lt ↦ inl (record { chain = l.chain; low = lt }) | inr same ↦ inr (record { chain = l.chain; deep = same }) ]) a b)

  -- where a level is empty there is none above it
  pub below_ended : IsOrder g.system → (depth most : ℕ) (xs ys : List RouteTree) → depth ≤ most → ys ≡ [] → AreOf Route (Below depth) xs → AreOf Route (Deep depth) ys → AreOf Route (Below (most + 1)) xs
  below_ended order depth most xs ys le e a b =
      of_like Route (Below depth) (Below (most + 1)) xs (λ k l. let lt = l.low in record { chain = l.chain; low = omega (arith, lt, le) }) (λ k l. record { chain = l.chain; low = low k l.chain (cases_order (length k.rules) depth) }) a
    where
      never : (k : Key) → Chain k → depth ≤ length k.rules → ⊥
      never k c h =
          let d = length k.rules - depth in
          let j = shorter lexicon s g entries rules numbered order d depth k (omega (arith, h)) c in
          let r = b.all j.0 (record { chain = j.1; deep = j.2 }) in
          no_at r.0 r.1 (subst (λ l. At l r.0 r.1) e r.2)
        where
          no_at : (n : ℕ) (x : RouteTree) → At [] n x → ⊥
          no_at n x h = elim h [ ]

      low : (k : Key) → Chain k → (length k.rules ≡ depth) ⊎ ((length k.rules < depth) ⊎ (depth < length k.rules)) → length k.rules < depth
      low k c (inl q) = absurd (never k c (omega (arith, q)))
      low k c (inr (inl lt)) = lt
      low k c (inr (inr gt)) = absurd (never k c (omega (arith, gt)))
