-- The trees of routes.
use Rattle.std.specs.Prelude.{ℕ, ◌≡◌, ◌<◌, ◌⊎◌, ◌+◌, All, List, [], ◌∷◌, ◌++◌, None, length, map}
use Rattle.std.proofs.Common.{inl, inr, refl, sym, ◌∙◌, ap, subst, zero, suc, arith, take, drop, get_or}
use Rattle.std.proofs.lemmas.List.{length-map, map-append}
use Rattle.std.specs.declared.cmp.Ordering.TheVariants.{Less, Greater}
use Rattle.std.specs.Ordering.{ordering_reverse}
use Rattle.std.specs.Cmp.Lexicographic.{nat_list_cmp_total}
use Rattle.chart_model.specs.At.{At, at_below}
use Rattle.chart_model.specs.Calculus.{Along}
use Rattle.derivation.specs.Trees.{lexical}
use Rattle.lexicon.specs.Words.{Word, Has, Each, Rises, compared}
use Rattle.lexicon.specs.Entries.{EntryTree}
use Rattle.spelling_rules.specs.Trees.{SpellingTree}
use Rattle.tree_model.specs.Signs.{Signs, an_entry, a_lexical_rule}
use Rattle.tree_model.specs.Lexical as item
use Rattle.morph_analysis.specs.Chains.{Spells}
use Rattle.morph_analysis.proofs.Lists.{Has-left, Has-right, Has-snoc}
use Rattle.lexical_items.specs.Places.{ArePlaces, place_in}
use Rattle.lexical_items.specs.Said.{AreNumbered, words_said}
use Rattle.lexical_items.proofs.Saying.{AreSaid, are_said}
use Rattle.lexical_items.proofs.Lists.{snoc_same, at_has, has_at, place_at, places_along, along_length}
use Rattle.lexical_items.proofs.Spelled.{spelled, unspelled}
use Rattle.lexical_items.proofs.Treed.{placed, all_placed, one_number, one_numbers, numbers_under, inside}
use Rattle.lexical_items.specs.Inflected.{WordTree, IsInflected, AreInflected}
use Rattle.lexical_items.specs.Inner.Keyed.{AreOf, Adds}
use Rattle.lexical_items.specs.Inner.Routes.{RouteTree, Key, key_of, IsChain, IsRoute, IsBelow, TreeKey, IsTree, IsOfRoute, IsOfRoutes}
use Rattle.lexical_items.proofs.Keys.{of_none, of_one, of_both, adds_start, adds_more}
use Rattle.lexical_items.proofs.Chains.{words_one}

not_less : (w : Word) → compared w w ≡ Less → ⊥
not_less w p = let e : Less ≡ Greater = sym p ∙ nat_list_cmp_total.antisymm w w ∙ ap ordering_reverse p in cc

-- no word comes before itself, so words of a rising list differ
rises_apart : (done rest : List Word) (w : Word) → Rises (done ++ w ∷ rest) → Has w done → ⊥
rises_apart [] rest w r h = h
rises_apart (x ∷ xs) rest w r (inl e) = not_less w (subst (λ y. compared y w ≡ Less) (sym e) (later x xs rest w r.0))
  where
    later : (x : Word) (xs rest : List Word) (w : Word) → Each (λ y. compared x y ≡ Less) (xs ++ w ∷ rest) → compared x w ≡ Less
    later x [] rest w each = each.0
    later x (y ∷ ys) rest w each = later x ys rest w each.1
rises_apart (x ∷ xs) rest w r (inr h) = rises_apart xs rest w r.1 h

-- a list with one of its elements
split_at : {A : Type 0} (xs : List A) (i : ℕ) (x : A) → i < length xs → x ≡ get_or xs i x → xs ≡ take i xs ++ x ∷ drop (i + 1) xs
split_at [] i x lt e = absurd (omega (arith, lt))
split_at (y ∷ ys) zero x lt e = ap (λ z. z ∷ ys) (sym e)
split_at (y ∷ ys) (suc i) x lt e = ap (λ l. y ∷ l) (split_at ys i x (omega (arith, lt)) e) ∙ ap (λ k. y ∷ take i ys ++ x ∷ drop k (y ∷ ys)) (let k : suc (i + 1) ≡ suc i + 1 = omega arith in k)

pub new_end : {A : Type 0} (f : A → Word) (xs : List A) (i : ℕ) (x : A) → i < length xs → x ≡ get_or xs i x → Rises (map f xs) → Has (f x) (map f (take i xs)) → ⊥
new_end f xs i x lt e r = rises_apart (map f (take i xs)) (map f (drop (i + 1) xs)) (f x) (subst Rises (ap (map f) (split_at xs i x lt e) ∙ map-append f (take i xs) (x ∷ drop (i + 1) xs)) r)

module _ (lexicon : List EntryTree) (s : SpellingTree) (g : Signs) (entries rules : List ℕ) (numbered : AreNumbered entries rules lexicon s) where
  abbrev Tree : TreeKey → WordTree → Type 0
  Tree = IsTree lexicon s g entries rules

  abbrev Of : RouteTree → List Word → TreeKey → Type 0
  Of = IsOfRoute lexicon s g entries rules

  abbrev Ofs : List RouteTree → TreeKey → Type 0
  Ofs = IsOfRoutes lexicon s g entries rules

  abbrev Route : Key → RouteTree → Type 0
  Route = IsRoute lexicon s g entries rules

  pub own_route : (D : Key → Type 0) (routes : List RouteTree) (n : ℕ) (x : RouteTree) → AreOf Route D routes → At routes n x → Route (key_of x) x
  own_route D routes n x are a =
      let h = (are.each n x a).2 in
      subst (λ j. Route j x) (let p = h.entry_is in let q = h.rules_is in λ i. record { entry = sym p i; rules = sym q i }) h

  -- the tree of a route with one of its words
  pub tree_is : (r : RouteTree) (end : Word) (front : List Word) (last : Word) (place : ℕ) (places : List ℕ) (x : WordTree) → Route (key_of r) r → Has end r.ends → Has (record { number = r.entry; words = front ++ last ∷ [] }) lexicon → place ≡ place_in entries r.entry → places ≡ map (place_in rules) r.rules
      → x.tree ≡ lexical place places (front ++ end ∷ []) None → x.full ≡ r.full → Tree (record { key = key_of r; end = end }) x
  tree_is r end front last place places x h has entry p q is full =
      let e = h.have end has in
      let same = snoc_same front e.front last e.stem (words_one lexicon s g entries rules numbered r.entry (front ++ last ∷ []) (e.front ++ e.stem ∷ []) entry e.is_entry) in
      record {
        entry_in = h.entry_in;
        said = front ++ end ∷ [];
        spells = record { front = e.front; stem = e.stem; form = end; is_entry = e.is_entry; is = ap (λ (l : List Word). l ++ end ∷ []) same.0; leads = e.leads };
        front = front;
        last = refl;
        is = is ∙ (λ i. lexical (p i) (q i) (front ++ end ∷ []) None);
        full = subst (λ f. item.FullLexical g (place_in entries r.entry) (map (place_in rules) r.rules) f) (sym full) h.full;
      }

  module _ (entry_places : ArePlaces g an_entry entries) (rule_places : ArePlaces g a_lexical_rule rules) where
    rules_in : (k : TreeKey) (x : WordTree) → Tree k x → All (λ n. n < length rules) k.key.rules
    rules_in k x h = (inside entries rules lexicon s numbered (record { entry = k.key.entry; rules = k.key.rules; words = h.said; from = 0; to = 0 }) h.spells).rules_in

    pub one_tree_key : (j k : TreeKey) (x y : WordTree) → x.tree ≡ y.tree → Tree j x → Tree k y → j ≡ k
    one_tree_key j k x y e a b =
        let whole : lexical (place_in entries j.key.entry) (map (place_in rules) j.key.rules) a.said None ≡ lexical (place_in entries k.key.entry) (map (place_in rules) k.key.rules) b.said None = sym a.is ∙ e ∙ b.is in
        let p : place_in entries j.key.entry ≡ place_in entries k.key.entry = cc in
        let q : map (place_in rules) j.key.rules ≡ map (place_in rules) k.key.rules = cc in
        let w : a.said ≡ b.said = cc in
        let n : j.key.entry ≡ k.key.entry = one_number g entries entry_places.rising (placed entries j.key.entry a.entry_in) (subst (λ z. At entries k.key.entry z) (sym p) (placed entries k.key.entry b.entry_in)) in
        let m : j.key.rules ≡ k.key.rules = one_numbers g rules rule_places.rising (all_placed rules j.key.rules (rules_in j x a)) (subst (λ zs. Along (At rules) k.key.rules zs) (sym q) (all_placed rules k.key.rules (rules_in k y b))) in
        let l : j.end ≡ k.end = (snoc_same a.front b.front j.end k.end (sym a.last ∙ w ∙ b.last)).1 in
        λ i. record { key = record { entry = n i; rules = m i }; end = l i }

    keys : (j k : TreeKey) (x : WordTree) → Tree j x → Tree k x → j ≡ k
    keys j k x a b = one_tree_key j k x x refl a b

    -- one word more of a route
    record Alone (j k : TreeKey) : Type 0 where
      is : k ≡ j

    pub ends_start : (r : RouteTree) (xs : List WordTree) → Adds Tree (Of r []) xs xs
    ends_start r xs = adds_start Tree (Of r []) xs (λ k h. absurd h.end_in)

    pub ends_next : (r : RouteTree) (done more : List Word) (end : Word) (x : WordTree) (old xs ys : List WordTree) → more ≡ done ++ end ∷ [] → (Has end done → ⊥) → Tree (record { key = key_of r; end = end }) x → ys ≡ xs ++ x ∷ [] → Adds Tree (Of r done) old xs → Adds Tree (Of r more) old ys
    ends_next r done more end x old xs ys e new h is a =
        adds_more Tree keys (Of r done) (Alone (record { key = key_of r; end = end })) (Of r more) old xs ys (x ∷ []) (λ k o b. new (subst (λ w. Has w done) (ap (λ (j : TreeKey). j.end) b.is) o.end_in))
        (λ k o. record { key_is = o.key_is; end_in = subst (Has k.end) (sym e) (Has-left k.end done (end ∷ []) o.end_in) })
        (λ k b. record { key_is = ap (λ (j : TreeKey). j.key) b.is; end_in = subst (Has k.end) (sym e) (Has-right k.end done (end ∷ []) (inl (ap (λ (j : TreeKey). j.end) b.is))) }) (λ k o. split k o (Has-snoc k.end end done (subst (Has k.end) e o.end_in))) a is
        (of_one Tree (Alone (record { key = key_of r; end = end })) (record { key = key_of r; end = end }) x (record { is = refl }) h (λ j b. b.is))
      where
        split : (k : TreeKey) → Of r more k → Has k.end done ⊎ (k.end ≡ end) → Of r done k ⊎ Alone (record { key = key_of r; end = end }) k
        split k o (inl p) = inl (record { key_is = o.key_is; end_in = p })
        split k o (inr q) = let p = o.key_is in inr (record { is = λ i. record { key = p i; end = q i } })

    -- one route more
    pub routes_start : (xs : List WordTree) → xs ≡ [] → AreOf Tree (Ofs []) xs
    routes_start xs e = subst (AreOf Tree (Ofs [])) (sym e) (of_none Tree (Ofs []) (λ k h. absurd h.1))

    pub routes_next : (D : Key → Type 0) (routes done more : List RouteTree) (i : ℕ) (r : RouteTree) (xs ys : List WordTree) → AreOf Route D routes → more ≡ done ++ r ∷ [] → At routes i r → ((x : RouteTree) → Has x done → (j : ℕ) × (j < i) × At routes j x) → AreOf Tree (Ofs done) xs
        → Adds Tree (Of r r.ends) xs ys → AreOf Tree (Ofs more) ys
    routes_next D routes done more i r xs ys are e at before a b =
        subst (AreOf Tree (Ofs more)) (sym b.is)
        (of_both Tree keys (Ofs done) (Of r r.ends) (Ofs more) xs b.more apart (λ k o. (o.0, subst (Has o.0) (sym e) (Has-left o.0 done (r ∷ []) o.1), o.2)) (λ k o. (r, subst (Has r) (sym e) (Has-right r done (r ∷ []) (inl refl)), o))
        (λ k o. split k o (Has-snoc o.0 r done (subst (Has o.0) e o.1))) a b.are)
      where
        split : (k : TreeKey) (o : Ofs more k) → Has o.0 done ⊎ (o.0 ≡ r) → Ofs done k ⊎ Of r r.ends k
        split k o (inl h) = inl (o.0, h, o.2)
        split k o (inr q) = inr (subst (λ (x : RouteTree). Of x x.ends k) q o.2)

        own : (n : ℕ) (x : RouteTree) → At routes n x → Route (key_of x) x
        own n x a =
            let h = (are.each n x a).2 in
            subst (λ j. Route j x) (let p = h.entry_is in let q = h.rules_is in λ i. record { entry = sym p i; rules = sym q i }) h

        apart : (k : TreeKey) → Ofs done k → Of r r.ends k → ⊥
        apart k o h =
            let b = before o.0 o.1 in
            let key : key_of o.0 ≡ key_of r = sym o.2.key_is ∙ h.key_is in
            let place = are.once b.0 i o.0 r (key_of r) b.2 at (subst (λ j. Route j o.0) key (own b.0 o.0 b.2)) (own i r at) in
            omega (arith, place, b.1)

    -- all routes
    module _ (most : ℕ) (routes : List RouteTree) (are : AreOf Route (IsBelow lexicon s g entries rules (most + 1)) routes) where
      said : AreSaid entries rules lexicon s (words_said entries rules lexicon s)
      said = are_said entries rules lexicon s entry_places.rising rule_places.rising numbered

      inflected : (k : TreeKey) (x : WordTree) → Ofs routes k → Tree k x → IsInflected g (words_said entries rules lexicon s) most x
      inflected k x o h =
          let p = has_at o.0 routes o.1 in
          let b = are.each p.0 o.0 p.1 in
          let low = b.1.low in
          let long : length k.key.rules ≡ length o.0.rules = ap (λ (j : Key). length j.rules) o.2.key_is in
          let same : length o.0.rules ≡ length b.0.rules = ap length b.2.rules_is in
          let count = length-map k.key.rules (place_in rules) in
          record {
            entry = place_in entries k.key.entry;
            rules = map (place_in rules) k.key.rules;
            said = h.said;
            is = h.is;
            spells = spelled entries rules lexicon s numbered (words_said entries rules lexicon s) said k.key.entry (place_in entries k.key.entry) k.key.rules (map (place_in rules) k.key.rules) h.said (placed entries k.key.entry h.entry_in) (all_placed rules k.key.rules (rules_in k x h)) h.spells;
            full = h.full;
            few = omega (arith, low, long, same, count);
          }

      same_said : (k : TreeKey) (y : WordTree) (h : Tree k y) (ws : List Word) (z : Spells lexicon s k.key.entry k.key.rules ws) → z.form ≡ k.end → h.said ≡ ws
      same_said k y h ws z e =
          let front = (snoc_same h.spells.front z.front h.spells.stem z.stem (words_one lexicon s g entries rules numbered k.key.entry (h.spells.front ++ h.spells.stem ∷ []) (z.front ++ z.stem ∷ []) h.spells.is_entry z.is_entry)).0 in
          let end : h.spells.form ≡ k.end = (snoc_same h.spells.front h.front h.spells.form k.end (sym h.spells.is ∙ h.last)).1 in
          let form : h.spells.form ≡ z.form = end ∙ sym e in
          h.spells.is ∙ (λ i. front i ++ form i ∷ []) ∙ sym z.is

      pub whole : (xs : List WordTree) → AreOf Tree (Ofs routes) xs → AreInflected g (words_said entries rules lexicon s) most xs
      whole xs a = record {
        each = λ n x p. let r = a.each n x p in inflected r.0 x r.1 r.2;
        all = all;
        once = λ n m x y p q e.
            let r = a.each n x p in
            let t = a.each m y q in
            a.once n m x y r.0 p q r.2 (subst (λ k. Tree k y) (sym (one_tree_key r.0 t.0 x y e r.2 t.2)) t.2);
      }
        where
          all : (x : WordTree) → IsInflected g (words_said entries rules lexicon s) most x → (n : ℕ) × (y : WordTree) × At xs n y × (y.tree ≡ x.tree)
          all x h =
              let d = h.full.1 in
              let at = entry_places.all h.entry d.instance d.at d.kind in
              let ns = numbers_under g rules rule_places h.full.2 in
              let p : place_in entries at.0 ≡ h.entry = place_at at.1 in
              let q : map (place_in rules) ns.0 ≡ h.rules = places_along ns.1 in
              let z = unspelled entries rules lexicon s numbered (words_said entries rules lexicon s) said at.0 h.entry ns.0 h.rules h.said at.1 ns.1 h.spells in
              let long : length ns.0 ≡ length h.rules = along_length ns.1 in
              let few = h.few in
              let key : Key = record { entry = at.0; rules = ns.0 } in
              let chain : IsChain lexicon s g entries rules key = record {
                entry_in = at_below at.1;
                structure = x.full;
                full = subst (λ e. item.FullLexical g e (map (place_in rules) ns.0) x.full) (sym p) (subst (λ ps. item.FullLexical g h.entry ps x.full) (sym q) h.full);
                end = z.form;
                ends = record { front = z.front; stem = z.stem; is_entry = z.is_entry; leads = z.leads };
              } in
              let r = are.all key (record { chain = chain; low = omega (arith, few, long) }) in
              let end = r.3.all z.form chain.ends in
              let k : TreeKey = record { key = key; end = z.form } in
              let key_is : key ≡ key_of r.1 = (let e = r.3.entry_is in let f = r.3.rules_is in λ i. record { entry = sym e i; rules = sym f i }) in
              let t = a.all k (r.1, at_has r.2, record { key_is = key_is; end_in = end }) in
              let same = same_said k t.1 t.3 h.said z refl in
              (t.0, t.1, t.2, t.3.is ∙ (λ i. lexical (p i) (q i) (same i) None) ∙ sym h.is)
