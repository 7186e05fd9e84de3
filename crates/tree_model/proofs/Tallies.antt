-- Counts, and items that they count.
use Rattle.std.specs.Prelude.{◌≡◌, ◌⊎◌, ℕ, ◌+◌, ◌≤◌, Some, List, [], ◌∷◌, ◌++◌, length, slice_get, slice_set}
use Rattle.std.proofs.Common.{inl, inr, ap, subst, sym, ◌∙◌, arith, append_assoc, append-nil, zero, suc}
use Rattle.tree_model.specs.Lists.{Has, Item}
use Rattle.tree_model.proofs.Members.{Either, on_left, on_right, has_append, has_left, has_right}
use Rattle.tree_model.specs.Counts.{Class, Gains, gains_none, gains_new, gains_more}
use Rattle.tree_model.proofs.Apart.{Apart, apart_none, Between, apart_append, apart_left, apart_right, apart_between, length_append}

module _ {V : Type 0} where
  -- each of these has so many items of its own, or more, that all have its full structure
  pub data Tally : List (Class V) → List (Item V) → Type 0 where
    tally_none : Tally [] []
    tally_more : {c : Class V} {cs : List (Class V)} {xs : List (Item V)} (b : List (Item V)) → c.times ≤ length b → ((x : Item V) → Has x b → x.full ≡ c.full) → Tally cs xs → Tally (c ∷ cs) (b ++ xs)

  -- they count items that differ, each of which is so
  pub record Tallied (cs : List (Class V)) (Q : Item V → Type 0) : Type 0 where
    pub items : List (Item V)
    pub tally : Tally cs items
    pub apart : Apart items
    pub each : (x : Item V) → Has x items → Q x

  pub tallied_none : (Q : Item V → Type 0) → Tallied [] Q
  tallied_none Q = record { items = []; tally = tally_none; apart = apart_none; each = λ x h. elim h [ ] }

  pub tallied_wider : {cs : List (Class V)} {Q R : Item V → Type 0} → ((x : Item V) → Q x → R x) → Tallied cs Q → Tallied cs R
  tallied_wider go t = record { items = t.items; tally = t.tally; apart = t.apart; each = λ x h. go x (t.each x h) }

  one_tally : (c : Class V) (b : List (Item V)) → c.times ≤ length b → ((x : Item V) → Has x b → x.full ≡ c.full) → Tally (c ∷ []) b
  one_tally c b many same = subst (Tally (c ∷ [])) (append-nil b) (tally_more b many same tally_none)

  push : {cs : List (Class V)} {xs : List (Item V)} (c : Class V) (b : List (Item V)) → Tally cs xs → c.times ≤ length b → ((x : Item V) → Has x b → x.full ≡ c.full) → Tally (cs ++ c ∷ []) (xs ++ b)
  push c b tally_none many same = one_tally c b many same
  push c b (tally_more {c = d} {cs = cs} {xs = xs} a much alike rest) many same =
      subst (Tally (d ∷ (cs ++ c ∷ []))) (sym (append_assoc a xs b)) (tally_more a much alike (push c b rest many same))

  either_wider : (a : List (Item V)) {xs b : List (Item V)} (y : Item V) → Either y xs b → Either y (a ++ xs) b
  either_wider a y (on_left h) = on_left (has_right a h)
  either_wider a y (on_right h) = on_right h

  -- more items of a full structure that was counted before
  record Raised (cs : List (Class V)) (xs b : List (Item V)) : Type 0 where
    items : List (Item V)
    tally : Tally cs items
    has : (y : Item V) → Has y items → Either y xs b
    apart : Apart xs → Apart b → Between xs b → Apart items

  here_has : (a b xs : List (Item V)) (y : Item V) → Either y (a ++ b) xs → Either y (a ++ xs) b
  here_has a b xs y (on_left h) = by (has_append a h)
    where
      by : Either y a b → Either y (a ++ xs) b
      by (on_left g) = on_left (has_left xs g)
      by (on_right g) = on_right g
  here_has a b xs y (on_right h) = on_left (has_right a h)

  swapped : (b a xs : List (Item V)) → Between (a ++ xs) b → Between b xs
  swapped b a xs between x y h g e = between y x (has_right a g) h (sym e)

  joined : (a b xs : List (Item V)) → Between a xs → Between b xs → (x y : Item V) → Either x a b → Has y xs → x.tree ≡ y.tree → ⊥
  joined a b xs f g x y (on_left h) k e = f x y h k e
  joined a b xs f g x y (on_right h) k e = g x y h k e

  here_apart : (a b xs : List (Item V)) → Apart (a ++ xs) → Apart b → Between (a ++ xs) b → Apart ((a ++ b) ++ xs)
  here_apart a b xs all others between =
      apart_append (apart_append (apart_left a xs all) others (λ x y h. between x y (has_left xs h))) (apart_right a xs all)
      (λ x y h. joined a b xs (apart_between a xs all) (swapped b a xs between) x y (has_append a h))

  both_full : (a b : List (Item V)) (v : V) → ((x : Item V) → Has x a → x.full ≡ v) → ((x : Item V) → Has x b → x.full ≡ v) → (x : Item V) → Either x a b → x.full ≡ v
  both_full a b v f g x (on_left h) = f x h
  both_full a b v f g x (on_right h) = g x h

  there_between : (a b xs ys : List (Item V)) → ((y : Item V) → Has y ys → Either y xs b) → Between a xs → Between (a ++ xs) b → Between a ys
  there_between a b xs ys has f g x y h k e = by (has y k)
    where
      by : Either y xs b → ⊥
      by (on_left l) = f x y h l e
      by (on_right l) = g x y (has_left xs h) l e

  raise : {cs : List (Class V)} {xs : List (Item V)} (i before times : ℕ) (v : V) (b : List (Item V)) → Tally cs xs → slice_get cs i ≡ Some (record { full = v; times = before }) → times ≤ before + length b → ((x : Item V) → Has x b → x.full ≡ v) → Raised (slice_set cs i (record { full = v; times = times })) xs b
  raise i before times v b tally_none at many same = absurd (cc)
  raise zero before times v b (tally_more {c = c} {cs = cs} {xs = xs} a much alike rest) at many same =
      let is : c ≡ record { full = v; times = before } = cc in
      let e : c.full ≡ v = ap (λ (d : Class V). d.full) is in
      let n : c.times ≡ before = ap (λ (d : Class V). d.times) is in
      record {
        items = (a ++ b) ++ xs;
        tally = tally_more (a ++ b) (let l = length_append a b in omega (arith, l, much, n, many)) (λ x h. both_full a b v (λ y g. alike y g ∙ e) same x (has_append a h)) rest;
        has = λ y h. here_has a b xs y (has_append (a ++ b) h);
        apart = here_apart a b xs;
      }
  raise (suc n) before times v b (tally_more {c = c} {cs = cs} {xs = xs} a much alike rest) at many same =
      let r = raise n before times v b rest at many same in
      record {
        items = a ++ r.items;
        tally = tally_more a much alike r.tally;
        has = λ y h. there_has r y (has_append a h);
        apart = λ all others between. apart_append (apart_left a xs all) (r.apart (apart_right a xs all) others (λ x y h. between x y (has_right a h))) (there_between a b xs r.items r.has (apart_between a xs all) between);
      }
    where
      there_has : (r : Raised (slice_set cs n (record { full = v; times = times })) xs b) (y : Item V) → Either y a r.items → Either y (a ++ xs) b
      there_has r y (on_left h) = on_left (has_left xs h)
      there_has r y (on_right h) = either_wider a y (r.has y h)

  pub either_each : {Q R : Item V → Type 0} (xs b : List (Item V)) → ((x : Item V) → Has x xs → Q x) → ((x : Item V) → Has x b → R x) → (x : Item V) → Either x xs b → Q x ⊎ R x
  either_each xs b f g x (on_left h) = inl (f x h)
  either_each xs b f g x (on_right h) = inr (g x h)

  -- items of one full structure that weren't counted yet
  pub gains_tallied : {old : List (Class V)} {Q R : Item V → Type 0} (v : V) (n : ℕ) (b : List (Item V)) {new : List (Class V)} → Gains v n old new → Tallied old Q → n ≤ length b → ((x : Item V) → Has x b → x.full ≡ v) → Apart b → ((x : Item V) → Has x b → R x) → ((x y : Item V) → Q x → Has y b → x.tree ≡ y.tree → ⊥) → Tallied new (λ x. Q x ⊎ R x)
  gains_tallied v n b gains_none t many same apart each fresh = tallied_wider (λ x q. inl q) t
  gains_tallied v n b (gains_new times low) t many same apart each fresh = record {
    items = t.items ++ b;
    tally = push (record { full = v; times = times }) b t.tally (omega (arith, low, many)) same;
    apart = apart_append t.apart apart (λ x y h. fresh x y (t.each x h));
    each = λ x h. either_each t.items b t.each each x (has_append t.items h);
  }
  gains_tallied v n b (gains_more i before times at low) t many same apart each fresh =
      let r = raise i before times v b t.tally at (omega (arith, low, many)) same in
      record {
        items = r.items;
        tally = r.tally;
        apart = r.apart t.apart apart (λ x y h. fresh x y (t.each x h));
        each = λ x h. either_each t.items b t.each each x (r.has x h);
      }
