-- The makers of a host, by a filter over the rows under its key.
use Rattle.std.specs.Prelude.{◌≡◌, ◌⊎◌, ◌&&◌, ◌==◌, ℕ, ◌+◌, ◌<◌, ◌≤◌, Bool, true, false, is_some, is_none, cond, Option, Some, None, option_map, List, [], ◌∷◌, refl, slice_get}
use Rattle.std.specs.List.{filter}
use Rattle.std.proofs.Common.{zero, suc, ap, subst, sym, ◌∙◌, arith, inl, inr, eqb-true, eq-eqb}
use Rattle.chart_model.specs.Calculus.{Calculus, Laws}
use Rattle.chart_model.specs.At.{At, here, there, at_one, to_get, from_get}
use Rattle.chart_model.specs.Chart as model
use Rattle.chart_model.specs.Picked.{Rises, no_more, next_is}
use Rattle.chart_core.specs.declared.Row.{Row}
use Rattle.chart_core.specs.declared.RowId.{RowId}
use Rattle.chart_core.specs.declared.RowKind.{RowKind}
use Rattle.chart_core.specs.declared.RowKind.TheVariants as kinds
use Rattle.chart_core.specs.declared.chart.Core.{Core}
use Rattle.chart_core.specs.Lists.{bucket, slot}
use Rattle.chart_core.specs.CoreView.{chart_of}
use Rattle.chart_core.specs.View.{into_of, number_of, kind_of, list_of, row_of}
use Rattle.chart_core.proofs.Found.{at_map, at_mapped}
use Rattle.packed_forests.specs.Rows.{AreRising, Counts, IsMadeBy, AreMakerRows}
use Rattle.packed_forests.specs.Inner.Found.{counted, counts, AreFound}
use Rattle.packed_forests.specs.Inner.Told.{HasShape, over_by, is_over, if_both, makes, IsLive}

three : (a b c : Bool) → a ≡ true → b ≡ true → c ≡ true → a && b && c ≡ true
three a b c p q r = rw (p, q, r) refl

split_three : (a b c : Bool) → a && b && c ≡ true → (a ≡ true) × (b ≡ true) × (c ≡ true)
split_three true true true h = (refl, refl, refl)
split_three true true false h = absurd (cc)
split_three true false c h = absurd (cc)
split_three false b c h = absurd (cc)

module _ (t : ℕ → Bool) where
  in_first : (x : ℕ) (xs : List ℕ) (b : Bool) → t x ≡ b → ((i p : ℕ) → At (filter t xs) i p → (j : ℕ) × At xs j p × (t p ≡ true)) → (i p : ℕ) → At (cond b (x ∷ filter t xs) (filter t xs)) i p → (j : ℕ) × At (x ∷ xs) j p × (t p ≡ true)
  in_first x xs true e rest zero p (here) = (zero, here, e)
  in_first x xs true e rest (suc i) p (there a) = let r = rest i p a in (suc r.0, there r.1, r.2)
  in_first x xs false e rest i p a = let r = rest i p a in (suc r.0, there r.1, r.2)

  in_filter : (ps : List ℕ) (i p : ℕ) → At (filter t ps) i p → (j : ℕ) × At ps j p × (t p ≡ true)
  in_filter [] i p a = elim a [ ]
  in_filter (x ∷ xs) i p a = in_first x xs (t x) refl (λ j q b. in_filter xs j q b) i p a

  to_filter : (ps : List ℕ) (j p : ℕ) → At ps j p → t p ≡ true → (i : ℕ) × At (filter t ps) i p
  to_filter [] j p a is_so = elim a [ ]
  to_filter (x ∷ xs) zero p (here) is_so = (zero, subst (λ b. At (cond b (p ∷ filter t xs) (filter t xs)) zero p) (sym is_so) here)
  to_filter (x ∷ xs) (suc j) p (there a) is_so = by (t x) refl (to_filter xs j p a is_so)
    where
      by : (b : Bool) → t x ≡ b → (i : ℕ) × At (filter t xs) i p → (i : ℕ) × At (filter t (x ∷ xs)) i p
      by true e r = (suc r.0, subst (λ b. At (cond b (x ∷ filter t xs) (filter t xs)) (suc r.0) p) (sym e) (there r.1))
      by false e r = (r.0, subst (λ b. At (cond b (x ∷ filter t xs) (filter t xs)) r.0 p) (sym e) r.1)

  lower : {i j : ℕ} {ps : List ℕ} → i ≤ j → Rises j ps → Rises i ps
  lower l no_more = no_more
  lower l (next_is p le r) = next_is p (omega (arith, l, le)) r

  rises_filter : {i : ℕ} {ps : List ℕ} → Rises i ps → Rises i (filter t ps)
  rises_filter no_more = no_more
  rises_filter {i} (next_is {ps = xs} p le r) = by (t p) (rises_filter r)
    where
      by : (b : Bool) → Rises (p + 1) (filter t xs) → Rises i (cond b (p ∷ filter t xs) (filter t xs))
      by true s = next_is p le s
      by false s = lower (omega (arith, le)) s

least : {i : ℕ} {ps : List ℕ} (j p : ℕ) → Rises i ps → At ps j p → i ≤ p
least j p no_more a = elim a [ ]
least zero p (next_is q le r) (here) = le
least (suc j) p (next_is q le r) (there a) = let z = least j p r a in omega (arith, z, le)

rising_of : {i : ℕ} {ps : List ℕ} → Rises i ps → (a b m n : ℕ) → a < b → At ps a m → At ps b n → m < n
rising_of no_more a b m n l x y = elim x [ ]
rising_of (next_is p le r) zero zero m n l x y = absurd (omega (arith, l))
rising_of (next_is p le r) (suc a) zero m n l x y = absurd (omega (arith, l))
rising_of (next_is p le r) zero (suc b) m n l (here) (there y) = let z = least b n r y in omega (arith, z)
rising_of (next_is p le r) (suc a) (suc b) m n l (there x) (there y) = rising_of r a b m n (omega (arith, l)) x y

none_of : {A : Type 0} (o : Option A) → is_some o ≡ false → o ≡ None
none_of None e = refl
none_of (Some x) e = absurd (cc)

some_of : {A : Type 0} (o : Option A) → is_none o ≡ false → (x : A) × (o ≡ Some x)
some_of None e = absurd (cc)
some_of (Some x) e = (x, refl)

packed : (o : Option RowId) → is_some o ≡ true → number_of o ≡ None → ⊥
packed None y e = absurd (cc)
packed (Some r) y e = absurd (cc)

shapeless : {A B : Type 0} (f : A → B) (o : Option A) (m : B) → is_none o ≡ true → option_map f o ≡ Some m → ⊥
shapeless f None m y e = absurd (cc)
shapeless f (Some x) m y e = absurd (cc)

module _ (into : List (Option ℕ)) where
  abbrev Either : RowKind → List ℕ → Type 0
  Either kind ds = ((name : ℕ) × (kind_of kind ≡ model.OfLeaf name)) ⊎ ((rule : ℕ) × (kind_of kind ≡ model.OfWhole rule) × (model.all_free into ds ≡ true))

  as_counts : (kind : RowKind) (ds : List ℕ) → counted into ds kind ≡ true → Either kind ds
  as_counts (kinds.Leaf name) ds e = inl (name, refl)
  as_counts (kinds.Partial rule) ds e = absurd (cc)
  as_counts (kinds.Whole rule) ds e = inr (rule, refl, e)

  is_counted : (kind : RowKind) (ds : List ℕ) → Either kind ds → counted into ds kind ≡ true
  is_counted (kinds.Leaf name) ds s = refl
  is_counted (kinds.Partial rule) ds (inl l) = absurd (let z = l.1 in cc)
  is_counted (kinds.Partial rule) ds (inr w) = absurd (let z = w.1 in cc)
  is_counted (kinds.Whole rule) ds (inl l) = absurd (let z = l.1 in cc)
  is_counted (kinds.Whole rule) ds (inr w) = w.2

module _ {X T C W B M : Type 0} (k : Calculus M C) (laws : Laws k) (meaning : T → M) where
  over_to : (host row : Row X T C W B) (o q : Option T) → host.shape ≡ o → row.shape ≡ q → is_over k meaning host row ≡ over_by k meaning host row o q
  over_to host row o q e f = ap (λ x. over_by k meaning host row x row.shape) e ∙ ap (over_by k meaning host row o) f

  over_itself : (row : Row X T C W B) → is_some row.shape ≡ true → is_over k meaning row row ≡ true
  over_itself row is_so = by row.shape refl is_so
    where
      by : (o : Option T) → row.shape ≡ o → is_some o ≡ true → is_over k meaning row row ≡ true
      by None e y = absurd (cc)
      by (Some s) e y = over_to row row (Some s) (Some s) e e ∙ three (k.same row.cover row.cover) (row.level == row.level) (k.over (meaning s) (meaning s)) ((laws.same_is row.cover row.cover).1 refl) (eq-eqb row.level row.level refl) (laws.reflexive (meaning s))

  pub makes_is : (rows : List (Row X T C W B)) (h i : ℕ) (host row : Row X T C W B) → slice_get rows h ≡ Some host → slice_get rows i ≡ Some row → makes k meaning rows h i ≡ is_over k meaning host row
  makes_is rows h i host row e f = ap (λ o. if_both k meaning o (slice_get rows i)) e ∙ ap (if_both k meaning (Some host)) f

  -- a host is one of its own makers
  pub makes_itself : (rows : List (Row X T C W B)) (h i : ℕ) → h ≡ i → HasShape rows h → true ≡ makes k meaning rows h i
  makes_itself rows h i e s = subst (λ j. true ≡ makes k meaning rows h j) e (sym (makes_is rows h h s.0 s.0 s.1 s.1 ∙ over_itself s.0 s.2))

  module _ (core : Core X T C W B) where
    abbrev rows : List (Row X T C W B)
    rows = core.rows.items

    abbrev ch : model.Chart M C
    ch = chart_of meaning core

    at_model : (i : ℕ) (row : Row X T C W B) → At rows i row → At ch.rows i (row_of meaning row)
    at_model i row a = at_map (row_of meaning) rows i row a

    at_into : (i : ℕ) (row : Row X T C W B) → At rows i row → At ch.into i (number_of row.into)
    at_into i row a = at_map (λ (r : Row X T C W B). number_of r.into) rows i row a

    pub never_packed : (h : ℕ) (row : Row X T C W B) → slice_get rows h ≡ Some row → is_some row.into ≡ true → IsLive k ch h → ⊥
    never_packed h row e y live = packed row.into y (at_one (at_into h row (from_get rows h row e)) live.free)

    pub never_shapeless : (h : ℕ) (row : Row X T C W B) → slice_get rows h ≡ Some row → is_none row.shape ≡ true → IsLive k ch h → ⊥
    never_shapeless h row e y live =
        let same = at_one (at_model h row (from_get rows h row e)) live.at in
        shapeless meaning row.shape live.shape y (ap (λ (r : model.Row M C). r.shape) same ∙ live.shape_is)

    pub live_at : (h : ℕ) (row : Row X T C W B) → slice_get rows h ≡ Some row → is_some row.into ≡ false → is_none row.shape ≡ false → IsLive k ch h
    live_at h row e f s =
        let a = from_get rows h row e in
        let some = some_of row.shape s in
        record { row = row_of meaning row; at = at_model h row a; free = subst (At ch.into h) (ap number_of (none_of row.into f)) (at_into h row a); shape = meaning some.0; shape_is = ap (option_map meaning) some.1 }

    made : (h i : ℕ) (host row : Row X T C W B) (general : T) → At rows h host → host.shape ≡ Some general → At rows i row → counts (into_of rows) row ≡ true → is_over k meaning host row ≡ true → IsMadeBy k ch h i
    made h i host row general a e b c over = by row.shape refl
      where
        by : (o : Option T) → row.shape ≡ o → IsMadeBy k ch h i
        by None f = absurd (let z : is_over k meaning host row ≡ false = over_to host row (Some general) None e f in cc)
        by (Some special) f =
            let s = split_three (k.same row.cover host.cover) (row.level == host.level) (k.over (meaning general) (meaning special)) (sym (over_to host row (Some general) (Some special) e f) ∙ over) in
            record {
              host = row_of meaning host;
              host_at = at_model h host a;
              row = row_of meaning row;
              at = at_model i row b;
              counts = as_counts (into_of rows) row.kind (list_of row.daughters) c;
              general = meaning general;
              general_is = ap (option_map meaning) e;
              special = meaning special;
              special_is = ap (option_map meaning) f;
              over = s.2;
              cover = (laws.same_is row.cover host.cover).0 s.0;
              level = eqb-true row.level host.level s.1;
            }

    module _ (h i : ℕ) (host row : Row X T C W B) (a : At rows h host) (b : At rows i row) (m : IsMadeBy k ch h i) where
      host_is : m.host ≡ row_of meaning host
      host_is = at_one m.host_at (at_model h host a)

      row_is : m.row ≡ row_of meaning row
      row_is = at_one m.at (at_model i row b)

      cover_is : row.cover ≡ host.cover
      cover_is = sym (ap (λ (r : model.Row M C). r.cover) row_is) ∙ m.cover ∙ ap (λ (r : model.Row M C). r.cover) host_is

      level_is : row.level ≡ host.level
      level_is = sym (ap (λ (r : model.Row M C). r.level) row_is) ∙ m.level ∙ ap (λ (r : model.Row M C). r.level) host_is

      row_counts : counts (into_of rows) row ≡ true
      row_counts = is_counted (into_of rows) row.kind (list_of row.daughters) (subst (Counts k ch) row_is m.counts)

      shape_in : (r : model.Row M C) (own : Row X T C W B) (v : M) → r ≡ row_of meaning own → r.shape ≡ Some v → option_map meaning own.shape ≡ Some v
      shape_in r own v e s = sym (ap (λ (r : model.Row M C). r.shape) e) ∙ s

      is_made : is_over k meaning host row ≡ true
      is_made = by host.shape row.shape refl refl (shape_in m.host host m.general host_is m.general_is) (shape_in m.row row m.special row_is m.special_is)
        where
          by : (o q : Option T) → host.shape ≡ o → row.shape ≡ q → option_map meaning host.shape ≡ Some m.general → option_map meaning row.shape ≡ Some m.special → is_over k meaning host row ≡ true
          by None q e f s t = absurd (let z = ap (option_map meaning) e in cc)
          by (Some g) None e f s t = absurd (let z = ap (option_map meaning) f in cc)
          by (Some g) (Some v) e f s t =
              let y = ap (option_map meaning) e in
              let z = ap (option_map meaning) f in
              let p : m.general ≡ meaning g = cc in
              let q : m.special ≡ meaning v = cc in
              over_to host row (Some g) (Some v) e f
              ∙ three (k.same row.cover host.cover) (row.level == host.level) (k.over (meaning g) (meaning v)) ((laws.same_is row.cover host.cover).1 cover_is) (eq-eqb row.level host.level level_is)
              (subst (λ x. k.over (meaning g) x ≡ true) q (subst (λ x. k.over x m.special ≡ true) p m.over))

    module _ (cell : C → ℕ) (lists : List (List ℕ)) (found : AreFound cell (into_of rows) rows lists) (h : ℕ) (host : Row X T C W B) (there_is : slice_get rows h ≡ Some host) (key : ℕ) (key_is : key ≡ cell host.cover) (shaped : is_none host.shape ≡ false) where
      of_place : (p : ℕ) → (j : ℕ) × At (bucket lists key) j p × (makes k meaning rows h p ≡ true) → IsMadeBy k ch h p
      of_place p r =
          let c = found.each (slot lists key) r.0 p r.1 in
          let some = some_of host.shape shaped in
          made h p host c.0 some.0 (from_get rows h host there_is) some.1 c.1 c.2 (sym (makes_is rows h p host c.0 there_is (to_get c.1)) ∙ r.2)

      of_maker : (p : ℕ) → IsMadeBy k ch h p → (n : ℕ) × At (filter (makes k meaning rows h) (bucket lists key)) n p
      of_maker p m =
          let w = at_mapped (row_of meaning) rows p m.row m.at in
          let a = from_get rows h host there_is in
          let b = found.all.misses_none p w.0 w.1 (row_counts h p host w.0 a w.1 m) in
          let same : cell w.0.cover ≡ key = ap cell (cover_is h p host w.0 a w.1 m) ∙ sym key_is in
          to_filter (makes k meaning rows h) (bucket lists key) b.0 p (subst (λ n. At (bucket lists n) b.0 p) same b.1) (makes_is rows h p host w.0 there_is (to_get w.1) ∙ is_made h p host w.0 a w.1 m)

      pub are_makers : (ns : List ℕ) → ns ≡ filter (makes k meaning rows h) (bucket lists key) → AreMakerRows k ch h ns
      are_makers ns e =
          record {
            each = λ n i a. of_place i (in_filter (makes k meaning rows h) (bucket lists key) n i (subst (λ xs. At xs n i) e a));
            all = λ i m. (let r = of_maker i m in (r.0, subst (λ xs. At xs r.0 i) (sym e) r.1));
            rising = subst AreRising (sym e) (rising_of (rises_filter (makes k meaning rows h) (found.all.rising (slot lists key))));
          }
