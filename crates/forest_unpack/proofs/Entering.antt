-- Which rows stand in groups, row by row.
use Rattle.std.specs.Prelude.{◌≡◌, ◌⊎◌, ℕ, true, ◌+◌, ◌<◌, ◌≤◌, All, List, [], ◌∷◌, ◌++◌, length, map, slice_get, slice_set, Option, Some, None, refl}
use Rattle.std.proofs.Common.{inl, inr, ap, subst, sym, ◌∙◌, arith, length-append, zero, suc}
use Rattle.std.proofs.lemmas.Bool.{cases_lt}
use Rattle.std.proofs.lemmas.List.Elements.{All-head, All-tail}
use Rattle.chart_model.specs.At.{at_one, at_below, at_append, at_last, from_get, to_get}
use Rattle.chart_model.specs.Grown.{LeadsTo, ends, goes}
use Rattle.chart_model.proofs.Trees.{leads_one}
use Rattle.chart_core.specs.declared.Row.{Row}
use Rattle.chart_core.specs.declared.RowKind.{RowKind}
use Rattle.chart_core.specs.declared.RowKind.TheVariants as kinds
use Rattle.chart_core.specs.Sound.{is_partial_kind}
use Rattle.chart_core.specs.View.{into_of, list_of, number_of}
use Rattle.tree_model.specs.Lists as model
use Rattle.forest_unpack.specs.Groups.{told_of_kind, told_by, TellsAt}
use Rattle.forest_unpack.specs.Inner.Members.{last_in, last_at, IsBelow, Chain, chain_end, chain_on, AreMembersOf, AreMembers}

module _ {A : Type 0} where
  pub set_here : (xs : List A) (i : ℕ) (v : A) → i < length xs → slice_get (slice_set xs i v) i ≡ Some v
  set_here [] i v low = absurd (omega (arith, low))
  set_here (x ∷ xs) zero v low = refl
  set_here (x ∷ xs) (suc n) v low = set_here xs n v (omega (arith, low))

  pub set_other : (xs : List A) (i : ℕ) (v : A) (h : ℕ) → (h ≡ i → ⊥) → slice_get (slice_set xs i v) h ≡ slice_get xs h
  set_other [] i v h apart = refl
  set_other (x ∷ xs) zero v zero apart = absurd (apart refl)
  set_other (x ∷ xs) zero v (suc h) apart = refl
  set_other (x ∷ xs) (suc n) v zero apart = refl
  set_other (x ∷ xs) (suc n) v (suc h) apart = set_other xs n v h (λ e. apart (ap suc e))

  pub set_length : (xs : List A) (i : ℕ) (v : A) → length (slice_set xs i v) ≡ length xs
  set_length [] i v = refl
  set_length (x ∷ xs) zero v = refl
  set_length (x ∷ xs) (suc n) v = omega (arith, set_length xs n v)

all_none : (last : List (Option ℕ)) (h : ℕ) → All (λ o. o ≡ None) last → last_at last h ≡ None
all_none [] h all = refl
all_none (x ∷ xs) zero all = All-head (λ o. o ≡ None) x xs all
all_none (x ∷ xs) (suc h) all = all_none xs h (All-tail (λ o. o ≡ None) x xs all)

chain_more : {before : List (Option ℕ)} {o : Option ℕ} {js : List ℕ} (x : Option ℕ) → Chain before o js → Chain (before ++ x ∷ []) o js
chain_more x chain_end = chain_end
chain_more {before = before} x (chain_on j next js at below chain) = chain_on j next js (to_get (at_append (x ∷ []) (from_get before j next at))) below (chain_more x chain)

chain_below : {before : List (Option ℕ)} {o : Option ℕ} {js : List ℕ} (n : ℕ) → Chain before o js → ((j : ℕ) → model.Has j js → j < n) → IsBelow o n
chain_below n chain_end low = tt
chain_below n (chain_on j next js at below chain) low = low j model.has_here

told_partial : (into : List (Option ℕ)) (ds : List ℕ) (kind : RowKind) → is_partial_kind kind ≡ true → told_of_kind into ds kind ≡ []
told_partial into ds (kinds.Leaf name) e = absurd (cc)
told_partial into ds (kinds.Partial rule) e = refl
told_partial into ds (kinds.Whole rule) e = absurd (cc)

map_length : {A D : Type 0} (f : A → D) (xs : List A) → length (map f xs) ≡ length xs
map_length f [] = refl
map_length f (x ∷ xs) = omega (arith, map_length f xs)

module _ {X T C W B : Type 0} (rows : List (Row X T C W B)) where
  none_of : (h : ℕ) (before : List (Option ℕ)) (last : Option ℕ) → last ≡ None → AreMembersOf rows 0 before h last
  none_of h before last e =
      record {
        numbers = [];
        chain = subst (λ o. Chain before o []) (sym e) chain_end;
        each = λ j x. elim x [ ];
        all = λ j g low t l. absurd (omega (arith, low));
        differ = model.differ_none;
      }

  pub members_none : (last before : List (Option ℕ)) → length last ≡ length rows → All (λ o. o ≡ None) last → before ≡ [] → AreMembers rows 0 last before
  members_none last before long none e =
      record {
        lasts = long;
        befores = ap length e;
        members = λ h. none_of h before (last_at last h) (all_none last h none);
      }

  -- below the next number, or it
  next : (P : Type 0) (j n : ℕ) → j < n + 1 → (j < n → P) → (j ≡ n → P) → P
  next P j n low below same = by (cases_lt j n)
    where
      by : ((j < n) ⊎ (n ≤ j)) → P
      by (inl a) = below a
      by (inr b) = same (omega (arith, b, low))

  -- a row that doesn't count, or stands in another group
  skip_of : (n : ℕ) (before : List (Option ℕ)) (x : Option ℕ) (h : ℕ) (last : Option ℕ) → AreMembersOf rows n before h last →
      ((g : model.GroupRow) → TellsAt rows n g → LeadsTo (into_of rows) n h → ⊥) → AreMembersOf rows (n + 1) (before ++ x ∷ []) h last
  skip_of n before x h last m never =
      record {
        numbers = m.numbers;
        chain = chain_more x m.chain;
        each = λ j y. (let z = (m.each j y).0 in omega (arith, z), (m.each j y).1);
        all = λ j g low t l.
            next (model.Has j m.numbers) j n low (λ a. m.all j g a t l)
            (λ e. absurd (never g (subst (λ i. TellsAt rows i g) e t) (subst (λ i. LeadsTo (into_of rows) i h) e l)));
        differ = m.differ;
      }

  -- a row in this group
  add_of : (n : ℕ) (before : List (Option ℕ)) (h : ℕ) (last : Option ℕ) → length before ≡ n → AreMembersOf rows n before h last → LeadsTo (into_of rows) n h → AreMembersOf rows (n + 1) (before ++ last ∷ []) h (Some n)
  add_of n before h last long m leads =
      record {
        numbers = n ∷ m.numbers;
        chain = chain_on n last m.numbers (subst (λ i. slice_get (before ++ last ∷ []) i ≡ Some last) long (to_get (at_last before last))) (chain_below n m.chain (λ j x. (m.each j x).0)) (chain_more last m.chain);
        each = each_of;
        all = λ j g low t l.
            next (model.Has j (n ∷ m.numbers)) j n low (λ a. model.has_there (m.all j g a t l))
            (λ e. subst (λ i. model.Has i (n ∷ m.numbers)) (sym e) model.has_here);
        differ = model.differ_more (λ x. let z = (m.each n x).0 in omega (arith, z)) m.differ;
      }
    where
      each_of : (j : ℕ) → model.Has j (n ∷ m.numbers) → (j < n + 1) × LeadsTo (into_of rows) j h
      each_of _ model.has_here = (omega arith, leads)
      each_of j (model.has_there x) = (let z = (m.each j x).0 in omega (arith, z), (m.each j x).1)

  longer : (n : ℕ) (before after : List (Option ℕ)) (x : Option ℕ) → length before ≡ n → after ≡ before ++ x ∷ [] → length after ≡ n + 1
  longer n before after x long e = omega (arith, ap length e, length-append before (x ∷ []), long)

  -- a partial
  pub members_skip : (n : ℕ) (last before after : List (Option ℕ)) (row : Row X T C W B) → AreMembers rows n last before → slice_get rows n ≡ Some row → is_partial_kind row.kind ≡ true → after ≡ before ++ None ∷ [] → AreMembers rows (n + 1) last after
  members_skip n last before after row are at is_part e =
      record {
        lasts = are.lasts;
        befores = longer n before after None are.befores e;
        members = λ h. subst (λ zs. AreMembersOf rows (n + 1) zs h (last_at last h)) (sym e) (skip_of n before None h (last_at last h) (are.members h) (λ g t l. never g t));
      }
    where
      never : (g : model.GroupRow) → TellsAt rows n g → ⊥
      never g t =
          let same : t.row ≡ row = at_one t.at (from_get rows n row at) in
          let told : told_by (into_of rows) row ≡ g ∷ [] = subst (λ r. told_by (into_of rows) r ≡ g ∷ []) same t.told_is in
          let none : told_by (into_of rows) row ≡ [] = told_partial (into_of rows) (list_of row.daughters) row.kind is_part in
          cc

  leads_low : {into : List (Option ℕ)} {i h : ℕ} → LeadsTo into i h → h < length into
  leads_low (ends a) = at_below a
  leads_low (goes a rest) = leads_low rest

  -- the host is among the rows
  pub host_low : (n : ℕ) (last before : List (Option ℕ)) (host : ℕ) → AreMembers rows n last before → {i : ℕ} → LeadsTo (into_of rows) i host → host < length last
  host_low n last before host are leads = omega (arith, leads_low leads, are.lasts, map_length (λ (row : Row X T C W B). number_of row.into) rows)

  -- another row
  pub members_add : (n : ℕ) (last before new after : List (Option ℕ)) (host : ℕ) → AreMembers rows n last before → LeadsTo (into_of rows) n host → new ≡ slice_set last host (Some n) → after ≡ before ++ last_at last host ∷ [] → AreMembers rows (n + 1) new after
  members_add n last before new after host are leads put e =
      record {
        lasts = ap length put ∙ set_length last host (Some n) ∙ are.lasts;
        befores = longer n before after (last_at last host) are.befores e;
        members = λ h. subst (λ zs. AreMembersOf rows (n + 1) zs h (last_at new h)) (sym e) (at h (cases_lt h host) (cases_lt host h));
      }
    where
      wider : List (Option ℕ)
      wider = before ++ last_at last host ∷ []

      same : AreMembersOf rows (n + 1) wider host (last_at new host)
      same =
          let low = host_low n last before host are leads in
          let is : last_at new host ≡ Some n = ap (λ zs. last_at zs host) put ∙ ap last_in (set_here last host (Some n) low) in
          subst (AreMembersOf rows (n + 1) wider host) (sym is) (add_of n before host (last_at last host) are.befores (are.members host) leads)

      other : (h : ℕ) → (h ≡ host → ⊥) → AreMembersOf rows (n + 1) wider h (last_at new h)
      other h apart =
          let is : last_at new h ≡ last_at last h = ap (λ zs. last_at zs h) put ∙ ap last_in (set_other last host (Some n) h apart) in
          subst (AreMembersOf rows (n + 1) wider h) (sym is) (skip_of n before (last_at last host) h (last_at last h) (are.members h) (λ g t l. apart (leads_one l leads)))

      at : (h : ℕ) → ((h < host) ⊎ (host ≤ h)) → ((host < h) ⊎ (h ≤ host)) → AreMembersOf rows (n + 1) wider h (last_at new h)
      at h (inl a) q = other h (λ f. absurd (omega (arith, a, f)))
      at h (inr a) (inl b) = other h (λ f. absurd (omega (arith, b, f)))
      at h (inr a) (inr b) = let f : host ≡ h = omega (arith, a, b) in subst (λ i. AreMembersOf rows (n + 1) wider i (last_at new i)) f same
