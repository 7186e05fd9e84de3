-- The rows of a group, one after another.
use Rattle.std.specs.Prelude.{◌≡◌, ◌&&◌, ℕ, Bool, true, false, not, is_some, is_none, ◌+◌, ◌<◌, ◌≤◌, List, [], ◌∷◌, length, map, slice_get, Option, Some, None, Result, Ok, Err, OnOk, refl}
use Rattle.std.specs.List.{insert}
use Rattle.std.proofs.Common.{get_or, ap, subst, sym, ◌∙◌, arith, zero, suc}
use Rattle.chart_model.specs.Calculus.{Along, along_none, along_more}
use Rattle.chart_model.specs.At.{at_one, at_below, from_get}
use Rattle.chart_model.specs.Chart.{is_free, all_free}
use Rattle.chart_model.specs.Grown.{LeadsTo}
use Rattle.chart_core.specs.declared.Row.{Row}
use Rattle.chart_core.specs.declared.RowId.{RowId}
use Rattle.chart_core.specs.View.{into_of, number_of}
use Rattle.tree_model.specs.Lists as model
use Rattle.tree_model.proofs.Members.{Either, on_left, on_right}
use Rattle.forest_unpack.specs.declared.rows.GroupRow.{GroupRow}
use Rattle.forest_unpack.specs.Plans.{row_of}
use Rattle.forest_unpack.specs.Groups.{told_by, TellsAt, IsTold}
use Rattle.forest_unpack.specs.Inner.Memos.{places_left}
use Rattle.forest_unpack.specs.Inner.Members.{last_at, IsBelow, Chain, chain_end, chain_on, AreMembers, Gains, gains_none, gains_one}

along_insert : {A B : Type 0} (R : A → B → Type 0) (i : ℕ) {xs : List A} {ys : List B} {x : A} {y : B} → Along R xs ys → R x y → Along R (insert xs i x) (insert ys i y)
along_insert R zero rest r = along_more r rest
along_insert R (suc i) along_none r = along_more r along_none
along_insert R (suc i) (along_more q rest) r = along_more q (along_insert R i rest r)

-- what one more at some place changes of a list
module _ {A : Type 0} where
  further : {x y : A} {xs zs : List A} → Either x xs zs → Either x (y ∷ xs) zs
  further (on_left h) = on_left (model.has_there h)
  further (on_right h) = on_right h

  inserted : (xs : List A) (i : ℕ) (n : A) {x : A} → model.Has x (insert xs i n) → Either x xs (n ∷ [])
  inserted xs zero n model.has_here = on_right model.has_here
  inserted xs zero n (model.has_there h) = on_left h
  inserted [] (suc i) n h = on_right h
  inserted (y ∷ ys) (suc i) n model.has_here = on_left model.has_here
  inserted (y ∷ ys) (suc i) n (model.has_there h) = further (inserted ys i n h)

  has_other : (i : ℕ) (n : A) {x : A} {xs : List A} → model.Has x xs → model.Has x (insert xs i n)
  has_other zero n h = model.has_there h
  has_other (suc i) n model.has_here = model.has_here
  has_other (suc i) n (model.has_there h) = model.has_there (has_other i n h)

  has_new : (xs : List A) (i : ℕ) (n : A) → model.Has n (insert xs i n)
  has_new xs zero n = model.has_here
  has_new [] (suc i) n = model.has_here
  has_new (y ∷ ys) (suc i) n = model.has_there (has_new ys i n)

  only : {x n : A} → model.Has x (n ∷ []) → x ≡ n
  only model.has_here = refl
  only (model.has_there h) = elim h [ ]

  differ_insert : (xs : List A) (i : ℕ) (n : A) → model.AllDiffer xs → (model.Has n xs → ⊥) → model.AllDiffer (insert xs i n)
  differ_insert xs zero n d apart = model.differ_more apart d
  differ_insert [] (suc i) n d apart = model.differ_more (λ x. elim x [ ]) model.differ_none
  differ_insert (y ∷ ys) (suc i) n (model.differ_more never d) apart =
      model.differ_more (λ h. neither (inserted ys i n h)) (differ_insert ys i n d (λ h. apart (model.has_there h)))
    where
      neither : Either y ys (n ∷ []) → ⊥
      neither (on_left h) = never h
      neither (on_right h) = apart (subst (λ z. model.Has z (y ∷ ys)) (only h) model.has_here)

map_insert : {A B : Type 0} (f : A → B) (xs : List A) (i : ℕ) (x : A) → map f (insert xs i x) ≡ insert (map f xs) i (f x)
map_insert f xs zero x = refl
map_insert f [] (suc i) x = refl
map_insert f (y ∷ ys) (suc i) x = ap (λ zs. f y ∷ zs) (map_insert f ys i x)

first_never : {j : ℕ} {xs : List ℕ} → model.AllDiffer (j ∷ xs) → model.Has j xs → ⊥
first_never (model.differ_more never d) h = never h

tail_differs : {j : ℕ} {xs : List ℕ} → model.AllDiffer (j ∷ xs) → model.AllDiffer xs
tail_differs (model.differ_more never d) = d

-- what stands on the way back from a row
pub record Behind (before : List (Option ℕ)) (j : ℕ) (rest : List ℕ) : Type 0 where
  pub next : Option ℕ
  pub more : List ℕ
  pub is : rest ≡ j ∷ more
  pub at : slice_get before j ≡ Some next
  pub below : IsBelow next j
  pub chain : Chain before next more

behind : (before : List (Option ℕ)) (o : Option ℕ) (rest : List ℕ) (j : ℕ) → Chain before o rest → o ≡ Some j → Behind before j rest
behind before _ _ j chain_end e = absurd (cc)
behind before _ _ j (chain_on i next js at below chain) e =
    let same : i ≡ j = cc in
    subst (λ n. Behind before n (i ∷ js)) same (record { next = next; more = js; is = refl; at = at; below = below; chain = chain })

ended : (before : List (Option ℕ)) (o : Option ℕ) (rest : List ℕ) → Chain before o rest → o ≡ None → rest ≡ []
ended before _ _ chain_end e = refl
ended before _ _ (chain_on i next js at below chain) e = absurd (cc)

-- a place of a list, by its index
pub got_at : {A : Type 0} (xs : List A) (i : ℕ) (x : A) → i < length xs → x ≡ get_or xs i x → slice_get xs i ≡ Some x
got_at [] i x low e = absurd (omega (arith, low))
got_at (y ∷ ys) zero x low e = ap Some (sym e)
got_at (y ∷ ys) (suc i) x low e = got_at ys i x (omega (arith, low)) e

pub last_is : (last : List (Option ℕ)) (h : ℕ) (o : Option ℕ) → h < length last → o ≡ get_or last h o → o ≡ last_at last h
last_is [] h o low e = absurd (omega (arith, low))
last_is (x ∷ xs) zero o low e = e
last_is (x ∷ xs) (suc h) o low e = last_is xs h o (omega (arith, low)) e

below_left : (o : Option ℕ) (j : ℕ) → IsBelow o j → places_left o < j + 1
below_left None j b = omega arith
below_left (Some i) j b = omega (arith, b)

-- a row that is told, at its place
pub gains_put : (old new : List GroupRow) (row : GroupRow) (place : ℕ) (ts : List model.GroupRow) → row_of row ∷ [] ≡ ts → new ≡ insert old place row → Gains (map row_of old) ts (map row_of new)
gains_put old new row place ts is put =
    subst (λ zs. Gains (map row_of old) zs (map row_of new)) is
    (subst (Gains (map row_of old) (row_of row ∷ [])) (sym (ap (map row_of) put ∙ map_insert row_of old place row)) (gains_one (row_of row) place))

pub gains_nothing : (old : List model.GroupRow) (ts : List model.GroupRow) → [] ≡ ts → Gains old ts old
gains_nothing old ts is = subst (λ zs. Gains old zs old) is gains_none

-- a group while it is told: of its rows, those that were told, and those that stand on the way back from the next one
pub record Walks {X T C W B : Type 0} (rows : List (Row X T C W B)) (h : ℕ) (before : List (Option ℕ)) (next : Option ℕ) (told : List model.GroupRow) : Type 0 where
  pub rest : List ℕ
  pub part : List ℕ
  pub chain : Chain before next rest
  pub each : (j : ℕ) → model.Has j part → LeadsTo (into_of rows) j h
  pub each_rest : (j : ℕ) → model.Has j rest → (j < length rows) × LeadsTo (into_of rows) j h
  pub all : (j : ℕ) (g : model.GroupRow) → TellsAt rows j g → LeadsTo (into_of rows) j h → Either j part rest
  pub differ : model.AllDiffer part
  pub differ_rest : model.AllDiffer rest
  pub apart : (j : ℕ) → model.Has j part → model.Has j rest → ⊥
  pub along : Along (TellsAt rows) part told

module _ {X T C W B : Type 0} (rows : List (Row X T C W B)) (h : ℕ) (before : List (Option ℕ)) where
  pub walk_start : (last : List (Option ℕ)) (next : Option ℕ) (told : List model.GroupRow) → AreMembers rows (length rows) last before → h < length rows → next ≡ get_or last h next → told ≡ [] → Walks rows h before next told
  walk_start last next told are low at none =
      let m = are.members h in
      let lasts = are.lasts in
      let same : next ≡ last_at last h = last_is last h next (omega (arith, low, lasts)) at in
      record {
        rest = m.numbers;
        part = [];
        chain = subst (λ o. Chain before o m.numbers) (sym same) m.chain;
        each = λ j x. elim x [ ];
        each_rest = m.each;
        all = λ j g t l. on_right (m.all j g (at_below t.at) t l);
        differ = model.differ_none;
        differ_rest = m.differ;
        apart = λ j x y. elim x [ ];
        along = subst (Along (TellsAt rows) []) (sym none) along_none;
      }

  pub walk_end : (next : Option ℕ) (told : List model.GroupRow) → Walks rows h before next told → next ≡ None → IsTold rows h told
  walk_end next told w e =
      let none = ended before next w.rest w.chain e in
      record {
        numbers = w.part;
        each = w.each;
        all = λ j g t l. only_left j (w.all j g t l) none;
        differ = w.differ;
        along = w.along;
      }
    where
      only_left : (j : ℕ) {xs ys : List ℕ} → Either j xs ys → ys ≡ [] → model.Has j xs
      only_left j (on_left x) none = x
      only_left j (on_right y) none = let z : model.Has j [] = subst (model.Has j) none y in elim z [ ]

  module _ (next : Option ℕ) (told : List model.GroupRow) (w : Walks rows h before next told) (j : ℕ) (is : next ≡ Some j) where
    here : Behind before j w.rest
    here = behind before next w.rest j w.chain is

    rest_has : model.Has j w.rest
    rest_has = subst (model.Has j) (sym here.is) model.has_here

    pub walk_low : j < length rows
    walk_low = (w.each_rest j rest_has).0

    module _ (after : Option ℕ) (low : j < length before) (at : after ≡ get_or before j after) where
      same : here.next ≡ after
      same = let a = got_at before j after low at in let b = here.at in cc

      pub walk_less : places_left after < j + 1
      walk_less = below_left after j (subst (λ o. IsBelow o j) same here.below)

      never_again : model.Has j here.more → ⊥
      never_again x = first_never (subst model.AllDiffer here.is w.differ_rest) x

      differ_more_rest : model.AllDiffer here.more
      differ_more_rest = tail_differs (subst model.AllDiffer here.is w.differ_rest)

      later : (i : ℕ) → model.Has i here.more → model.Has i w.rest
      later i x = subst (model.Has i) (sym here.is) (model.has_there x)

      -- the row counts
      step_one : (g : model.GroupRow) (place : ℕ) → TellsAt rows j g → Walks rows h before after (insert told place g)
      step_one g place tells =
          record {
            rest = here.more;
            part = insert w.part place j;
            chain = subst (λ o. Chain before o here.more) same here.chain;
            each = λ i x. each_of i (inserted w.part place j x);
            each_rest = λ i x. w.each_rest i (later i x);
            all = λ i k t l. all_of i (w.all i k t l) here.is;
            differ = differ_insert w.part place j w.differ (λ x. w.apart j x rest_has);
            differ_rest = differ_more_rest;
            apart = λ i x y. apart_of i (inserted w.part place j x) y;
            along = along_insert (TellsAt rows) place w.along tells;
          }
        where
          each_of : (i : ℕ) → Either i w.part (j ∷ []) → LeadsTo (into_of rows) i h
          each_of i (on_left x) = w.each i x
          each_of i (on_right x) = subst (λ n. LeadsTo (into_of rows) n h) (sym (only x)) (w.each_rest j rest_has).1

          of_rest : (i : ℕ) → model.Has i (j ∷ here.more) → Either i (insert w.part place j) here.more
          of_rest _ model.has_here = on_left (has_new w.part place j)
          of_rest i (model.has_there x) = on_right x

          all_of : (i : ℕ) {xs : List ℕ} → Either i w.part xs → xs ≡ j ∷ here.more → Either i (insert w.part place j) here.more
          all_of i (on_left x) e = on_left (has_other place j x)
          all_of i (on_right x) e = of_rest i (subst (model.Has i) e x)

          apart_of : (i : ℕ) → Either i w.part (j ∷ []) → model.Has i here.more → ⊥
          apart_of i (on_left x) y = w.apart i x (later i y)
          apart_of i (on_right x) y = never_again (subst (λ n. model.Has n here.more) (only x) y)

      -- it doesn't
      step_none : ((g : model.GroupRow) → TellsAt rows j g → ⊥) → Walks rows h before after told
      step_none never =
          record {
            rest = here.more;
            part = w.part;
            chain = subst (λ o. Chain before o here.more) same here.chain;
            each = w.each;
            each_rest = λ i x. w.each_rest i (later i x);
            all = λ i k t l. all_of i k t (w.all i k t l) here.is;
            differ = w.differ;
            differ_rest = differ_more_rest;
            apart = λ i x y. w.apart i x (later i y);
            along = w.along;
          }
        where
          of_rest : (i : ℕ) (k : model.GroupRow) → TellsAt rows i k → model.Has i (j ∷ here.more) → Either i w.part here.more
          of_rest _ k t model.has_here = absurd (never k t)
          of_rest i k t (model.has_there x) = on_right x

          all_of : (i : ℕ) (k : model.GroupRow) → TellsAt rows i k → {xs : List ℕ} → Either i w.part xs → xs ≡ j ∷ here.more → Either i w.part here.more
          all_of i k t (on_left x) e = on_left x
          all_of i k t (on_right x) e = of_rest i k t (subst (model.Has i) e x)

      step_by : (row : Row X T C W B) → slice_get rows j ≡ Some row → (ts new : List model.GroupRow) → ts ≡ told_by (into_of rows) row → Gains told ts new → Walks rows h before after new
      step_by row there _ _ is gains_none =
          step_none
          (λ g t.
          let one : t.row ≡ row = at_one t.at (from_get rows j row there) in
          let tells : told_by (into_of rows) row ≡ g ∷ [] = subst (λ r. told_by (into_of rows) r ≡ g ∷ []) one t.told_is in
          cc)
      step_by row there _ _ is (gains_one g place) = step_one g place (record { row = row; at = from_get rows j row there; told_is = sym is })

      pub walk_step : (row : Row X T C W B) (new : List model.GroupRow) → slice_get rows j ≡ Some row → Gains told (told_by (into_of rows) row) new → Walks rows h before after new
      walk_step row new there gains = step_by row there (told_by (into_of rows) row) new refl gains

and_true : (b : Bool) → (b && true) ≡ b
and_true true = refl
and_true false = refl

-- a row is free where it has no representative
free_first : (o : Option RowId) (intos : List (Option ℕ)) → is_free (number_of o ∷ intos) zero ≡ is_none o
free_first None intos = refl
free_first (Some r) intos = refl

free_rest : (o : Option ℕ) (intos : List (Option ℕ)) (i : ℕ) → is_free (o ∷ intos) (suc i) ≡ is_free intos i
free_rest None intos i = refl
free_rest (Some r) intos i = refl

module _ {X T C W B : Type 0} where
  free_is : (rows : List (Row X T C W B)) (i : ℕ) (row : Row X T C W B) → slice_get rows i ≡ Some row → is_free (into_of rows) i ≡ is_none row.into
  free_is [] i row e = absurd (cc)
  free_is (r ∷ rows) zero row e = let same : r ≡ row = cc in free_first r.into (into_of rows) ∙ ap (λ (q : Row X T C W B). is_none q.into) same
  free_is (r ∷ rows) (suc i) row e = free_rest (number_of r.into) (into_of rows) i ∙ free_is rows i row e

  never_free : (rows : List (Row X T C W B)) (i : ℕ) → length rows ≤ i → is_free (into_of rows) i ≡ false
  never_free [] i high = refl
  never_free (r ∷ rows) zero high = absurd (omega (arith, high))
  never_free (r ∷ rows) (suc i) high = free_rest (number_of r.into) (into_of rows) i ∙ never_free rows i (omega (arith, high))

  pub live_one : (rows : List (Row X T C W B)) (i : ℕ) (row : Row X T C W B) → slice_get rows i ≡ Some row → is_none row.into ≡ all_free (into_of rows) (i ∷ [])
  live_one rows i row e = sym (and_true (is_free (into_of rows) i) ∙ free_is rows i row e)

  pub live_none : (rows : List (Row X T C W B)) (i : ℕ) → length rows ≤ i → false ≡ all_free (into_of rows) (i ∷ [])
  live_none rows i high = sym (and_true (is_free (into_of rows) i) ∙ never_free rows i high)

pub none_is : {A : Type 0} (b : Bool) (o : Option A) → is_some o ≡ not b → b ≡ is_none o
none_is true o e = sym (ap not e)
none_is false o e = sym (ap not e)

pub on_ok : {A E P Q : Type 0} (r : Result A E) → (P → Q) → OnOk r P → OnOk r Q
on_ok (Ok x) f p = f p
on_ok (Err e) f p = tt
