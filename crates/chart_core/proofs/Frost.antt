-- Rows that a new host frosts.
use Rattle.std.specs.Prelude.{◌≡◌, ℕ, ◌+◌, ◌<◌, ◌≤◌, ◌&&◌, ◌||◌, ◌++◌, not, nat_eq, Bool, true, false, is_some, is_none, Option, Some, None, List, [], ◌∷◌, length, map, slice_set, slice_index_or, All}
use Rattle.std.specs.List.{filter, list_any}
use Rattle.std.proofs.Common.{refl, ap, sym, ◌∙◌, subst, arith, zero, suc, eqb-true}
use Rattle.std.proofs.lemmas.Bool.{eqb-false}
use Rattle.std.proofs.lemmas.List.{length-map}
use Rattle.chart_model.specs.Calculus.{Calculus, Laws}
use Rattle.chart_model.specs.Chart as model
use Rattle.chart_model.specs.At.{At, here, there, to_get}
use Rattle.chart_model.proofs.Peers as peers
use Rattle.chart_model.proofs.Gather.{left, right}
use Rattle.chart_core.specs.declared.Row.{Row}
use Rattle.chart_core.specs.declared.RowId.{RowId}
use Rattle.chart_core.specs.declared.history.TaskRow.{TaskRow}
use Rattle.chart_core.specs.declared.history.Entry.{Entry}
use Rattle.chart_core.specs.Lists.{bucket}
use Rattle.chart_core.specs.Grammar.{Keys}
use Rattle.chart_core.specs.View.{AreDaughters, list_of, row_of, rows_of, into_of, number_of, bare_row, KeepsRows, write_all}
use Rattle.chart_core.specs.Tests.{at_place, is_peer, any_in}
use Rattle.chart_core.specs.Sound.{Lists, SoundOf, is_host, is_partial_kind}
use Rattle.chart_core.proofs.Found.{at_map, at_mapped, no_number, peers_agree, peers_missed}
use Rattle.chart_core.proofs.Index.{lists_frozen}

written_is : (into : List (Option ℕ)) (ps : List ℕ) (n : ℕ) → write_all into ps n ≡ peers.write_all into ps n
written_is into [] n = refl
written_is into (p ∷ ps) n = written_is (slice_set into p (Some n)) ps n

module _ {X T C W B M : Type 0} (k : Calculus M C) (laws : Laws k) (meaning : T → M) (cell : C → ℕ) (rows : List (Row X T C W B)) (lists : List (List ℕ)) (l : Lists is_host (λ row. cell row.cover) rows lists) (test : M → Bool) (cover : C) (level : ℕ) where
  -- what is written at the places that were found is the frost of the chart
  pub frost_found : (n : ℕ) → write_all (into_of rows) (filter (at_place (is_peer k meaning test cover level) rows) (bucket lists (cell cover))) n ≡ model.frosted k (model.has_peer k test cover level) n (rows_of meaning rows) (into_of rows)
  frost_found n =
      written_is (into_of rows) (filter (at_place (is_peer k meaning test cover level) rows) (bucket lists (cell cover))) n
      ∙ peers.frost_is k (model.has_peer k test cover level) (at_place (is_peer k meaning test cover level) rows) (rows_of meaning rows) (into_of rows)
      (peers_agree k laws meaning cell rows lists l test cover level) (bucket lists (cell cover)) n
      (length-map rows (λ row. number_of row.into) ∙ sym (length-map rows (row_of meaning)))
      (peers_missed k laws meaning cell rows lists l test cover level)

written_here : (into : List (Option ℕ)) (p n : ℕ) → model.is_free (slice_set into p (Some n)) p ≡ false
written_here [] p n = refl
written_here (None ∷ into) zero n = refl
written_here (Some r ∷ into) zero n = refl
written_here (None ∷ into) (suc p) n = written_here into p n
written_here (Some r ∷ into) (suc p) n = written_here into p n

written_else : (into : List (Option ℕ)) (p n d : ℕ) → (p ≡ d → ⊥) → model.is_free (slice_set into p (Some n)) d ≡ model.is_free into d
written_else [] p n d h = refl
written_else (None ∷ into) zero n zero h = absurd (h refl)
written_else (Some r ∷ into) zero n zero h = absurd (h refl)
written_else (None ∷ into) zero n (suc d) h = refl
written_else (Some r ∷ into) zero n (suc d) h = refl
written_else (None ∷ into) (suc p) n zero h = refl
written_else (Some r ∷ into) (suc p) n zero h = refl
written_else (None ∷ into) (suc p) n (suc d) h = written_else into p n d (λ e. h (ap suc e))
written_else (Some r ∷ into) (suc p) n (suc d) h = written_else into p n d (λ e. h (ap suc e))

and_not : (a : Bool) → a && not true ≡ false
and_not true = refl
and_not false = refl

and_yes : (a : Bool) → a ≡ a && not false
and_yes true = refl
and_yes false = refl

-- a place is free afterwards where it was free and isn't written
one_written : (into : List (Option ℕ)) (p n d : ℕ) → model.is_free (slice_set into p (Some n)) d ≡ model.is_free into d && not (nat_eq p d)
one_written into p n d = by_test (nat_eq p d) refl
  where
    by_test : (b : Bool) → nat_eq p d ≡ b → model.is_free (slice_set into p (Some n)) d ≡ model.is_free into d && not (nat_eq p d)
    by_test true e = let z : p ≡ d = eqb-true p d e in ap (λ x. model.is_free (slice_set into p (Some n)) x) (sym z) ∙ written_here into p n ∙ sym (and_not (model.is_free into d)) ∙ ap (λ b. model.is_free into d && not b) (sym e)
    by_test false e = written_else into p n d (eqb-false p d e) ∙ and_yes (model.is_free into d) ∙ ap (λ b. model.is_free into d && not b) (sym e)

and_or : (a b c : Bool) → (a && not b) && not c ≡ a && not (b || c)
and_or true true c = refl
and_or true false c = refl
and_or false b c = refl

free_written : (into : List (Option ℕ)) (ps : List ℕ) (n d : ℕ) → model.is_free (write_all into ps n) d ≡ model.is_free into d && not (list_any (λ y. nat_eq y d) ps)
free_written into [] n d = and_yes (model.is_free into d)
free_written into (p ∷ ps) n d =
    free_written (slice_set into p (Some n)) ps n d
    ∙ ap (λ b. b && not (list_any (λ y. nat_eq y d) ps)) (one_written into p n d)
    ∙ and_or (model.is_free into d) (nat_eq p d) (list_any (λ y. nat_eq y d) ps)

and_both : (a b c d : Bool) → (a && not b) && (c && not d) ≡ (a && c) && not (b || d)
and_both true true true d = refl
and_both true true false d = refl
and_both true false true d = refl
and_both true false false d = refl
and_both false b c d = refl

pub all_free_written : (into : List (Option ℕ)) (ps : List ℕ) (n : ℕ) (ds : List ℕ) → model.all_free (write_all into ps n) ds ≡ model.all_free into ds && not (any_in ps ds)
all_free_written into ps n [] = refl
all_free_written into ps n (d ∷ ds) =
    ap (λ b. b && model.all_free (write_all into ps n) ds) (free_written into ps n d)
    ∙ ap (λ b. (model.is_free into d && not (list_any (λ y. nat_eq y d) ps)) && b) (all_free_written into ps n ds)
    ∙ and_both (model.is_free into d) (list_any (λ y. nat_eq y d) ps) (model.all_free into ds) (any_in ps ds)

module _ {X T C W B : Type 0} where
  pub record Was (rows : List (Row X T C W B)) (p : ℕ) (row : Row X T C W B) : Type 0 where
    pub was : Row X T C W B
    pub at : At rows p was
    pub bare : bare_row was ≡ bare_row row

  pub was_at : (rows next : List (Row X T C W B)) → KeepsRows rows next → (p : ℕ) (row : Row X T C W B) → At next p row → Was rows p row
  was_at rows next keeps p row a =
      let m = at_mapped bare_row rows p (bare_row row) (subst (λ xs. At xs p (bare_row row)) (sym keeps) (at_map bare_row next p row a)) in
      record { was = m.0; at = m.1; bare = m.2 }

  pub kept_length : (rows next : List (Row X T C W B)) → KeepsRows rows next → length next ≡ length rows
  kept_length rows next keeps = sym (length-map next bare_row) ∙ ap length (sym keeps) ∙ length-map rows bare_row

  all_places : (P : Row X T C W B → Type 0) (xs : List (Row X T C W B)) → ((p : ℕ) (row : Row X T C W B) → At xs p row → P row) → All P xs
  all_places P [] h = λ k d l. absurd (omega arith)
  all_places P (x ∷ xs) h = next P x xs (h zero x here) (all_places P xs (λ p row a. h (suc p) row (there a)))
    where
      next : (P : Row X T C W B → Type 0) (x : Row X T C W B) (xs : List (Row X T C W B)) → P x → All P xs → (k : ℕ) (d : Row X T C W B) → k < length (x ∷ xs) → P (slice_index_or (x ∷ xs) k d)
      next P x xs p r zero d l = p
      next P x xs p r (suc k) d l = r k d (omega arith)

  pub all_at_place : (P : Row X T C W B → Type 0) (xs : List (Row X T C W B)) (p : ℕ) (row : Row X T C W B) → All P xs → At xs p row → P row
  all_at_place P [] p row h a = elim a [ ]
  all_at_place P (x ∷ xs) zero row h (here) = h 0 x (omega arith)
  all_at_place P (x ∷ xs) (suc p) row h (there a) = all_at_place P xs p row (λ k d l. h (suc k) d (omega arith)) a

  -- what doesn't look at representatives holds afterwards
  pub all_kept : (P : Row X T C W B → Type 0) → ((a b : Row X T C W B) → bare_row a ≡ bare_row b → P a → P b) → (rows next : List (Row X T C W B)) → KeepsRows rows next → All P rows → All P next
  all_kept P moves rows next keeps h = all_places P next (λ p row a. let w = was_at rows next keeps p row a in moves w.was row w.bare (all_at_place P rows p w.was h w.at))

module _ {X T C W B M : Type 0} (meaning : T → M) where
  pub rows_kept : (rows next : List (Row X T C W B)) → KeepsRows rows next → rows_of meaning next ≡ rows_of meaning rows
  rows_kept rows next keeps = bare_rows next ∙ ap (map (row_of meaning)) (sym keeps) ∙ sym (bare_rows rows)
    where
      bare_rows : (xs : List (Row X T C W B)) → map (row_of meaning) xs ≡ map (row_of meaning) (map bare_row xs)
      bare_rows [] = refl
      bare_rows (x ∷ xs) = ap (λ ys. row_of meaning x ∷ ys) (bare_rows xs)

module _ {X T C W B : Type 0} (keys : Keys C) where
  -- a core stays sound as rows are frosted
  pub sound_frost : (rows next : List (Row X T C W B)) (ps : List ℕ) (n : ℕ) (tasks : List TaskRow) (history : List Entry) (capacity made : ℕ) (a b c : List (List ℕ)) → KeepsRows rows next → into_of next ≡ write_all (into_of rows) ps n → SoundOf keys rows tasks history capacity made a b c → SoundOf keys next tasks history capacity made a b c
  sound_frost rows next ps n tasks history capacity made a b c keeps into s =
      let same = kept_length rows next keeps in
      record {
        room = s.room;
        counted = s.counted;
        made_few = omega (arith, s.made_few, same);
        daughters = all_kept (λ row. AreDaughters row.daughters) (λ x y e h. subst AreDaughters (ap (λ (r : Row X T C W B). r.daughters) e) h) rows next keeps s.daughters;
        in_range = subst (λ m. All (λ row. All (λ d. d < m) (list_of row.daughters)) next) (sym same) (all_kept (λ row. All (λ d. d < length rows) (list_of row.daughters)) (λ x y e h. subst (λ ds. All (λ d. d < length rows) (list_of ds)) (ap (λ (r : Row X T C W B). r.daughters) e) h) rows next keeps s.in_range);
        entries = subst (λ m. All (λ (e : Entry). Rattle.std.specs.Prelude.MatchOption e.row (Unit {0}) (λ (id : RowId). id.0 < m)) history) (sym same) s.entries;
        cells = lists_frozen is_host (λ row. keys.cell row.cover) rows next a same (λ p row x want. hosts p row x want (λ r. keys.cell r.cover) (λ u v e. ap (λ (r : Row X T C W B). keys.cell r.cover) e)) s.cells;
        begins = lists_frozen is_host (λ row. keys.begins row.cover) rows next b same (λ p row x want. hosts p row x want (λ r. keys.begins r.cover) (λ u v e. ap (λ (r : Row X T C W B). keys.begins r.cover) e)) s.begins;
        ends = lists_frozen (λ row. is_partial_kind row.kind) (λ row. keys.ends row.cover) rows next c same (λ p row x want. partials p row x want) s.ends;
      }
    where
      free_before : (p : ℕ) (row was : Row X T C W B) → At next p row → At rows p was → is_none row.into ≡ true → is_none was.into ≡ true
      free_before p row was x y free =
          let z : At (peers.write_all (into_of rows) ps n) p None = subst (λ xs. At xs p None) (into ∙ written_is (into_of rows) ps n) (subst (At (into_of next) p) (none_is row.into free) (at_map (λ (row : Row X T C W B). number_of row.into) next p row x)) in
          elim (peers.at_written (into_of rows) ps n p None z) [
            | left b ↦ (let m = at_mapped (λ (row : Row X T C W B). number_of row.into) rows p None b in let same : m.0 ≡ was = (let e = to_get m.1 in let f = to_get y in cc) in no_number was.into (subst (λ (r : Row X T C W B). number_of r.into ≡ None) same m.2))
            | right b ↦ absurd (let e = b.0 in cc)
          ]
        where
          none_is : (o : Option RowId) → is_none o ≡ true → number_of o ≡ None
          none_is None e = refl
          none_is (Some id) e = absurd (cc)

      and_left : (a b : Bool) → a && b ≡ true → (a ≡ true) × (b ≡ true)
      and_left true b h = (refl, h)
      and_left false b h = absurd (cc)

      hosts : (p : ℕ) (row : Row X T C W B) → At next p row → is_host row ≡ true → (key : Row X T C W B → ℕ) → ((u v : Row X T C W B) → bare_row u ≡ bare_row v → key u ≡ key v) → (was : Row X T C W B) × At rows p was × (is_host was ≡ true) × (key was ≡ key row)
      hosts p row x want key same_key =
          let w = was_at rows next keeps p row x in
          let q = and_left (is_some row.shape) (is_none row.into) want in
          let shape : is_some w.was.shape ≡ true = ap (λ (r : Row X T C W B). is_some r.shape) w.bare ∙ q.0 in
          let free = free_before p row w.was x w.at q.1 in
          (w.was, w.at, ap (λ b. b && is_none w.was.into) shape ∙ free, same_key w.was row w.bare)

      partials : (p : ℕ) (row : Row X T C W B) → At next p row → is_partial_kind row.kind ≡ true → (was : Row X T C W B) × At rows p was × (is_partial_kind was.kind ≡ true) × (keys.ends was.cover ≡ keys.ends row.cover)
      partials p row x want =
          let w = was_at rows next keeps p row x in
          (w.was, w.at, ap (λ (r : Row X T C W B). is_partial_kind r.kind) w.bare ∙ want, ap (λ (r : Row X T C W B). keys.ends r.cover) w.bare)
