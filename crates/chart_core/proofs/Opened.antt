-- A core without rows.
use Rattle.std.specs.Prelude.{◌≡◌, ℕ, ◌<◌, ◌++◌, Option, Some, None, Result, Ok, Err, OnOk, List, [], ◌∷◌, length, All, vec_capacity}
use Rattle.std.proofs.Common.{refl, sym, ap, ◌∙◌, subst, arith, zero, suc}
use Rattle.chart_model.specs.At.{At}
use Rattle.chart_model.specs.Picked.{Rises, no_more}
use Rattle.chart_model.specs.Calculus.{Calculus}
use Rattle.chart_model.specs.Tuples.{on_list}
use Rattle.chart_model.specs.Chart as model
use Rattle.chart_core.specs.declared.chart.Core.{Core}
use Rattle.chart_core.specs.declared.Row.{Row}
use Rattle.chart_core.specs.declared.history.TaskRow.{TaskRow}
use Rattle.chart_core.specs.declared.history.Entry.{Entry}
use Rattle.chart_core.specs.Grammar.{Grammar, Keys}
use Rattle.chart_core.specs.View.{Belongs, rows_of}
use Rattle.chart_core.specs.Sound.{SoundOf, IsSound, KeepsFrame}
use Rattle.chart_core.proofs.Grows.{chart_from}
use Rattle.chart_core.proofs.Commute.{whole_rows}
use Rattle.chart_core.specs.Lists.{lists_of, list_at, IsFull}
use Rattle.chart_core.specs.CoreView.{chart_of, leaves_of, leaves_in, leaf_by, limits_of}
use Rattle.chart_core.specs.Kept.{IsOpened}

empty_at : (lists : List (List ℕ)) (j : ℕ) → All (λ xs. xs ≡ []) lists → list_at lists j ≡ []
empty_at [] j h = refl
empty_at (xs ∷ lists) zero h = h 0 xs (omega arith)
empty_at (xs ∷ lists) (suc j) h = empty_at lists j (λ k d l. h (suc k) d (omega arith))

rises_there : (lists : List (List ℕ)) (j : ℕ) → All (λ xs. xs ≡ []) lists → Rises 0 (list_at lists j)
rises_there lists j h = subst (Rises 0) (sym (empty_at lists j h)) no_more

none_there : (lists : List (List ℕ)) (j n p : ℕ) → All (λ xs. xs ≡ []) lists → At (list_at lists j) n p → p < 0
none_there lists j n p h a = elim (subst (λ xs. At xs n p) (empty_at lists j h) a) [ ]

none_at : {A : Type 0} (p : ℕ) (row : A) (P : Type 0) → At [] p row → P
none_at p row P a = elim a [ ]

module _ {X T C W B : Type 0} (keys : Keys C) where
  sound_empty : (rows : List (Row X T C W B)) (tasks : List TaskRow) (history : List Entry) (capacity made : ℕ) (a b c : List (List ℕ)) → rows ≡ [] → tasks ≡ [] → history ≡ [] → made ≡ 0 → All (λ xs. xs ≡ []) a → All (λ xs. xs ≡ []) b → All (λ xs. xs ≡ []) c → SoundOf keys rows tasks history capacity made a b c
  sound_empty rows tasks history capacity made a b c er et eh em ea eb ec =
      rw (er, et, eh, em) (record {
        room = omega arith;
        counted = refl;
        made_few = omega arith;
        daughters = λ k d l. absurd (omega arith);
        in_range = λ k d l. absurd (omega arith);
        entries = λ k d l. absurd (omega arith);
        cells = record { misses_none = λ p row x want. none_at p row _ x; rising = λ j. rises_there a j ea; inside = λ j n p x. none_there a j n p ea x };
        begins = record { misses_none = λ p row x want. none_at p row _ x; rising = λ j. rises_there b j eb; inside = λ j n p x. none_there b j n p eb x };
        ends = record { misses_none = λ p row x want. none_at p row _ x; rising = λ j. rises_there c j ec; inside = λ j n p x. none_there c j n p ec x };
      })

module _ {X T C W B M : Type 0} (g : Grammar T M C) where
  empty_chart : (rows : List (Row X T C W B)) (tasks : List TaskRow) (made places : ℕ) (limits : model.Limits) → rows ≡ [] → tasks ≡ [] → made ≡ 0 → places ≡ 0 → chart_from g.meaning rows tasks made places ≡ model.opened g.calculus limits (model.empty g.calculus limits) (leaves_in (rows_of g.meaning rows))
  empty_chart rows tasks made places limits er et em ep = rw (er, et, em, ep) refl

  no_rows_belong : (rows : List (Row X T C W B)) → rows ≡ [] → All (Belongs g.calculus g.belongs) rows
  no_rows_belong rows e = rw e (λ k d l. absurd (omega arith))

module _ {X T C W B M : Type 0} (g : Grammar T M C) (core : Core X T C W B) where
  pub empty_core : core.rows.items ≡ [] → core.tasks.items ≡ [] → core.history.items ≡ [] → core.made ≡ 0 → IsFull core.cells → IsFull core.begins → IsFull core.ends → All (λ xs. xs ≡ []) (lists_of core.cells) → All (λ xs. xs ≡ []) (lists_of core.begins) → All (λ xs. xs ≡ []) (lists_of core.ends) → IsOpened g core × (leaves_of g.meaning core ≡ [])
  empty_core rows tasks history made fc fb fe ec eb ee = (
    record {
      state = empty_chart g core.rows.items core.tasks.items core.made (length core.history.items) (limits_of core) rows tasks made (ap length history);
      no_history = history;
      belongs_all = no_rows_belong g core.rows.items rows;
      sound = record {
        full_cells = fc;
        full_begins = fb;
        full_ends = fe;
        sound = sound_empty g.keys core.rows.items core.tasks.items core.history.items (vec_capacity core.history) core.made (lists_of core.cells) (lists_of core.begins) (lists_of core.ends) rows tasks history made ec eb ee;
      };
    },
    ap (λ rs. leaves_in (rows_of g.meaning rs)) rows,
  )

pub on_ok : {A E : Type 0} (P Q : Type 0) (r : Result A E) → (P → Q) → OnOk r P → OnOk r Q
on_ok P Q (Ok x) h p = h p
on_ok P Q (Err e) h p = p

leaves_grown : {M C : Type 0} (rows : List (model.Row M C)) (w : model.Row M C) (leaf : model.Leaf M C) → leaf_by w w.kind w.shape ≡ Some leaf → leaves_in (rows ++ w ∷ []) ≡ leaves_in rows ++ leaf ∷ []
leaves_grown [] w leaf e = ap (λ o. on_list o []) e
leaves_grown (r ∷ rows) w leaf e = by_first (leaf_by r r.kind r.shape) (leaves_grown rows w leaf e)
  where
    by_first : (o : Option (model.Leaf _ _)) → leaves_in (rows ++ w ∷ []) ≡ leaves_in rows ++ leaf ∷ [] → on_list o (leaves_in (rows ++ w ∷ [])) ≡ on_list o (leaves_in rows) ++ leaf ∷ []
    by_first None h = h
    by_first (Some x) h = ap (λ xs. x ∷ xs) h

module _ {M C : Type 0} (k : Calculus M C) (limits : model.Limits) where
  opened_more : (ch : model.Chart M C) (leaves : List (model.Leaf M C)) (leaf : model.Leaf M C) → model.opened k limits ch (leaves ++ leaf ∷ []) ≡ model.with_whole k limits (model.opened k limits ch leaves) (model.leaf_row k limits leaf) leaf.shape
  opened_more ch [] leaf = refl
  opened_more ch (x ∷ leaves) leaf = opened_more (model.with_whole k limits ch (model.leaf_row k limits x) x.shape) leaves leaf

module _ {X T C W B M : Type 0} (g : Grammar T M C) (old new : Core X T C W B) (leaf : model.Leaf M C) where
  pub leaf_leaves : chart_of g.meaning new ≡ model.with_whole g.calculus (limits_of old) (chart_of g.meaning old) (model.leaf_row g.calculus (limits_of old) leaf) leaf.shape → leaves_of g.meaning new ≡ leaves_of g.meaning old ++ leaf ∷ []
  leaf_leaves chart =
      ap leaves_in (ap (λ (c : model.Chart M C). c.rows) chart ∙ whole_rows g.calculus (limits_of old) (chart_of g.meaning old) (model.leaf_row g.calculus (limits_of old) leaf) leaf.shape)
      ∙ leaves_grown (rows_of g.meaning old.rows.items) (model.leaf_row g.calculus (limits_of old) leaf) leaf refl

  pub leaf_opened : IsOpened g old → chart_of g.meaning new ≡ model.with_whole g.calculus (limits_of old) (chart_of g.meaning old) (model.leaf_row g.calculus (limits_of old) leaf) leaf.shape → new.history.items ≡ old.history.items → KeepsFrame old new → All (Belongs g.calculus g.belongs) new.rows.items → IsSound g.keys new → IsOpened g new
  leaf_opened is chart history frame belongs sound =
      let limits : limits_of new ≡ limits_of old = let e = frame.edges in let u = frame.unary in cc in
      record {
        state =
            chart
            ∙ ap (λ ch. model.with_whole g.calculus (limits_of old) ch (model.leaf_row g.calculus (limits_of old) leaf) leaf.shape) is.state
            ∙ sym (opened_more g.calculus (limits_of old) (model.empty g.calculus (limits_of old)) (leaves_of g.meaning old) leaf)
            ∙ ap (model.opened g.calculus (limits_of old) (model.empty g.calculus (limits_of old))) (sym (leaf_leaves chart))
            ∙ ap (λ l. model.opened g.calculus l (model.empty g.calculus l) (leaves_of g.meaning new)) (sym limits);
        no_history = history ∙ is.no_history;
        belongs_all = belongs;
        sound = sound;
      }

module _ {M C : Type 0} where
  abbrev pub made_leaf : List ℕ → model.Leaf M C → model.Row M C
  made_leaf ds l = record { kind = model.OfLeaf l.name; daughters = ds; cover = l.cover; level = 0; shape = Some l.shape }
