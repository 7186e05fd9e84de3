-- Each leaf has the row of its number, and no other row is a leaf's.
use Rattle.std.specs.Prelude.{◌≡◌, ℕ, ◌<◌, Bool, true, false, Option, Some, None, List, [], ◌∷◌, ◌++◌, length, map, refl, slice_get, if◌then◌else◌}
use Rattle.std.proofs.Common.{zero, suc, ap, subst, sym, ◌∙◌, arith, append_assoc, append-nil}
use Rattle.std.proofs.lemmas.List.{length-map}
use Rattle.chart_model.specs.Calculus.{Calculus}
use Rattle.chart_model.specs.Chart.{OfLeaf, Row, Task, Chart, Leaf, Limits, daughters, all_free, is_free, with_done, with_outcome, with_whole, whole_row, partial_row, peer_over, step, step_at, Entry, Outcome, Fails, Fits, Makes, leaf_row, opened, empty, replayed, Replay}
use Rattle.chart_model.specs.Finished.{LeavesHaveRows}
use Rattle.chart_model.specs.At.{At, here, there, at_below, at_append, at_snoc, Snoc, old, new}
use Rattle.chart_model.proofs.Gather.{split_at, left, right, Either, Behind}

module _ {M C : Type 0} (k : Calculus M C) (limits : Limits) where
  rows_peer : (ch : Chart M C) (row : Row M C) (m : M) (o : Option ℕ) → peer_over k limits ch row m ≡ o → (with_whole k limits ch row m).rows ≡ ch.rows ++ row ∷ []
  rows_peer ch row m (Some r) e = rw e refl
  rows_peer ch row m None e = rw e refl

  pub rows_whole : (ch : Chart M C) (row : Row M C) (m : M) → (with_whole k limits ch row m).rows ≡ ch.rows ++ row ∷ []
  rows_whole ch row m = rows_peer ch row m (peer_over k limits ch row m) refl

  rows_opened : (ch : Chart M C) (leaves : List (Leaf M C)) → (opened k limits ch leaves).rows ≡ ch.rows ++ map (leaf_row k limits) leaves
  rows_opened ch [] = sym (append-nil ch.rows)
  rows_opened ch (leaf ∷ leaves) =
      rows_opened (with_whole k limits ch (leaf_row k limits leaf) leaf.shape) leaves
      ∙ ap (λ rs. rs ++ map (leaf_row k limits) leaves) (rows_whole ch (leaf_row k limits leaf) leaf.shape)
      ∙ append_assoc ch.rows (leaf_row k limits leaf ∷ []) (map (leaf_row k limits) leaves)

  -- a step adds no row, or one that isn't a leaf's
  pub data Grows (rows next : List (Row M C)) : Type 0 where
    same_rows : next ≡ rows → Grows rows next
    one_row : (w : Row M C) → ((name : ℕ) → w.kind ≡ OfLeaf name → ⊥) → next ≡ rows ++ w ∷ [] → Grows rows next

  grows_outcome : (ch : Chart M C) (task : Task) (o : Outcome M C) → Grows ch.rows (with_outcome k limits ch task o).rows
  grows_outcome ch task Fails = same_rows refl
  grows_outcome ch task (Fits c) = one_row (partial_row k limits ch task c) (λ name e. cc) refl
  grows_outcome ch task (Makes c m) = one_row (whole_row k limits ch task c m) (λ name e. cc) (rows_whole ch (whole_row k limits ch task c m) m)

  grows_live : (ch : Chart M C) (t : ℕ) (task : Task) (o : Outcome M C) (b : Bool) → Grows ch.rows (if b then with_outcome k limits (with_done ch t) task o else with_done ch t).rows
  grows_live ch t task o true = grows_outcome (with_done ch t) task o
  grows_live ch t task o false = same_rows refl

  pub grows_at : (ch : Chart M C) (t : ℕ) (o : Outcome M C) (task : Option Task) (pending : Bool) → Grows ch.rows (step_at k limits ch t o task pending).rows
  grows_at ch t o None pending = same_rows refl
  grows_at ch t o (Some task) false = same_rows refl
  grows_at ch t o (Some task) true = grows_live ch t task o (all_free ch.into (daughters ch.rows task))

  -- these rows come first, and no other is a leaf's
  record First (first rows : List (Row M C)) : Type 0 where
    rest : List (Row M C)
    are : rows ≡ first ++ rest
    no_leaf : (i name : ℕ) (row : Row M C) → At rest i row → row.kind ≡ OfLeaf name → ⊥

  first_grows : (first rows next : List (Row M C)) → First first rows → Grows rows next → First first next
  first_grows first rows next f (same_rows e) = record { rest = f.rest; are = e ∙ f.are; no_leaf = f.no_leaf }
  first_grows first rows next f (one_row w none e) =
      record { rest = f.rest ++ w ∷ []; are = e ∙ ap (λ rs. rs ++ w ∷ []) f.are ∙ append_assoc first f.rest (w ∷ []); no_leaf = λ i name row a h. of_snoc i name row (at_snoc f.rest w i row a) h }
    where
      of_snoc : (i name : ℕ) (row : Row M C) → Snoc f.rest w i row → row.kind ≡ OfLeaf name → ⊥
      of_snoc i name row (old a) h = f.no_leaf i name row a h
      of_snoc i name row (new p q) h = none name (ap (λ (r : Row M C). r.kind) q ∙ h)

  first_replayed : (first : List (Row M C)) (ch : Chart M C) (history : List (Entry M C)) → First first ch.rows → First first (replayed k limits ch history).rows
  first_replayed first ch [] f = f
  first_replayed first ch (e ∷ es) f = first_replayed first (step k limits ch e) es (first_grows first ch.rows (step k limits ch e).rows f (grows_at ch e.task e.outcome (slice_get ch.tasks e.task) (is_free ch.done e.task)))

  at_map : (leaves : List (Leaf M C)) (l : ℕ) (leaf : Leaf M C) → At leaves l leaf → At (map (leaf_row k limits) leaves) l (leaf_row k limits leaf)
  at_map [] l leaf a = elim a [ ]
  at_map (x ∷ leaves) zero leaf (here) = here
  at_map (x ∷ leaves) (suc l) leaf (there a) = there (at_map leaves l leaf a)

  have_rows : (leaves : List (Leaf M C)) (ch : Chart M C) → First (map (leaf_row k limits) leaves) ch.rows → LeavesHaveRows k limits leaves ch
  have_rows leaves ch f =
      record {
        row_is = λ l leaf a. subst (λ rs. At rs l (leaf_row k limits leaf)) (sym f.are) (at_append f.rest (at_map leaves l leaf a));
        no_other = λ i name row a e. of_side i name row (split_at (map (leaf_row k limits) leaves) f.rest i row (subst (λ rs. At rs i row) f.are a)) e;
      }
    where
      of_side : (i name : ℕ) (row : Row M C) → Either (At (map (leaf_row k limits) leaves) i row) (Behind (map (leaf_row k limits) leaves) f.rest i row) → row.kind ≡ OfLeaf name → i < length leaves
      of_side i name row (left a) e = let l : i < length (map (leaf_row k limits) leaves) = at_below a in omega (arith, length-map leaves (leaf_row k limits))
      of_side i name row (right b) e = absurd (f.no_leaf b.place name row b.at e)

  -- after any history, legal or not, each leaf has its row
  pub leaves_have_rows : (leaves : List (Leaf M C)) (history : List (Entry M C)) → LeavesHaveRows k limits leaves (Replay k limits leaves history)
  leaves_have_rows leaves history =
      have_rows leaves (Replay k limits leaves history)
      (first_replayed (map (leaf_row k limits) leaves) (opened k limits (empty k limits) leaves) history
      (record { rest = []; are = rows_opened (empty k limits) leaves ∙ sym (append-nil (map (leaf_row k limits) leaves)); no_leaf = λ i name row a e. elim a [ ] }))
