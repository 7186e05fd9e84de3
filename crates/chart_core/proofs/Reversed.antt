-- A list that is taken from its end, last first.
use Rattle.std.specs.Prelude.{◌≡◌, ℕ, ◌++◌, ◌<◌, ◌≤◌, Option, Some, None, List, [], ◌∷◌, length, map, reverse, All, vec_capacity, option_map, MatchOption}
use Rattle.std.proofs.Common.{refl, ap, sym, ◌∙◌, subst, arith, zero, suc, append_assoc, length-append}
use Rattle.std.proofs.lemmas.List.{reverse-append}
use Rattle.chart_model.specs.Calculus.{Calculus}
use Rattle.chart_model.specs.Tuples.{on_list}
use Rattle.chart_model.specs.Chart as model
use Rattle.chart_model.specs.Below.{IsRun}
use Rattle.chart_core.specs.declared.chart.Core.{Core}
use Rattle.chart_core.specs.declared.Row.{Row}
use Rattle.chart_core.specs.declared.Leaf.{Leaf}
use Rattle.chart_core.specs.declared.RowKind.{RowKind}
use Rattle.chart_core.specs.declared.RowKind.TheVariants as kinds
use Rattle.chart_core.specs.Grammar.{Grammar}
use Rattle.chart_core.specs.Kept.{IsCore, IsOpened}
use Rattle.chart_core.specs.Leaves.{leaf_in, leaf_rows, leaf_seen, LeafBelongs}
use Rattle.chart_core.specs.View.{Belongs, row_of, rows_of, kind_of}
use Rattle.chart_core.specs.CoreView.{leaves_of, leaves_in, leaf_by, history_of, limits_of, entry_of}
use Rattle.chart_core.proofs.Grows.{all_snoc}

module _ {A : Type 0} where
  pub reverse_last : (xs ys : List A) (x : A) → xs ≡ ys ++ x ∷ [] → reverse xs ≡ x ∷ reverse ys
  reverse_last xs ys x e = ap reverse e ∙ reverse-append ys (x ∷ [])

  all_cons : (P : A → Type 0) (x : A) (xs : List A) → P x → All P xs → All P (x ∷ xs)
  all_cons P x xs p h zero d l = p
  all_cons P x xs p h (suc k) d l = h k d (omega arith)

  pub all_reversed : (P : A → Type 0) (xs : List A) → All P xs → All P (reverse xs)
  all_reversed P [] h = λ k d l. absurd (omega arith)
  all_reversed P (x ∷ xs) h = subst (All P) (sym (reverse-append (x ∷ []) xs)) (all_snoc P (reverse xs) x (all_reversed P xs (λ k d l. h (suc k) d (omega arith))) (h 0 x (omega arith)))

  pub all_split : (P : A → Type 0) (xs ys : List A) (x : A) → xs ≡ ys ++ x ∷ [] → All P xs → All P ys × P x
  all_split P xs ys x e h = go ys (subst (All P) e h)
    where
      go : (ys : List A) → All P (ys ++ x ∷ []) → All P ys × P x
      go [] h = ((λ k d l. absurd (omega arith)), h 0 x (omega arith))
      go (y ∷ ys) h = let r = go ys (λ k d l. h (suc k) d (omega arith)) in (all_cons P y ys (h 0 y (omega arith)) r.0, r.1)

module _ {A B : Type 0} (f : A → B) where
  pub taken : (before now : List B) (xs ys : List A) (x : A) (all : List B) → xs ≡ ys ++ x ∷ [] → now ≡ before ++ f x ∷ [] → before ++ map f (reverse xs) ≡ all → now ++ map f (reverse ys) ≡ all
  taken before now xs ys x all e g h =
      ap (λ zs. zs ++ map f (reverse ys)) g
      ∙ append_assoc before (f x ∷ []) (map f (reverse ys))
      ∙ sym (ap (λ zs. before ++ map f zs) (reverse_last xs ys x e))
      ∙ h

module _ {X T C W B M : Type 0} (g : Grammar T M C) (core : Core X T C W B) where
  no_entries : core.history.items ≡ [] → history_of g.meaning core ≡ []
  no_entries e = ap (map (entry_of (rows_of g.meaning core.rows.items))) e

  -- a core with no outcome entered is a core
  pub opened_core : IsOpened g core → core.unary ≤ 32 → length (leaves_of g.meaning core) ≤ vec_capacity core.spare → core.spare.items ≡ [] → IsCore g core
  opened_core is narrow room none =
      record {
        state = is.state ∙ sym (ap (model.Replay g.calculus (limits_of core) (leaves_of g.meaning core)) (no_entries is.no_history));
        run = subst (IsRun g.calculus (limits_of core) (model.opened g.calculus (limits_of core) (model.empty g.calculus (limits_of core)) (leaves_of g.meaning core))) (sym (no_entries is.no_history)) tt;
        belongs_all = is.belongs_all;
        sound = is.sound;
        narrow = narrow;
        room_for_leaves = room;
        no_leaves_yet = none;
      }

  pub none_entered : IsOpened g core → history_of g.meaning core ≡ []
  none_entered is = no_entries is.no_history

module _ {X T C W B M : Type 0} (meaning : T → M) where
  seen_one : (row : Row X T C W B) (rest : List (Leaf X T C W B)) (more : List (model.Leaf M C)) → map (leaf_seen meaning) rest ≡ more → map (leaf_seen meaning) (on_list (leaf_in row.kind row.cover row.shape) rest) ≡ on_list (leaf_by (row_of meaning row) (kind_of row.kind) (row_of meaning row).shape) more
  seen_one row rest more e = by_kind row.kind row.shape
    where
      by_kind : (kind : RowKind) (shape : Option T) → map (leaf_seen meaning) (on_list (leaf_in kind row.cover shape) rest) ≡ on_list (leaf_by (row_of meaning row) (kind_of kind) (option_map meaning shape)) more
      by_kind (kinds.Leaf name) None = e
      by_kind (kinds.Leaf name) (Some s) = ap (λ xs. record { cover = row.cover; shape = meaning s; name = name } ∷ xs) e
      by_kind (kinds.Partial rule) None = e
      by_kind (kinds.Partial rule) (Some s) = e
      by_kind (kinds.Whole rule) None = e
      by_kind (kinds.Whole rule) (Some s) = e

  -- the leaves of a core are those of its rows
  pub rows_seen : (rows : List (Row X T C W B)) → map (leaf_seen meaning) (leaf_rows rows) ≡ leaves_in (rows_of meaning rows)
  rows_seen [] = refl
  rows_seen (row ∷ rows) = seen_one row (leaf_rows rows) (leaves_in (rows_of meaning rows)) (rows_seen rows)

module _ {X T C W B M : Type 0} (k : Calculus M C) (belongs : T → Type 0) where
  one_belongs : (row : Row X T C W B) (kind : RowKind) (shape : Option T) → MatchOption shape (Unit {0}) (λ s. belongs s × k.proper row.cover) → (rest : List (Leaf X T C W B)) → All (LeafBelongs k belongs) rest → All (LeafBelongs k belongs) (on_list (leaf_in kind row.cover shape) rest)
  one_belongs row (kinds.Leaf name) None b rest h = h
  one_belongs row (kinds.Leaf name) (Some s) b rest h = all_cons (LeafBelongs k belongs) (record { cover = row.cover; shape = s; name = name }) rest b h
  one_belongs row (kinds.Partial rule) shape b rest h = h
  one_belongs row (kinds.Whole rule) shape b rest h = h

  pub leaves_belong : (rows : List (Row X T C W B)) → All (Belongs k belongs) rows → All (LeafBelongs k belongs) (leaf_rows rows)
  leaves_belong [] h = λ i d l. absurd (omega arith)
  leaves_belong (row ∷ rows) h = one_belongs row row.kind row.shape (h 0 row (omega arith)) (leaf_rows rows) (leaves_belong rows (λ i d l. h (suc i) d (omega arith)))

pub nil_when : {A : Type 0} (xs : List A) (n : ℕ) → n ≡ length xs → n ≡ 0 → xs ≡ []
nil_when [] n l e = refl
nil_when (x ∷ xs) n l e = absurd (omega (arith, l, e))

module _ {X T C W B : Type 0} where
  -- the next row of those that are left gives its leaf, if it has one
  pub leaf_taken : (before : List (Leaf X T C W B)) (xs ys : List (Row X T C W B)) (row : Row X T C W B) (o : Option (Leaf X T C W B)) (all : List (Leaf X T C W B)) → xs ≡ ys ++ row ∷ [] → o ≡ leaf_in row.kind row.cover row.shape → before ++ leaf_rows (reverse xs) ≡ all → (before ++ on_list o []) ++ leaf_rows (reverse ys) ≡ all
  leaf_taken before xs ys row o all e f h =
      append_assoc before (on_list o []) (leaf_rows (reverse ys))
      ∙ ap (λ zs. before ++ zs) (on_append o (leaf_rows (reverse ys)) ∙ ap (λ o. on_list o (leaf_rows (reverse ys))) f ∙ sym (ap leaf_rows (reverse_last xs ys row e)))
      ∙ h
    where
      on_append : (o : Option (Leaf X T C W B)) (zs : List (Leaf X T C W B)) → on_list o [] ++ zs ≡ on_list o zs
      on_append None zs = refl
      on_append (Some x) zs = refl

  pub leaf_room : (before : List (Leaf X T C W B)) (leaf : Leaf X T C W B) (rest all : List (Leaf X T C W B)) → (before ++ leaf ∷ []) ++ rest ≡ all → length before < length all
  leaf_room before leaf rest all e = let a = ap length e in let b = length-append (before ++ leaf ∷ []) rest in let c = length-append before (leaf ∷ []) in omega (arith, a, b, c)
