-- What is told of the groups of code is told of the groups of the chart.
use Rattle.std.specs.Prelude.{◌≡◌, ℕ, Bool, true, false, if◌then◌else◌, Option, Some, List, [], ◌∷◌, map, slice_get, refl}
use Rattle.std.proofs.Common.{ap, subst, sym, ◌∙◌, zero, suc}
use Rattle.chart_model.specs.Calculus.{Calculus, Along, along_none, along_more}
use Rattle.chart_model.specs.At.{At, here, there, at_one, at_found, to_get}
use Rattle.chart_model.specs.Chart as chart
use Rattle.chart_model.specs.Chart.{OfLeaf, OfWhole, all_free, leaf_row}
use Rattle.chart_model.specs.Finished.{IsComplete}
use Rattle.chart_model.specs.Grown.{Tree, LeadsTo, Stands, stands_leaf, stands_phrase}
use Rattle.chart_core.specs.declared.Row.{Row}
use Rattle.chart_core.specs.declared.RowKind.{RowKind}
use Rattle.chart_core.specs.declared.RowKind.TheVariants as kinds
use Rattle.chart_core.specs.View.{into_of, list_of, kind_of, row_of, rows_of}
use Rattle.tree_model.specs.Lists as model
use Rattle.forest_unpack.specs.Groups.{told_of_kind, TellsAt, IsTold}

told_leaf : (into : List (Option ℕ)) (ds : List ℕ) (kind : RowKind) (name : ℕ) → kind_of kind ≡ OfLeaf name → told_of_kind into ds kind ≡ model.a_leaf name ∷ []
told_leaf into ds (kinds.Leaf n) name e = let f : n ≡ name = cc in ap (λ i. model.a_leaf i ∷ []) f
told_leaf into ds (kinds.Partial rule) name e = absurd (cc)
told_leaf into ds (kinds.Whole rule) name e = absurd (cc)

told_whole : (into : List (Option ℕ)) (ds : List ℕ) (kind : RowKind) (rule : ℕ) → kind_of kind ≡ OfWhole rule → all_free into ds ≡ true → told_of_kind into ds kind ≡ model.a_whole rule ds ∷ []
told_whole into ds (kinds.Leaf n) rule e free = absurd (cc)
told_whole into ds (kinds.Partial q) rule e free = absurd (cc)
told_whole into ds (kinds.Whole q) rule e free = let f : q ≡ rule = cc in rw free (ap (λ i. model.a_whole i ds ∷ []) f)

module _ {A B : Type 0} (f : A → B) where
  pub at_mapped : {xs : List A} {j : ℕ} {x : A} → At xs j x → At (map f xs) j (f x)
  at_mapped here = here
  at_mapped (there a) = there (at_mapped a)

  -- what stands in a mapped list comes from somewhere
  pub record Source (xs : List A) (j : ℕ) (y : B) : Type 0 where
    pub source : A
    pub at : At xs j source
    pub is : f source ≡ y

  source_there : {xs : List A} {x : A} {j : ℕ} {y : B} → Source xs j y → Source (x ∷ xs) (suc j) y
  source_there s = record { source = s.source; at = there s.at; is = s.is }

  source_of : (xs : List A) (j : ℕ) (y : B) → slice_get (map f xs) j ≡ Some y → Source xs j y
  source_of [] j y e = absurd (cc)
  source_of (x ∷ xs) zero y e = record { source = x; at = here; is = cc }
  source_of (x ∷ xs) (suc j) y e = source_there (source_of xs j y e)

module _ {X T C W B M : Type 0} (k : Calculus M C) (limits : chart.Limits) (leaves : List (chart.Leaf M C)) (meaning : T → M)
    (rows : List (Row X T C W B)) (ch : chart.Chart M C) (rows_are : ch.rows ≡ rows_of meaning rows) (into_is : ch.into ≡ into_of rows)
    (complete : IsComplete k limits leaves ch) where
  pub row_at : {j : ℕ} {row : Row X T C W B} → At rows j row → At ch.rows j (row_of meaning row)
  row_at {j = j} {row = row} a = subst (λ rs. At rs j (row_of meaning row)) (sym rows_are) (at_mapped (row_of meaning) a)

  pub source_at : {j : ℕ} {row : chart.Row M C} → At ch.rows j row → Source (row_of meaning) rows j row
  source_at {j = j} {row = row} a = source_of (row_of meaning) rows j row (to_get (subst (λ rs. At rs j row) rows_are a))

  -- what is told of a row describes it
  describes : (j : ℕ) (g : model.GroupRow) → TellsAt rows j g → model.Describes leaves ch j g
  describes j g t = by t.row.kind refl t.told_is
    where
      at : At ch.rows j (row_of meaning t.row)
      at = row_at t.at

      by_free : (rule : ℕ) (b : Bool) → all_free (into_of rows) (list_of t.row.daughters) ≡ b → kind_of t.row.kind ≡ OfWhole rule →
          (if b then model.a_whole rule (list_of t.row.daughters) ∷ [] else []) ≡ g ∷ [] → model.Describes leaves ch j g
      by_free rule true free kind e =
          let f : model.a_whole rule (list_of t.row.daughters) ≡ g = cc in
          let live : all_free ch.into (list_of t.row.daughters) ≡ true = ap (λ into. all_free into (list_of t.row.daughters)) into_is ∙ free in
          subst (model.Describes leaves ch j) f (model.describes_whole j rule (row_of meaning t.row) at kind live)
      by_free rule false free kind e = absurd (cc)

      by : (kind : RowKind) → t.row.kind ≡ kind → told_of_kind (into_of rows) (list_of t.row.daughters) kind ≡ g ∷ [] → model.Describes leaves ch j g
      by (kinds.Leaf name) is e =
          let low = complete.leaf_rows.no_other j name (row_of meaning t.row) at (ap kind_of is) in
          let leaf = at_found leaves j low in
          let same : row_of meaning t.row ≡ leaf_row k limits leaf.0 = at_one at (complete.leaf_rows.row_is j leaf.0 leaf.1) in
          let kind : OfLeaf name ≡ OfLeaf leaf.0.name = sym (ap kind_of is) ∙ ap (λ (r : chart.Row M C). r.kind) same in
          let f : model.a_leaf leaf.0.name ≡ g = cc in
          subst (model.Describes leaves ch j) f (model.describes_leaf j leaf.0 leaf.1)
      by (kinds.Partial rule) is e = absurd (cc)
      by (kinds.Whole rule) is e = by_free rule (all_free (into_of rows) (list_of t.row.daughters)) refl (ap kind_of is) e

  along_described : {is : List ℕ} {gs : List model.GroupRow} → Along (TellsAt rows) is gs → Along (model.Describes leaves ch) is gs
  along_described along_none = along_none
  along_described (along_more {x = j} {y = g} t rest) = along_more (describes j g t) (along_described rest)

  pub told_group : (h : ℕ) (told : List model.GroupRow) → IsTold rows h told → model.IsToldGroup leaves ch h told
  told_group h told f =
      record {
        rows = f.numbers;
        are = record {
          each = λ i x. subst (λ into. LeadsTo into i h) (sym into_is) (f.each i x);
          all = λ t i s. counts s;
          differ = f.differ;
        };
        told_of = along_described f.along;
      }
    where
      counts : {t : Tree} {i : ℕ} → Stands leaves ch t i h → model.Has i f.numbers
      counts (stands_leaf {l = l} low leads) =
          let leaf = at_found leaves l low in
          let s = source_at (complete.leaf_rows.row_is l leaf.0 leaf.1) in
          f.all l (model.a_leaf leaf.0.name)
          (record { row = s.source; at = s.at; told_is = told_leaf (into_of rows) (list_of s.source.daughters) s.source.kind leaf.0.name (ap (λ (r : chart.Row M C). r.kind) s.is) })
          (subst (λ into. LeadsTo into l h) into_is leads)
      counts (stands_phrase {rule = rule} {i = i} row at kind free all leads) =
          let s = source_at at in
          let same : list_of s.source.daughters ≡ row.daughters = ap (λ (r : chart.Row M C). r.daughters) s.is in
          let live : all_free (into_of rows) (list_of s.source.daughters) ≡ true = ap (all_free (into_of rows)) same ∙ ap (λ into. all_free into row.daughters) (sym into_is) ∙ free in
          f.all i (model.a_whole rule (list_of s.source.daughters))
          (record { row = s.source; at = s.at; told_is = told_whole (into_of rows) (list_of s.source.daughters) s.source.kind rule (ap (λ (r : chart.Row M C). r.kind) s.is ∙ kind) live })
          (subst (λ into. LeadsTo into i h) into_is leads)
