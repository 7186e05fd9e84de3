-- The tasks of a new row, place by place.
use Rattle.std.specs.Prelude.{◌≡◌, ℕ, ◌+◌, ◌-◌, ◌<◌, ◌≤◌, ◌&&◌, ◌++◌, Bool, true, false, is_some, Option, Some, None, List, [], ◌∷◌, length, map, option_map, drop, slice_get, slice_index_or, if◌then◌else◌}
use Rattle.std.proofs.Common.{refl, ap, sym, ◌∙◌, arith, zero, suc, add-one, drop-cons, append_assoc, append-nil, get_or}
use Rattle.std.proofs.lemmas.List.{drop_all, map-append}
use Rattle.chart_model.specs.Calculus.{Calculus}
use Rattle.chart_model.specs.Tuples.{on_list}
use Rattle.chart_model.specs.Chart as model
use Rattle.chart_model.specs.Picked.{at_row, picked}
use Rattle.chart_core.specs.declared.Row.{Row}
use Rattle.chart_core.specs.declared.RowKind.{RowKind}
use Rattle.chart_core.specs.declared.RowKind.TheVariants as kinds
use Rattle.chart_core.specs.declared.history.TaskRow.{TaskRow}
use Rattle.chart_core.specs.View.{row_of, rows_of, into_of, task_of, list_of}
use Rattle.chart_core.specs.Tests.{is_next_host, partner_rule}
use Rattle.chart_core.proofs.Frosted.{free_row}

next_place : (ps : List ℕ) (i : ℕ) → i < length ps → drop i ps ≡ get_or ps i 0 ∷ drop (i + 1) ps
next_place ps i l = rw (add-one, drop-cons ps i 0 l) refl

module _ {X T C W B M : Type 0} (meaning : T → M) where
  pub row_got : (rows : List (Row X T C W B)) (p : ℕ) (row : Row X T C W B) → p < length rows → row ≡ slice_index_or rows p row → slice_get (rows_of meaning rows) p ≡ Some (row_of meaning row)
  row_got [] p row l e = absurd (omega arith)
  row_got (r ∷ rows) zero row l e = ap (λ (x : Row X T C W B). Some (row_of meaning x)) (sym e)
  row_got (r ∷ rows) (suc p) row l e = row_got rows p row (omega arith) e

module _ {M C : Type 0} (k : Calculus M C) (f : ℕ → model.Row M C → Option model.Task) (get : ℕ → Option (model.Row M C)) where
  pub pick_some : (ps : List ℕ) (i : ℕ) (row : model.Row M C) (found : List TaskRow) (t : TaskRow) (all : List model.Task) → i < length ps → get (get_or ps i 0) ≡ Some row → f (get_or ps i 0) row ≡ Some (task_of t) → map task_of found ++ picked k f get (drop i ps) ≡ all → map task_of (found ++ t ∷ []) ++ picked k f get (drop (i + 1) ps) ≡ all
  pick_some ps i row found t all l is gives e =
      rw (map-append task_of found (t ∷ []), append_assoc (map task_of found) (task_of t ∷ []) (picked k f get (drop (i + 1) ps)))
      (let z : picked k f get (drop i ps) ≡ task_of t ∷ picked k f get (drop (i + 1) ps) = ap (picked k f get) (next_place ps i l) ∙ ap (λ o. on_list (at_row k f (get_or ps i 0) o) (picked k f get (drop (i + 1) ps))) is ∙ ap (λ o. on_list o (picked k f get (drop (i + 1) ps))) gives in
      ap (λ xs. map task_of found ++ xs) (sym z) ∙ e)

  pub pick_none : (ps : List ℕ) (i : ℕ) (row : model.Row M C) (found : List TaskRow) (all : List model.Task) → i < length ps → get (get_or ps i 0) ≡ Some row → f (get_or ps i 0) row ≡ None → map task_of found ++ picked k f get (drop i ps) ≡ all → map task_of found ++ picked k f get (drop (i + 1) ps) ≡ all
  pick_none ps i row found all l is gives e =
      let z : picked k f get (drop i ps) ≡ picked k f get (drop (i + 1) ps) = ap (picked k f get) (next_place ps i l) ∙ ap (λ o. on_list (at_row k f (get_or ps i 0) o) (picked k f get (drop (i + 1) ps))) is ∙ ap (λ o. on_list o (picked k f get (drop (i + 1) ps))) gives in
      ap (λ xs. map task_of found ++ xs) (sym z) ∙ e

  pub pick_end : (ps : List ℕ) (i : ℕ) (found : List TaskRow) (all : List model.Task) → length ps ≤ i → map task_of found ++ picked k f get (drop i ps) ≡ all → map task_of found ≡ all
  pick_end ps i found all l e = sym (append-nil (map task_of found)) ∙ ap (λ xs. map task_of found ++ picked k f get xs) (sym (drop_all i ps l)) ∙ e

some_map : {A B : Type 0} (f : A → B) (o : Option A) → is_some (option_map f o) ≡ is_some o
some_map f None = refl
some_map f (Some x) = refl

if_rule : (rule p n : ℕ) (b : Bool) (o : Option ℕ) → (if b then Some rule else None) ≡ o → (if b then Some (record { rule = rule; partial = Some p; host = n }) else None) ≡ option_map (λ (rule : ℕ). let t : model.Task = record { rule = rule; partial = Some p; host = n } in t) o
if_rule rule p n true o e = ap (option_map (λ (rule : ℕ). let t : model.Task = record { rule = rule; partial = Some p; host = n } in t)) e
if_rule rule p n false o e = ap (option_map (λ (rule : ℕ). let t : model.Task = record { rule = rule; partial = Some p; host = n } in t)) e

module _ {X T C W B M : Type 0} (k : Calculus M C) (meaning : T → M) where
  -- the test of a pair with a host, as the code makes it
  pub host_test : (rows : List (Row X T C W B)) (unary rule n p : ℕ) (cover : C) (row : Row X T C W B) (b : Bool) → p < length rows → row ≡ slice_index_or rows p row → is_next_host k unary cover row ≡ b → model.partial_task k unary (into_of rows) rule cover n p (row_of meaning row) ≡ (if b then Some (record { rule = rule; partial = Some n; host = p }) else None)
  host_test rows unary rule n p cover row b l is e = rw (some_map meaning row.shape, free_row rows p row l is, e) refl

  by_kind : (into : List (Option ℕ)) (cover : C) (n p : ℕ) (row : Row X T C W B) (kind : RowKind) (o : Option ℕ) → row.kind ≡ kind → partner_rule k into cover row ≡ o → model.host_task k into cover n p (row_of meaning row) ≡ option_map (λ (rule : ℕ). let t : model.Task = record { rule = rule; partial = Some p; host = n } in t) o
  by_kind into cover n p row (kinds.Leaf name) o e h = rw e (ap (option_map (λ (rule : ℕ). let t : model.Task = record { rule = rule; partial = Some p; host = n } in t)) (rw e at h))
  by_kind into cover n p row (kinds.Whole rule) o e h = rw e (ap (option_map (λ (rule : ℕ). let t : model.Task = record { rule = rule; partial = Some p; host = n } in t)) (rw e at h))
  by_kind into cover n p row (kinds.Partial rule) o e h = rw e (if_rule rule p n (model.all_free into (list_of row.daughters) && is_some (k.join row.cover cover)) o (rw e at h))

  -- the test of a pair with a partial, as the code makes it
  pub partial_test : (into : List (Option ℕ)) (cover : C) (n p : ℕ) (row : Row X T C W B) (o : Option ℕ) → partner_rule k into cover row ≡ o → model.host_task k into cover n p (row_of meaning row) ≡ option_map (λ (rule : ℕ). let t : model.Task = record { rule = rule; partial = Some p; host = n } in t) o
  partial_test into cover n p row o h = by_kind into cover n p row row.kind o refl h

rule_next : (n rule more : ℕ) → 0 < more → model.rule_tasks n rule more ≡ record { rule = rule; partial = None; host = n } ∷ model.rule_tasks n (rule + 1) (more - 1)
rule_next n rule zero l = absurd (omega arith)
rule_next n rule (suc more) l = let e : suc more - 1 ≡ more = omega arith in ap (λ m. record { rule = rule; partial = None; host = n } ∷ model.rule_tasks n (rule + 1) m) (sym e)

pub rule_pushed : (n rule rules : ℕ) (found : List TaskRow) (t : TaskRow) (all : List model.Task) → rule < rules → task_of t ≡ record { rule = rule; partial = None; host = n } → map task_of found ++ model.rule_tasks n rule (rules - rule) ≡ all → map task_of (found ++ t ∷ []) ++ model.rule_tasks n (rule + 1) (rules - (rule + 1)) ≡ all
rule_pushed n rule rules found t all l is e =
    rw (map-append task_of found (t ∷ []), append_assoc (map task_of found) (task_of t ∷ []) (model.rule_tasks n (rule + 1) (rules - (rule + 1))))
    (let d : (rules - rule) - 1 ≡ rules - (rule + 1) = omega arith in
    let z : model.rule_tasks n rule (rules - rule) ≡ task_of t ∷ model.rule_tasks n (rule + 1) (rules - (rule + 1)) = rule_next n rule (rules - rule) (omega arith) ∙ ap (λ m. record { rule = rule; partial = None; host = n } ∷ model.rule_tasks n (rule + 1) m) d ∙ ap (λ x. x ∷ model.rule_tasks n (rule + 1) (rules - (rule + 1))) (sym is) in
    ap (λ xs. map task_of found ++ xs) (sym z) ∙ e)

pub rule_end : (n rule rules : ℕ) (found : List TaskRow) (all : List model.Task) → rules ≤ rule → map task_of found ++ model.rule_tasks n rule (rules - rule) ≡ all → map task_of found ≡ all
rule_end n rule rules found all l e = let d : rules - rule ≡ 0 = omega arith in sym (append-nil (map task_of found)) ∙ ap (λ m. map task_of found ++ model.rule_tasks n rule m) (sym d) ∙ e
