-- Partials that stay live as rows are frosted.
use Rattle.std.specs.Prelude.{◌≡◌, ℕ, ◌≤◌, ◌&&◌, ◌++◌, not, Bool, true, false, is_some, is_none, Option, Some, None, List, if◌then◌else◌}
use Rattle.std.proofs.Common.{refl, ap, sym, ◌∙◌, le-leb}
use Rattle.chart_model.specs.Calculus.{Calculus}
use Rattle.chart_model.specs.Chart as model
use Rattle.chart_core.specs.declared.Row.{Row}
use Rattle.chart_core.specs.declared.RowId.{RowId}
use Rattle.chart_core.specs.declared.RowKind.TheVariants as kinds
use Rattle.chart_core.specs.View.{list_of, number_of, write_all}
use Rattle.chart_core.specs.Tests.{partner_rule, any_in, is_peer}
use Rattle.chart_core.proofs.Frosted.{is_none_number, all_free_is}
use Rattle.chart_core.proofs.Frost.{all_free_written}

none_if_some : (o : Option RowId) (b : Bool) → is_some o ≡ b → is_none o ≡ not b
none_if_some None b e = ap not e
none_if_some (Some id) b e = ap not e

pub live_test : (o : Option RowId) (into : List (Option ℕ)) (ds ps : List ℕ) (n : ℕ) (b c : Bool) → number_of o ≡ model.first_frosted into ds → is_some o ≡ b → any_in ps ds ≡ c → model.all_free (write_all into ps n) ds ≡ not b && not c
live_test o into ds ps n b c e f h =
    all_free_written into ps n ds
    ∙ ap (λ x. x && not (any_in ps ds)) (all_free_is into ds ∙ ap is_none (sym e) ∙ is_none_number o ∙ none_if_some o b f)
    ∙ ap (λ x. not b && not x) h

pub not_both : (b : Bool) → not b && false ≡ false
not_both true = refl
not_both false = refl

module _ {X T C W B M : Type 0} (k : Calculus M C) where
  pub partner_none : (into : List (Option ℕ)) (cover : C) (row : Row X T C W B) (rule : ℕ) → row.kind ≡ kinds.Partial rule → model.all_free into (list_of row.daughters) ≡ false → None ≡ partner_rule k into cover row
  partner_none into cover row rule e h = rw (e, h) refl

  pub partner_is : (into : List (Option ℕ)) (cover : C) (row : Row X T C W B) (rule : ℕ) (b : Bool) → row.kind ≡ kinds.Partial rule → model.all_free into (list_of row.daughters) ≡ true → is_some (k.join row.cover cover) ≡ b → (if b then Some rule else None) ≡ partner_rule k into cover row
  partner_is into cover row rule b e h j = rw (e, h, j) refl

module _ {M C : Type 0} (k : Calculus M C) where
  pub host_tasks_are : (limits : model.Limits) (rows : List (model.Row M C)) (into : List (Option ℕ)) (n : ℕ) (cover : C) (level : ℕ) (a b : List model.Task) → level ≤ limits.unary → a ≡ model.rule_tasks n 0 k.rules → b ≡ model.gather k (model.host_task k into cover n) 0 rows → a ++ b ≡ model.tasks_of_host k limits rows into n cover level
  host_tasks_are limits rows into n cover level a b l e f = rw (e, f, le-leb level limits.unary l) refl

and_no : (b : Bool) → b && false ≡ true → ⊥
and_no true h = cc
and_no false h = cc

module _ {X T C W B M : Type 0} (k : Calculus M C) (meaning : T → M) where
  pub no_shape_no_peer : (test : M → Bool) (cover : C) (level : ℕ) (row : Row X T C W B) → row.shape ≡ None → is_peer k meaning test cover level row ≡ true → ⊥
  no_shape_no_peer test cover level row e h = and_no (is_none row.into) (rw e at h)
