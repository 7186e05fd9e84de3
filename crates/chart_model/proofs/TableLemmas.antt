-- The mother that a table has for a whole tuple.
use Rattle.std.specs.Prelude.{◌≡◌, ℕ, ◌<◌, true, false, Some, List, [], ◌∷◌, length, map, slice_get, slice_index_or}
use Rattle.std.proofs.Common.{refl, ap, sym, ◌∙◌, subst, arith, zero, suc}
use Rattle.std.proofs.lemmas.List.{length-map}
use Rattle.chart_model.specs.declared.table_rule.TableRule.{TableRule}
use Rattle.chart_model.specs.declared.span.Span.{Span}
use Rattle.chart_model.specs.declared.covers.Part.{Part}
use Rattle.chart_model.specs.declared.covers.Tuple.{Tuple}
use Rattle.chart_model.specs.Tuples.{shapes_of, parts_of, IsTuple}
use Rattle.chart_model.specs.Tables.{mother_at, applies_at, within}
use Rattle.chart_model.specs.inner.Begun.{starts_within, starts_whole}

pub get_here : {A : Type 0} (xs : List A) (i : ℕ) (x : A) → i < length xs → x ≡ slice_index_or xs i x → slice_get xs i ≡ Some x
get_here [] i x l e = absurd (omega arith)
get_here (y ∷ xs) zero x l e = ap Some (sym e)
get_here (y ∷ xs) (suc i) x l e = get_here xs i x (omega arith) e

map_itself : (ns : List ℕ) → map (λ n. n) ns ≡ ns
map_itself [] = refl
map_itself (n ∷ ns) = ap (λ xs. n ∷ xs) (map_itself ns)

whole_length : (t : Tuple ℕ Span) (ls : List ℕ) → IsTuple t → t.count ≡ length ls → length (shapes_of t) ≡ length ls
whole_length t ls is e = length-map (parts_of t) (λ (p : Part ℕ Span). p.shape) ∙ is.counted ∙ e

pub mother_here : (rules : List TableRule) (rule : ℕ) (row : TableRule) (t : Tuple ℕ Span) → rule < length rules → row ≡ slice_index_or rules rule row → IsTuple t → t.count ≡ length row.limits.items → starts_within row.limits.items (shapes_of t) ≡ true → mother_at (slice_get rules rule) (map (λ n. n) (shapes_of t)) row.mother
mother_here rules rule row t l e is whole h =
    rw (get_here rules rule row l e, map_itself (shapes_of t)) (sym (starts_whole row.limits.items (shapes_of t) (whole_length t row.limits.items is whole)) ∙ h, refl)

pub none_here : (rules : List TableRule) (rule : ℕ) (row : TableRule) (t : Tuple ℕ Span) → rule < length rules → row ≡ slice_index_or rules rule row → IsTuple t → t.count ≡ length row.limits.items → starts_within row.limits.items (shapes_of t) ≡ false → applies_at (slice_get rules rule) (map (λ n. n) (shapes_of t)) → ⊥
none_here rules rule row t l e is whole h a =
    let b : within row.limits.items (shapes_of t) ≡ true = subst (λ xs. within row.limits.items xs ≡ true) (map_itself (shapes_of t)) (subst (λ o. applies_at o (map (λ n. n) (shapes_of t))) (get_here rules rule row l e) a) in
    let w = starts_whole row.limits.items (shapes_of t) (whole_length t row.limits.items is whole) in
    let z : true ≡ false = sym b ∙ sym w ∙ h in
    cc
