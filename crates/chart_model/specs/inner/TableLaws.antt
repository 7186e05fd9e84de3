-- A table of rules meets the laws.
use Rattle.std.specs.Prelude.{◌≡◌, ℕ, ◌<◌, ◌≤◌, ◌&&◌, Bool, true, false, nat_le, Option, Some, None, List, [], ◌∷◌, length, slice_get, All}
use Rattle.std.proofs.Common.{refl, suc, zero, arith, leb-true, le-leb}
use Rattle.chart_model.specs.Calculus.{Laws, ShapeLaws, AllOver, none, more, Agreement, Along, along_none, along_more}
use Rattle.chart_model.specs.SpanLaws.{span_laws}
use Rattle.chart_model.specs.Tables.{within, arity_at, applies_at, mother_at, table_calculus, table_full, IsSized}
use Rattle.chart_model.specs.declared.table_rule.TableRule.{TableRule}

pub and_parts : (a b : Bool) → a && b ≡ true → (a ≡ true) × (b ≡ true)
and_parts true b h = (refl, h)
and_parts false b h = absurd (cc)

within_general : (ls : List ℕ) {general special : List ℕ} → AllOver nat_le general special → within ls special ≡ true → within ls general ≡ true
within_general [] none h = refl
within_general [] (more o os) h = absurd (cc)
within_general (l ∷ ls) none h = absurd (cc)
within_general (l ∷ ls) (more {g = g} {s = s} o os) h =
    let p = and_parts (nat_le s l) (within ls _) h in
    rw (le-leb g l (omega (arith, leb-true g s o, leb-true s l p.0)), within_general ls os p.1) refl

falls_at : (o : Option TableRule) (general special : List ℕ) → AllOver nat_le general special → applies_at o special → applies_at o general
falls_at None general special a h = h
falls_at (Some rule) general special a h = within_general rule.limits.items a h

monotone_at : (o : Option TableRule) (general special : List ℕ) (n m : ℕ) → mother_at o general n → mother_at o special m → nat_le n m ≡ true
monotone_at None general special n m g h = absurd h
monotone_at (Some rule) general special n m g h = le-leb n m (omega (arith, g.1, h.1))

has_mother_at : (o : Option TableRule) (ms : List ℕ) (m : ℕ) → mother_at o ms m → applies_at o ms
has_mother_at None ms m h = h
has_mother_at (Some rule) ms m h = h.0

sized_at : (rules : List TableRule) → All IsSized rules → (rule : ℕ) → rule < length rules → (0 < arity_at (slice_get rules rule)) × (arity_at (slice_get rules rule) ≤ 4)
sized_at [] h rule l = absurd (omega arith)
sized_at (r ∷ rules) h zero l = h 0 r (omega arith)
sized_at (r ∷ rules) h (suc rule) l = sized_at rules (λ k d q. h (suc k) d (omega arith)) rule (omega arith)

table_shape_laws : (rules : List TableRule) → ShapeLaws nat_le (λ rule ms. applies_at (slice_get rules rule) ms) (λ rule ms m. mother_at (slice_get rules rule) ms m)
table_shape_laws rules =
    record {
      reflexive = λ m. le-leb m m (omega arith);
      transitive = λ a b c p q. le-leb a c (omega (arith, leb-true a b p, leb-true b c q));
      antisymmetric = λ a b p q. omega (arith, leb-true a b p, leb-true b a q);
      falls = λ rule general special a h. falls_at (slice_get rules rule) general special a h;
      monotone = λ rule general special n m a g h. monotone_at (slice_get rules rule) general special n m g h;
      has_mother = λ rule ms m h. has_mother_at (slice_get rules rule) ms m h;
    }

pub table_laws : (rules : List TableRule) → All IsSized rules → Laws (table_calculus rules)
table_laws rules sized =
    record {
      of_shapes = table_shape_laws rules;
      of_covers = span_laws (length rules) (λ rule. arity_at (slice_get rules rule)) nat_le (λ rule ms. applies_at (slice_get rules rule) ms) (λ rule ms m. mother_at (slice_get rules rule) ms m) (sized_at rules sized);
    }

within_along : (ls : List ℕ) {ms fs : List ℕ} → Along (λ m f. nat_le m f ≡ true) ms fs → within ls fs ≡ true → within ls ms ≡ true
within_along [] along_none h = refl
within_along [] (along_more o os) h = absurd (cc)
within_along (l ∷ ls) along_none h = absurd (cc)
within_along (l ∷ ls) (along_more {x = g} {y = s} o os) h =
    let p = and_parts (nat_le s l) (within ls _) h in
    rw (le-leb g l (omega (arith, leb-true g s o, leb-true s l p.0)), within_along ls os p.1) refl

applies_along : (o : Option TableRule) (ms fs : List ℕ) (f : ℕ) → Along (λ m f. nat_le m f ≡ true) ms fs → mother_at o fs f → applies_at o ms
applies_along None ms fs f a h = absurd h
applies_along (Some rule) ms fs f a h = within_along rule.limits.items a h.0

mother_along : (o : Option TableRule) (ms fs : List ℕ) (m f : ℕ) → mother_at o fs f → mother_at o ms m → nat_le m f ≡ true
mother_along None ms fs m f h g = absurd h
mother_along (Some rule) ms fs m f h g = le-leb m f (omega (arith, h.1, g.1))

pub table_agreement : (rules : List TableRule) → Agreement nat_le (λ rule ms. applies_at (slice_get rules rule) ms) (λ rule ms m. mother_at (slice_get rules rule) ms m) (table_full rules) (λ m f. nat_le m f ≡ true)
table_agreement rules =
    record {
      applies_too = λ rule ms fs f a h. applies_along (slice_get rules rule) ms fs f a h;
      mother_agrees = λ rule ms fs m f a h g. mother_along (slice_get rules rule) ms fs m f h g;
      over_agrees = λ n m f p q. le-leb n f (omega (arith, leb-true n m p, leb-true m f q));
    }
