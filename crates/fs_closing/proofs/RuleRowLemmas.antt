-- Rows of rules, which strings share.
use Rattle.std.proofs.Common.{ℕ, ◌≡◌, ◌≢◌, ◌<◌, ◌≤◌, ◌+◌, ◌⊎◌, inl, inr, Bool, true, false, cond, Option, Some, None, List, [], ◌∷◌, ◌++◌, length, filter, slice_index_or, refl, sym, ◌∙◌, ap, arith, length-append, subst}
use Rattle.std.specs.List.{range_with_len}
use Rattle.std.specs.Prelude.{◌||◌}
use Rattle.std.proofs.Math.ListN.{set, get_or-append}
use Rattle.std.proofs.Math.Seq.{get_or-append_seam}
use Rattle.std.proofs.lemmas.Bool.{cases_lt, lt-ltb, ne_eqb}
use Rattle.std.proofs.lemmas.List.{get_or-set_same, get_or-set_other, length-set}
use Rattle.type_hierarchy.specs.Table.{TypeTable, count_of, completed_count, is_below, is_set_below}
use Rattle.type_hierarchy.proofs.LawLemmas.{below_string}
use Rattle.fs_model.specs.Claims.{Claim, Has, here, there}
use Rattle.fs_model.proofs.StepLemmas.{same_or_other}
use Rattle.fs_closing.specs.Rules.{Rule, no_rule, has_facts, rules_with_facts, rules_above, HaveTypesIn, HaveSame}
use Rattle.fs_closing.specs.Inner.RuleRows.{HaveRows, AddsRow, IsShared, HaveOwn}
use Rattle.fs_closing.proofs.RangeLemmas.{Has-range, Has-of_range, Has-filter, Has-of_filter}

filter_same : (p q : ℕ → Bool) (xs : List ℕ) → ((k : ℕ) → Has k xs → p k ≡ q k) → filter p xs ≡ filter q xs
filter_same p q [] e = refl
filter_same p q (x ∷ xs) e =
    ap (λ b. cond b (x ∷ filter p xs) (filter p xs)) (e x here)
    ∙ ap (λ l. cond (q x) (x ∷ l) l) (filter_same p q xs (λ k h. e k (there h)))

-- a string is at or below what the string type is at or below, but for itself
below_other : (types : TypeTable) (t b : ℕ) → completed_count types ≤ t → b ≢ t → is_below types t b ≡ is_set_below types types.string_type b
below_other types t b h apart =
    below_string types t b h ∙ ap (λ x. x || is_set_below types types.string_type b) (ne_eqb t b (λ e. apart (sym e)))

-- a rule with facts is there
pub rule_in : (rules : List Rule) (j : ℕ) → Has j (rules_with_facts rules) → j < length rules
rule_in rules j h =
    Has-of_range (length rules) j (Has-of_filter (λ k. has_facts (slice_index_or rules k no_rule)) (range_with_len 0 (length rules)) j h).0

-- a rule of which there is a fact has facts
pub rule_has : (rules : List Rule) (j : ℕ) (c : Claim) → j < length rules → Has c (slice_index_or rules j no_rule).claims → Has j (rules_with_facts rules)
rule_has rules j c h has =
    Has-filter (λ k. has_facts (slice_index_or rules k no_rule)) (range_with_len 0 (length rules)) j (Has-range (length rules) j h)
    (lt-ltb 0 (length (slice_index_or rules j no_rule).claims) (some (slice_index_or rules j no_rule).claims c has))
  where
    some : (claims : List Claim) (c : Claim) → Has c claims → 0 < length claims
    some [] c h = elim h [ ]
    some (d ∷ claims) c h = omega arith

-- strings that no rule is of have the same rules above them
pub string_row : (types : TypeTable) (rules : List Rule) (count t : ℕ) → completed_count types ≤ t → t < count_of types →
    HaveTypesIn (count_of types) rules → length rules ≡ count → ((j : ℕ) → j < count → (slice_index_or rules j no_rule).ty ≢ t) →
    rules_above types rules t ≡ rules_above types rules (count_of types)
string_row types rules count t string t_in within is free =
    filter_same (λ j. is_below types t (slice_index_or rules j no_rule).ty) (λ j. is_below types (count_of types) (slice_index_or rules j no_rule).ty)
    (rules_with_facts rules)
    (λ j h.
    let j_in = rule_in rules j h in
    below_other types t (slice_index_or rules j no_rule).ty string (free j (omega (arith, j_in, is)))
    ∙ sym (below_other types (count_of types) (slice_index_or rules j no_rule).ty (omega (arith, string, t_in)) (λ e. omega (arith, within j j_in, e))))

pub row_added : (rows rows' : List (List ℕ)) (number : ℕ) (row wanted : List ℕ) → rows' ≡ rows ++ row ∷ [] → number ≡ length rows → HaveSame row wanted →
    AddsRow rows rows' number wanted
row_added rows rows' number row wanted is at same = record {
  more = omega (arith, ap length is, length-append rows (row ∷ []));
  old = λ k h. ap (λ l. slice_index_or l k []) is ∙ get_or-append rows (row ∷ []) [] k h;
  within = omega (arith, ap length is, length-append rows (row ∷ []));
  row_is = subst (λ l. HaveSame l wanted)
      (sym (ap (λ l. slice_index_or l number []) is ∙ ap (λ i. slice_index_or (rows ++ row ∷ []) i []) at ∙ get_or-append_seam rows row [] [])) same;
}

-- a row that is there already
pub row_found : (rows : List (List ℕ)) (number : ℕ) (row : List ℕ) → number < length rows → HaveSame (slice_index_or rows number []) row →
    AddsRow rows rows number row
row_found rows number row h is = record { more = omega arith; old = λ k _. refl; within = h; row_is = is }

-- the shared row stays where rows are added
pub shared_kept : (types : TypeTable) (rules : List Rule) (rows rows' : List (List ℕ)) (number : ℕ) (row : List ℕ) (shared : Option ℕ) →
    AddsRow rows rows' number row → IsShared types rules rows shared → IsShared types rules rows' shared
shared_kept types rules rows rows' number row None added old = tt
shared_kept types rules rows rows' number row (Some r) added (within, is) =
    (omega (arith, within, added.more), subst (λ l. HaveSame l (rules_above types rules (count_of types))) (sym (added.old r within)) is)

pub rows_none : (types : TypeTable) (rules : List Rule) (rows : List (List ℕ)) → HaveRows types rules rows [] 0
rows_none types rules rows = record { each = refl; within = λ t h. absurd (omega arith); row_is = λ t h. absurd (omega arith) }

-- one type more
pub rows_more : (types : TypeTable) (rules : List Rule) (rows rows' : List (List ℕ)) (row_of row_of' : List ℕ) (number t : ℕ) →
    HaveRows types rules rows row_of t → AddsRow rows rows' number (rules_above types rules t) → row_of' ≡ row_of ++ number ∷ [] →
    HaveRows types rules rows' row_of' (t + 1)
rows_more types rules rows rows' row_of row_of' number t old added is = record {
  each = omega (arith, ap length is, length-append row_of (number ∷ []), old.each);
  within = λ k h. within k h (cases_lt k t);
  row_is = λ k h. row_is k h (cases_lt k t);
}
  where
    at_old : (k : ℕ) → k < t → slice_index_or row_of' k 0 ≡ slice_index_or row_of k 0
    at_old k h = ap (λ l. slice_index_or l k 0) is ∙ get_or-append row_of (number ∷ []) 0 k (omega (arith, h, old.each))

    at_new : (k : ℕ) → k ≡ t → slice_index_or row_of' k 0 ≡ number
    at_new k e =
        ap (λ l. slice_index_or l k 0) is ∙ ap (λ i. slice_index_or (row_of ++ number ∷ []) i 0) (e ∙ sym old.each)
        ∙ get_or-append_seam row_of number [] 0

    within : (k : ℕ) → k < t + 1 → (k < t) ⊎ (t ≤ k) → slice_index_or row_of' k 0 < length rows'
    within k h (inl a) = omega (arith, at_old k a, old.within k a, added.more)
    within k h (inr a) = let e : k ≡ t = omega arith in omega (arith, at_new k e, added.within)

    row_is : (k : ℕ) → k < t + 1 → (k < t) ⊎ (t ≤ k) → HaveSame (slice_index_or rows' (slice_index_or row_of' k 0) []) (rules_above types rules k)
    row_is k h (inl a) =
        subst (λ l. HaveSame l (rules_above types rules k))
        (sym (ap (λ i. slice_index_or rows' i []) (at_old k a) ∙ added.old (slice_index_or row_of k 0) (old.within k a))) (old.row_is k a)
    row_is k h (inr a) =
        let e : k ≡ t = omega arith in
        subst (λ z. HaveSame (slice_index_or rows' (slice_index_or row_of' k 0) []) (rules_above types rules z)) (sym e)
        (subst (λ l. HaveSame l (rules_above types rules t)) (sym (ap (λ i. slice_index_or rows' i []) (at_new k e))) added.row_is)

-- the mark of one rule's type more
pub own_more : (rules : List Rule) (taken count ty : ℕ) (own : List Bool) → ty < count → ty ≡ (slice_index_or rules taken no_rule).ty →
    HaveOwn rules taken count own → HaveOwn rules (taken + 1) count (set own ty true)
own_more rules taken count ty own h is old = record {
  each = length-set own ty true ∙ old.each;
  set = λ j i. go j i (same_or_other (slice_index_or rules j no_rule).ty ty) (cases_lt j taken);
}
  where
    go : (j : ℕ) → j < taken + 1 → ((slice_index_or rules j no_rule).ty ≡ ty) ⊎ ((slice_index_or rules j no_rule).ty ≢ ty) → (j < taken) ⊎ (taken ≤ j) →
        slice_index_or (set own ty true) (slice_index_or rules j no_rule).ty false ≡ true
    go j i (inl e) _ = ap (λ k. slice_index_or (set own ty true) k false) e ∙ get_or-set_same own ty true false (omega (arith, h, old.each))
    go j i (inr e) (inl a) = get_or-set_other own ty (slice_index_or rules j no_rule).ty true false e ∙ old.set j a
    go j i (inr e) (inr a) =
        let d : j ≡ taken = omega arith in
        absurd (e (ap (λ k. (slice_index_or rules k no_rule).ty) d ∙ sym is))

pub own_free : (rules : List Rule) (taken count t : ℕ) (own : List Bool) → HaveOwn rules taken count own → slice_index_or own t false ≡ false →
    (j : ℕ) → j < taken → (slice_index_or rules j no_rule).ty ≢ t
own_free rules taken count t own old is j h e =
    let f : false ≡ true = sym is ∙ ap (λ k. slice_index_or own k false) (sym e) ∙ old.set j h in
    cc f
