-- Rules in an order in which rows of them are found fast.
use Rattle.std.proofs.Common.{ℕ, zero, suc, ◌≡◌, ◌≢◌, ◌<◌, ◌≤◌, ◌+◌, ◌-◌, ◌⊎◌, inl, inr, Bool, true, false, cond, List, [], ◌∷◌, ◌++◌, length, filter, take, slice_index_or, refl, sym, ◌∙◌, ap, subst, arith, length-append}
use Rattle.std.proofs.Math.ListN.{set, get_or-append}
use Rattle.std.proofs.Math.Seq.{get_or-append_seam}
use Rattle.std.proofs.lemmas.Bool.{cases_lt}
use Rattle.std.proofs.lemmas.List.{get_or-set_other, length-set, length-map, take_more}
use Rattle.std.proofs.lemmas.List.Elements.{filter-append}
use Rattle.type_hierarchy.specs.Table.{TypeTable, is_below}
use Rattle.fs_model.specs.Claims.{Has, here}
use Rattle.fs_model.proofs.StepLemmas.{same_or_other}
use Rattle.fs_model.proofs.VisitLemmas.{bool_cases}
use Rattle.fs_closing.specs.declared.facts.TypeFacts.{TypeFacts}
use Rattle.fs_closing.specs.Rules.{Rule, no_rule, has_facts, rules_with_facts, rules_above, HaveTypesIn, HaveSame}
use Rattle.fs_closing.specs.Systems.{rule_of, rules_of}
use Rattle.fs_closing.specs.Inner.Outlines.{AreMarks, IsEnd, AreEnds}
use Rattle.fs_closing.proofs.HasLemmas.{Has-left, Has-right, Has-either, Has-one, Has-at}
use Rattle.fs_closing.proofs.RuleRowLemmas.{rule_in}
use Rattle.fs_closing.proofs.RangeLemmas.{Has-filter, Has-of_filter, Has-range}
use Rattle.std.specs.List.{range_with_len}

-- the places of an outline are those of rules, whose types are there
pub place_in : (constraints : List TypeFacts) (order : List ℕ) (i : ℕ) → HaveSame order (rules_with_facts (rules_of constraints)) → i < length order →
    slice_index_or order i 0 < length constraints
place_in constraints order i same h =
    omega (arith, rule_in (rules_of constraints) (slice_index_or order i 0) (same.to (slice_index_or order i 0) (Has-at order i 0 h)), length-map constraints rule_of)

pub ty_in : (rules : List Rule) (count : ℕ) (order : List ℕ) (i : ℕ) → HaveTypesIn count rules → HaveSame order (rules_with_facts rules) → i < length order →
    (slice_index_or rules (slice_index_or order i 0) no_rule).ty < count
ty_in rules count order i within same h = within (slice_index_or order i 0) (rule_in rules (slice_index_or order i 0) (same.to (slice_index_or order i 0) (Has-at order i 0 h)))

-- one mark more
pub marks_more : (rules : List Rule) (list list' : List ℕ) (marks : List Bool) (j : ℕ) → list' ≡ list ++ j ∷ [] → j < length rules →
    has_facts (slice_index_or rules j no_rule) ≡ true → AreMarks rules list marks → AreMarks rules list' (set marks j true)
marks_more rules list list' marks j is h some old = record {
  each = length-set marks j true ∙ old.each;
  only = λ k i. only k (Has-either k list (j ∷ []) (subst (Has k) is i));
  marked = λ k e. subst (Has k) (sym is) (marked k e (same_or_other k j));
}
  where
    only : (k : ℕ) → Has k list ⊎ Has k (j ∷ []) → Has k (rules_with_facts rules)
    only k (inl a) = old.only k a
    only k (inr a) =
        subst (λ z. Has z (rules_with_facts rules)) (sym (Has-one k j a))
        (Has-filter (λ k. has_facts (slice_index_or rules k no_rule)) (range_with_len 0 (length rules)) j (Has-range (length rules) j h) some)

    marked : (k : ℕ) → slice_index_or (set marks j true) k false ≡ true → (k ≡ j) ⊎ (k ≢ j) → Has k (list ++ j ∷ [])
    marked k e (inl q) = Has-right k list (j ∷ []) (subst (λ z. Has z (j ∷ [])) (sym q) here)
    marked k e (inr q) = Has-left k list (j ∷ []) (old.marked k (sym (get_or-set_other marks j k true false q) ∙ e))

-- one rule more is below that at i
pub end_more : (types : TypeTable) (rules : List Rule) (order : List ℕ) (i k other ty : ℕ) → other ≡ (slice_index_or rules (slice_index_or order k 0) no_rule).ty →
    ty ≡ (slice_index_or rules (slice_index_or order i 0) no_rule).ty → is_below types other ty ≡ true →
    ((m : ℕ) → i < m → m < k →
    is_below types (slice_index_or rules (slice_index_or order m 0) no_rule).ty (slice_index_or rules (slice_index_or order i 0) no_rule).ty ≡ true) →
    (m : ℕ) → i < m → m < k + 1 →
    is_below types (slice_index_or rules (slice_index_or order m 0) no_rule).ty (slice_index_or rules (slice_index_or order i 0) no_rule).ty ≡ true
end_more types rules order i k other ty eo et is old m a b = go (cases_lt m k)
  where
    go : (m < k) ⊎ (k ≤ m) → is_below types (slice_index_or rules (slice_index_or order m 0) no_rule).ty (slice_index_or rules (slice_index_or order i 0) no_rule).ty ≡ true
    go (inl c) = old m a c
    go (inr c) =
        let e : m ≡ k = omega arith in
        ap (λ z. is_below types (slice_index_or rules (slice_index_or order z 0) no_rule).ty (slice_index_or rules (slice_index_or order i 0) no_rule).ty) e
        ∙ ap (λ z. is_below types z (slice_index_or rules (slice_index_or order i 0) no_rule).ty) (sym eo) ∙ ap (is_below types other) (sym et) ∙ is

-- one end more
pub ends_more : (types : TypeTable) (rules : List Rule) (order ends ends' : List ℕ) (i e : ℕ) → ends' ≡ ends ++ e ∷ [] → AreEnds types rules order i ends →
    IsEnd types rules order i e → AreEnds types rules order (i + 1) ends'
ends_more types rules order ends ends' i e is old new = record {
  each = omega (arith, ap length is, length-append ends (e ∷ []), old.each);
  ends_at = λ k h. go k (cases_lt k i) h;
}
  where
    go : (k : ℕ) → (k < i) ⊎ (i ≤ k) → k < i + 1 → IsEnd types rules order k (slice_index_or ends' k 0)
    go k (inl a) h =
        subst (IsEnd types rules order k) (sym (ap (λ l. slice_index_or l k 0) is ∙ get_or-append ends (e ∷ []) 0 k (omega (arith, a, old.each)))) (old.ends_at k a)
    go k (inr a) h =
        let q : k ≡ i = omega arith in
        let at : slice_index_or ends' k 0 ≡ e =
        ap (λ l. slice_index_or l k 0) is ∙ ap (λ z. slice_index_or (ends ++ e ∷ []) z 0) (q ∙ sym old.each) ∙ get_or-append_seam ends e [] 0 in
        subst (IsEnd types rules order k) (sym at) (subst (λ z. IsEnd types rules order z e) (sym q) new)

-- what fails a test is passed over
pub filter_passes : (p : ℕ → Bool) (xs : List ℕ) (i d : ℕ) → i + d ≤ length xs → ((k : ℕ) → i ≤ k → k < i + d → p (slice_index_or xs k 0) ≡ false) →
    filter p (take (i + d) xs) ≡ filter p (take i xs)
filter_passes p xs i zero h fails = ap (λ n. filter p (take n xs)) (let e : i + 0 ≡ i = omega arith in e)
filter_passes p xs i (suc d) h fails =
    ap (λ n. filter p (take n xs)) (let e : i + suc d ≡ i + d + 1 = omega arith in e)
    ∙ ap (filter p) (take_more xs (i + d) 0 (omega arith))
    ∙ filter-append p (take (i + d) xs) (slice_index_or xs (i + d) 0 ∷ [])
    ∙ ap (λ b. filter p (take (i + d) xs) ++ cond b (slice_index_or xs (i + d) 0 ∷ []) []) (fails (i + d) (omega arith) (omega arith))
    ∙ append_nil (filter p (take (i + d) xs))
    ∙ filter_passes p xs i d (omega arith) (λ k a b. fails k a (omega arith))
  where
    append_nil : (xs : List ℕ) → xs ++ [] ≡ xs
    append_nil [] = refl
    append_nil (x ∷ xs) = ap (λ l. x ∷ l) (append_nil xs)

-- a type that isn't below that of a rule is below none of those up to the rule's end
module _ (types : TypeTable) (rules : List Rule) (order : List ℕ) (t : ℕ)
    (transitive : (a b c : ℕ) → is_below types a b ≡ true → is_below types b c ≡ true → is_below types a c ≡ true) where
  abbrev test : ℕ → Bool
  test = λ k. is_below types t (slice_index_or rules k no_rule).ty

  pub passed_over : (i e : ℕ) → IsEnd types rules order i e → is_below types t (slice_index_or rules (slice_index_or order i 0) no_rule).ty ≡ false →
      filter (λ k. is_below types t (slice_index_or rules k no_rule).ty) (take e order) ≡
      filter (λ k. is_below types t (slice_index_or rules k no_rule).ty) (take i order)
  passed_over i e end free =
      let q : i + (e - i) ≡ e = omega (arith, end.behind) in
      ap (λ n. filter test (take n order)) (sym q)
      ∙ filter_passes test order i (e - i) (omega (arith, end.within, q)) (λ k a b. fails k a (omega (arith, b, q)) (bool_cases (test (slice_index_or order k 0))))
    where
      over : (k : ℕ) → i ≤ k → k < e → test (slice_index_or order k 0) ≡ true → (i < k) ⊎ (k ≤ i) → test (slice_index_or order k 0) ≡ false
      over k a b holds (inl c) =
          absurd
          (let f : false ≡ true =
          sym free ∙ transitive t (slice_index_or rules (slice_index_or order k 0) no_rule).ty (slice_index_or rules (slice_index_or order i 0) no_rule).ty holds (end.below k c b) in
          cc f)
      over k a b holds (inr c) = let q : k ≡ i = omega arith in ap (λ z. test (slice_index_or order z 0)) q ∙ free

      fails : (k : ℕ) → i ≤ k → k < e → (test (slice_index_or order k 0) ≡ true) ⊎ (test (slice_index_or order k 0) ≡ false) → test (slice_index_or order k 0) ≡ false
      fails k a b (inl holds) = over k a b holds (cases_lt i k)
      fails k a b (inr e) = e

-- the row of a type has the rules above it
pub same_above : (types : TypeTable) (rules : List Rule) (t : ℕ) (order row : List ℕ) → HaveSame order (rules_with_facts rules) →
    row ≡ filter (λ k. is_below types t (slice_index_or rules k no_rule).ty) order → HaveSame row (rules_above types rules t)
same_above types rules t order row same is = record {
  to = λ j h.
      let r = Has-of_filter (λ k. is_below types t (slice_index_or rules k no_rule).ty) order j (subst (Has j) is h) in
      Has-filter (λ k. is_below types t (slice_index_or rules k no_rule).ty) (rules_with_facts rules) j (same.to j r.0) r.1;
  back = λ j h.
      let r = Has-of_filter (λ k. is_below types t (slice_index_or rules k no_rule).ty) (rules_with_facts rules) j h in
      subst (Has j) (sym is) (Has-filter (λ k. is_below types t (slice_index_or rules k no_rule).ty) order j (same.back j r.0) r.1);
}
