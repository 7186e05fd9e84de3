-- Rows of the rules that have a fact which is owed.
use Rattle.std.proofs.Common.{ℕ, ◌≡◌, ◌≤◌, ◌<◌, ◌+◌, ◌⊎◌, inl, inr, Bool, true, false, cond, Option, Some, None, List, [], ◌∷◌, ◌++◌, length, take, filter, slice_index_or, refl, sym, ◌∙◌, ap, subst, arith, length-append}
use Rattle.std.specs.List.{list_any}
use Rattle.std.proofs.Math.ListN.{get_or-append}
use Rattle.std.proofs.Math.Seq.{get_or-append_seam}
use Rattle.std.proofs.lemmas.Bool.{cases_lt}
use Rattle.std.proofs.lemmas.List.{take_more}
use Rattle.std.proofs.lemmas.List.Elements.{filter-append}
use Rattle.type_hierarchy.specs.Table.{is_below}
use Rattle.fs_model.specs.Claims.{Claim, IsOrder, Has, here, there}
use Rattle.std.specs.Prelude.{IfSome, is_some, not, option_map}
use Rattle.fs_closing.specs.Rules.{Grammar, no_rule, rules_above, rules_with_facts, system_of, HaveSame}
use Rattle.fs_closing.proofs.RuleRowLemmas.{rule_in}
use Rattle.fs_closing.proofs.RangeLemmas.{Has-filter, Has-of_filter}
use Rattle.fs_graph.specs.declared.facts.Feat.{Feat}
use Rattle.fs_unify.specs.declared.debts.Debt.{Debt}
use Rattle.fs_unify.specs.Debts.{Pays, HaveDebts, IsPaidBy, debt_at}
use Rattle.fs_unify.specs.Owing.{IsOwing, HaveOwing}
use Rattle.fs_unify.specs.Inner.Marks.{HaveMarks}

-- one more place was looked at
pub filter_one : (test : ℕ → Bool) (xs : List ℕ) (i : ℕ) (b : Bool) → i < length xs → test (slice_index_or xs i 0) ≡ b →
    filter test (take (i + 1) xs) ≡ filter test (take i xs) ++ cond b (slice_index_or xs i 0 ∷ []) []
filter_one test xs i b h e =
    ap (filter test) (take_more xs i 0 h) ∙ filter-append test (take i xs) (slice_index_or xs i 0 ∷ [])
    ∙ ap (λ l. filter test (take i xs) ++ l) (ap (λ t. cond t (slice_index_or xs i 0 ∷ []) []) e)

-- lists with the same members, filtered
pub same_filter : (test : ℕ → Bool) (xs ys : List ℕ) → HaveSame xs ys → HaveSame (filter test xs) (filter test ys)
same_filter test xs ys same = record {
  to = λ j h. let r = Has-of_filter test xs j h in Has-filter test ys j (same.to j r.0) r.1;
  back = λ j h. let r = Has-of_filter test ys j h in Has-filter test xs j (same.back j r.0) r.1;
}

-- rules at or above a type are rules
pub above_in : (g : Grammar) (t : ℕ) (list : List ℕ) → HaveSame list (rules_above g.types g.rules t) → (j : ℕ) → Has j list → j < length g.rules
above_in g t list same j h =
    let r = Has-of_filter (λ k. is_below g.types t (slice_index_or g.rules k no_rule).ty) (rules_with_facts g.rules) j (same.to j h) in
    rule_in g.rules j r.0

pub have_none : (g : Grammar) (owed : Claim → Bool) (debts : List (Option Debt)) → HaveOwing g owed debts 0 []
have_none g owed debts = record { each = refl; row_is = λ t h. absurd (omega arith) }

-- one type more
pub have_more : (g : Grammar) (owed : Claim → Bool) (debts : List (Option Debt)) (t : ℕ) (rows rows' : List (List ℕ)) (row : List ℕ) → HaveOwing g owed debts t rows →
    rows' ≡ rows ++ row ∷ [] → IsOwing g owed debts t row → HaveOwing g owed debts (t + 1) rows'
have_more g owed debts t rows rows' row old is owing = record {
  each = omega (arith, ap length is, length-append rows (row ∷ []), old.each);
  row_is = λ k h. row_is k h (cases_lt k t);
}
  where
    row_is : (k : ℕ) → k < t + 1 → (k < t) ⊎ (t ≤ k) → IsOwing g owed debts k (slice_index_or rows' k [])
    row_is k h (inl a) =
        subst (IsOwing g owed debts k) (sym (ap (λ l. slice_index_or l k []) is ∙ get_or-append rows (row ∷ []) [] k (omega (arith, a, old.each)))) (old.row_is k a)
    row_is k h (inr a) =
        let e : k ≡ t = omega arith in
        let here : slice_index_or rows' k [] ≡ row =
        ap (λ l. slice_index_or l k []) is ∙ ap (λ i. slice_index_or (rows ++ row ∷ []) i []) (e ∙ sym old.each) ∙ get_or-append_seam rows row [] [] in
        subst (λ z. IsOwing g owed debts z (slice_index_or rows' k [])) (sym e) (subst (IsOwing g owed debts t) (sym here) owing)

-- a row that pays what marked rules say
pub owing_row : (g : Grammar) (owed : Claim → Bool) (debts : List (Option Debt)) (t : ℕ) (rules row : List ℕ) →
    HaveSame rules (filter (λ j. list_any owed (slice_index_or g.rules j no_rule).claims) (rules_above g.types g.rules t)) →
    ((j : ℕ) → Has j row → Has j rules) → ((j : ℕ) → Has j rules → (i : ℕ) × Has i row × IsPaidBy g debts i j) → IsOwing g owed debts t row
owing_row g owed debts t rules row same fewer paid = record {
  above = λ j h. (Has-of_filter (λ k. list_any owed (slice_index_or g.rules k no_rule).claims) (rules_above g.types g.rules t) j (same.to j (fewer j h))).0;
  paid = λ j h any. paid j (same.back j (Has-filter (λ k. list_any owed (slice_index_or g.rules k no_rule).claims) (rules_above g.types g.rules t) j h any));
}

-- a rule pays what it says itself
pub paid_itself : (g : Grammar) (debts : List (Option Debt)) (j : ℕ) → IsOrder (system_of g) → IsPaidBy g debts j j
paid_itself g debts j order = go (debt_at debts j) refl
  where
    go : (o : Option Debt) → debt_at debts j ≡ o → IsPaidBy g debts j j
    go None e = inl (refl, e)
    go (Some d) e = inr (d, e, order.reflexive (slice_index_or g.rules j no_rule).ty)

none_holds : (b : Bool) → false ≡ not b → b ≡ true
none_holds true e = refl
none_holds false e = absurd (let z : false ≡ true = e in cc)

some_holds : (b : Bool) → true ≡ not b → b ≡ false
some_holds false e = refl
some_holds true e = absurd (let z : true ≡ false = e in cc)

-- a rule pays another one by its facts, or by what its type owes
pub paid_by : {A : Type 0} (f : A → Debt) (o : Option A) (none : Bool) (g : Grammar) (debts : List (Option Debt)) (i j : ℕ) → option_map f o ≡ debt_at debts i →
    is_some o ≡ not none → (none ≡ true → i ≡ j) → (none ≡ false → is_below g.types (slice_index_or g.rules i no_rule).ty (slice_index_or g.rules j no_rule).ty ≡ true) →
    IsPaidBy g debts i j
paid_by f None none g debts i j e is same below = inl (same (none_holds none is), sym e)
paid_by f (Some a) none g debts i j e is same below = inr (f a, sym e, below (some_holds none is))

-- marked rules stand below the types of all rules
pub owed_in : (g : Grammar) (owed : Claim → Bool) (t : ℕ) (rules : List ℕ) →
    HaveSame rules (filter (λ j. list_any owed (slice_index_or g.rules j no_rule).claims) (rules_above g.types g.rules t)) → (j : ℕ) → Has j rules → j < length g.rules
owed_in g owed t rules same j h =
    let r = Has-of_filter (λ k. list_any owed (slice_index_or g.rules k no_rule).claims) (rules_above g.types g.rules t) j (same.to j h) in
    rule_in g.rules j (Has-of_filter (λ k. is_below g.types t (slice_index_or g.rules k no_rule).ty) (rules_with_facts g.rules) j r.0).0

pub debts_none : (g : Grammar) (owed : Claim → Bool) → HaveDebts g owed 0 []
debts_none g owed = record { each = refl; pays = λ j d h e. absurd (omega arith) }

-- one rule more
pub debts_more : (g : Grammar) (owed : Claim → Bool) (n : ℕ) (debts debts' : List (Option Debt)) (debt : Option Debt) → HaveDebts g owed n debts → debts' ≡ debts ++ debt ∷ [] →
    IfSome debt (Pays g owed (slice_index_or g.rules n no_rule).ty) → HaveDebts g owed (n + 1) debts'
debts_more g owed n debts debts' debt old is pays = record {
  each = omega (arith, ap length is, length-append debts (debt ∷ []), old.each);
  pays = λ j d h e. one j d h e (cases_lt j n);
}
  where
    of_some : (o : Option Debt) (d : Debt) → IfSome o (Pays g owed (slice_index_or g.rules n no_rule).ty) → o ≡ Some d → Pays g owed (slice_index_or g.rules n no_rule).ty d
    of_some None d p e = absurd (let z : None ≡ Some d = e in cc)
    of_some (Some x) d p e = subst (Pays g owed (slice_index_or g.rules n no_rule).ty) (let z : x ≡ d = cc in z) p

    one : (j : ℕ) (d : Debt) → j < n + 1 → debt_at debts' j ≡ Some d → (j < n) ⊎ (n ≤ j) → Pays g owed (slice_index_or g.rules j no_rule).ty d
    one j d h e (inl a) =
        old.pays j d a (sym (ap (λ l. slice_index_or l j None) is ∙ get_or-append debts (debt ∷ []) None j (omega (arith, a, old.each))) ∙ e)
    one j d h e (inr a) =
        let z : j ≡ n = omega arith in
        let here : debt_at debts' j ≡ debt =
        ap (λ l. slice_index_or l j None) is ∙ ap (λ i. slice_index_or (debts ++ debt ∷ []) i None) (z ∙ sym old.each) ∙ get_or-append_seam debts debt [] None in
        subst (λ i. Pays g owed (slice_index_or g.rules i no_rule).ty d) (sym z) (of_some debt d pays (sym here ∙ e))

pub marks_none : (g : Grammar) (owed : Claim → Bool) → HaveMarks g owed 0 []
marks_none g owed = record { each = refl; mark_is = λ j h. absurd (omega arith) }

-- one rule more
pub marks_more : (g : Grammar) (owed : Claim → Bool) (n : ℕ) (marks marks' : List Bool) (b : Bool) → HaveMarks g owed n marks → marks' ≡ marks ++ b ∷ [] →
    b ≡ list_any owed (slice_index_or g.rules n no_rule).claims → HaveMarks g owed (n + 1) marks'
marks_more g owed n marks marks' b old is same = record {
  each = omega (arith, ap length is, length-append marks (b ∷ []), old.each);
  mark_is = λ k h. mark_is k h (cases_lt k n);
}
  where
    mark_is : (k : ℕ) → k < n + 1 → (k < n) ⊎ (n ≤ k) → slice_index_or marks' k false ≡ list_any owed (slice_index_or g.rules k no_rule).claims
    mark_is k h (inl a) = ap (λ l. slice_index_or l k false) is ∙ get_or-append marks (b ∷ []) false k (omega (arith, a, old.each)) ∙ old.mark_is k a
    mark_is k h (inr a) =
        let e : k ≡ n = omega arith in
        ap (λ l. slice_index_or l k false) is ∙ ap (λ i. slice_index_or (marks ++ b ∷ []) i false) (e ∙ sym old.each) ∙ get_or-append_seam marks b [] false
        ∙ same ∙ ap (λ i. list_any owed (slice_index_or g.rules i no_rule).claims) (sym e)

-- marks tell which rules have such a fact
pub marked : (g : Grammar) (owed : Claim → Bool) (marks : List Bool) → HaveMarks g owed (length g.rules) marks → (xs : List ℕ) →
    ((j : ℕ) → Has j xs → j < length g.rules) →
    filter (λ j. slice_index_or marks j false) xs ≡ filter (λ j. list_any owed (slice_index_or g.rules j no_rule).claims) xs
marked g owed marks m [] within = refl
marked g owed marks m (x ∷ xs) within =
    let mark = λ (j : ℕ). slice_index_or marks j false in
    let test = λ (j : ℕ). list_any owed (slice_index_or g.rules j no_rule).claims in
    ap (λ b. cond b (x ∷ filter mark xs) (filter mark xs)) (m.mark_is x (within x here))
    ∙ ap (λ l. cond (test x) (x ∷ l) l) (marked g owed marks m xs (λ j h. within j (there h)))

abbrev pub no_feat : Feat
no_feat = record { 0 = 0 }
