-- What rows of rules and what their types owe say at a node.
use Rattle.std.proofs.Common.{ℕ, ◌≡◌, ◌≤◌, ◌<◌, ◌+◌, ◌==◌, ◌⊎◌, inl, inr, Bool, true, false, Some, None, List, [], ◌∷◌, ◌++◌, length, map, slice_index_or, refl, sym, ◌∙◌, ap, subst, arith}
use Rattle.std.specs.Prelude.{if◌then◌else◌, flat_map}
use Rattle.std.specs.List.{range_with_len}
use Rattle.std.proofs.lemmas.Bool.{cases_lt}
use Rattle.type_hierarchy.specs.Table.{count_of, is_below}
use Rattle.fs_model.specs.Claims.{Claim, System, Has}
use Rattle.fs_model.specs.Table.{Table, IsTable, NodeClaim, is_under, from, Seen, Follows}
use Rattle.fs_graph.specs.declared.graph.GraphArc.{GraphArc}
use Rattle.fs_graph.specs.GraphMap.{GraphMap, IsGraph, table_of, type_at, arcs_at}
use Rattle.fs_closing.specs.NodeSteps.{EntersTable}
use Rattle.fs_closing.specs.Rules.{Grammar, no_rule, facts_in, rules_above, rules_with_facts, system_of}
use Rattle.fs_closing.proofs.HasLemmas.{Has-left, Has-right, Has-either, Has-one, Has-map, Has-of_map, Has-flat, Has-of_flat}
use Rattle.fs_closing.proofs.RangeLemmas.{Has-filter, Has-of_filter, Has-range, Has-of_range}
use Rattle.fs_closing.proofs.RuleRowLemmas.{rule_in, rule_has}
use Rattle.fs_closing.proofs.StepLemmas.{facts_of_rule, rule_of_fact}
use Rattle.fs_unify.specs.declared.debts.Debt.{Debt}
use Rattle.fs_unify.specs.Debts.{Pays, HaveDebts, IsPaidBy, debt_at}
use Rattle.fs_unify.specs.Entering.{Owes, IsOwed, Carries, EntersOwing, ArePaid}
use Rattle.fs_unify.specs.Owing.{OwedFacts, OwedRules, row_at, debts_at, HaveOwing, ListsOwed, OwesRules}
use Rattle.fs_unify.proofs.OwedLemmas.{fact_seen, owed_at, arc_under, any_has}
use Rattle.fs_unify.proofs.StandLemmas.{seen_stands}
use Rattle.fs_unify.proofs.CarryLemmas.{carries_none, carries_paid}

module _ (g : Grammar) (facts : OwedFacts) (rules : OwedRules) (lists : ListsOwed g facts rules) where
  rows_at : (is_root : Bool) → HaveOwing g (if is_root then facts.at_root else facts.further) (debts_at rules is_root) (count_of g.types) (if is_root then rules.at_root else rules.further)
  rows_at true = lists.at_root
  rows_at false = lists.further

  known_at : (is_root : Bool) → HaveDebts g (if is_root then facts.at_root else facts.further) (length g.rules) (debts_at rules is_root)
  known_at true = lists.root_debts
  known_at false = lists.further_debts

  -- a row's rules are at or above the type
  pub row_above : (is_root : Bool) (t j : ℕ) → t < count_of g.types → Has j (row_at rules is_root t) → is_below g.types t (slice_index_or g.rules j no_rule).ty ≡ true
  row_above is_root t j h i =
      (Has-of_filter (λ k. is_below g.types t (slice_index_or g.rules k no_rule).ty) (rules_with_facts g.rules) j (((rows_at is_root).row_is t h).above j i)).1

  pub row_in : (is_root : Bool) (t j : ℕ) → t < count_of g.types → Has j (row_at rules is_root t) → j < length g.rules
  row_in is_root t j h i =
      rule_in g.rules j
      (Has-of_filter (λ k. is_below g.types t (slice_index_or g.rules k no_rule).ty) (rules_with_facts g.rules) j (((rows_at is_root).row_is t h).above j i)).0

  pub debt_known : (is_root : Bool) (j : ℕ) (d : Debt) → j < length g.rules → debt_at (debts_at rules is_root) j ≡ Some d →
      Pays g (if is_root then facts.at_root else facts.further) (slice_index_or g.rules j no_rule).ty d
  debt_known is_root j d h e = (known_at is_root).pays j d h e

  -- what a rule says follows where the rule that pays it was pushed, or what its type owes has entered
  pub rule_pays : (is_root : Bool) (i j : ℕ) (c : Claim) (t : Table) (work : List NodeClaim) (n : ℕ) → IsPaidBy g (debts_at rules is_root) i j → j < length g.rules →
      Has c (slice_index_or g.rules j no_rule).claims → (if is_root then facts.at_root else facts.further) c ≡ true →
      (debt_at (debts_at rules is_root) i ≡ None → (d : Claim) → Has d (slice_index_or g.rules i no_rule).claims → Follows (system_of g) t work (from n d)) →
      ((k : Debt) → debt_at (debts_at rules is_root) i ≡ Some k → (d : Claim) → Seen (system_of g) (table_of k.graph) (from 0 d) → Follows (system_of g) t work (from n d)) →
      i < length g.rules → Follows (system_of g) t work (from n c)
  rule_pays is_root i j c t work n (inl (e, none)) j_in has owed says stands i_in =
      says none c (subst (λ k. Has c (slice_index_or g.rules k no_rule).claims) (sym e) has)
  rule_pays is_root i j c t work n (inr (k, is, under)) j_in has owed says stands i_in =
      stands k is c ((debt_known is_root i k i_in is).pays (slice_index_or g.rules j no_rule).ty c under (rule_of_fact g.rules j c j_in has) owed)

  -- an owed fact at or above a type stands in a rule that a rule in the row pays
  pub payer : (is_root : Bool) (t x : ℕ) (c : Claim) → t < count_of g.types → is_below g.types t x ≡ true → Has c (facts_in g.rules x) →
      (if is_root then facts.at_root else facts.further) c ≡ true → (P : Type 0) →
      ((i j : ℕ) → Has i (row_at rules is_root t) → IsPaidBy g (debts_at rules is_root) i j → j < length g.rules → Has c (slice_index_or g.rules j no_rule).claims → P) → P
  payer is_root t x c h b i owed P f =
      let r = facts_of_rule g.rules x c i in
      let above = Has-filter (λ k. is_below g.types t (slice_index_or g.rules k no_rule).ty) (rules_with_facts g.rules) r.0 (rule_has g.rules r.0 c r.1 r.3)
      (ap (is_below g.types t) r.2 ∙ b) in
      let p = ((rows_at is_root).row_is t h).paid r.0 above
      (any_has (if is_root then facts.at_root else facts.further) c (slice_index_or g.rules r.0 no_rule).claims r.3 owed) in
      f p.0 r.0 p.1 p.2 r.1 r.3

-- one rule of a row more
pub row_pays : (s : System) (t : Table) (work : List NodeClaim) (n : ℕ) (c : Claim) (k : ℕ) (xs : List ℕ) (y : ℕ) → Has k xs ⊎ Has k (y ∷ []) →
    (Has k xs → Follows s t work (from n c)) → (k ≡ y → Follows s t work (from n c)) → Follows s t work (from n c)
row_pays s t work n c k xs y (inl h) old new = old h
row_pays s t work n c k xs y (inr h) old new = new (Has-one k y h)

pub paid_none : (g : Grammar) (graph : GraphMap) (offset : ℕ) (t : Table) (work : List NodeClaim) → ArePaid g graph offset 0 t work
paid_none g graph offset t work = λ k x c h b i. absurd (omega arith)

-- one node more
pub paid_more : (g : Grammar) (graph : GraphMap) (is : IsGraph graph) (rules : OwedRules) (owes : OwesRules g graph rules) (offset k ty : ℕ)
    (t : Table) (work : List NodeClaim) (t' : Table) (work' : List NodeClaim) → k < length graph.types → ty ≡ type_at graph k →
    ((c : NodeClaim) → Follows (system_of g) t work c → Follows (system_of g) t' work' c) →
    ((x : ℕ) (c : Claim) → is_below g.types ty x ≡ true → Has c (facts_in g.rules x) → (if k == 0 then owes.facts.at_root else owes.facts.further) c ≡ true →
    Follows (system_of g) t' work' (from (offset + k) c)) →
    ArePaid g graph offset k t work → ArePaid g graph offset (k + 1) t' work'
paid_more g graph is rules owes offset k ty t work t' work' k_in ty_is follows here old = λ m x c h b i. by_place m x c h b i (cases_lt m k)
  where
    by_place : (m x : ℕ) (c : Claim) → m < k + 1 → is_below g.types (type_at graph m) x ≡ true → Has c (facts_in g.rules x) → (m < k) ⊎ (k ≤ m) →
        Follows (system_of g) t' work' (from (offset + m) c) ⊎ Seen (system_of g) (table_of graph) (from m c)
    by_place m x c h b i (inl a) = kept (old m x c a b i)
      where
        kept : Follows (system_of g) t work (from (offset + m) c) ⊎ Seen (system_of g) (table_of graph) (from m c) →
            Follows (system_of g) t' work' (from (offset + m) c) ⊎ Seen (system_of g) (table_of graph) (from m c)
        kept (inl f) = inl (follows _ f)
        kept (inr z) = inr z
    by_place m x c h b i (inr a) =
        let e : k ≡ m = omega arith in
        subst (λ n. Follows (system_of g) t' work' (from (offset + n) c) ⊎ Seen (system_of g) (table_of graph) (from n c)) e
        (by_test ((if k == 0 then owes.facts.at_root else owes.facts.further) c) refl)
      where
        b' : is_below g.types (type_at graph k) x ≡ true
        b' = ap (λ n. is_below g.types (type_at graph n) x) (let e : k ≡ m = omega arith in e) ∙ b

        by_test : (o : Bool) → (if k == 0 then owes.facts.at_root else owes.facts.further) c ≡ o →
            Follows (system_of g) t' work' (from (offset + k) c) ⊎ Seen (system_of g) (table_of graph) (from k c)
        by_test true e = inl (here x c (ap (λ y. is_below g.types y x) ty_is ∙ b') i e)
        by_test false e =
            inr (fact_seen (system_of g) graph is owes.facts owes.well_formed k x c k_in b' i (owed_at (system_of g) graph is owes.facts owes.well_formed k c k_in ∙ e))

pub paid_all : (g : Grammar) (graph : GraphMap) (offset k count : ℕ) (t : Table) (work : List NodeClaim) → count ≤ k → ArePaid g graph offset k t work →
    ArePaid g graph offset count t work
paid_all g graph offset k count t work all paid = λ m x c h b i. paid m x c (omega (arith, h, all)) b i

-- A graph that owes has entered, and what it owes: had all that its types force been work, that would be done.
module _ (g : Grammar) (graph : GraphMap) (is : IsGraph graph) (rules : OwedRules) (owes : OwesRules g graph rules) (t t1 : Table) (enters : EntersTable graph t t1)
    (ok : IsTable t1) (work : List NodeClaim) (t' : Table) (work' : List NodeClaim) (offset : ℕ) (at_end : t.size ≡ offset)
    (carries : Carries (system_of g) t1 work t' work') (paid : ArePaid g graph offset (length graph.types) t' work') where
  abbrev rule_claims : ℕ → ℕ → List NodeClaim
  rule_claims k j = map (from (t.size + k)) (slice_index_or g.rules j no_rule).claims

  abbrev node_claims : ℕ → List NodeClaim
  node_claims k = flat_map (rule_claims k) (rules_above g.types g.rules (type_at graph k))

  abbrev forced : List NodeClaim
  forced = flat_map node_claims (range_with_len 0 (length graph.types))

  abbrev Force : NodeClaim → Type 0
  Force c = (k : ℕ) × (x : ℕ) × (d : Claim) × (k < length graph.types) × (is_below g.types (type_at graph k) x ≡ true) × Has d (facts_in g.rules x) × (c ≡ from (t.size + k) d)

  into : (k x : ℕ) (c : Claim) → k < length graph.types → is_below g.types (type_at graph k) x ≡ true → Has c (facts_in g.rules x) → Has (from (t.size + k) c) forced
  into k x c h b i =
      let r = facts_of_rule g.rules x c i in
      let above = Has-filter (λ j. is_below g.types (type_at graph k) (slice_index_or g.rules j no_rule).ty) (rules_with_facts g.rules) r.0 (rule_has g.rules r.0 c r.1 r.3)
      (ap (is_below g.types (type_at graph k)) r.2 ∙ b) in
      Has-flat node_claims k (from (t.size + k) c) (range_with_len 0 (length graph.types)) (Has-range (length graph.types) k h)
      (Has-flat (rule_claims k) r.0 (from (t.size + k) c) (rules_above g.types g.rules (type_at graph k)) above (Has-map (from (t.size + k)) c _ r.3))

  back : (c : NodeClaim) → Has c forced → Force c
  back c h =
      let k = Has-of_flat node_claims c (range_with_len 0 (length graph.types)) h in
      let j = Has-of_flat (rule_claims k.0) c (rules_above g.types g.rules (type_at graph k.0)) k.2 in
      let d = Has-of_map (from (t.size + k.0)) c (slice_index_or g.rules j.0 no_rule).claims j.2 in
      let above = Has-of_filter (λ i. is_below g.types (type_at graph k.0) (slice_index_or g.rules i no_rule).ty) (rules_with_facts g.rules) j.0 j.1 in (
        k.0,
        (slice_index_or g.rules j.0 no_rule).ty,
        d.0,
        Has-of_range (length graph.types) k.0 k.1,
        above.1,
        rule_of_fact g.rules j.0 d.0 (rule_in g.rules j.0 above.0) d.1,
        d.2,
      )

  owed : IsOwed (system_of g) t.size graph work (forced ++ work)
  owed = record {
    facts = λ k x c h b i. inl (Has-left _ forced work (into k x c h b i));
    introduces = λ k a h i. inr (arc_under (system_of g) graph is owes.facts owes.well_formed k a h i);
    rest = λ c h. Has-right c forced work h;
    only = λ c h. only c (Has-either c forced work h);
  }
    where
      only : (c : NodeClaim) → Has c forced ⊎ Has c work →
          Force c ⊎ ((k : ℕ) × (a : GraphArc) × (k < length graph.types) × Has a (arcs_at graph k) × (c ≡ is_under (t.size + k) [] ((system_of g).introducer a.feat.0))) ⊎ Has c work
      only c (inl h) = inl (back c h)
      only c (inr h) = inr (inr h)

  follows : (c : NodeClaim) → Has c forced → Follows (system_of g) t' work' c
  follows c h = one (back c h)
    where
      one : Force c → Follows (system_of g) t' work' c
      one (k, x, d, k_in, b, i, e) =
          subst (Follows (system_of g) t' work') (sym e) (go (paid k x d k_in b i))
        where
          go : Follows (system_of g) t' work' (from (offset + k) d) ⊎ Seen (system_of g) (table_of graph) (from k d) → Follows (system_of g) t' work' (from (t.size + k) d)
          go (inl f) = subst (λ o. Follows (system_of g) t' work' (from (o + k) d)) (sym at_end) f
          go (inr z) = carries.follows _ (seen_stands (system_of g) graph is t t1 enters ok work k d k_in z)

  pub enters_paid : EntersOwing (system_of g) graph t work t' work'
  enters_paid = record {
    alone = t1;
    forced = forced ++ work;
    enters = enters;
    owed = owed;
    carries = carries_paid (system_of g) t1 work t' work' forced carries follows;
  }

-- a graph of which all that its types and arcs force became work
pub enters_open : (g : Grammar) (graph : GraphMap) (offset : ℕ) (old new : List NodeClaim) → Owes (system_of g) offset graph (length graph.types) old new →
    (t alone : Table) → t.size ≡ offset → EntersTable graph t alone → EntersOwing (system_of g) graph t old alone new
enters_open g graph offset old new owes t alone is enters = record {
  alone = alone;
  forced = new;
  enters = enters;
  owed = subst (λ o. Owes (system_of g) o graph (length graph.types) old new) (sym is) owes;
  carries = carries_none (system_of g) alone new;
}
