-- A finished core decides the limits.
use Rattle.std.specs.Prelude.{◌≡◌, ℕ, ◌+◌, ◌≤◌, ◌^◌, nat_le, Bool, true, false, if◌then◌else◌, is_some, option_map, Option, Some, None, List, [], ◌∷◌, refl, All, MatchOption, slice_index_or}
use Rattle.std.proofs.Common.{sym, ◌∙◌, ap, subst, arith, zero, suc}
use Rattle.std.proofs.lemmas.List.Elements.{All-head, All-tail}
use Rattle.chart_model.specs.Calculus.{Calculus, Laws}
use Rattle.chart_model.specs.Tuples.{on_list}
use Rattle.chart_model.specs.At.{At, here, there}
use Rattle.chart_model.specs.Chart as model
use Rattle.chart_model.specs.Limits.{LimitAnswer, Within, UnaryChain, Edges, IsLimitAnswer, IsClassCount}
use Rattle.chart_model.specs.Below.{IsDecided, IsLeastSize, answer_by}
use Rattle.chart_model.specs.Finished.{NothingPending}
use Rattle.chart_model.proofs.Decided.{decided_run}
use Rattle.chart_core.specs.declared.Row.{Row}
use Rattle.chart_core.specs.declared.RowKind.{RowKind}
use Rattle.chart_core.specs.declared.RowKind.TheVariants as kinds
use Rattle.chart_core.specs.declared.ChartFault.{ChartFault}
use Rattle.chart_core.specs.declared.chart.Core.{Core}
use Rattle.chart_core.specs.Grammar.{Grammar}
use Rattle.chart_core.specs.View.{rows_of, row_of, Belongs, kind_of}
use Rattle.chart_core.specs.CoreView.{chart_of, history_of, leaves_of, leaves_in, leaf_by, limits_of}
use Rattle.chart_core.specs.Kept.{IsCore, pending_of}
use Rattle.chart_core.specs.Counted.{tally, IsSmall, IsAnswer, IsFoundBelow}
use Rattle.chart_core.proofs.Tally.{tally_is, least_same}
use Rattle.chart_core.proofs.Done.{nothing}

module _ {X T C W B M : Type 0} (k : Calculus M C) (belongs : T → Type 0) (meaning : T → M) where
  belongs_proper : (row : Row X T C W B) (o : Option T) → row.shape ≡ o → is_some o ≡ true → Belongs k belongs row → k.proper row.cover
  belongs_proper row None e some b = absurd (cc)
  belongs_proper row (Some t) e some b = (subst (λ o. MatchOption o (Unit {0}) (λ shape. belongs shape × k.proper row.cover)) e b).1

  leaf_proper : (row : Row X T C W B) (kind : RowKind) (o : Option T) (rest : List (model.Leaf M C)) (l : ℕ) (leaf : model.Leaf M C) → row.shape ≡ o → Belongs k belongs row → ((j : ℕ) → At rest j leaf → k.proper leaf.cover) → At (on_list (leaf_by (row_of meaning row) (kind_of kind) (option_map meaning o)) rest) l leaf → k.proper leaf.cover
  leaf_proper row (kinds.Partial rule) o rest l leaf e b more a = more l a
  leaf_proper row (kinds.Whole rule) o rest l leaf e b more a = more l a
  leaf_proper row (kinds.Leaf name) None rest l leaf e b more a = more l a
  leaf_proper row (kinds.Leaf name) (Some t) rest zero leaf e b more (here) = belongs_proper row (Some t) e refl b
  leaf_proper row (kinds.Leaf name) (Some t) rest (suc l) leaf e b more (there a) = more l a

  pub leaves_proper : (rows : List (Row X T C W B)) → All (Belongs k belongs) rows → (l : ℕ) (leaf : model.Leaf M C) → At (leaves_in (rows_of meaning rows)) l leaf → k.proper leaf.cover
  leaves_proper [] all l leaf a = elim a [ ]
  leaves_proper (row ∷ rows) all l leaf a = leaf_proper row row.kind row.shape (leaves_in (rows_of meaning rows)) l leaf refl (All-head (Belongs k belongs) row rows all) (λ j b. leaves_proper rows (All-tail (Belongs k belongs) row rows all) j leaf b) a

module _ {X T C W B M : Type 0} (g : Grammar T M C) (laws : Laws g.calculus) (extent : C → ℕ) (sizes : (c : C) → g.calculus.size c ≡ extent c) (core : Core X T C W B) (is : IsCore g core) where
  -- each host's size fits
  pub all_small : All (IsSmall extent) core.rows.items
  all_small i d l some =
      let row = slice_index_or core.rows.items i d in
      let p = belongs_proper g.calculus g.belongs g.meaning (slice_index_or core.rows.items i d) (slice_index_or core.rows.items i d).shape refl some (is.belongs_all i d l) in
      let s = (laws.has_size (slice_index_or core.rows.items i d).cover p).1 in
      omega (arith, s, sizes (slice_index_or core.rows.items i d).cover)

  module _ (done : pending_of core ≡ 0) where
    pub core_decided : IsDecided g.calculus (limits_of core) (leaves_of g.meaning core) (chart_of g.meaning core)
    core_decided =
        subst (IsDecided g.calculus (limits_of core) (leaves_of g.meaning core)) (sym is.state)
        (decided_run g.calculus laws (limits_of core) (leaves_of g.meaning core) (leaves_proper g.calculus g.belongs g.meaning core.rows.items is.belongs_all) (history_of g.meaning core) is.run (subst NothingPending is.state (nothing g laws core is done)))

    -- the answer by the counts is the answer of the limits
    pub found_answer : (fault : Option ChartFault) (f : IsFoundBelow extent core.edges core.unary (2 ^ 32) core.rows.items fault) → IsLimitAnswer g.calculus (limits_of core) (leaves_of g.meaning core) (answer_by f.chain f.edges)
    found_answer fault f =
        core_decided.answer f.chain f.edges
        (least_same _ _ 0 (2 ^ 32) f.chain (λ n. tally_is extent g.calculus g.meaning sizes (core.unary + 1) (core.unary + 1) n core.rows.items) f.chain_is)
        (least_same _ _ core.edges (2 ^ 32) f.edges (λ n. tally_is extent g.calculus g.meaning sizes 0 core.unary n core.rows.items) f.edges_is)

    pub fault_answer : (fault : ChartFault) → IsFoundBelow extent core.edges core.unary (2 ^ 32) core.rows.items (Some fault) → (a : LimitAnswer) × IsAnswer (Some fault) a × IsLimitAnswer g.calculus (limits_of core) (leaves_of g.meaning core) a
    fault_answer fault f = (answer_by f.chain f.edges, f.answer, found_answer (Some fault) f)

    pub none_answer : IsFoundBelow extent core.edges core.unary (2 ^ 32) core.rows.items None → IsLimitAnswer g.calculus (limits_of core) (leaves_of g.meaning core) Within
    none_answer f = subst (IsLimitAnswer g.calculus (limits_of core) (leaves_of g.meaning core)) f.answer (found_answer None f)

    pub class_count_is : IsClassCount g.calculus (limits_of core) (leaves_of g.meaning core) (tally extent 0 core.unary (2 ^ 32) core.rows.items)
    class_count_is = subst (IsClassCount g.calculus (limits_of core) (leaves_of g.meaning core)) (sym (tally_is extent g.calculus g.meaning sizes 0 core.unary (2 ^ 32) core.rows.items)) core_decided.count

    pub count_answer : (h unary : ℕ) (rows : List (Row X T C W B)) → h ≡ tally extent 0 unary (2 ^ 32) rows → unary ≡ core.unary → rows ≡ core.rows.items → IsClassCount g.calculus (limits_of core) (leaves_of g.meaning core) h
    count_answer h unary rows e u r = subst (IsClassCount g.calculus (limits_of core) (leaves_of g.meaning core)) (sym (e ∙ ap (λ n. tally extent 0 n (2 ^ 32) rows) u ∙ ap (tally extent 0 core.unary (2 ^ 32)) r)) class_count_is

pub found_at : {X T C W B : Type 0} (extent : C → ℕ) (b e f u v : ℕ) (rows items : List (Row X T C W B)) (o p : Option ChartFault) → e ≡ f → u ≡ v → rows ≡ items → o ≡ p → IsFoundBelow extent e u b rows o → IsFoundBelow extent f v b items p
found_at extent b e f u v rows items o p x y z w found =
    subst (λ (n : Option ChartFault). IsFoundBelow extent f v b items n) w
    (subst (λ n. IsFoundBelow extent f v b n o) z
    (subst (λ n. IsFoundBelow extent f n b rows o) y
    (subst (λ n. IsFoundBelow extent n u b rows o) x found)))

-- where no fault is found, no more hosts are counted than the limit
pub few_found : {X T C W B : Type 0} (extent : C → ℕ) (most unary below : ℕ) (rows : List (Row X T C W B)) → IsFoundBelow extent most unary below rows None → tally extent 0 unary below rows ≤ most
few_found extent most unary below rows f = by_edges f.chain f.edges f.edges_is f.answer
  where
    by_edges : (chain edges : Option ℕ) → IsLeastSize (λ n. tally extent 0 unary n rows) most below edges → answer_by chain edges ≡ Within → tally extent 0 unary below rows ≤ most
    by_edges chain None is e = is
    by_edges None (Some n) is e = absurd (cc)
    by_edges (Some c) (Some n) is e = absurd (no_within (nat_le c n) e)
      where
        no_within : (t : Bool) → (if t then UnaryChain c else Edges n) ≡ Within → ⊥
        no_within true h = cc
        no_within false h = cc
