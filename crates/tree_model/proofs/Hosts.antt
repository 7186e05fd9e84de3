-- Counts of the groups of hosts, and of what is asked for.
use Rattle.std.specs.Prelude.{◌≡◌, ◌⊎◌, ℕ, true, false, List, [], ◌∷◌, map, refl}
use Rattle.std.proofs.Common.{inl, inr, ap, subst, sym, arith}
use Rattle.chart_model.specs.Calculus.{Calculus, Along, along_more}
use Rattle.chart_model.specs.At.{At, at_below}
use Rattle.chart_model.specs.Chart.{Chart, Leaf, Limits, Row, OfWhole, all_free}
use Rattle.chart_model.specs.Finished.{IsComplete}
use Rattle.chart_model.specs.Grown.{Tree, leaf_tree, phrase, LeadsTo, Stands, stands_leaf, stands_phrase}
use Rattle.derivation.specs.Views.{in_order}
use Rattle.tree_model.specs.Readings.{Wholes}
use Rattle.tree_model.specs.Forest.{AreApart}
use Rattle.tree_model.specs.Lists.{Has, has_here, has_there, AllDiffer, differ_more, Item, IsFullOf, full_leaf, full_phrase, IsIn, IsGroup, GroupRow, Describes, describes_leaf, describes_whole, IsToldGroup}
use Rattle.tree_model.proofs.Making.{trees_in, fulls_in}
use Rattle.tree_model.proofs.Standing.{same_row, AllGroups, groups_none, groups_more, standing}
use Rattle.tree_model.specs.Counts.{Class, CountsRow, row_leaf, row_whole, CountsRows, rows_stop, rows_more}
use Rattle.tree_model.proofs.Apart.{apart_none, apart_more, apart_differ}
use Rattle.tree_model.proofs.Tallies.{Tallied, tallied_none, tallied_wider, gains_tallied}
use Rattle.tree_model.proofs.Combined.{AreTallied, are_none, are_more, fronts_none, Comes, all_counted}

module _ {M C V : Type 0} (k : Calculus M C) (w : Wholes V C) (limits : Limits) (leaves : List (Leaf M C)) (ch : Chart M C) (complete : IsComplete k limits leaves ch) (apart : AreApart k w leaves) where
  -- what is counted of a host are trees of its group
  abbrev pub IsCounted : ℕ → List (Class V) → Type 0
  IsCounted h cs = Tallied cs (IsIn w leaves ch h)

  pub none_counted : (h : ℕ) → IsCounted h []
  none_counted h = tallied_none (IsIn w leaves ch h)

  -- an item of the group of h by row i
  record By (i h : ℕ) (x : Item V) : Type 0 where
    tree : Tree
    stands : Stands leaves ch tree i h
    full : IsFullOf w leaves tree x.tree x.full

  same_by : {i j g h : ℕ} {x y : Item V} → By i g x → By j h y → x.tree ≡ y.tree → (i ≡ j) × (g ≡ h)
  same_by a b e = let s = same_row k w limits leaves ch complete apart a.stands b.stands a.full b.full e in (s.row, s.host)

  module _ (table : ℕ → List (Class V)) (counted : (d : ℕ) → IsCounted d (table d)) where
    abbrev items_at : ℕ → List (Item V)
    items_at d = (counted d).items

    never : {A : Type 0} → true ≡ false → A
    never e = absurd (cc)

    group : (d : ℕ) → IsGroup w leaves ch true d (items_at d)
    group d = record { each = (counted d).each; all = λ e. never e; differ = apart_differ (counted d).apart }

    groups : (ds : List ℕ) → AllGroups k w limits leaves ch complete apart true items_at ds
    groups [] = groups_none
    groups (d ∷ ds) = groups_more (group d) (groups ds)

    are_tallied : (ds : List ℕ) → AreTallied (map table ds) (map items_at ds)
    are_tallied [] = are_none
    are_tallied (d ∷ ds) = are_more (counted d).tally (counted d).apart (are_tallied ds)

    comes_by : (i h rule : ℕ) (row : Row M C) (x : Item V) → At ch.rows i row → row.kind ≡ OfWhole rule → all_free ch.into row.daughters ≡ true → LeadsTo ch.into i h → Comes w rule (map items_at row.daughters) x → By i h x
    comes_by i h rule row x at kind live leads c =
        let s = standing k w limits leaves ch complete apart true items_at row.daughters c.parts (groups row.daughters) c.picks in
        record {
          tree = phrase rule s.trees;
          stands = stands_phrase row at kind live s.stand leads;
          full = subst (λ t. IsFullOf w leaves (phrase rule s.trees) t x.full) (sym c.is) (full_phrase rule s.trees (in_order (trees_in c.parts)) (fulls_in c.parts) x.full s.full c.full);
        }

    only : {A : Type 0} (x y : A) → Has y (x ∷ []) → y ≡ x
    only x _ has_here = refl
    only x y (has_there h) = elim h [ ]

    leaf_by : (l h : ℕ) (leaf : Leaf M C) → At leaves l leaf → LeadsTo ch.into l h → By l h (record { tree = w.leaf_tree leaf.name; full = w.leaf_full leaf.name })
    leaf_by l h leaf at leads = record { tree = leaf_tree l; stands = stands_leaf (at_below at) leads; full = full_leaf l leaf at }

    one_row : (Q : Item V → Type 0) {i : ℕ} {row : GroupRow} {old new : List (Class V)} (h : ℕ) → Describes leaves ch i row → LeadsTo ch.into i h → CountsRow w table row old new → Tallied old Q → ((x y : Item V) → Q x → By i h y → x.tree ≡ y.tree → ⊥) → Tallied new (λ x. Q x ⊎ By i h x)
    one_row Q {i = i} h (describes_leaf l leaf at) leads (row_leaf name gains) t fresh =
        let x : Item V = record { tree = w.leaf_tree leaf.name; full = w.leaf_full leaf.name } in
        let by = leaf_by l h leaf at leads in
        gains_tallied (w.leaf_full leaf.name) 1 (x ∷ []) gains t (omega arith) (λ y g. ap (λ (z : Item V). z.full) (only x y g)) (apart_more (λ y g e. elim g [ ]) apart_none)
        (λ y g. subst (By l h) (sym (only x y g)) by) (λ y z q g e. fresh y z q (subst (By l h) (sym (only x z g)) by) e)
    one_row Q h (describes_whole i rule row at kind live) leads (row_whole _ _ counts) t fresh =
        tallied_wider (λ x q. known x q) (all_counted w rule counts fronts_none (are_tallied row.daughters) t (λ x y q c e. fresh x y q (comes_by i h rule row y at kind live leads c) e))
      where
        known : (x : Item V) → Q x ⊎ Comes w rule (map items_at row.daughters) x → Q x ⊎ By i h x
        known x (inl q) = inl q
        known x (inr c) = inr (comes_by i h rule row x at kind live leads c)

    -- by one of these rows
    abbrev Among : List ℕ → ℕ → Item V → Type 0
    Among is h x = (i : ℕ) × Has i is × By i h x

    all_rows : (Q : Item V → Type 0) {is : List ℕ} {rows : List GroupRow} {old new : List (Class V)} (h : ℕ) → Along (Describes leaves ch) is rows → AllDiffer is → ((i : ℕ) → Has i is → LeadsTo ch.into i h) → CountsRows w table rows old new → Tallied old Q → ((x y : Item V) → Q x → Among is h y → x.tree ≡ y.tree → ⊥) → Tallied new (λ x. Q x ⊎ Among is h x)
    all_rows Q h told differ leads rows_stop t fresh = tallied_wider (λ x q. inl q) t
    all_rows Q h (along_more {x = i} {xs = is} one more) (differ_more not differ) leads (rows_more counts rest) t fresh =
        let first = one_row Q h one (leads i has_here) counts t (λ x y q b e. fresh x y q (i, has_here, b) e) in
        tallied_wider known (all_rows (λ x. Q x ⊎ By i h x) h more differ (λ j a. leads j (has_there a)) rest first others)
      where
        others : (x y : Item V) → Q x ⊎ By i h x → Among is h y → x.tree ≡ y.tree → ⊥
        others x y (inl q) a e = fresh x y q (a.0, has_there a.1, a.2) e
        others x y (inr b) a e = let s = same_by b a.2 e in not (subst (λ n. Has n is) (sym s.0) a.1)

        known : (x : Item V) → (Q x ⊎ By i h x) ⊎ Among is h x → Q x ⊎ Among (i ∷ is) h x
        known x (inl (inl q)) = inl q
        known x (inl (inr b)) = inr (i, has_here, b)
        known x (inr a) = inr (a.0, has_there a.1, a.2)

    inside : (is : List ℕ) (h : ℕ) (x : Item V) → ⊥ ⊎ Among is h x → IsIn w leaves ch h x
    inside is h x (inl e) = absurd e
    inside is h x (inr a) = record { tree = a.2.tree; row = a.0; stands = a.2.stands; full = a.2.full }

    -- what was counted by the rows of its group
    pub host_counted : (h : ℕ) (told : List GroupRow) (new : List (Class V)) → IsToldGroup leaves ch h told → CountsRows w table told [] new → IsCounted h new
    host_counted h told new g counts =
        tallied_wider (λ x a. inside g.rows h x a) (all_rows (λ x. ⊥) h g.told_of g.are.differ g.are.each counts (tallied_none (λ x. ⊥)) (λ x y q a e. q))
