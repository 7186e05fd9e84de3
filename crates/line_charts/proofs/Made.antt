-- What the rows under a host make members by is all that makes members of its class.
use Rattle.std.specs.Prelude.{◌≡◌, ℕ, ◌+◌, true, Some, List, [], ◌∷◌, map, slice_get, refl}
use Rattle.std.proofs.Common.{suc, ◌∙◌, ap, sym, subst, arith, ⊎_elim}
use Rattle.std.proofs.lemmas.Bool.{cases_order}
use Rattle.chart_model.specs.Calculus.{Along}
use Rattle.chart_model.specs.declared.span.Span.{Span}
use Rattle.chart_model.specs.At.{At, here, there, at_one, to_get, from_get}
use Rattle.chart_model.specs.Chart.{Kind, OfLeaf, OfWhole, Chart, Row, all_free}
use Rattle.chart_model.specs.Chart as model
use Rattle.chart_model.specs.Classes.{Class, IsHost}
use Rattle.chart_model.specs.Finished.{IsComplete}
use Rattle.derivation.specs.Trees.{Derivation}
use Rattle.tree_model.specs.Structures.{Structure}
use Rattle.tree_model.specs.Signs.{Signs}
use Rattle.tree_model.specs.Items.{Item, LeafTree, Limits, calculus, leaves_from, chart_limits}
use Rattle.packed_forests.specs.Makers.{IsOwnLeaf, IsOwnTuple}
use Rattle.packed_forests.specs.Rows.{Counts, IsMadeBy, AreMakerRows, AreItsMakers}
use Rattle.line_charts.specs.Charts.{Maker, by_tree, by_rule, compare_makers, IsMaker, AreMakers}
use Rattle.line_charts.specs.Inner.Stages.{rule_place, AreApart, AreLiveHosts, AreNumbered, IsNumber, IsRowMaker, leaf_maker, rule_maker}
use Rattle.line_charts.proofs.Lists.{at_map, along_at, along_back, along_one}
use Rattle.line_charts.proofs.Permuted.{moved_back, moved_on, apart_moved}
use Rattle.line_charts.proofs.Rising.{rising_by}
use Rattle.line_charts.proofs.RulePlaces.{one_rule}
use Rattle.line_charts.proofs.MakerLaws.{makers_total, makers_equal}
use Rattle.line_charts.proofs.Numbered.{classes_along, numbers_along, rows_same}
use Rattle.std.specs.List.Sorted.{IsPermutation, IsSortedBy}
use Rattle.std.specs.Ordering.{is_lt}

-- a leaf of a chart is the lexical tree of its number
pub leaf_from : {C : Type 0} (n : ℕ) (ls : List (LeafTree C)) (i : ℕ) (leaf : model.Leaf Structure C) → At (leaves_from n ls) i leaf → (l : LeafTree C) × At ls i l × (leaf.name ≡ n + i)
leaf_from n [] i leaf a = elim a [ ]
leaf_from n (l ∷ ls) _ _ here = (l, here, omega arith)
leaf_from n (l ∷ ls) (suc i) leaf (there a) = let r = leaf_from (n + 1) ls i leaf a in (r.0, there r.1, omega (arith, r.2))

some_one : {A : Type 0} {x y : A} → Some x ≡ Some y → x ≡ y
some_one e = cc

-- the row of a number is told so
pub record IsRowTold (ch : Chart Structure Span) (trees : List Derivation) (place : ℕ → ℕ) (table : List ℕ) (i : ℕ) (m : Maker) : Type 0 where
  pub row : Row Structure Span
  pub at : At ch.rows i row
  pub made : IsRowMaker trees place table row.kind row.daughters m

module _ (g : Signs) (item : Item Span) (limits : Limits) (ls : List (LeafTree Span)) (ch : Chart Structure Span) (complete : IsComplete (calculus g item) (chart_limits limits) (leaves_from 0 ls) ch)
    (trees : List Derivation) (are : trees ≡ map (λ (l : LeafTree Span). l.tree) ls) (apart : AreApart (λ (t : Derivation). t) trees)
    {X : Type 0} (class : X → Class Structure Span) (host : X → ℕ) (xs : List X) (hosts : AreLiveHosts (calculus g item) (chart_limits limits) (leaves_from 0 ls) ch class host xs) (table : List ℕ) (numbered : AreNumbered host xs table)
    (c : Class Structure Span) (h : ℕ) (its : AreItsMakers (calculus g item) (chart_limits limits) (leaves_from 0 ls) ch c h) where
  abbrev HasHosts : List (Class Structure Span) → List ℕ → Type 0
  HasHosts = Along (IsHost (calculus g item) (chart_limits limits) (leaves_from 0 ls) ch)

  abbrev Told : ℕ → Maker → Type 0
  Told = IsRowTold ch trees (rule_place g) table

  tree_at : (i : ℕ) (l : LeafTree Span) → At ls i l → slice_get trees i ≡ Some l.tree
  tree_at i l a = ap (λ ts. slice_get ts i) are ∙ to_get (at_map (λ (l : LeafTree Span). l.tree) a)

  -- the row of a leaf has its number as its name
  name_is : (i name : ℕ) (row : Row Structure Span) → IsMadeBy (calculus g item) ch h i → At ch.rows i row → row.kind ≡ OfLeaf name → (l : LeafTree Span) × At ls i l × (name ≡ i)
  name_is i name row made at kind =
      let r = its.of_leaf i name row made at kind in
      let z = leaf_from 0 ls i r.0.leaf r.0.at in
      (z.0, z.1, sym (r.1 r.0.leaf r.0.at) ∙ z.2 ∙ omega arith)

  each_kind : (i : ℕ) (m : Maker) (row : Row Structure Span) (kind : Kind) (ds : List ℕ) → IsMadeBy (calculus g item) ch h i → At ch.rows i row → row.kind ≡ kind → row.daughters ≡ ds → IsRowMaker trees (rule_place g) table kind ds m → IsMaker g item limits ls (map class xs) c m
  each_kind i _ row _ _ made at kind same (leaf_maker name ds t tree) =
      let z = name_is i name row made at kind in
      let e : t ≡ z.0.tree = some_one (sym tree ∙ ap (slice_get trees) z.2 ∙ tree_at i z.0 z.1) in
      (i, z.0, z.1, sym e, (its.of_leaf i name row made at kind).0)
  each_kind i _ row _ _ made at kind same (rule_maker rule ds ns numbers) =
      let r = its.of_tuple i rule row made at kind in
      let along : HasHosts r.0 ds = subst (HasHosts r.0) same r.1 in
      (rule, r.0, refl, classes_along (calculus g item) (chart_limits limits) (leaves_from 0 ls) ch class host xs hosts table numbered complete.hosts.once r.0 ds ns along numbers, r.2)

  each_row : (i : ℕ) (m : Maker) → IsMadeBy (calculus g item) ch h i → Told i m → IsMaker g item limits ls (map class xs) c m
  each_row i m made told = each_kind i m told.row told.row.kind told.row.daughters made told.at refl refl told.made

  -- what makes members is told of some row
  by_leaf : (l name : ℕ) (leaf : LeafTree Span) (m : Maker) (kind : Kind) (ds : List ℕ) → kind ≡ OfLeaf name → name ≡ l → At ls l leaf → IsRowMaker trees (rule_place g) table kind ds m → m ≡ by_tree leaf.tree
  by_leaf l name leaf _ _ _ kind same at (leaf_maker other ds t tree) =
      let e : other ≡ name = (cc) in
      ap by_tree (some_one (sym tree ∙ ap (slice_get trees) (e ∙ same) ∙ tree_at l leaf at))
  by_leaf l name leaf _ _ _ kind same at (rule_maker rule ds ns numbers) = absurd (cc)

  by_tuple : (rule : ℕ) (cs : List (Class Structure Span)) (ns : List ℕ) (m : Maker) (kind : Kind) (ds : List ℕ) → kind ≡ OfWhole rule → HasHosts cs ds → Along (At (map class xs)) ns cs → IsRowMaker trees (rule_place g) table kind ds m → m ≡ by_rule (rule_place g rule) ns
  by_tuple rule cs ns _ _ _ kind along ats (leaf_maker name ds t tree) = absurd (cc)
  by_tuple rule cs ns _ _ _ kind along ats (rule_maker other ds ms numbers) =
      let e : other ≡ rule = (cc) in
      let here = numbers_along (calculus g item) (chart_limits limits) (leaves_from 0 ls) ch class host xs hosts table numbered complete.hosts.once cs ds ns along ats in
      let same : ms ≡ ns = along_one (λ a b d x y. some_one (sym x ∙ y)) numbers here in
      (λ j. by_rule (rule_place g (e j)) (same j))

  module _ (is : List ℕ) (rows : AreMakerRows (calculus g item) ch h is) (told : List Maker) (each : Along Told is told) where
    leaf_told : (l : ℕ) (leaf : LeafTree Span) → At ls l leaf → IsOwnLeaf (calculus g item) (chart_limits limits) (leaves_from 0 ls) c l → (n : ℕ) × At told n (by_tree leaf.tree)
    leaf_told l leaf at own =
        let r = its.leaf_row l own in
        let row = r.1.0 in
        let kind = r.1.2.1 in
        let n = rows.all l r.0 in
        let z = along_at each n.1 in
        let one : z.2.row ≡ row = at_one z.2.at r.1.1 in
        let name = name_is l r.1.2.0 row r.0 r.1.1 kind in
        let e : z.0 ≡ by_tree leaf.tree = by_leaf l r.1.2.0 leaf z.0 z.2.row.kind z.2.row.daughters (ap (λ (x : Row Structure Span). x.kind) one ∙ kind) name.2 at z.2.made in
        (n.0, subst (At told n.0) e z.1)

    tuple_told : (rule : ℕ) (cs : List (Class Structure Span)) (ns : List ℕ) → Along (At (map class xs)) ns cs → IsOwnTuple (calculus g item) (chart_limits limits) (leaves_from 0 ls) c rule cs → (n : ℕ) × At told n (by_rule (rule_place g rule) ns)
    tuple_told rule cs ns ats own =
        let r = its.tuple_row rule cs own in
        let i = r.0 in
        let row = r.1 in
        let made = r.2 in
        let at = r.3 in
        let kind = r.4 in
        let along = r.5 in
        let n = rows.all i made in
        let z = along_at each n.1 in
        let one : z.2.row ≡ row = at_one z.2.at at in
        let e : z.0 ≡ by_rule (rule_place g rule) ns = by_tuple rule cs ns z.0 z.2.row.kind z.2.row.daughters (ap (λ (x : Row Structure Span). x.kind) one ∙ kind) (subst (λ (x : Row Structure Span). HasHosts cs x.daughters) (sym one) along) ats z.2.made in
        (n.0, subst (At told n.0) e z.1)

    all_told : (m : Maker) → IsMaker g item limits ls (map class xs) c m → (n : ℕ) × At told n m
    all_told (by_tree t) (l, leaf, at, same, own) = let r = leaf_told l leaf at own in (r.0, subst (λ u. At told r.0 (by_tree u)) same r.1)
    all_told (by_rule place ns) (rule, cs, is_place, ats, own) = let r = tuple_told rule cs ns ats own in (r.0, subst (λ p. At told r.0 (by_rule p ns)) (sym is_place) r.1)

    -- two rows that are told alike are one
    live : (row : Row Structure Span) (rule : ℕ) → Counts (calculus g item) ch row → row.kind ≡ OfWhole rule → all_free ch.into row.daughters ≡ true
    live row rule counts kind = ⊎_elim (λ l. let e = l.1 in absurd (cc)) (λ w. w.2) counts

    one_tuple : (a b rule : ℕ) (r s : Row Structure Span) → IsMadeBy (calculus g item) ch h a → At ch.rows a r → At ch.rows b s → r.kind ≡ OfWhole rule → s.kind ≡ OfWhole rule → r.daughters ≡ s.daughters → a ≡ b
    one_tuple a b rule r s made at bt kind other same =
        let counts : Counts (calculus g item) ch r = subst (Counts (calculus g item) ch) (at_one made.at at) made.counts in
        let whole = complete.tuples.no_other a rule r at kind (live r rule counts kind) in
        let one = complete.tuples.one_row rule r.daughters whole in
        one.once a r at kind refl ∙ sym (one.once b s bt other (sym same))

    same_kind : (a b : ℕ) (m n : Maker) (r s : Row Structure Span) (k l : Kind) (ds es : List ℕ) → IsMadeBy (calculus g item) ch h a → IsMadeBy (calculus g item) ch h b → At ch.rows a r → At ch.rows b s → r.kind ≡ k → s.kind ≡ l → r.daughters ≡ ds → s.daughters ≡ es →
        IsRowMaker trees (rule_place g) table k ds m → IsRowMaker trees (rule_place g) table l es n → m ≡ n → a ≡ b
    same_kind a b _ _ r s _ _ _ _ x y at bt p q d e (leaf_maker name ds t tree) (leaf_maker other es u other_tree) same =
        let t_is : t ≡ u = (cc) in
        sym (name_is a name r x at p).2 ∙ apart name other t u (from_get trees name t tree) (from_get trees other u other_tree) t_is ∙ (name_is b other s y bt q).2
    same_kind a b _ _ r s _ _ _ _ x y at bt p q d e (leaf_maker name ds t tree) (rule_maker rule es ns numbers) same = absurd (cc)
    same_kind a b _ _ r s _ _ _ _ x y at bt p q d e (rule_maker rule ds ns numbers) (leaf_maker name es t tree) same = absurd (cc)
    same_kind a b _ _ r s _ _ _ _ x y at bt p q d e (rule_maker rule ds ns numbers) (rule_maker other es ms others) same =
        let u = its.of_tuple a rule r x at p in
        let v = its.of_tuple b other s y bt q in
        let places : rule_place g rule ≡ rule_place g other = (cc) in
        let numbers_same : ns ≡ ms = (cc) in
        let rules : rule ≡ other = one_rule g rule other u.2.rule_is v.2.rule_is places in
        let daughters : ds ≡ es = rows_same (calculus g item) (chart_limits limits) (leaves_from 0 ls) ch class host xs hosts table numbered complete.hosts.once u.0 v.0 ds es ns (subst (HasHosts u.0) d u.1) (subst (HasHosts v.0) e v.1) numbers (subst (λ zs. Along (IsNumber table) zs es) (sym numbers_same) others) in
        one_tuple a b rule r s x at bt p (q ∙ ap OfWhole (sym rules)) (d ∙ daughters ∙ sym e)

    rising_apart : (i j a b : ℕ) → At is i a → At is j b → a ≡ b → i ≡ j
    rising_apart i j a b x y e =
        ⊎_elim (λ s. s)
        (⊎_elim (λ l. let z = rows.rising i j a b l x y in absurd (omega (arith, z, e)))
        (λ l. let z = rows.rising j i b a l y x in absurd (omega (arith, z, e))))
        (cases_order i j)

    told_apart : AreApart (λ (m : Maker). m) told
    told_apart i j m n x y e =
        let u = along_back each x in
        let v = along_back each y in
        let a = u.2 in
        let b = v.2 in
        rising_apart i j u.0 v.0 u.1 v.1 (same_kind u.0 v.0 m n a.row b.row a.row.kind b.row.kind a.row.daughters b.row.daughters (rows.each i u.0 u.1) (rows.each j v.0 v.1) a.at b.at refl refl refl refl a.made b.made e)

    pub are_makers : (ms : List Maker) → IsPermutation told ms → IsSortedBy (λ x y. is_lt (compare_makers x y)) ms → AreMakers g item limits ls (map class xs) c ms
    are_makers ms moved sorted =
        record {
          each = λ n m a.
              let r = moved_back told ms moved n m a in
              let u = along_back each r.1 in
              each_row u.0 m (rows.each r.0 u.0 u.1) u.2;
          all = λ m is_maker. let r = all_told m is_maker in moved_on told ms moved r.0 m r.1;
          rising = rising_by compare_makers makers_total (λ a b. (makers_equal a b).0) (λ (m : Maker). m) ms sorted (apart_moved (λ (m : Maker). m) told ms moved told_apart);
        }
