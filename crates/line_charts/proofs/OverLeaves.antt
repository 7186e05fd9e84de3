-- What is packed over the leaves of an item, and what makes the members of a class, in whatever order the leaves are listed.
use Rattle.std.specs.Prelude.{ℕ, ◌≡◌, ◌+◌, true, List}
use Rattle.std.specs.declared.cmp.Ordering.TheVariants.{Less}
use Rattle.std.proofs.Common.{sym, ◌∙◌, ap, subst, inl, inr}
use Rattle.chart_model.specs.declared.span.Span.{Span}
use Rattle.fs_model.specs.Claims.{IsOrder}
use Rattle.chart_model.specs.Calculus.{Calculus}
use Rattle.chart_model.specs.At.{At, at_one}
use Rattle.chart_model.specs.Chart as chart
use Rattle.chart_model.specs.Classes.{Class, Member, of_leaf, of_rule, Members, no_members, more_members}
use Rattle.chart_model.specs.Limits.{LimitAnswer, HasChain, IsLowClass, HasEdges, IsBroken, IsLeastBroken, IsLimitAnswer, UnaryChain, Edges, Within, IsClassCount}
use Rattle.chart_model.proofs.Decided.{answers_are_one}
use Rattle.tree_model.specs.Structures.{Structure}
use Rattle.tree_model.specs.Mothers.{IsAbstract, Meant}
use Rattle.tree_model.proofs.Closures.{closure_ends, kept_ends}
use Rattle.tree_model.specs.Signs.{Signs, rule_system}
use Rattle.tree_model.specs.Trees.{Full}
use Rattle.tree_model.specs.Items.{Item, IsItem, LeafTree, AreLeaves, Limits, calculus, leaves_from, chart_limits}
use Rattle.tree_model.proofs.Once.{one, one_structure}
use Rattle.tree_model.proofs.Places.{leaf_to, leaf_from}
use Rattle.packed_forests.specs.Makers.{IsOwnLeaf, IsOwnTuple}
use Rattle.line_charts.specs.Charts.{Maker, by_tree, by_rule, IsMaker, AreMakers, compare_makers}
use Rattle.line_charts.proofs.MakerLaws.{makers_total}
use Rattle.line_charts.proofs.OneList.{one_list, never_both}

-- each leaf of the one list has one of its cover and shape in the other
abbrev LiesIn : {M C : Type 0} → List (chart.Leaf M C) → List (chart.Leaf M C) → Type 0
LiesIn {M} {C} as' bs = (n : ℕ) (a : chart.Leaf M C) → At as' n a → (m : ℕ) × (b : chart.Leaf M C) × At bs m b × (b.cover ≡ a.cover) × (b.shape ≡ a.shape)

module _ {M C : Type 0} (k : Calculus M C) (limits : chart.Limits) where
  mutual
    moves : {as' bs : List (chart.Leaf M C)} → LiesIn as' bs → {c : Class M C} → Member k limits as' c → Member k limits bs c
    moves {bs = bs} lies (of_leaf l leaf at) =
        let z = lies l leaf at in
        subst (λ s. Member k limits bs (record { cover = leaf.cover; level = 0; shape = s })) z.4 (subst (λ d. Member k limits bs (record { cover = d; level = 0; shape = z.1.shape })) z.3 (of_leaf z.0 z.1 z.2))
    moves lies (of_rule rule ds c m a b all d e) = of_rule rule ds c m a b (all_move lies all) d e

    all_move : {as' bs : List (chart.Leaf M C)} → LiesIn as' bs → {cs : List (Class M C)} → Members k limits as' cs → Members k limits bs cs
    all_move lies no_members = no_members
    all_move lies (more_members d ds h l all) = more_members d ds (moves lies h) l (all_move lies all)

  module _ {as' bs : List (chart.Leaf M C)} (to : LiesIn as' bs) (back : LiesIn bs as') where
    low : {c : Class M C} → IsLowClass k limits as' c → IsLowClass k limits bs c
    low h = record { packed = record { member = moves to h.packed.member; least = λ m n o. h.packed.least m (moves back n) o }; level = h.level }

    chain : {n : ℕ} → HasChain k limits as' n → HasChain k limits bs n
    chain h = record { top = h.top; member = moves to h.member; level = h.level; size = h.size }

    edges : {n : ℕ} → HasEdges k limits as' n → HasEdges k limits bs n
    edges h = record { classes = h.classes; none_twice = h.none_twice; each = λ i c a. let z = h.each i c a in (low z.0, z.1); more = h.more }

    broken : {n : ℕ} → IsBroken k limits as' n → IsBroken k limits bs n
    broken (inl h) = inl (chain h)
    broken (inr h) = inr (edges h)

    tuple : {c : Class M C} {rule : ℕ} {ds : List (Class M C)} → IsOwnTuple k limits as' c rule ds → IsOwnTuple k limits bs c rule ds
    tuple h = record { rule_is = h.rule_is; whole = h.whole; low = λ j d a. low (h.low j d a); cover = h.cover; level = h.level; shape = h.shape; mother = h.mother; over = h.over }

  module _ {as' bs : List (chart.Leaf M C)} (to : LiesIn as' bs) (back : LiesIn bs as') where
    least : {n : ℕ} → IsLeastBroken k limits as' n → IsLeastBroken k limits bs n
    least h = record { broken = broken to back h.broken; least = λ m l b. h.least m l (broken back to b) }

    answer : (a : LimitAnswer) → IsLimitAnswer k limits as' a → IsLimitAnswer k limits bs a
    answer (UnaryChain n) h = (least h.0, chain to back h.1)
    answer (Edges n) h = (least h.0, λ c. h.1 (chain back to c))
    answer Within h = λ n b. h n (broken back to b)

    count : {h : ℕ} → IsClassCount k limits as' h → IsClassCount k limits bs h
    count x = record { classes = x.classes; none_twice = x.none_twice; each = λ i c a. low to back (x.each i c a); all = λ c l. x.all c (low back to l); counted = x.counted }

module _ (g : Signs) (item : Item Span) (o : IsOrder g.system) (good : IsItem item) where
  same_shape : {f h a b : Structure} → f ≡ h → IsAbstract (rule_system g) (Meant (rule_system g) f) a → IsAbstract (rule_system g) (Meant (rule_system g) h) b → a ≡ b
  same_shape {f} {h} {a} {b} e x y =
      one_structure g o (kept_ends (closure_ends g.system)) x (subst (λ z. IsAbstract (rule_system g) (Meant (rule_system g) z) b) (sym e) y)

  -- the leaf of a tree in another list
  record IsAlso (ks : List (LeafTree Span)) (l : LeafTree Span) : Type 0 where
    number : ℕ
    leaf : LeafTree Span
    at : At ks number leaf
    tree : leaf.tree ≡ l.tree
    cover : leaf.cover ≡ l.cover
    shape : leaf.shape ≡ l.shape

  module _ (ls ks : List (LeafTree Span)) (x : AreLeaves g item ls) (y : AreLeaves g item ks) where
    also : (n : ℕ) (l : LeafTree Span) → At ls n l → IsAlso ks l
    also n l at =
        let is = x.each n l at in
        let q = y.all l.tree is.leaf in
        let r = q.1 in
        let other = y.each q.0 r q.2 in
        let full : r.full ≡ l.full = one g o (subst (λ t. Full g t r.full) q.3 other.full) is.full in
        record {
          number = q.0;
          leaf = r;
          at = q.2;
          tree = q.3;
          cover = good.one_cover l.tree r.cover l.cover (subst (λ t. item.of_leaf t r.cover) q.3 other.covered) is.covered;
          shape = same_shape full other.abstract is.abstract;
        }

    lies : LiesIn (leaves_from 0 ls) (leaves_from 0 ks)
    lies n a at =
        let p = leaf_from 0 ls n a at in
        let q = also n p.0 p.1 in (
          q.number,
          record { cover = q.leaf.cover; shape = q.leaf.shape; name = 0 + q.number },
          leaf_to 0 ks q.number q.leaf q.at,
          q.cover ∙ ap (λ (z : chart.Leaf Structure Span). z.cover) (sym p.2),
          q.shape ∙ ap (λ (z : chart.Leaf Structure Span). z.shape) (sym p.2),
        )

  module _ (limits : Limits) (ls ks : List (LeafTree Span)) (x : AreLeaves g item ls) (y : AreLeaves g item ks) where
    pub low_too : {c : Class Structure Span} → IsLowClass (calculus g item) (chart_limits limits) (leaves_from 0 ls) c → IsLowClass (calculus g item) (chart_limits limits) (leaves_from 0 ks) c
    low_too h = low (calculus g item) (chart_limits limits) (lies ls ks x y) (lies ks ls y x) h

    pub limit_one : (a b : LimitAnswer) → IsLimitAnswer (calculus g item) (chart_limits limits) (leaves_from 0 ls) a → IsLimitAnswer (calculus g item) (chart_limits limits) (leaves_from 0 ks) b → a ≡ b
    limit_one a b p q =
        (answers_are_one (calculus g item)).one_answer (chart_limits limits) (leaves_from 0 ks) a b
        (answer (calculus g item) (chart_limits limits) (lies ls ks x y) (lies ks ls y x) a p) q

    pub count_one : (m n : ℕ) → IsClassCount (calculus g item) (chart_limits limits) (leaves_from 0 ls) m → IsClassCount (calculus g item) (chart_limits limits) (leaves_from 0 ks) n → m ≡ n
    count_one m n p q =
        (answers_are_one (calculus g item)).one_count (chart_limits limits) (leaves_from 0 ks) m n
        (count (calculus g item) (chart_limits limits) (lies ls ks x y) (lies ks ls y x) p) q

    own_leaf : (c : Class Structure Span) (l : ℕ) (leaf : LeafTree Span) → At ls l leaf → IsOwnLeaf (calculus g item) (chart_limits limits) (leaves_from 0 ls) c l → (q : IsAlso ks leaf) → IsOwnLeaf (calculus g item) (chart_limits limits) (leaves_from 0 ks) c q.number
    own_leaf c l leaf at own q =
        let p = leaf_from 0 ls l own.leaf own.at in
        let same : p.0 ≡ leaf = at_one p.1 at in
        let cover : own.leaf.cover ≡ leaf.cover = ap (λ (z : chart.Leaf Structure Span). z.cover) p.2 ∙ ap (λ (z : LeafTree Span). z.cover) same in
        let shape : own.leaf.shape ≡ leaf.shape = ap (λ (z : chart.Leaf Structure Span). z.shape) p.2 ∙ ap (λ (z : LeafTree Span). z.shape) same in
        record {
          leaf = record { cover = q.leaf.cover; shape = q.leaf.shape; name = 0 + q.number };
          at = leaf_to 0 ks q.number q.leaf q.at;
          cover = q.cover ∙ sym cover ∙ own.cover;
          level = own.level;
          over = subst (λ s. (calculus g item).over c.shape s ≡ true) (shape ∙ sym q.shape) own.over;
        }

    maker_too : (classes : List (Class Structure Span)) (c : Class Structure Span) (m : Maker) → IsMaker g item limits ls classes c m → IsMaker g item limits ks classes c m
    maker_too classes c (by_tree t) h =
        let q = also ls ks x y h.0 h.1 h.2 in
        (q.number, q.leaf, q.at, q.tree ∙ h.3, own_leaf c h.0 h.1 h.2 h.4 q)
    maker_too classes c (by_rule place ns) h = (h.0, h.1, h.2, h.3, tuple (calculus g item) (chart_limits limits) (lies ls ks x y) (lies ks ls y x) h.4)

  pub makers_one : (limits : Limits) (ls ks : List (LeafTree Span)) → AreLeaves g item ls → AreLeaves g item ks →
      (classes : List (Class Structure Span)) (c : Class Structure Span) (ms ns : List Maker) → AreMakers g item limits ls classes c ms → AreMakers g item limits ks classes c ns → ms ≡ ns
  makers_one limits ls ks x y classes c ms ns a b =
      one_list (λ m n. compare_makers m n ≡ Less) (never_both makers_total) ms ns a.rising b.rising
      (λ i m at. b.all m (maker_too limits ls ks x y classes c m (a.each i m at)))
      (λ i m at. a.all m (maker_too limits ks ls y x classes c m (b.each i m at)))
