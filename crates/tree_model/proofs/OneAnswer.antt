-- An item has one answer, in whatever order its leaves are listed.
use Rattle.std.specs.Prelude.{ℕ, ◌≡◌, ◌+◌, ◌⊎◌, List}
use Rattle.std.proofs.Common.{refl, sym, ◌∙◌, ap, subst, inl, inr}
use Rattle.fs_model.specs.Claims.{IsOrder}
use Rattle.chart_model.specs.Calculus.{Calculus}
use Rattle.chart_model.specs.At.{At}
use Rattle.chart_model.specs.Chart as chart
use Rattle.chart_model.specs.Classes.{Class, Member, of_leaf, of_rule, Members, no_members, more_members, IsPacked}
use Rattle.chart_model.specs.Limits.{LimitAnswer, HasChain, IsLowClass, HasEdges, IsBroken, IsLeastBroken, IsLimitAnswer, UnaryChain, Edges, Within, IsClassCount}
use Rattle.chart_model.proofs.Decided.{answers_are_one}
use Rattle.tree_model.specs.Structures.{Structure}
use Rattle.tree_model.specs.Mothers.{IsAbstract, Meant}
use Rattle.tree_model.proofs.Closures.{closure_ends, kept_ends}
use Rattle.tree_model.specs.Signs.{Signs, rule_system}
use Rattle.tree_model.specs.Trees.{Full}
use Rattle.tree_model.specs.Items.{Item, IsItem, LeafTree, AreLeaves, Limits, calculus, leaves_from, chart_limits, Answer, LexicalDepth, ByUnaryChain, ByEdges, Readings, Trees, IsItemAnswer, IsAnswerOver}
use Rattle.tree_model.specs.Forests.{AnswersAreOne}
use Rattle.tree_model.proofs.Once.{one, one_structure}
use Rattle.tree_model.proofs.Places.{leaf_to, leaf_from}
use Rattle.tree_model.proofs.Orders.{one_exactly, not_more}

-- each leaf of the one list has one of its cover and shape in the other
abbrev LiesIn : {M C : Type 0} → List (chart.Leaf M C) → List (chart.Leaf M C) → Type 0
LiesIn {M} {C} as' bs = (n : ℕ) (a : chart.Leaf M C) → At as' n a → (m : ℕ) × (b : chart.Leaf M C) × At bs m b × (b.cover ≡ a.cover) × (b.shape ≡ a.shape)

module _ {M C : Type 0} (k : Calculus M C) (limits : chart.Limits) where
  mutual
    moves : {as' bs : List (chart.Leaf M C)} → LiesIn as' bs → {c : Class M C} → Member k limits as' c → Member k limits bs c
    moves {bs = bs} lies (of_leaf l leaf at) =
        let z = lies l leaf at in
        subst (λ s. Member k limits bs (record { cover = leaf.cover; level = 0; shape = s })) z.4 (subst (λ d. Member k limits bs (record { cover = d; level = 0; shape = z.1.shape })) z.3 (of_leaf z.0 z.1 z.2))
    moves lies (of_rule rule ds c m a b all d e) = of_rule rule ds c m a b (all_move lies all) d e

    all_move : {as' bs : List (chart.Leaf M C)} → LiesIn as' bs → {cs : List (Class M C)} → Members k limits as' cs → Members k limits bs cs
    all_move lies no_members = no_members
    all_move lies (more_members d ds h l all) = more_members d ds (moves lies h) l (all_move lies all)

  module _ {as' bs : List (chart.Leaf M C)} (to : LiesIn as' bs) (back : LiesIn bs as') where
    packed : {c : Class M C} → IsPacked k limits as' c → IsPacked k limits bs c
    packed p = record { member = moves to p.member; least = λ m h o. p.least m (moves back h) o }

    low : {c : Class M C} → IsLowClass k limits as' c → IsLowClass k limits bs c
    low h = record { packed = packed h.packed; level = h.level }

    chain : {n : ℕ} → HasChain k limits as' n → HasChain k limits bs n
    chain h = record { top = h.top; member = moves to h.member; level = h.level; size = h.size }

    edges : {n : ℕ} → HasEdges k limits as' n → HasEdges k limits bs n
    edges h = record { classes = h.classes; none_twice = h.none_twice; each = λ i c a. let z = h.each i c a in (low z.0, z.1); more = h.more }

    broken : {n : ℕ} → IsBroken k limits as' n → IsBroken k limits bs n
    broken (inl h) = inl (chain h)
    broken (inr h) = inr (edges h)

  module _ {as' bs : List (chart.Leaf M C)} (to : LiesIn as' bs) (back : LiesIn bs as') where
    least : {n : ℕ} → IsLeastBroken k limits as' n → IsLeastBroken k limits bs n
    least h = record { broken = broken to back h.broken; least = λ m l b. h.least m l (broken back to b) }

    answer : (a : LimitAnswer) → IsLimitAnswer k limits as' a → IsLimitAnswer k limits bs a
    answer (UnaryChain n) h = (least h.0, chain to back h.1)
    answer (Edges n) h = (least h.0, λ c. h.1 (chain back to c))
    answer Within h = λ n b. h n (broken back to b)

    count : {h : ℕ} → IsClassCount k limits as' h → IsClassCount k limits bs h
    count x = record { classes = x.classes; none_twice = x.none_twice; each = λ i c a. low to back (x.each i c a); all = λ c l. x.all c (low back to l); counted = x.counted }

module _ {C : Type 0} (item : Item C) (g : Signs) (o : IsOrder g.system) (good : IsItem item) where
  same_shape : {f h a b : Structure} → f ≡ h → IsAbstract (rule_system g) (Meant (rule_system g) f) a → IsAbstract (rule_system g) (Meant (rule_system g) h) b → a ≡ b
  same_shape {f} {h} {a} {b} e x y =
      one_structure g o (kept_ends (closure_ends g.system)) x (subst (λ z. IsAbstract (rule_system g) (Meant (rule_system g) z) b) (sym e) y)

  lies : (ls ks : List (LeafTree C)) → AreLeaves g item ls → AreLeaves g item ks → LiesIn (leaves_from 0 ls) (leaves_from 0 ks)
  lies ls ks x y n a at =
      let p = leaf_from 0 ls n a at in
      let l = p.0 in
      let is = x.each n l p.1 in
      let q = y.all l.tree is.leaf in
      let r = q.1 in
      let other = y.each q.0 r q.2 in
      let cover = good.one_cover l.tree r.cover l.cover (subst (λ t. item.of_leaf t r.cover) q.3 other.covered) is.covered in
      let full : r.full ≡ l.full = one g o (subst (λ t. Full g t r.full) q.3 other.full) is.full in
      let shape : r.shape ≡ l.shape = same_shape full other.abstract is.abstract in (
        q.0,
        record { cover = r.cover; shape = r.shape; name = 0 + q.0 },
        leaf_to 0 ks q.0 r q.2,
        cover ∙ ap (λ (z : chart.Leaf Structure C). z.cover) (sym p.2),
        shape ∙ ap (λ (z : chart.Leaf Structure C). z.shape) (sym p.2),
      )

  module _ (limits : Limits) where
    abbrev k : Calculus Structure C
    k = calculus g item

    module _ (ls ks : List (LeafTree C)) (x : AreLeaves g item ls) (y : AreLeaves g item ks) where
      limit_one : (a b : LimitAnswer) → IsLimitAnswer k (chart_limits limits) (leaves_from 0 ls) a → IsLimitAnswer k (chart_limits limits) (leaves_from 0 ks) b → a ≡ b
      limit_one a b p q =
          (answers_are_one k).one_answer (chart_limits limits) (leaves_from 0 ks) a b
          (answer k (chart_limits limits) (lies ls ks x y) (lies ks ls y x) a p) q

      count_one : (m n : ℕ) → IsClassCount k (chart_limits limits) (leaves_from 0 ls) m → IsClassCount k (chart_limits limits) (leaves_from 0 ks) n → m ≡ n
      count_one m n p q =
          (answers_are_one k).one_count (chart_limits limits) (leaves_from 0 ks) m n
          (count k (chart_limits limits) (lies ls ks x y) (lies ks ls y x) p) q

      over_one : (a b : Answer) → IsAnswerOver g item limits ls a → IsAnswerOver g item limits ks b → a ≡ b
      over_one LexicalDepth b p q = absurd p
      over_one ByUnaryChain LexicalDepth p q = absurd q
      over_one ByUnaryChain ByUnaryChain p q = refl
      over_one ByUnaryChain ByEdges p q = absurd (let e : UnaryChain p.0 ≡ Edges q.0 = limit_one (UnaryChain p.0) (Edges q.0) p.1 q.1 in cc)
      over_one ByUnaryChain Readings p q = absurd (let e : UnaryChain p.0 ≡ Within = limit_one (UnaryChain p.0) Within p.1 q.0 in cc)
      over_one ByUnaryChain (Trees n us) p q = absurd (let e : UnaryChain p.0 ≡ Within = limit_one (UnaryChain p.0) Within p.1 q.0 in cc)
      over_one ByEdges LexicalDepth p q = absurd q
      over_one ByEdges ByUnaryChain p q = absurd (let e : Edges p.0 ≡ UnaryChain q.0 = limit_one (Edges p.0) (UnaryChain q.0) p.1 q.1 in cc)
      over_one ByEdges ByEdges p q = refl
      over_one ByEdges Readings p q = absurd (let e : Edges p.0 ≡ Within = limit_one (Edges p.0) Within p.1 q.0 in cc)
      over_one ByEdges (Trees n us) p q = absurd (let e : Edges p.0 ≡ Within = limit_one (Edges p.0) Within p.1 q.0 in cc)
      over_one Readings LexicalDepth p q = absurd q
      over_one Readings ByUnaryChain p q = absurd (let e : Within ≡ UnaryChain q.0 = limit_one Within (UnaryChain q.0) p.0 q.1 in cc)
      over_one Readings ByEdges p q = absurd (let e : Within ≡ Edges q.0 = limit_one Within (Edges q.0) p.0 q.1 in cc)
      over_one Readings Readings p q = refl
      over_one Readings (Trees n us) p q = absurd (not_more us p.1 q.2 q.3)
      over_one (Trees m ts) LexicalDepth p q = absurd q
      over_one (Trees m ts) ByUnaryChain p q = absurd (let e : Within ≡ UnaryChain q.0 = limit_one Within (UnaryChain q.0) p.0 q.1 in cc)
      over_one (Trees m ts) ByEdges p q = absurd (let e : Within ≡ Edges q.0 = limit_one Within (Edges q.0) p.0 q.1 in cc)
      over_one (Trees m ts) Readings p q = absurd (not_more ts q.1 p.2 p.3)
      over_one (Trees m ts) (Trees n us) p q = let e = count_one m n p.1 q.1 in let f = one_exactly ts us p.2 q.2 in λ i. Trees (e i) (f i)

    -- an answer other than that of a tree that is too deep
    either : (a : Answer) → IsItemAnswer g item limits a → (a ≡ LexicalDepth) × item.too_deep ⊎ ((item.too_deep → ⊥) × ((ls : List (LeafTree C)) × AreLeaves g item ls × IsAnswerOver g item limits ls a))
    either LexicalDepth h = inl (refl, h)
    either ByUnaryChain h = inr h
    either ByEdges h = inr h
    either Readings h = inr h
    either (Trees n ts) h = inr h

    one_of : (a b : Answer) → IsItemAnswer g item limits a → IsItemAnswer g item limits b → a ≡ b
    one_of a b h i = by_either (either a h) (either b i)
      where
        by_either : (a ≡ LexicalDepth) × item.too_deep ⊎ ((item.too_deep → ⊥) × ((ls : List (LeafTree C)) × AreLeaves g item ls × IsAnswerOver g item limits ls a)) →
            (b ≡ LexicalDepth) × item.too_deep ⊎ ((item.too_deep → ⊥) × ((ls : List (LeafTree C)) × AreLeaves g item ls × IsAnswerOver g item limits ls b)) → a ≡ b
        by_either (inl x) (inl y) = x.0 ∙ sym y.0
        by_either (inl x) (inr y) = absurd (y.0 x.1)
        by_either (inr x) (inl y) = absurd (x.0 y.1)
        by_either (inr x) (inr y) = over_one x.1.0 y.1.0 x.1.1 y.1.1 a b x.1.2 y.1.2

pub item_answers_are_one : {C : Type 0} (item : Item C) → AnswersAreOne item
item_answers_are_one item g o good limits a b x y = one_of item g o good limits a b x y
