-- A lattice has one answer, and it goes with that of its trees.
use Rattle.std.specs.Prelude.{ℕ, ◌≡◌, ◌⊎◌, List, length}
use Rattle.std.proofs.Common.{refl, sym, ◌∙◌, inl, inr}
use Rattle.chart_model.specs.declared.span.Span.{Span}
use Rattle.type_hierarchy.specs.Table.{TypeTable}
use Rattle.fs_model.specs.Claims.{IsOrder}
use Rattle.chart_model.specs.Limits.{LimitAnswer, UnaryChain, Edges, Within, IsLimitAnswer}
use Rattle.tree_model.specs.Signs.{Signs}
use Rattle.tree_model.specs.Lexical.{Words}
use Rattle.tree_model.specs.Items.{LeafTree, AreLeaves, Limits, Answer, calculus, leaves_from, chart_limits}
use Rattle.tree_model.specs.Items as item
use Rattle.tree_model.specs.Lattices.{Lattice}
use Rattle.tree_model.specs.Licensed.{IsTooDeep, parse_item}
use Rattle.tree_model.specs.Answers.{IsAnswerBy, IsParseAnswer}
use Rattle.tree_model.proofs.Spanned.{licensed_are_wanted}
use Rattle.line_charts.specs.Answers.{ChartAnswer, LexicalDepth, ByUnaryChain, ByEdges, Forest, IsChartBy, IsChartAnswer}
use Rattle.line_charts.specs.Laws.{ChartAnswersAreOne, Matches, ChartsMatchParses}
use Rattle.line_charts.proofs.OverLeaves.{limit_one, count_one}
use Rattle.line_charts.proofs.OneForest.{forest_one, forest_count, unknown_one}

-- limits answer one thing alone
abbrev Differ : LimitAnswer → LimitAnswer → Type 0
Differ (UnaryChain m) (UnaryChain n) = ⊥
Differ (Edges m) (Edges n) = ⊥
Differ Within Within = ⊥
Differ a b = Unit {0}

differ : (a b : LimitAnswer) → a ≡ b → Differ a b → ⊥
differ (UnaryChain m) (UnaryChain n) e d = d
differ (UnaryChain m) (Edges n) e d = cc
differ (UnaryChain m) Within e d = cc
differ (Edges m) (UnaryChain n) e d = cc
differ (Edges m) (Edges n) e d = d
differ (Edges m) Within e d = cc
differ Within (UnaryChain n) e d = cc
differ Within (Edges n) e d = cc
differ Within Within e d = d

module _ (g : Signs) (types : TypeTable) (feats : List (List ℕ)) (words : Words) (lattice : Lattice) (most : ℕ) (limits : Limits) (o : IsOrder g.system) where
  -- an answer other than that of a tree that is too deep rests on leaves
  abbrev ByLeaves : ChartAnswer → Type 0
  ByLeaves a = (IsTooDeep g words lattice most → ⊥) × ((ls : List (LeafTree Span)) × AreLeaves g (parse_item g words lattice most) ls × IsChartBy g types feats words lattice most limits ls a)

  abbrev ByItsLeaves : Answer → Type 0
  ByItsLeaves a = (IsTooDeep g words lattice most → ⊥) × ((ls : List (LeafTree Span)) × AreLeaves g (parse_item g words lattice most) ls × IsAnswerBy g words lattice most limits ls a)

  either : (a : ChartAnswer) → IsChartAnswer g types feats words lattice most limits a → (a ≡ LexicalDepth) × IsTooDeep g words lattice most ⊎ ByLeaves a
  either LexicalDepth h = inl (refl, h)
  either ByUnaryChain h = inr h
  either ByEdges h = inr h
  either (Forest us cs) h = inr h

  either_parse : (a : Answer) → IsParseAnswer g words lattice most limits a → (a ≡ item.LexicalDepth) × IsTooDeep g words lattice most ⊎ ByItsLeaves a
  either_parse (item.LexicalDepth) h = inl (refl, h)
  either_parse (item.ByUnaryChain) h = inr h
  either_parse (item.ByEdges) h = inr h
  either_parse (item.Readings) h = inr h
  either_parse (item.Trees n ts) h = inr h

  module _ (ls ks : List (LeafTree Span)) (x : AreLeaves g (parse_item g words lattice most) ls) (y : AreLeaves g (parse_item g words lattice most) ks) where
    never : (a b : LimitAnswer) → IsLimitAnswer (calculus g (parse_item g words lattice most)) (chart_limits limits) (leaves_from 0 ls) a → IsLimitAnswer (calculus g (parse_item g words lattice most)) (chart_limits limits) (leaves_from 0 ks) b → Differ a b → ⊥
    never a b p q d = differ a b (limit_one g (parse_item g words lattice most) o (licensed_are_wanted g words lattice most).0 limits ls ks x y a b p q) d

    one_by : (a b : ChartAnswer) → IsChartBy g types feats words lattice most limits ls a → IsChartBy g types feats words lattice most limits ks b → a ≡ b
    one_by LexicalDepth b p q = absurd p
    one_by ByUnaryChain LexicalDepth p q = absurd q
    one_by ByUnaryChain ByUnaryChain p q = refl
    one_by ByUnaryChain ByEdges p q = absurd (never (UnaryChain p.0) (Edges q.0) p.1 q.1 tt)
    one_by ByUnaryChain (Forest us cs) p q = absurd (never (UnaryChain p.0) Within p.1 q.0 tt)
    one_by ByEdges LexicalDepth p q = absurd q
    one_by ByEdges ByUnaryChain p q = absurd (never (Edges p.0) (UnaryChain q.0) p.1 q.1 tt)
    one_by ByEdges ByEdges p q = refl
    one_by ByEdges (Forest us cs) p q = absurd (never (Edges p.0) Within p.1 q.0 tt)
    one_by (Forest us cs) LexicalDepth p q = absurd q
    one_by (Forest us cs) ByUnaryChain p q = absurd (never Within (UnaryChain q.0) p.0 q.1 tt)
    one_by (Forest us cs) ByEdges p q = absurd (never Within (Edges q.0) p.0 q.1 tt)
    one_by (Forest us cs) (Forest vs ds) p q =
        let e = unknown_one p.1 q.1 in
        let f = forest_one g types feats (parse_item g words lattice most) o (licensed_are_wanted g words lattice most).0 limits ls ks x y cs ds p.2 q.2 in
        λ i. Forest (e i) (f i)

    matches_by : (a : ChartAnswer) (b : Answer) → IsChartBy g types feats words lattice most limits ls a → IsAnswerBy g words lattice most limits ks b → Matches a b
    matches_by LexicalDepth b p q = absurd p
    matches_by ByUnaryChain (item.LexicalDepth) p q = absurd q
    matches_by ByUnaryChain (item.ByUnaryChain) p q = tt
    matches_by ByUnaryChain (item.ByEdges) p q = never (UnaryChain p.0) (Edges q.0) p.1 q.1 tt
    matches_by ByUnaryChain (item.Readings) p q = never (UnaryChain p.0) Within p.1 q.0 tt
    matches_by ByUnaryChain (item.Trees n ts) p q = never (UnaryChain p.0) Within p.1 q.0 tt
    matches_by ByEdges (item.LexicalDepth) p q = absurd q
    matches_by ByEdges (item.ByUnaryChain) p q = never (Edges p.0) (UnaryChain q.0) p.1 q.1 tt
    matches_by ByEdges (item.ByEdges) p q = tt
    matches_by ByEdges (item.Readings) p q = never (Edges p.0) Within p.1 q.0 tt
    matches_by ByEdges (item.Trees n ts) p q = never (Edges p.0) Within p.1 q.0 tt
    matches_by (Forest us cs) (item.LexicalDepth) p q = absurd q
    matches_by (Forest us cs) (item.ByUnaryChain) p q = never Within (UnaryChain q.0) p.0 q.1 tt
    matches_by (Forest us cs) (item.ByEdges) p q = never Within (Edges q.0) p.0 q.1 tt
    matches_by (Forest us cs) (item.Readings) p q = tt
    matches_by (Forest us cs) (item.Trees n ts) p q =
        count_one g (parse_item g words lattice most) o (licensed_are_wanted g words lattice most).0 limits ls ks x y (length cs) n
        (forest_count g types feats (parse_item g words lattice most) limits ls cs p.2) q.1

  one_of : (a b : ChartAnswer) → (a ≡ LexicalDepth) × IsTooDeep g words lattice most ⊎ ByLeaves a → (b ≡ LexicalDepth) × IsTooDeep g words lattice most ⊎ ByLeaves b → a ≡ b
  one_of a b (inl x) (inl y) = x.0 ∙ sym y.0
  one_of a b (inl x) (inr y) = absurd (y.0 x.1)
  one_of a b (inr x) (inl y) = absurd (x.0 y.1)
  one_of a b (inr x) (inr y) = one_by x.1.0 y.1.0 x.1.1 y.1.1 a b x.1.2 y.1.2

  deep_match : (a : ChartAnswer) (b : Answer) → a ≡ LexicalDepth → b ≡ item.LexicalDepth → Matches a b
  deep_match LexicalDepth (item.LexicalDepth) e f = tt
  deep_match LexicalDepth (item.ByUnaryChain) e f = absurd (cc)
  deep_match LexicalDepth (item.ByEdges) e f = absurd (cc)
  deep_match LexicalDepth (item.Readings) e f = absurd (cc)
  deep_match LexicalDepth (item.Trees n ts) e f = absurd (cc)
  deep_match ByUnaryChain b e f = absurd (cc)
  deep_match ByEdges b e f = absurd (cc)
  deep_match (Forest us cs) b e f = absurd (cc)

  match_of : (a : ChartAnswer) (b : Answer) → (a ≡ LexicalDepth) × IsTooDeep g words lattice most ⊎ ByLeaves a → (b ≡ item.LexicalDepth) × IsTooDeep g words lattice most ⊎ ByItsLeaves b → Matches a b
  match_of a b (inl x) (inl y) = deep_match a b x.0 y.0
  match_of a b (inl x) (inr y) = absurd (y.0 x.1)
  match_of a b (inr x) (inl y) = absurd (x.0 y.1)
  match_of a b (inr x) (inr y) = matches_by x.1.0 y.1.0 x.1.1 y.1.1 a b x.1.2 y.1.2

pub chart_answers_are_one : ChartAnswersAreOne
chart_answers_are_one g types feats words lattice most limits o a b x y =
    one_of g types feats words lattice most limits o a b (either g types feats words lattice most limits o a x) (either g types feats words lattice most limits o b y)

pub charts_match_parses : ChartsMatchParses
charts_match_parses g types feats words lattice most limits o a b x y =
    match_of g types feats words lattice most limits o a b (either g types feats words lattice most limits o a x) (either_parse g types feats words lattice most limits o b y)
