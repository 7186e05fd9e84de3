-- The places in a packed forest are those of instances.
use Rattle.std.specs.Prelude.{ℕ, ◌<◌, All, List, [], ◌∷◌, length, map, slice_get}
use Rattle.std.proofs.Common.{sym, subst, zero, suc, arith}
use Rattle.std.proofs.lemmas.List.{length-map}
use Rattle.std.proofs.lemmas.List.Elements.{All-nil, All-cons}
use Rattle.std.proofs.lemmas.Option.{slice_get_within}
use Rattle.chart_model.specs.Calculus.{Along, along_none, along_more}
use Rattle.chart_model.specs.declared.span.Span.{Span}
use Rattle.type_hierarchy.specs.Table.{TypeTable, count_of}
use Rattle.chart_model.specs.At.{At, here, there}
use Rattle.chart_model.specs.Classes.{Class}
use Rattle.derivation.specs.Trees.{Derivation, Daughters, lexical, phrase, no_more, first}
use Rattle.derivation.specs.Text.{IsNamed, AreNamed}
use Rattle.tree_model.specs.Structures.{Structure}
use Rattle.tree_model.specs.Mothers.{Rule}
use Rattle.tree_model.specs.Signs.{Signs, placed_rules, place_at}
use Rattle.tree_model.specs.Lexical.{Words, FullUnder, under_next}
use Rattle.tree_model.specs.Trees.{Full, Fulls, full_lexical, full_phrase, more_fulls}
use Rattle.tree_model.specs.Items.{Item, LeafTree, AreLeaves, Limits}
use Rattle.tree_model.proofs.Places.{get_found, place_of}
use Rattle.tree_model.specs.Lattices.{Lattice}
use Rattle.tree_model.specs.Licensed.{parse_item}
use Rattle.line_charts.specs.Charts.{Maker, by_tree, by_rule, ToldClass, Keyed, IsMaker, IsTold}
use Rattle.line_charts.specs.Answers.{ChartAnswer, LexicalDepth, ByUnaryChain, ByEdges, Forest, IsChartAnswer}
use Rattle.line_charts.specs.Views.{IsMakerNamed, IsChartNamed}

rules_there : (g : Signs) (d f : Structure) (rules : List ℕ) → FullUnder g d rules f → All (λ rule. rule < length g.instances) rules
rules_there g d f [] u = All-nil (λ rule. rule < length g.instances)
rules_there g d f (rule ∷ rules) (under_next {e = e} i u) = All-cons (λ r. r < length g.instances) rule rules (slice_get_within g.instances rule i.instance i.at) (rules_there g e f rules u)

mutual
  tree_named : (g : Signs) (t : Derivation) (f : Structure) → Full g t f → IsNamed (length g.instances) t
  tree_named g (lexical entry rules words nodes) f (full_lexical x) = (slice_get_within g.instances entry x.1.instance x.1.at, rules_there g x.0 f rules x.2)
  tree_named g (phrase rule ds) f (full_phrase fs all p) = (slice_get_within g.instances rule p.instance p.at, daughters_named g ds fs all)

  daughters_named : (g : Signs) (ds : Daughters) (fs : List Structure) → Fulls g ds fs → AreNamed (length g.instances) ds
  daughters_named g no_more fs x = tt
  daughters_named g (first d ds) _ (more_fulls {f = f} {fs = fs} a all) = (tree_named g d f a, daughters_named g ds fs all)

-- the place of a phrase rule's number
place_within : (g : Signs) (rule : ℕ) → rule < length (placed_rules g) → place_at (slice_get (placed_rules g) rule) < length g.instances
place_within g rule low =
    let r = get_found (placed_rules g) rule low in
    let p = place_of 0 rule g.instances r.0 r.1 in
    let l = slice_get_within g.instances p.offset p.instance p.at in
    subst (λ o. place_at o < length g.instances) (sym r.1) (let e = p.place_is in omega (arith, e, l))

each_place : {A : Type 0} (P : A → Type 0) (xs : List A) → ((n : ℕ) (x : A) → At xs n x → P x) → All P xs
each_place P [] h = All-nil P
each_place P (x ∷ xs) h = All-cons P x xs (h zero x here) (each_place P xs (λ n y a. h (suc n) y (there a)))

abbrev pub AreMakersNamed : ℕ → ToldClass → Type 0
AreMakersNamed count c = All (IsMakerNamed count) c.makers

module _ (g : Signs) (item : Item Span) (limits : Limits) (ls : List (LeafTree Span)) (x : AreLeaves g item ls) (classes : List (Class Structure Span)) where
  maker_named : (c : Class Structure Span) (m : Maker) → IsMaker g item limits ls classes c m → IsMakerNamed (length g.instances) m
  maker_named c (by_tree t) h = let l = h.1 in subst (IsNamed (length g.instances)) h.3 (tree_named g l.tree l.full (x.each h.0 l h.2).full)
  maker_named c (by_rule place ns) h =
      let low : h.0 < length (placed_rules g) = subst (λ n. h.0 < n) (length-map (placed_rules g) (λ (r : ℕ × Rule). r.1)) h.4.rule_is in
      subst (λ p. p < length g.instances) (sym h.2) (place_within g h.0 low)

  all_named : (keyed : List Keyed) (told : List ToldClass) → Along (IsTold g item limits ls classes) keyed told → All (AreMakersNamed (length g.instances)) told
  all_named _ _ along_none = All-nil (AreMakersNamed (length g.instances))
  all_named _ _ (along_more {x = k} {y = t} {xs = keyed} {ys = told} h hs) =
      All-cons (AreMakersNamed (length g.instances)) t told
      (each_place (IsMakerNamed (length g.instances)) t.makers (λ n m at. maker_named k.class m (h.makers.each n m at)))
      (all_named keyed told hs)

-- the makers of each class of an answer
abbrev pub AreAllMakersNamed : ℕ → ChartAnswer → Type 0
AreAllMakersNamed count (Forest unknown classes) = All (AreMakersNamed count) classes
AreAllMakersNamed count other = Unit {0}

pub chart_named : (g : Signs) (types : TypeTable) (feats : List (List ℕ)) (words : Words) (lattice : Lattice) (most : ℕ) (limits : Limits) (a : ChartAnswer) →
    IsChartAnswer g types feats words lattice most limits a → AreAllMakersNamed (length g.instances) a
chart_named g types feats words lattice most limits LexicalDepth h = tt
chart_named g types feats words lattice most limits ByUnaryChain h = tt
chart_named g types feats words lattice most limits ByEdges h = tt
chart_named g types feats words lattice most limits (Forest unknown classes) h =
    let by = h.1.2 in
    let forest = by.2 in
    all_named g (parse_item g words lattice most) limits h.1.0 h.1.1 (map (λ (k : Keyed). k.class) forest.keyed) forest.keyed classes forest.told_all

-- and its types have names, where the type of each class has one
abbrev pub AreAllTyped : TypeTable → ChartAnswer → Type 0
AreAllTyped types (Forest unknown classes) = All (λ (c : ToldClass). c.ty < count_of types) classes
AreAllTyped types other = Unit {0}

pub all_have_names : (types : TypeTable) (count : ℕ) (a : ChartAnswer) → AreAllTyped types a → AreAllMakersNamed count a → IsChartNamed types count a
all_have_names types count LexicalDepth x y = tt
all_have_names types count ByUnaryChain x y = tt
all_have_names types count ByEdges x y = tt
all_have_names types count (Forest unknown classes) x y = λ i c l. record { typed = x i c l; makers = y i c l }
