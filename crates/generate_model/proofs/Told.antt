-- The laws of generation for an input of a grammar.
use Rattle.std.specs.Prelude.{ℕ, ◌≡◌, ◌⊎◌, Option, Some, List, [], slice_get}
use Rattle.std.proofs.Common.{refl, sym, ◌∙◌, ap, subst, arith, inl, inr}
use Rattle.fs_model.specs.Claims.{IsOrder}
use Rattle.chart_model.specs.At.{At, to_get}
use Rattle.chart_model.specs.Chart.{Leaf}
use Rattle.chart_model.specs.declared.counts.Counts.{Counts}
use Rattle.tree_model.specs.Readings.{rises_none}
use Rattle.tree_model.specs.Structures.{Structure}
use Rattle.tree_model.specs.Signs.{Signs, rule_system}
use Rattle.tree_model.specs.Lexical.{Words}
use Rattle.tree_model.specs.Items as item
use Rattle.tree_model.specs.Items.{Item, IsItem, IsWanted, IsLeafTree, LeafTree, AreLeaves, AreExactly, AreMoreThan, Limits, IsItemAnswer, calculus, leaves_from, chart_limits}
use Rattle.tree_model.specs.Forests.{full_at, wholes}
use Rattle.tree_model.proofs.OneAnswer.{item_answers_are_one}
use Rattle.tree_model.proofs.Places.{leaf_from}
use Rattle.generate_model.specs.Contributions.{asked_of}
use Rattle.generate_model.specs.Realizations.{Asked, IsRealization, IsTold, IsGenAccepted, gen_item}
use Rattle.generate_model.specs.Sentences.{Sentence, GenAnswer, LexicalDepth, ByUnaryChain, ByEdges, Readings, Sentences, IsGenAnswer}
use Rattle.generate_model.specs.Laws.{InputsAreItems, LeavesAreCounted, FoundIsGenAnswer, GenAnswersAreOne, HopelessFall}
use Rattle.generate_model.specs.Threading.{Hopeless, Fit}
use Rattle.generate_model.proofs.Generated.{generation_is_item, realizations_are_wanted, leaf_counts}
use Rattle.generate_model.proofs.Right.{generation_is_right}
use Rattle.generate_model.proofs.OneSentences.{one_sentences}
use Rattle.generate_model.proofs.Dropped.{hopeless_may_be_dropped}

pub inputs_are_items : InputsAreItems
inputs_are_items g o words input r z own told =
    (generation_is_item g o words (asked_of g input) r z own told, realizations_are_wanted g o words (asked_of g input) r z own told)

pub leaves_are_counted : LeavesAreCounted
leaves_are_counted g o words input r z own told t c l k = leaf_counts g o words (asked_of g input) r z own told t c l k

pub found_is_gen_answer : FoundIsGenAnswer
found_is_gen_answer g o words input r z own told limits flat ls leaves a f = generation_is_right g o words (asked_of g input) r z own told limits flat ls leaves a f

-- An input has one answer: that of its limits is the answer of the item that accepts nothing, whose answers are one.
module _ (g : Signs) (o : IsOrder g.system) (words : Words) (asked : Asked) (r z : ℕ) (own : ℕ → Option Counts) (told : IsTold g asked own) (limits : Limits) where
  abbrev whole : Item Counts
  whole = gen_item g words asked r z own

  abbrev bare : Item Counts
  bare = record whole { accepted = λ f c. ⊥ }

  bare_is : IsItem bare
  bare_is = let x = generation_is_item g o words asked r z own told in record { lexical = x.lexical; one_cover = x.one_cover }

  bare_leaf : (l : LeafTree Counts) → IsLeafTree g whole l → IsLeafTree g bare l
  bare_leaf l x = record { leaf = x.leaf; covered = x.covered; full = x.full; abstract = x.abstract }

  bare_leaves : (ls : List (LeafTree Counts)) → AreLeaves g whole ls → AreLeaves g bare ls
  bare_leaves ls x = record { each = λ n l at. bare_leaf l (x.each n l at); all = x.all; once = x.once }

  nothing : AreExactly (IsWanted g bare) []
  nothing = record { ordered = rises_none; each = λ t h. elim h [ ]; all = λ t w. absurd w.accepted }

  -- the answer of the limits alone
  abbrev bare_of : GenAnswer → item.Answer
  bare_of LexicalDepth = item.LexicalDepth
  bare_of ByUnaryChain = item.ByUnaryChain
  bare_of ByEdges = item.ByEdges
  bare_of Readings = item.Trees 0 []
  bare_of (Sentences classes ss) = item.Trees classes []

  of_sentences : (classes : ℕ) (ss : List Sentence) → IsGenAnswer g words asked r z own limits (Sentences classes ss) → IsItemAnswer g bare limits (item.Trees classes [])
  of_sentences classes ss x = (x.0, (x.1.0, bare_leaves x.1.0 x.1.1, (x.1.2.0, x.1.2.1, nothing, omega arith)))

  of_limit : (a : GenAnswer) → (a ≡ LexicalDepth) ⊎ ((a ≡ ByUnaryChain) ⊎ (a ≡ ByEdges)) → IsGenAnswer g words asked r z own limits a → IsItemAnswer g bare limits (bare_of a)
  of_limit LexicalDepth e x = x
  of_limit ByUnaryChain e x = (x.0, (x.1.0, bare_leaves x.1.0 x.1.1, x.1.2))
  of_limit ByEdges e x = (x.0, (x.1.0, bare_leaves x.1.0 x.1.1, x.1.2))
  of_limit Readings (inl e) x = absurd (cc)
  of_limit Readings (inr (inl e)) x = absurd (cc)
  of_limit Readings (inr (inr e)) x = absurd (cc)
  of_limit (Sentences classes ss) (inl e) x = absurd (cc)
  of_limit (Sentences classes ss) (inr (inl e)) x = absurd (cc)
  of_limit (Sentences classes ss) (inr (inr e)) x = absurd (cc)

  more_wanted : AreMoreThan (IsRealization g words asked r z) limits.readings → AreMoreThan (IsWanted g whole) limits.readings
  more_wanted x = record { trees = x.trees; ordered = x.ordered; each = λ t h. (realizations_are_wanted g o words asked r z own told t).1 (x.each t h); more = x.more }

  -- the answers of the item itself, where no sentences are told
  abbrev whole_of : GenAnswer → item.Answer
  whole_of LexicalDepth = item.LexicalDepth
  whole_of ByUnaryChain = item.ByUnaryChain
  whole_of ByEdges = item.ByEdges
  whole_of Readings = item.Readings
  whole_of (Sentences classes ss) = item.Trees classes []

  of_readings : IsGenAnswer g words asked r z own limits Readings → IsItemAnswer g whole limits item.Readings
  of_readings x = (x.0, (x.1.0, x.1.1, (x.1.2.0, more_wanted x.1.2.1)))

  by_bare : (a b : item.Answer) → IsItemAnswer g bare limits a → IsItemAnswer g bare limits b → a ≡ b
  by_bare a b x y = item_answers_are_one bare g o bare_is limits a b x y

  by_whole : (a b : item.Answer) → IsItemAnswer g whole limits a → IsItemAnswer g whole limits b → a ≡ b
  by_whole a b x y = item_answers_are_one whole g o (generation_is_item g o words asked r z own told) limits a b x y

  pub one_of : (a b : GenAnswer) → IsGenAnswer g words asked r z own limits a → IsGenAnswer g words asked r z own limits b → a ≡ b
  one_of LexicalDepth LexicalDepth x y = refl
  one_of LexicalDepth ByUnaryChain x y = absurd (y.0 x)
  one_of LexicalDepth ByEdges x y = absurd (y.0 x)
  one_of LexicalDepth Readings x y = absurd (y.0 x)
  one_of LexicalDepth (Sentences n ss) x y = absurd (y.0 x)
  one_of ByUnaryChain LexicalDepth x y = absurd (x.0 y)
  one_of ByUnaryChain ByUnaryChain x y = refl
  one_of ByUnaryChain ByEdges x y = absurd (let e : item.ByUnaryChain ≡ item.ByEdges = by_whole item.ByUnaryChain item.ByEdges x y in cc)
  one_of ByUnaryChain Readings x y = absurd (let e : item.ByUnaryChain ≡ item.Readings = by_whole item.ByUnaryChain item.Readings x (of_readings y) in cc)
  one_of ByUnaryChain (Sentences n ss) x y = absurd (let e : item.ByUnaryChain ≡ item.Trees n [] = by_bare item.ByUnaryChain (item.Trees n []) (of_limit ByUnaryChain (inr (inl refl)) x) (of_sentences n ss y) in cc)
  one_of ByEdges LexicalDepth x y = absurd (x.0 y)
  one_of ByEdges ByUnaryChain x y = absurd (let e : item.ByEdges ≡ item.ByUnaryChain = by_whole item.ByEdges item.ByUnaryChain x y in cc)
  one_of ByEdges ByEdges x y = refl
  one_of ByEdges Readings x y = absurd (let e : item.ByEdges ≡ item.Readings = by_whole item.ByEdges item.Readings x (of_readings y) in cc)
  one_of ByEdges (Sentences n ss) x y = absurd (let e : item.ByEdges ≡ item.Trees n [] = by_bare item.ByEdges (item.Trees n []) (of_limit ByEdges (inr (inr refl)) x) (of_sentences n ss y) in cc)
  one_of Readings LexicalDepth x y = absurd (x.0 y)
  one_of Readings ByUnaryChain x y = absurd (let e : item.Readings ≡ item.ByUnaryChain = by_whole item.Readings item.ByUnaryChain (of_readings x) y in cc)
  one_of Readings ByEdges x y = absurd (let e : item.Readings ≡ item.ByEdges = by_whole item.Readings item.ByEdges (of_readings x) y in cc)
  one_of Readings Readings x y = refl
  one_of Readings (Sentences n ss) x y = absurd (y.1.2.2 x.1.2.1)
  one_of (Sentences n ss) LexicalDepth x y = absurd (x.0 y)
  one_of (Sentences n ss) ByUnaryChain x y = absurd (let e : item.Trees n [] ≡ item.ByUnaryChain = by_bare (item.Trees n []) item.ByUnaryChain (of_sentences n ss x) (of_limit ByUnaryChain (inr (inl refl)) y) in cc)
  one_of (Sentences n ss) ByEdges x y = absurd (let e : item.Trees n [] ≡ item.ByEdges = by_bare (item.Trees n []) item.ByEdges (of_sentences n ss x) (of_limit ByEdges (inr (inr refl)) y) in cc)
  one_of (Sentences n ss) Readings x y = absurd (x.1.2.2 y.1.2.1)
  one_of (Sentences n ss) (Sentences m us) x y =
      let e : item.Trees n [] ≡ item.Trees m [] = by_bare (item.Trees n []) (item.Trees m []) (of_sentences n ss x) (of_sentences m us y) in
      let classes : n ≡ m = cc in
      let sentences = one_sentences ss us x.1.2.3 y.1.2.3 in
      λ i. Sentences (classes i) (sentences i)

pub gen_answers_are_one : GenAnswersAreOne
gen_answers_are_one g o words input r z own told limits a b x y = one_of g o words (asked_of g input) r z own told limits a b x y

pub hopeless_fall : HopelessFall
hopeless_fall g words input r z own limits ls rest l out threads fits t =
    let asked = asked_of g input in
    let item = gen_item g words asked r z own in
    let w = wholes g item limits ls in
    hopeless_may_be_dropped Counts (rule_system g) rest l out threads (calculus g item) (λ rule. refl) w refl (chart_limits limits) (leaves_from 0 ls) leaf_fit
    (Hopeless (rule_system g) rest l (IsGenAccepted g words asked r z own)) (λ v h. h) t
  where
    leaf_fit : (n : ℕ) (leaf : Leaf Structure Counts) → At (leaves_from 0 ls) n leaf → Fit (rule_system g) rest l (full_at (slice_get ls leaf.name))
    leaf_fit n leaf at =
        let p = leaf_from 0 ls n leaf at in
        let name : leaf.name ≡ n = ap (λ (x : Leaf Structure Counts). x.name) p.2 ∙ omega arith in
        let got : slice_get ls leaf.name ≡ Some p.0 = ap (slice_get ls) name ∙ to_get p.1 in
        subst (λ f. Fit (rule_system g) rest l f) (sym (ap full_at got)) (fits n p.0 p.1)
