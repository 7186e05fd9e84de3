-- What is known of an MRS by the contributors of a grammar, when its leaves are looked for.
use Rattle.std.specs.Prelude.{ℕ, ◌≡◌, ◌<◌, ◌+◌, ◌^◌, List, Option, map}
use Rattle.std.proofs.Common.{sym, ap, subst}
use Rattle.fs_model.specs.Claims.{IsOrder}
use Rattle.chart_model.specs.Sums.{counts_size}
use Rattle.chart_model.specs.declared.counts.Counts.{Counts}
use Rattle.chart_core.specs.declared.Limits.{Limits}
use Rattle.lexicon.specs.Entries.{EntryTree}
use Rattle.spelling_rules.specs.Trees.{SpellingTree}
use Rattle.mrs_model.specs.Meanings.{Meaning}
use Rattle.mrs_places.specs.Paths.{Feature, Paths}
use Rattle.generate_model.specs.Bags.{BagTree, bag_of, bound_of, distinct, preds_of}
use Rattle.book_signs.specs.Trees.{SignTree, signs_of}
use Rattle.generate_model.specs.Contributions.{Input, asked_of}
use Rattle.generate_model.specs.Realizations.{IsTold}
use Rattle.generate_model.specs.Sentences.{LexicalDepth}
use Rattle.generated_leaves.specs.Given.{input_of, own_counts}
use Rattle.generated_leaves.specs.Laws.{OwnsAreEven, OwnsAreTold}
use Rattle.generated_leaves.specs.Placed.{own_by_place}
use Rattle.generated_leaves.specs.Leaves.{WordLeaf, GenLexical, TooDeep, Leaves, IsGenLexical}
use Rattle.generated_leaves.specs.Told.{AreTold}
use Rattle.generated_leaves.specs.Views.{AreAsked, told_seen}
use Rattle.generated_leaves.specs.declared.tree.ToldTree.{ToldTree}
use Rattle.mrs_generate.specs.Answers.{words_by, IsAnswerTo}
use Rattle.mrs_generate.specs.Contributors.{AreContributors}
use Rattle.mrs_generate.specs.Inner.Known.{IsKnown}
use Rattle.mrs_generate.specs.declared.contributors.Contributors.{Contributors}

module _ (t : SignTree) (o : IsOrder (signs_of t).system) (even : OwnsAreEven) (told : OwnsAreTold) (lexicon : List EntryTree) (s : SpellingTree) (paths : Paths) (c_cont : List Feature) (meaning : Meaning) (limits : Limits) (by : Contributors) (are : AreContributors t lexicon s paths c_cont limits.lexical by) where
  abbrev input : Input
  input = input_of t.book.system.types paths c_cont meaning

  -- what the rules contribute, by number
  abbrev owns : List (Option Counts)
  owns = own_counts (distinct (preds_of meaning)) by.rules

  owns_told : IsTold (signs_of t) (asked_of (signs_of t) input) (own_by_place (signs_of t) owns)
  owns_told = told (signs_of t) o input by.rules are.given

  pub asks : (xs : List ToldTree) → xs ≡ by.told.items → (bag : BagTree) → bag ≡ bag_of (preds_of meaning) → AreAsked t (words_by t lexicon s) input limits.lexical xs bag
  asks xs w bag e = record {
    order = o;
    told_are = subst (λ ys. AreTold (signs_of t) (words_by t lexicon s) t.book.system.types paths (limits.lexical + 1) (map (told_seen t) ys)) (sym w) are.told;
    bag_is = e;
  }

  -- what is found of the lexical trees
  abbrev Finds : ℕ → GenLexical → Type 0
  Finds empty found = IsGenLexical (signs_of t) (words_by t lexicon s) (asked_of (signs_of t) input) limits.lexical empty (own_by_place (signs_of t) owns) found

  pub deep_answer : (empty : ℕ) → empty ≡ limits.empty → (found : GenLexical) → found ≡ TooDeep → Finds empty found → IsAnswerTo t lexicon s paths c_cont meaning limits LexicalDepth
  deep_answer empty z found e f = (own_by_place (signs_of t) owns, owns_told, subst (λ x. Finds x TooDeep) z (subst (Finds empty) e f))

  pub leaves_known : (bound : Counts) → bound ≡ bound_of (preds_of meaning) limits.empty → counts_size bound < 2 ^ 32 → (own : List (Option Counts)) → own ≡ owns → (found : GenLexical) (xs : List WordLeaf) → found ≡ Leaves xs → Finds bound.empty found →
      IsKnown (signs_of t) (words_by t lexicon s) input limits own bound xs
  leaves_known bound b small own w found xs e f =
      let h = subst (λ x. Finds x (Leaves xs)) (ap (λ (c : Counts). c.empty) b) (subst (Finds bound.empty) e f) in
      subst (λ n. IsKnown (signs_of t) (words_by t lexicon s) input limits n bound xs) (sym w)
      (record { even = even (signs_of t) t.book.system.types paths c_cont by.rules are.given (distinct (preds_of meaning)); told = owns_told; bound_is = b; small = small; flat = h.0; leaves = h.1 })
