-- What is found of an item, by what came of its sentence.
use Rattle.std.proofs.Common.{◌≡◌, ◌∙◌, ◌<◌, ◌^◌, ℕ, List, Vec, Global, All, Bool, length, map, [], ◌∷◌, ◌≢◌, ◌==◌, not, true, false, refl, sym, ap, subst, arith}
use Rattle.std.specs.Str.{chars}
use Rattle.std.proofs.lemmas.Bool.Decides.{Decides-eqb}
use Rattle.std.proofs.lemmas.List.{length-map}
use Rattle.derivation.specs.declared.Tree.{Tree}
use Rattle.derivation.specs.Text.{IsNamed, text_of}
use Rattle.derivation.specs.Views.{derivation_of}
use Rattle.tree_model.specs.Items.{Limits, Answer}
use Rattle.tree_model.specs.Answers.{IsParseAnswer}
use Rattle.lexical_items.specs.Seen.{lattice_seen}
use Rattle.grammar_rules.specs.declared.ItemAnswer.{ItemAnswer}
use Rattle.grammar_rules.specs.declared.ItemAnswer.TheVariants as answers
use Rattle.grammar_rules.specs.Views.{item_answer}
use Rattle.engine.specs.Named.{AreNamed, IsFew}
use Rattle.engine.specs.Speeches.{Speech, lattice_of_words}
use Rattle.engine.proofs.NamedTrees.{unmap}
use Rattle.profile_reports.specs.declared.profiles.Expected.{Expected}
use Rattle.profile_reports.specs.declared.profiles.ProfileItem.{ProfileItem}
use Rattle.profile_reports.specs.declared.profiles.ProfileItem.TheVariants.{TooLong, NotUtf8, NoItem}
use Rattle.profile_reports.specs.Profiles.{too_long, not_utf8, no_item, an_item}
use Rattle.profile_reports.specs.ItemsViews.{item_kept}
use Rattle.profile_reports.specs.declared.Got.TheVariants.{Bad, NoMemory}
use Rattle.profile_reports.specs.declared.ItemResult.{ItemResult}
use Rattle.profile_reports.specs.Comparing.{plain_result, result_of}
use Rattle.profile_batch.specs.Results.{IsResult, of_long, of_bytes, of_line, of_item, IsResultOrGap, a_result, a_gap, outcome_of}

-- there are as many texts as trees
pub texts-few : (names : List (List ℕ)) (trees : List Tree) (texts : List (Vec ℕ Global)) → map (λ t. t.items) texts ≡ map (text_of names false) (map derivation_of trees)
    → length trees < 2 ^ 32 → length (map (λ t. t.items) texts) < 2 ^ 32
texts-few names trees texts same few =
    subst (λ n. n < 2 ^ 32) (sym (ap length same ∙ length-map (map derivation_of trees) (text_of names false) ∙ length-map trees derivation_of)) few

-- what is known of an answer is known of its trees
pub trees-named : (count classes : ℕ) (trees : Vec Tree Global) (answer : ItemAnswer) → answer ≡ answers.Trees classes trees → AreNamed count (item_answer answer) → All (λ t. IsNamed count (derivation_of t)) trees.items
trees-named count classes trees answer is named = unmap (IsNamed count) derivation_of trees.items (subst (λ a. AreNamed count (item_answer a)) is named)

pub trees-few : (classes : ℕ) (trees : Vec Tree Global) (answer : ItemAnswer) → answer ≡ answers.Trees classes trees → IsFew (item_answer answer) → length trees.items < 2 ^ 32
trees-few classes trees answer is few = subst (λ n. n < 2 ^ 32) (length-map trees.items derivation_of) (subst (λ a. IsFew (item_answer a)) is few)

none-written : {A : Type 0} (trees : List A) → length trees ≡ 0 → trees ≡ []
none-written [] none = refl
none-written (t ∷ ts) none = absurd (omega (arith, none))

-- where trees are written, the texts of those that came are wanted
pub some-wanted : {A : Type 0} (trees : List A) (empty : Bool) → empty ≡ (length trees == 0) → trees ≢ [] → not empty ≡ true
some-wanted trees false is some = refl
some-wanted trees true is some = absurd (some (none-written trees ((Decides-eqb (length trees) 0).0 (sym is))))

module _ (speech : Speech) (limits : Limits) (most place : ℕ) where
  -- the result of an item that isn't bad
  pub judged-is : (expected : Expected) (sentence : List ℕ) (trees : List (List ℕ)) (answer : Answer) (r : ItemResult)
      → IsParseAnswer speech.signs speech.words (lattice_seen (lattice_of_words (chars sentence))) most limits answer → r ≡ result_of place trees (outcome_of speech.names answer)
      → IsResult speech limits most place (an_item expected sentence trees) r
  judged-is expected sentence trees answer r is same = subst (IsResult speech limits most place (an_item expected sentence trees)) (sym same) (of_item expected sentence trees answer is)

  -- and of one that is bad
  pub long-is : (item : ProfileItem) (r : ItemResult) → item ≡ TooLong → r ≡ plain_result place Bad → IsResultOrGap speech limits most place (item_kept item) r
  long-is item r is same = subst (λ i. IsResultOrGap speech limits most place (item_kept i) r) (sym is) (a_result too_long r (subst (IsResult speech limits most place too_long) (sym same) of_long))

  pub bytes-is : (item : ProfileItem) (r : ItemResult) → item ≡ NotUtf8 → r ≡ plain_result place Bad → IsResultOrGap speech limits most place (item_kept item) r
  bytes-is item r is same = subst (λ i. IsResultOrGap speech limits most place (item_kept i) r) (sym is) (a_result not_utf8 r (subst (IsResult speech limits most place not_utf8) (sym same) of_bytes))

  pub line-is : (item : ProfileItem) (r : ItemResult) → item ≡ NoItem → r ≡ plain_result place Bad → IsResultOrGap speech limits most place (item_kept item) r
  line-is item r is same = subst (λ i. IsResultOrGap speech limits most place (item_kept i) r) (sym is) (a_result no_item r (subst (IsResult speech limits most place no_item) (sym same) of_line))

  -- memory was wanting for one that isn't
  pub gap-is : (expected : Expected) (sentence : List ℕ) (trees : List (List ℕ)) (r : ItemResult) → r ≡ plain_result place NoMemory → IsResultOrGap speech limits most place (an_item expected sentence trees) r
  gap-is expected sentence trees r same = subst (IsResultOrGap speech limits most place (an_item expected sentence trees)) (sym same) (a_gap expected sentence trees)
