-- MRSs that are one but for the numbers of their variables have the same answers.
use Rattle.std.proofs.Common.{ℕ, ◌≡◌, Option, Some, None, List, subst}
use Rattle.std.specs.Prelude.{slice_get}
use Rattle.chart_model.specs.declared.counts.Counts.{Counts}
use Rattle.type_hierarchy.specs.Table.{TypeTable}
use Rattle.derivation.specs.Trees.{Derivation, Daughters}
use Rattle.tree_model.specs.Structures.{Structure}
use Rattle.tree_model.specs.Signs.{Signs, Instance}
use Rattle.tree_model.specs.Lexical.{Words}
use Rattle.tree_model.specs.Items.{LeafTree, IsLeafTree, AreLeaves, AreMoreThan, Limits}
use Rattle.generate_model.specs.Bags.{Word, preds_of}
use Rattle.mrs_model.specs.Meanings.{Meaning}
use Rattle.mrs_places.specs.Paths.{Feature, Paths}
use Rattle.mrs_reading.specs.Laws.{IsRenumbering}
use Rattle.generate_model.specs.Contributions.{Input, Contribution, GivesOf, OwnContribution, Means}
use Rattle.generate_model.specs.Realizations.{Asked, Contributes, AllContribute, leaf_contributes, rule_contributes, none_contribute, more_contribute, IsRealization, IsCovering, IsGenLeaf, IsGenTooDeep, gen_item, IsTold}
use Rattle.generate_model.specs.Sentences.{Sentence, IsSentence, AreSentences, GenAnswer, LexicalDepth, ByUnaryChain, ByEdges, Readings, Sentences, IsGenAnswer, IsGenAnswerOver}
use Rattle.mrs_generate.specs.Answers.{IsSentenceAnswer}
use Rattle.generate_commands.proofs.Renamed.{equal-then, same-preds}

-- what is asked of structures and rules, whatever the bag
record Kinds : Type 1 where
  means : Structure → Type 0
  says : Structure → List Word → Type 0
  gives : ℕ → List Word → Type 0

abbrev asks : List Word → Kinds → Asked
asks bag k = record { bag = bag; means = k.means; says = k.says; gives = k.gives }

-- what the one asks for, the other asks for
record Follows (a b : Kinds) : Type 0 where
  means : (f : Structure) → a.means f → b.means f
  says : (f : Structure) (ws : List Word) → a.says f ws → b.says f ws
  gives : (rule : ℕ) (ws : List Word) → a.gives rule ws → b.gives rule ws

module _ (g : Signs) (words : Words) (bag : List Word) (r z : ℕ) (own : ℕ → Option Counts) where
  module _ (a b : Kinds) (to : Follows a b) where
    deep : IsGenTooDeep g words (asks bag a) r z own → IsGenTooDeep g words (asks bag b) r z own
    deep x = record { tree = x.tree; is = x.is; deep = x.deep; structure = x.structure; full = x.full; contributed = x.contributed; says = to.says x.structure x.contributed x.says; lies = x.lies }

    covering : (t : Derivation) (c : Counts) → IsCovering g words (asks bag a) r z own t c → IsCovering g words (asks bag b) r z own t c
    covering t c x = record { structure = x.structure; full = x.full; contributed = x.contributed; says = to.says x.structure x.contributed x.says; is = x.is }

    leaf : (t : Derivation) → IsGenLeaf g words (asks bag a) r z own t → IsGenLeaf g words (asks bag b) r z own t
    leaf t x = record { leaf = x.leaf; cover = x.cover; covering = covering t x.cover x.covering; within = x.within; few = x.few }

    leaf-tree : (l : LeafTree Counts) → IsLeafTree g (gen_item g words (asks bag a) r z own) l → IsLeafTree g (gen_item g words (asks bag b) r z own) l
    leaf-tree l x = record { leaf = leaf l.tree x.leaf; covered = covering l.tree l.cover x.covered; full = x.full; abstract = x.abstract }

    mutual
      contributes : (t : Derivation) (ws : List Word) (n : ℕ) → Contributes g (asks bag a) t ws n → Contributes g (asks bag b) t ws n
      contributes _ _ _ (leaf_contributes {f = f} ws full s) = leaf_contributes ws full (to.says f ws s)
      contributes _ _ _ (rule_contributes {rule = rule} {ds = ds} {n = n} ws vs h all) = rule_contributes ws vs (to.gives rule ws h) (all-contribute ds vs n all)

      all-contribute : (ds : Daughters) (ws : List Word) (n : ℕ) → AllContribute g (asks bag a) ds ws n → AllContribute g (asks bag b) ds ws n
      all-contribute _ _ _ none_contribute = none_contribute
      all-contribute _ _ _ (more_contribute {d = d} {ds = ds} {m = m} {n = n} ws vs h all) = more_contribute ws vs (contributes d ws m h) (all-contribute ds vs n all)

    real : (t : Derivation) → IsRealization g words (asks bag a) r z t → IsRealization g words (asks bag b) r z t
    real t x = record {
      leaves = x.leaves;
      structure = x.structure;
      full = x.full;
      rooted = x.rooted;
      means = to.means x.structure x.means;
      contributed = x.contributed;
      empty = x.empty;
      contributes = contributes t x.contributed x.empty x.contributes;
      whole = x.whole;
      few = x.few;
    }

    more : (n : ℕ) → AreMoreThan (IsRealization g words (asks bag a) r z) n → AreMoreThan (IsRealization g words (asks bag b) r z) n
    more n x = record { trees = x.trees; ordered = x.ordered; each = λ t h. real t (x.each t h); more = x.more }

  module _ (a b : Kinds) (to : Follows a b) (back : Follows b a) (limits : Limits) where
    told : IsTold g (asks bag a) own → IsTold g (asks bag b) own
    told x = record {
      one_says = λ f ws vs p q. x.one_says f ws vs (back.says f ws p) (back.says f vs q);
      one_gives = λ rule ws vs p q. x.one_gives rule ws vs (back.gives rule ws p) (back.gives rule vs q);
      owns = λ rule i at kind. (let o = x.owns rule i at kind in (o.0, to.gives rule o.0 o.1, o.2));
    }

    leaves : (ls : List (LeafTree Counts)) → AreLeaves g (gen_item g words (asks bag a) r z own) ls → AreLeaves g (gen_item g words (asks bag b) r z own) ls
    leaves ls x = record { each = λ n l at. leaf-tree a b to l (x.each n l at); all = λ t h. x.all t (leaf b a back t h); once = x.once }

    sentence : (s : Sentence) → IsSentence (IsRealization g words (asks bag a) r z) s → IsSentence (IsRealization g words (asks bag b) r z) s
    sentence s x = record { is = real a b to s.tree x.is; text = x.text; least = λ t h e l. x.least t (real b a back t h) e l }

    sentences : (ss : List Sentence) → AreSentences (IsRealization g words (asks bag a) r z) ss → AreSentences (IsRealization g words (asks bag b) r z) ss
    sentences ss x = record { each = λ s h. sentence s (x.each s h); all = λ t h. x.all t (real b a back t h); rise = x.rise }

    answer-over : (ls : List (LeafTree Counts)) (x : GenAnswer) → IsGenAnswerOver g words (asks bag a) r z own limits ls x → IsGenAnswerOver g words (asks bag b) r z own limits ls x
    answer-over ls LexicalDepth h = h
    answer-over ls ByUnaryChain h = h
    answer-over ls ByEdges h = h
    answer-over ls Readings h = (h.0, more a b to limits.readings h.1)
    answer-over ls (Sentences classes ss) h = (h.0, h.1, λ m. h.2 (more b a back limits.readings m), sentences ss h.3)

    abbrev Over : Kinds → GenAnswer → Type 0
    Over k x = (ls : List (LeafTree Counts)) × AreLeaves g (gen_item g words (asks bag k) r z own) ls × IsGenAnswerOver g words (asks bag k) r z own limits ls x

    over : (x : GenAnswer) → (IsGenTooDeep g words (asks bag a) r z own → ⊥) × Over a x → (IsGenTooDeep g words (asks bag b) r z own → ⊥) × Over b x
    over x h = (λ d. h.0 (deep b a back d), (h.1.0, leaves h.1.0 h.1.1, answer-over h.1.0 x h.1.2))

    answer : (x : GenAnswer) → IsGenAnswer g words (asks bag a) r z own limits x → IsGenAnswer g words (asks bag b) r z own limits x
    answer LexicalDepth h = deep a b to h
    answer ByUnaryChain h = over ByUnaryChain h
    answer ByEdges h = over ByEdges h
    answer Readings h = over Readings h
    answer (Sentences classes ss) h = over (Sentences classes ss) h

-- an MRS as an input of a grammar
module _ (g : Signs) (types : TypeTable) (paths : Paths) (c-cont : List Feature) where
  abbrev pub input : Meaning → Input
  input m = record { types = types; paths = paths; c_cont_path = c-cont; meaning = m }

  abbrev kinds : Meaning → Kinds
  kinds m = record { means = Means g (input m); says = Contribution g (input m); gives = OwnContribution g (input m) }

  given-too : (m k : Meaning) (o : Option Instance) (ws : List Word) → GivesOf g (input m) o ws → GivesOf g (input k) o ws
  given-too m k None ws h = h
  given-too m k (Some i) ws h = record { graph = h.graph; is = h.is; says = h.says }

  follows : (m k : Meaning) (more : List ℕ) → IsRenumbering m k more → Follows (kinds m) (kinds k)
  follows m k more s = record {
    means = λ f x. record { graph = x.graph; is = x.is; mrs = x.mrs; has = x.has; equal = equal-then x.graph types paths x.mrs m k more x.has x.equal s };
    says = λ f ws x. record { graph = x.graph; is = x.is; says = x.says };
    gives = λ rule ws x. given-too m k (slice_get g.instances rule) ws x;
  }

  pub same-answer : (words : Words) (r z : ℕ) (limits : Limits) (m k : Meaning) (more less : List ℕ) → IsRenumbering m k more → IsRenumbering k m less → (x : GenAnswer)
      → IsSentenceAnswer g words (input m) r z limits x → IsSentenceAnswer g words (input k) r z limits x
  same-answer words r z limits m k more less s u x h =
      let own = h.0 in
      let e : preds_of m ≡ preds_of k = same-preds m k more s in
      let t : IsTold g (asks (preds_of k) (kinds m)) own = subst (λ (bag : List Word). IsTold g (asks bag (kinds m)) own) e h.1 in
      let a : IsGenAnswer g words (asks (preds_of k) (kinds m)) r z own limits x = subst (λ (bag : List Word). IsGenAnswer g words (asks bag (kinds m)) r z own limits x) e h.2 in
      let to = follows m k more s in
      let back = follows k m less u in
      (own, told g words (preds_of k) r z own (kinds m) (kinds k) to back limits t, answer g words (preds_of k) r z own (kinds m) (kinds k) to back limits x a)
