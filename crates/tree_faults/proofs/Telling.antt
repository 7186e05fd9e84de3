-- What is told of a tree's first node without a structure, and of the first that doesn't spell its words, has names.
use Rattle.std.specs.Prelude.{ℕ, ◌≡◌, ◌<◌, All, Option, Some, String, List, [], ◌∷◌, ◌++◌, length, map, replicate, slice_get, string_bytes}
use Rattle.std.proofs.Common.{refl, sym, ap, subst, ◌∙◌, Vec, Global}
use Rattle.std.specs.Arc.{arc_value}
use Rattle.std.specs.declared.sync.Arc.{Arc}
use Rattle.std.proofs.lemmas.List.Elements.{All-head, All-tail}
use Rattle.std.proofs.lemmas.Option.{slice_get_within}
use Rattle.derivation.specs.Trees.{Derivation, Daughters, lexical}
use Rattle.derivation.specs.Order.{outermost}
use Rattle.derivation.specs.Views.{derivation_of}
use Rattle.derivation.specs.declared.Tree.{Tree}
use Rattle.derivation.specs.declared.Tree.TheVariants.{Lexical}
use Rattle.derivation.proofs.Rows.{derivation_of-Lexical}
use Rattle.tree_model.specs.Structures.{Structure}
use Rattle.tree_model.specs.Mothers.{Rule}
use Rattle.tree_model.specs.Signs.{Signs, Instance}
use Rattle.tree_model.specs.Lexical.{Word, Words}
use Rattle.tree_model.specs.Trees.{Full}
use Rattle.book_signs.specs.Trees.{SignTree, signs_of}
use Rattle.rule_trees.specs.Fulls.{FullTree}
use Rattle.forced_types.specs.Verdicts.{Verdict, Fits, Clash, TooLong}
use Rattle.forced_types.specs.Views.{verdict_of}
use Rattle.tree_structures.specs.Formed.{IsEntryAt, IsLexicalRuleAt, IsFormed, AreFormed}
use Rattle.tree_faults.specs.declared.explaining.Explanation.{Explanation}
use Rattle.tree_structures.specs.Known.{view_of}
use Rattle.tree_faults.specs.declared.making.Lack.{Lack}
use Rattle.tree_faults.specs.declared.making.Outcome.TheVariants as outcomes
use Rattle.tree_faults.specs.Nodes.{Place, IsDaughterAt, daughter_here, daughter_later, instance_of, IsMadeOf, made_of_entry, made_of_lexical, made_of_phrase}
use Rattle.tree_faults.specs.Spelled.{FailsWithin, no_form, other_words, IsLeafAt, leaf_here, leaf_below, IsFirstMisspelled}
use Rattle.tree_faults.specs.Explained.{IsFirstWithout, IsExplained}
use Rattle.tree_faults.specs.Views.{explanation_of, IsExplainedNamed}
use Rattle.tree_faults.specs.Inner.Structures.{IsNamedVerdict, LacksAt, HasOrLacks, told_by}
use Rattle.tree_faults.specs.Inner.Found.{IsFault}
use Rattle.tree_faults.proofs.Lacking.{outermost_last}

module _ (g : Signs) where
  below : (place : ℕ) {i : Instance} → slice_get g.instances place ≡ Some i → place < length g.instances
  below place {i} at = slice_get_within g.instances place i at

  made_below : {node : Derivation} {rule : Rule} {fs : List Structure} → IsMadeOf g node rule fs → instance_of node < length g.instances
  made_below (made_of_entry {entry = entry} i at) = below entry at
  made_below (made_of_lexical {entry = entry} rules rule i f at x) = subst (λ n. n < length g.instances) (sym (outermost_last entry rules rule)) (below rule at)
  made_below (made_of_phrase {rule = rule} i fs at xs) = below rule at

  outermost_below : (entry : ℕ) (rules : List ℕ) → entry < length g.instances → All (IsLexicalRuleAt g) rules → outermost entry rules < length g.instances
  outermost_below entry [] low all = low
  outermost_below entry (rule ∷ rules) low all = outermost_below rule rules (below rule (All-head (IsLexicalRuleAt g) rule rules all).at) (All-tail (IsLexicalRuleAt g) rule rules all)

  one_of : (before : List ℕ) (rule : ℕ) (after : List ℕ) → All (IsLexicalRuleAt g) (before ++ rule ∷ after) → rule < length g.instances
  one_of [] rule after all = below rule (All-head (IsLexicalRuleAt g) rule after all).at
  one_of (r ∷ before) rule after all = one_of before rule after (All-tail (IsLexicalRuleAt g) r (before ++ rule ∷ after) all)

  fails_below : {words : Words} {entry : ℕ} {rules : List ℕ} {said : List Word} {place : Place} {instance : ℕ} → IsEntryAt g entry → All (IsLexicalRuleAt g) rules → FailsWithin words entry rules said place instance → instance < length g.instances
  fails_below e all (no_form before rule after has none) = one_of before rule after all
  fails_below {entry = entry} {rules = rules} e all (other_words has not) = outermost_below entry rules (below entry e.at) all

  daughter_formed : {ds : Daughters} {n : ℕ} {d : Derivation} → AreFormed g ds → IsDaughterAt ds n d → IsFormed g d
  daughter_formed h daughter_here = h.0
  daughter_formed h (daughter_later at) = daughter_formed h.1 at

  leaf_formed : {t leaf : Derivation} {place : Place} → IsFormed g t → IsLeafAt t place leaf → IsFormed g leaf
  leaf_formed h leaf_here = h
  leaf_formed h (leaf_below d at) = leaf_formed (daughter_formed h.1 d) at

  pub misspelled_below : {words : Words} {t : Derivation} {place : Place} {instance : ℕ} → IsFormed g t → IsFirstMisspelled words t place instance → instance < length g.instances
  misspelled_below h x = let f = leaf_formed h x.leaf in fails_below f.0 f.1 x.fails

module _ (t : SignTree) (tree : Derivation) (place : Place) (instance : ℕ) where
  told_of : (words : Words) (v : Verdict) → (v ≡ Fits → ⊥) → IsFirstWithout (signs_of t) tree place instance v → IsExplained (signs_of t) words tree (told_by place instance v)
  told_of words Fits unfit x = absurd (unfit refl)
  told_of words (Clash p a b) unfit x = x
  told_of words (TooLong p) unfit x = x

  named_of : (v : Verdict) → instance < length (signs_of t).instances → IsNamedVerdict t.book.system v → IsExplainedNamed t.book.system.types (length t.book.system.introducers) (length (signs_of t).instances) (told_by place instance v)
  named_of Fits low h = tt
  named_of (Clash p a b) low h = (low, h.0, h.1, h.2)
  named_of (TooLong p) low h = (low, h)

pub fault_of : (t : SignTree) (tree : Derivation) (place : Place) (lack : Lack) (e : Explanation) → LacksAt t tree place lack → explanation_of e ≡ told_by place lack.instance (verdict_of lack.verdict) → IsFault t tree e
fault_of t tree place lack e is same =
    let g = signs_of t in
    let v = verdict_of lack.verdict in
    let low : lack.instance < length g.instances = subst (λ n. n < length g.instances) is.first.named (made_below g is.first.made_of) in
    record {
      explains = λ words. subst (IsExplained g words tree) (sym same) (told_of t tree place lack.instance words v is.refusal.unfit is.first);
      named = subst (IsExplainedNamed t.book.system.types (length t.book.system.introducers) (length g.instances)) (sym same) (named_of t tree place lack.instance v low is.refusal.named);
    }

-- a lexical tree, as the program has it
module _ (entry : ℕ) (rules : Arc (Vec ℕ Global) Global) (words : Arc (Vec (String Global) Global) Global) (nodes : Option (ℕ × ℕ)) (tree : Tree) (read : List ℕ)
    (is : tree ≡ Lexical entry rules words nodes) (same : read ≡ (arc_value rules).items) where
  abbrev said : List Word
  said = map string_bytes (arc_value words).items

  lexical_is : derivation_of tree ≡ lexical entry read said nodes
  lexical_is = ap derivation_of is ∙ derivation_of-Lexical entry rules words nodes ∙ ap (λ rs. lexical entry rs said nodes) (sym same)

  module _ (t : SignTree) where
    pub lexical_formed : IsFormed (signs_of t) (derivation_of tree) → IsEntryAt (signs_of t) entry × All (IsLexicalRuleAt (signs_of t)) read
    lexical_formed h = subst (IsFormed (signs_of t)) lexical_is h

    pub lexical_has : (full : Arc FullTree Global) → ((ws : List Word) (n : Option (ℕ × ℕ)) → HasOrLacks t (lexical entry read ws n) (outcomes.Full full)) → Full (signs_of t) (derivation_of tree) (view_of t full)
    lexical_has full h = subst (λ d. Full (signs_of t) d (view_of t full)) (sym lexical_is) (h said nodes)

    pub lexical_lacks : (place : Place) (lack : Lack) (e : Explanation) → ((ws : List Word) (n : Option (ℕ × ℕ)) → HasOrLacks t (lexical entry read ws n) (outcomes.Lacking lack)) →
        place ≡ replicate lack.depth 1 → explanation_of e ≡ told_by place lack.instance (verdict_of lack.verdict) → IsFault t (derivation_of tree) e
    lexical_lacks place lack e h at told =
        let there : LacksAt t (lexical entry read said nodes) place lack = subst (λ p. LacksAt t (lexical entry read said nodes) p lack) (sym at) (h said nodes) in
        fault_of t (derivation_of tree) place lack e (subst (λ d. LacksAt t d place lack) (sym lexical_is) there) told
