-- What holds of trees that are written with the names of a grammar.
use Rattle.std.proofs.Common.{ℕ, ◌≡◌, ◌<◌, List, length, Some, refl, sym, subst, arith}
use Rattle.std.specs.Prelude.{slice_get, map}
use Rattle.std.proofs.lemmas.List.Elements.{All-weaker}
use Rattle.std.proofs.lemmas.Option.{slice_get_within}
use Rattle.chart_model.specs.At.{At}
use Rattle.derivation.specs.Trees.{Derivation, Daughters, lexical, phrase, no_more, first}
use Rattle.derivation.specs.Text.{IsNamed, AreNamed}
use Rattle.tree_model.specs.Signs.{Signs}
use Rattle.tree_model.specs.Trees.{LeavesAre, AllLeavesAre, leaf_is, leaves_are, no_leaves, more_leaves}
use Rattle.book_signs.specs.Trees.{entries_of, lexical_rules_of}
use Rattle.rule_trees.proofs.PlaceLemmas.{entry_places, lexical_places}
use Rattle.tree_structures.specs.Formed.{IsEntryAt, IsLexicalRuleAt, IsPhraseRuleOf, count_of, IsFormed, AreFormed}
use Rattle.tree_reading.specs.declared.Part.{Part}
use Rattle.tree_reading.specs.declared.Part.TheVariants.{Entry, LexicalRule, PhraseRule}
use Rattle.tree_reading.specs.Grammars.{count_daughters, IsOver, AreOver}
use Rattle.tree_faults.specs.declared.word_book.WordBook.{WordBook}
use Rattle.tree_faults.specs.WordBooks.{IsNumbered}
use Rattle.tree_names.specs.TreeGrammars.{part_of, tree_grammar}
use Rattle.tree_names.proofs.Parts.{part_there, of_entry, of_lexical_rule, of_phrase_rule}

module _ (g : Signs) where
  entry_there : (place : ℕ) → slice_get (map part_of g.instances) place ≡ Some Entry → IsEntryAt g place
  entry_there place e = let t = part_there g.instances place Entry e in record { instance = t.instance; at = t.at; kind_is = of_entry t.instance.kind (length t.instance.rule.places) t.part }

  lexical_there : (place : ℕ) → slice_get (map part_of g.instances) place ≡ Some LexicalRule → IsLexicalRuleAt g place
  lexical_there place e =
      let t = part_there g.instances place LexicalRule e in record { instance = t.instance; at = t.at; kind_is = of_lexical_rule t.instance.kind (length t.instance.rule.places) t.part }

  phrase_there : (place count : ℕ) → slice_get (map part_of g.instances) place ≡ Some (PhraseRule count) → IsPhraseRuleOf g place count
  phrase_there place count e =
      let t = part_there g.instances place (PhraseRule count) e in
      let k = of_phrase_rule t.instance.kind (length t.instance.rule.places) count t.part in
      record { rule = record { instance = t.instance; at = t.at; kind_is = k.0 }; arity = k.1 }

  same_count : (ds : Daughters) → count_daughters ds ≡ count_of ds
  same_count no_more = refl
  same_count (first d ds) = let e = same_count ds in omega (arith, e)

  module _ (names : List (List ℕ)) where
    mutual
      pub formed : (t : Derivation) → IsOver (tree_grammar g names) t → IsFormed g t
      formed (lexical entry rules words nodes) h =
          (entry_there entry h.0, All-weaker (λ r. slice_get (map part_of g.instances) r ≡ Some LexicalRule) (IsLexicalRuleAt g) lexical_there rules h.1)
      formed (phrase rule ds) h = (subst (IsPhraseRuleOf g rule) (same_count ds) (phrase_there rule (count_daughters ds) h.0), all_formed ds h.2)

      all_formed : (ds : Daughters) → AreOver (tree_grammar g names) ds → AreFormed g ds
      all_formed no_more h = tt
      all_formed (first d ds) h = (formed d h.0, all_formed ds h.1)

    module _ (b : WordBook) (entries : b.entries.now ≡ entries_of g) (rules_are : b.rules.now ≡ lexical_rules_of g) where
      entry_number : (place : ℕ) → slice_get (map part_of g.instances) place ≡ Some Entry → (n : ℕ) × At b.entries.now n place
      entry_number place e = let t = entry_there place e in subst (λ ps. (n : ℕ) × At ps n place) (sym entries) ((entry_places g).all place t.instance t.at t.kind_is)

      rule_number : (place : ℕ) → slice_get (map part_of g.instances) place ≡ Some LexicalRule → (n : ℕ) × At b.rules.now n place
      rule_number place e = let t = lexical_there place e in subst (λ ps. (n : ℕ) × At ps n place) (sym rules_are) ((lexical_places g).all place t.instance t.at t.kind_is)

      mutual
        pub numbered : (t : Derivation) → IsOver (tree_grammar g names) t → LeavesAre (IsNumbered b) t
        numbered (lexical entry rules words nodes) h =
            leaf_is (entry_number entry h.0, All-weaker (λ r. slice_get (map part_of g.instances) r ≡ Some LexicalRule) (λ r. (n : ℕ) × At b.rules.now n r) rule_number rules h.1)
        numbered (phrase rule ds) h = leaves_are (all_numbered ds h.2)

        all_numbered : (ds : Daughters) → AreOver (tree_grammar g names) ds → AllLeavesAre (IsNumbered b) ds
        all_numbered no_more h = no_leaves
        all_numbered (first d ds) h = more_leaves (numbered d h.0) (all_numbered ds h.1)

    module _ (each : length names ≡ length g.instances) where
      within : (place : ℕ) (p : Part) → slice_get (map part_of g.instances) place ≡ Some p → place < length names
      within place p e = let t = part_there g.instances place p e in subst (λ n. place < n) (sym each) (slice_get_within g.instances place t.instance t.at)

      mutual
        pub named : (t : Derivation) → IsOver (tree_grammar g names) t → IsNamed (length names) t
        named (lexical entry rules words nodes) h =
            (within entry Entry h.0, All-weaker (λ r. slice_get (map part_of g.instances) r ≡ Some LexicalRule) (λ r. r < length names) (λ r. within r LexicalRule) rules h.1)
        named (phrase rule ds) h = (within rule (PhraseRule (count_daughters ds)) h.0, all_named ds h.2)

        all_named : (ds : Daughters) → AreOver (tree_grammar g names) ds → AreNamed (length names) ds
        all_named no_more h = tt
        all_named (first d ds) h = (named d h.0, all_named ds h.1)
