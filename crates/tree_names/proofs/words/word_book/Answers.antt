use Rattle.std.proofs.Common.{sym, subst}
use Rattle.constraint_expand.specs.declared.books.Book.{Book}
use Rattle.lexical_items.specs.Said.{AreNumbered, words_said}
use Rattle.book_signs.specs.Signed.{IsSignsOf}
use Rattle.book_signs.specs.Trees.{signs_of, entries_of}
use Rattle.grammar_load.specs.Views.{grammar_of}
use Rattle.rule_trees.proofs.PlaceLemmas.{entry_places, lexical_places}
use Rattle.tree_faults.specs.WordBooks.{Rise}
use Rattle.tree_names.proofs.Counts.{numbered}
use Rattle.tree_names.proofs.words.word_book.Goals as goal

pub returns-clause-whole : goal.returns-clause-whole
returns-clause-whole c =
    let g = signs_of c.args.signs.now in
    let is = subst (λ (b : Book). IsSignsOf b g) c.requires.book c.laws.ensures.signs in
    let n = numbered (grammar_of c.args.grammar.now) g c.requires.loaded is in
    record {
      entries_rise = subst Rise (sym c.entries.ensures) (entry_places g).rising;
      rules_rise = subst Rise (sym c.lexical_rules.ensures) (lexical_places g).rising;
      numbered = subst (λ es. AreNumbered es c.lexical_rules.result.now c.args.grammar.now.lexicon c.args.grammar.now.spelling) (sym c.entries.ensures)
          (subst (λ rs. AreNumbered (entries_of g) rs c.args.grammar.now.lexicon c.args.grammar.now.spelling) (sym c.lexical_rules.ensures) n);
      bound = c.requires.loaded.spelled;
    }

pub returns-clause-said : goal.returns-clause-said
returns-clause-said c = λ k. words_said (c.entries.ensures k) (c.lexical_rules.ensures k) c.args.grammar.now.lexicon c.args.grammar.now.spelling
