use Rattle.std.proofs.Common.{map, string_bytes}
use Rattle.lexical_items.proofs.Chains.{some_words}
use Rattle.tree_faults.proofs.Numbered.{has_number, words_are}
use Rattle.tree_faults.proofs.word_book.WordBook.words_of.Goals as goal

pub words-requires : goal.words-requires
words-requires c = has_number c.args.self.now c.requires.book c.number_of-number.result c.number_of-number.ensures.within

pub returns-clause-words : goal.returns-clause-words
returns-clause-words c = words_are c.args.self.now c.requires.book c.number_of-number.result c.args.entry c.requires.entry c.number_of-number.ensures.number (map string_bytes c.words.result.now) c.words.ensures

pub returns-clause-some : goal.returns-clause-some
returns-clause-some c = some_words string_bytes c.args.self.now.lexicon.now c.requires.book.numbered.have_words c.number_of-number.result c.words.result.now c.words.ensures
