use Rattle.std.proofs.Common.{map, take, string_bytes}
use Rattle.lexicon.specs.Words.{Has}
use Rattle.spelling_rules.specs.Inner.Keeping.{Empty}
use Rattle.spelling_rules.proofs.table.has_word.Given as goal

abbrev pub invariant-loop-word : goal.invariant-loop-word
invariant-loop-word l = Has l.text (map string_bytes (take l.word-index l.words)) → Empty
