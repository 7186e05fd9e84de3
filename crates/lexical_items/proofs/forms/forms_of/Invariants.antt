use Rattle.std.proofs.Common.{[], map, take, string_bytes}
use Rattle.lexical_items.specs.Inner.Routes.{Puts, OfWords}
use Rattle.lexical_items.proofs.forms.forms_of.Given as goal

abbrev pub invariant-loop-word : goal.invariant-loop-word
invariant-loop-word l = Puts (OfWords l.spelling l.rule (map string_bytes (take l.word-index l.words))) [] (map string_bytes l.list.items)
