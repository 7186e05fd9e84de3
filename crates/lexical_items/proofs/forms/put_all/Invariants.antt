use Rattle.std.proofs.Common.{map, take, string_bytes}
use Rattle.lexicon.specs.Words.{Has}
use Rattle.lexical_items.specs.Inner.Routes.{Puts}
use Rattle.lexical_items.proofs.forms.put_all.Given as goal

abbrev pub invariant-loop-word : goal.invariant-loop-word
invariant-loop-word l = Puts (λ x. Has x (map string_bytes (take l.word-index l.words))) (map string_bytes l.initial.list.items) (map string_bytes l.list.items)
