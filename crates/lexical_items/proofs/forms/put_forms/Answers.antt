use Rattle.std.proofs.Common.{◌<◌, length, map, string_bytes, subst, arith}
use Rattle.std.proofs.lemmas.Str.{IsUtf8-string_bytes}
use Rattle.lexicon.specs.Words.{Has, words_in}
use Rattle.spelling_rules.specs.Forms.{AreForms}
use Rattle.lexical_items.specs.Inner.Routes.{Puts}
use Rattle.lexical_items.proofs.Words.{puts_forms}
use Rattle.lexical_items.proofs.forms.put_forms.Goals as goal

pub returns : goal.returns
returns c =
    let word = string_bytes c.args.word.now in
    let some : 0 < length (string_bytes c.args.word.now) = grind arith in
    puts_forms c.args.spelling.now c.args.rule word (map string_bytes c.in_ok-forms.forms.items) (map string_bytes c.args.list.now.items) (map string_bytes c.put_all.new.list.items) c.requires.bound c.requires.rule (IsUtf8-string_bytes c.args.word.now) some
    (subst (λ w. AreForms c.args.spelling.now c.args.rule w (words_in c.in_ok-forms.forms)) c.deref.ensures c.in_ok-forms.ensures)
    (subst (λ l. Puts (λ x. Has x (map string_bytes l)) (map string_bytes c.args.list.now.items) (map string_bytes c.put_all.new.list.items)) c.deref-2.ensures.value c.in_ok-put_all.ensures)
