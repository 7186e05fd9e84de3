use Rattle.std.proofs.Common.{◌∙◌, ◌++◌, ap, map, string_bytes}
use Rattle.spelling_rules.specs.Views.{stems_in, words_in}
use Rattle.spelling_rules.specs.Inner.Keeping.{stem_under}
use Rattle.spelling_rules.proofs.OrderLemmas.{stems_more}
use Rattle.spelling_rules.proofs.spelling.Spelling.add_all.Goals as goal

pub returns : goal.returns
returns c =
    stems_more c.args.self.now c.args.rule c.args.form.now (stems_in c.args.out.now) (stems_in c.add_under.new.out) (words_in c.in_ok-stems.stems)
    (c.in_ok-add_under.ensures ∙ ap (λ l. stems_in c.args.out.now ++ map (stem_under c.args.rule) (map string_bytes l)) c.deref.ensures.value) c.in_ok-stems.ensures
