use Rattle.std.proofs.Common.{◌∙◌, ℕ, sym, List}
use Rattle.command_line.specs.Words.{Form, help, help_on, version, run, parse, chart, explain, generate, types, expand, check, self_test, scope, batch, transfer}
use Rattle.endings.specs.Meanings.{Lawful}
use Rattle.endings.specs.PlainTexts.{plain_meaning}
use Rattle.top_call.specs.Commands.{meaning_of, asked_of, bounds_of}
use Rattle.top_call.proofs.laws.built_lawful.Goals as goal

plain : (text : List ℕ) → Lawful (plain_meaning text)
plain text = record {
  loads = λ files lines pieces refused r. tt;
  gaps_load = λ files lines pieces wanting r. tt;
  no_gap = λ files lines pieces r. (r.1, r.2);
  one_first = λ files f g a b. absurd a;
  not_both = λ files f l a. a;
  one_report = λ files lines pieces others refused may p q. (p.0 ∙ sym q.0, p.1 ∙ sym q.1);
  one_notes = λ files lines text other p q. p ∙ sym q;
  calm = λ h f x none. x.0;
}

pub returns : goal.returns
returns c = by_cases
  where
    by_cases : (form : Form) → Lawful (meaning_of form)
    by_cases help = plain _
    by_cases (help_on command) = plain _
    by_cases version = plain _
    by_cases (run (parse grammar) options) = c.parse_lawful.ensures grammar options.settings options.verbose (asked_of options)
    by_cases (run (chart grammar) options) = c.chart_lawful.ensures grammar options.settings options.verbose (asked_of options).limits options.lexical options.lattice
    by_cases (run (explain grammar) options) = c.explain_lawful.ensures grammar options.settings options.verbose options.mrs
    by_cases (run (generate grammar) options) = c.generate_lawful.ensures grammar options.settings options.verbose (bounds_of options)
    by_cases (run (types grammar) options) = c.types_lawful.ensures grammar options.settings options.verbose
    by_cases (run (expand grammar entry) options) = c.expand_lawful.ensures grammar entry options.settings options.verbose
    by_cases (run (check grammar) options) = c.check_lawful.ensures grammar options.settings options.verbose
    by_cases (run (self_test number size) options) = c.self_test_lawful.ensures number size (asked_of options).limits options.lexical
    by_cases (run scope options) = c.scope_lawful.ensures options.readings
    by_cases (run (batch grammar profile) options) = c.batch_lawful.ensures grammar options.settings options.verbose profile (asked_of options).limits options.lexical
    by_cases (run (transfer rules) options) = c.transfer_lawful.ensures rules options.settings options.verbose
