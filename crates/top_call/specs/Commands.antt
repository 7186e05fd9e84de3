-- What the program does. A command is one case of `meaning_of`.
use Rattle.std.specs.Prelude.{◌≡◌, ◌++◌, ◌∷◌, [], ℕ, List, codes}
use Rattle.command_line.specs.Words.{Form, help, help_on, version, run, parse, chart, explain, generate, types, expand, check, self_test, scope, batch, transfer, Task, Options, AreWithin, IsWithin, in_range}
use Rattle.endings.specs.Meanings.{Meaning}
use Rattle.endings.specs.PlainTexts.{plain_meaning}
use Rattle.grammar_commands.specs.Commands.{types_meaning, expand_meaning, check_meaning}
use Rattle.line_commands.specs.Answers.{Asked}
use Rattle.line_commands.specs.Parsing.{parse_meaning}
use Rattle.line_commands.specs.Charting.{chart_meaning}
use Rattle.line_commands.specs.Explaining.{explain_meaning}
use Rattle.generate_commands.specs.Answers.{Bounds}
use Rattle.generate_commands.specs.Generating.{generate_meaning}
use Rattle.scope_commands.specs.Scoping.{scope_meaning}
use Rattle.self_tests.specs.SelfTests.{self_test_meaning}
use Rattle.profile_batch.specs.Batches.{batch_meaning}
use Rattle.transfer_commands.specs.Transferring.{transfer_meaning}
use Rattle.top_call.specs.Help.{help_page, page_on}

abbrev pub version_line : List ℕ
version_line = codes "lkb 0.1.0" ++ 10 ∷ []

-- what the options ask of a line that is parsed
abbrev pub asked_of : Options → Asked
asked_of o = record { limits = record { edges = o.edges; readings = o.readings; unary = o.unary }; lexical = o.lexical; lattice = o.lattice; mrs = o.mrs }

-- what they ask of a line that writes an MRS
abbrev pub bounds_of : Options → Bounds
bounds_of o = record { limits = (asked_of o).limits; lexical = o.lexical; empty = o.empty }

-- what a form of the command line asks for
abbrev pub meaning_of : Form → Meaning
meaning_of help = plain_meaning help_page
meaning_of (help_on command) = plain_meaning (page_on command)
meaning_of version = plain_meaning version_line
meaning_of (run (parse grammar) options) = parse_meaning grammar options.settings options.verbose (asked_of options)
meaning_of (run (chart grammar) options) = chart_meaning grammar options.settings options.verbose (asked_of options).limits options.lexical options.lattice
meaning_of (run (explain grammar) options) = explain_meaning grammar options.settings options.verbose options.mrs
meaning_of (run (generate grammar) options) = generate_meaning grammar options.settings options.verbose (bounds_of options)
meaning_of (run (types grammar) options) = types_meaning grammar options.settings options.verbose
meaning_of (run (expand grammar entry) options) = expand_meaning grammar entry options.settings options.verbose
meaning_of (run (check grammar) options) = check_meaning grammar options.settings options.verbose
meaning_of (run (self_test number size) options) = self_test_meaning number size (asked_of options).limits options.lexical
meaning_of (run scope options) = scope_meaning options.readings
meaning_of (run (batch grammar profile) options) = batch_meaning grammar options.settings options.verbose profile (asked_of options).limits options.lexical
meaning_of (run (transfer rules) options) = transfer_meaning rules options.settings options.verbose

-- the size of a workload is in its range
abbrev pub IsSized : Task → Type 0
IsSized task = (number size : ℕ) → task ≡ self_test number size → IsWithin (in_range 1 1000) size

-- the numbers of a form are in their ranges: those that its options give, and the size of a workload
abbrev pub IsInRange : Form → Type 0
IsInRange form = (task : Task) (options : Options) → form ≡ run task options → AreWithin options × IsSized task
