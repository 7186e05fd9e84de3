-- What the program keeps of its words, as a form.
use Rattle.std.specs.Prelude.{List, ℕ, option_map}
use Rattle.std.specs.List.{Contains}
use Rattle.command_line.specs.declared.options.Options.{Options as CodeOptions}
use Rattle.command_line.specs.declared.tasks.CommandName.{CommandName}
use Rattle.command_line.specs.declared.tasks.Task.{Task as CodeTask}
use Rattle.command_line.specs.declared.tasks.Task.TheVariants as code
use Rattle.command_line.specs.declared.tasks.Command.{Command}
use Rattle.command_line.specs.declared.tasks.Command.TheVariants.{Help, HelpOn, Version, Run}
use Rattle.command_line.specs.Words.{Options, Task, parse, chart, explain, generate, types, expand, check, self_test, scope, batch, transfer, command_in, Form, help, help_on, version, run, IsForm}

-- the options that options of the program stand for
abbrev pub options_in : CodeOptions → Options
options_in o = record { workers = o.workers; edges = o.edges; readings = o.readings; lexical = o.lexical; unary = o.unary; empty = o.empty; settings = option_map (λ s. s.now) o.settings; mrs = o.mrs; lattice = o.lattice; verbose = o.verbose }

-- the task that a task of the program stands for
abbrev pub task : CodeTask → Task
task (code.Parse grammar) = parse grammar.now
task (code.Chart grammar) = chart grammar.now
task (code.Explain grammar) = explain grammar.now
task (code.Generate grammar) = generate grammar.now
task (code.Types grammar) = types grammar.now
task (code.Expand grammar entry) = expand grammar.now entry.now
task (code.Check grammar) = check grammar.now
task (code.SelfTest number size) = self_test number size
task code.Scope = scope
task (code.Batch grammar profile) = batch grammar.now profile.now
task (code.Transfer rules) = transfer rules.now

-- the form that a command of the program stands for
abbrev pub form : Command → Form
form Help = help
form (HelpOn command) = help_on command
form Version = version
form (Run t options) = run (task t) (options_in options)

-- the form's command, where it has one, is among these
abbrev pub IsAmong : List CommandName → Form → Type 0
IsAmong commands (run task options) = Contains commands (command_in task)
IsAmong commands (help_on command) = Contains commands command
IsAmong commands other = Unit {0}

-- The words are of this form in a program that has these commands alone.
abbrev pub IsFormAmong : List CommandName → List (List ℕ) → Form → Type 0
IsFormAmong commands words form = IsForm words form × IsAmong commands form
