use Rattle.std.proofs.Common.{◌≡◌, ℕ, List, [], Bool, false, subst}
use Rattle.command_line.specs.Words.{Task, Options, parse, chart, explain, generate, types, expand, check, self_test, scope, batch, transfer, run}
use Rattle.endings.specs.Meanings.{Files}
use Rattle.endings.specs.Notes.{AreAllNotes}
use Rattle.endings.proofs.NoteLemmas.{quiet-notes}
use Rattle.line_commands.specs.Notes.{IsNote}
use Rattle.top_call.specs.Commands.{meaning_of, asked_of}
use Rattle.top_call.proofs.laws.nothing_noted.Goals as goal

pub returns : goal.returns
returns c = by_task
  where
    by_task : (task : Task) (options : Options) → options.verbose ≡ false → (files : Files) (gaps : Bool) (lines : List (List ℕ)) (text : List ℕ) → (meaning_of (run task options)).notes files gaps lines text → text ≡ []
    by_task (parse grammar) options quiet files gaps lines text n =
        let asked = asked_of options in
        let are = subst (λ v. AreAllNotes (IsNote v n.1 asked) gaps lines text) quiet n.4 in
        quiet-notes (IsNote false n.1 asked) (λ k line own e. e) gaps 1 lines text are
    by_task (chart grammar) options quiet files gaps lines text n = n
    by_task (explain grammar) options quiet files gaps lines text n = n
    by_task (generate grammar) options quiet files gaps lines text n = n
    by_task (types grammar) options quiet files gaps lines text n = n
    by_task (expand grammar entry) options quiet files gaps lines text n = n
    by_task (check grammar) options quiet files gaps lines text n = n
    by_task (self_test number size) options quiet files gaps lines text n = n
    by_task scope options quiet files gaps lines text n = n
    by_task (batch grammar profile) options quiet files gaps lines text n = n
    by_task (transfer rules) options quiet files gaps lines text n = n
