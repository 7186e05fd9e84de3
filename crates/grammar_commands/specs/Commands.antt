-- What the commands over a grammar are to do.
use Rattle.std.specs.Prelude.{◌≡◌, ℕ, List, [], ◌∷◌, Option, Bool, true, false}
use Rattle.endings.specs.Meanings.{Meaning, gapless, no_notes}
use Rattle.grammar_load.specs.Loaded.{GrammarTree}
use Rattle.command_files.specs.Grammars.{HasGrammar, IsFirstFault}
use Rattle.grammar_commands.specs.Expansions.{IsExpansion}
use Rattle.grammar_commands.specs.TypeReports.{type_lines}
use Rattle.grammar_commands.specs.Checks.{check_line}

-- A command that reads no lines: its report is one on the grammar of its files. Its first fault is that of the grammar; `verbose` says whether
-- more is told of it.
abbrev pub grammar_meaning : (GrammarTree → List (List ℕ) → Bool → Type 0) → List ℕ → Option (List ℕ) → Bool → Meaning
grammar_meaning reports name settings verbose = record {
  opens = true;
  reads = false;
  loadable = λ files. (g : GrammarTree) × HasGrammar files name settings g;
  first = IsFirstFault name settings verbose;
  report = λ files lines pieces refused. (g : GrammarTree) × HasGrammar files name settings g × reports g pieces refused;
  with_gaps = gapless (λ files lines pieces refused. (g : GrammarTree) × HasGrammar files name settings g × reports g pieces refused);
  notes = no_notes;
}

-- `types`: a line for each completed type
abbrev pub TypesReport : GrammarTree → List (List ℕ) → Bool → Type 0
TypesReport g pieces refused = (pieces ≡ type_lines g.book.system.types) × (refused ≡ false)

-- `check`: one line that counts the grammar
abbrev pub CheckReport : GrammarTree → List (List ℕ) → Bool → Type 0
CheckReport g pieces refused = (pieces ≡ check_line g.book ∷ []) × (refused ≡ false)

-- `expand`: the structure of what a name stands for, which is refused where it stands for nothing
abbrev pub ExpandReport : List ℕ → GrammarTree → List (List ℕ) → Bool → Type 0
ExpandReport entry g pieces refused = IsExpansion g entry pieces refused

abbrev pub types_meaning : List ℕ → Option (List ℕ) → Bool → Meaning
types_meaning = grammar_meaning TypesReport

abbrev pub check_meaning : List ℕ → Option (List ℕ) → Bool → Meaning
check_meaning = grammar_meaning CheckReport

abbrev pub expand_meaning : List ℕ → List ℕ → Option (List ℕ) → Bool → Meaning
expand_meaning name entry settings verbose = grammar_meaning (ExpandReport entry) name settings verbose
