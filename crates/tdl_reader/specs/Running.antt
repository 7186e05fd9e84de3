-- The machine's reading of a file: its statements, or its first fault.
use Rattle.std.specs.Prelude.{ℕ, Bool, true, ◌&&◌, ◌==◌, if◌then◌else◌, List, [], ◌∷◌, Option, Some, None, Result, Ok, Err}
use Rattle.std.specs.Option.{is_some}
use Rattle.tdl_lexer.specs.declared.TokenKind.{TokenKind}
use Rattle.tdl_lexer.specs.declared.TokenKind.TheVariants.{Group}
use Rattle.tdl_reader.specs.declared.ReadFault.{ReadFault}
use Rattle.tdl_reader.specs.declared.ReadFault.TheVariants.{Unexpected, EndOfFile, TooDeep, BadAffix}
use Rattle.tdl_reader.specs.GroupScan.{read_group, read_letters}
use Rattle.tdl_reader.specs.Machine.{StageTree, letter, affixed, State, step, may_end, depth}
use Rattle.tdl_reader.specs.Reading.{opens}
use Rattle.tdl_reader.specs.Toks.{Tok}
use Rattle.tdl_reader.specs.Trees.{SetTree, StatementTree}

-- the group of a letter set or spelling rule has its form
abbrev pub has_form : List SetTree → StageTree → TokenKind → Tok → Bool
has_form sets (letter at) Group t = is_some (read_letters t.spelled)
has_form sets (affixed name at suffix groups) Group t = is_some (read_group sets t.spelled)
has_form _ _ _ _ = true

abbrev pub fault_beside : Bool → Bool → Option State → ℕ → Option ReadFault
fault_beside deep formed None at = Some (Unexpected at)
fault_beside deep formed (Some s) at = if deep then Some (TooDeep at) else (if formed then None else Some (BadAffix at))

-- the fault at a token
abbrev pub step_fault : State → Tok → Option ReadFault
step_fault s t = fault_beside (opens t.kind && (depth s.stage == 200)) (has_form s.done.sets s.stage t.kind t) (step s t) t.at

abbrev pub read_on : Option ReadFault → Option State → List Tok → Result (List StatementTree) ReadFault
read_on (Some f) o ts = Err f
read_on None None ts = Err EndOfFile
read_on None (Some s) [] = if may_end s.stage then Ok s.done.statements else Err EndOfFile
read_on None (Some s) (t ∷ ts) = read_on (step_fault s t) (step s t) ts

abbrev pub read_from : State → List Tok → Result (List StatementTree) ReadFault
read_from s ts = read_on None (Some s) ts
