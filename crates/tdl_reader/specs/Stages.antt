-- The trees of the stages that the code holds.
use Rattle.std.specs.Prelude.{◌≡◌, true, false, ◌⊎◌, List, map, Option, Some, None, Vec}
use Rattle.std.specs.declared.alloc.Global.{Global}
use Rattle.tdl_reader.specs.declared.AffixGroup.{AffixGroup}
use Rattle.tdl_reader.specs.Trees.{GroupTree}
use Rattle.std.specs.Option.{option_map}
use Rattle.std.specs.String.{string_bytes}
use Rattle.tdl_lexer.specs.declared.TokenKind.{TokenKind}
use Rattle.tdl_reader.specs.declared.ReadFault.{ReadFault}
use Rattle.tdl_reader.specs.declared.ReadFault.TheVariants.{Unexpected, BadAffix, NoMemory}
use Rattle.tdl_reader.specs.declared.stages.Head.{Head}
use Rattle.tdl_reader.specs.declared.stages.Head.TheVariants.{Define, Add}
use Rattle.tdl_reader.specs.declared.stages.Past.{Past}
use Rattle.tdl_reader.specs.declared.stages.Stage.{Stage}
use Rattle.tdl_reader.specs.declared.stages.Stage.TheVariants.{Between, Lettered, Letter, Named, Defined, Affixed, Begin, BeginInstance, BeginStatus, End, Include, WantDot, InBody}
use Rattle.tdl_reader.specs.Machine.{HeadTree, to_define, to_add, StageTree, between, lettered, letter, named, defined, affixed, begin, begin_instance, begin_status, end, include, want_dot, in_body, PastTree, State, at_stage, stage_step, step}
use Rattle.tdl_reader.specs.Running.{has_form, step_fault}
use Rattle.tdl_reader.specs.States.{stack_of, point_of}
use Rattle.tdl_reader.specs.Toks.{Tok}
use Rattle.tdl_reader.specs.Views.{affix_of, group_in, statement_of, set_of}

abbrev pub head_of : Head → HeadTree
head_of (Define name at affix) = to_define (string_bytes name) at (option_map affix_of affix)
head_of (Add name at) = to_add (string_bytes name) at

abbrev pub groups_in : Vec AffixGroup Global → List GroupTree
groups_in v = map group_in v.items

abbrev pub stage_of : Stage → StageTree
stage_of Between = between
stage_of Lettered = lettered
stage_of (Letter at) = letter at
stage_of (Named name at) = named (string_bytes name) at
stage_of (Defined name at) = defined (string_bytes name) at
stage_of (Affixed name at suffix groups) = affixed (string_bytes name) at suffix (map group_in groups.items)
stage_of (Begin at) = begin at
stage_of (BeginInstance at) = begin_instance at
stage_of (BeginStatus at) = begin_status at
stage_of (End at) = end at
stage_of (Include at) = include at
stage_of (WantDot statement) = want_dot (statement_of statement)
stage_of (InBody head frames point) = in_body (head_of head) (stack_of frames.items) (point_of point)

abbrev pub IsStep : {S : Type 0} → Option S → Type 0
IsStep None = ⊥
IsStep (Some s) = Unit {0}

abbrev pub past_of : Past → PastTree
past_of done = record { statements = map statement_of done.statements.items; sets = map set_of done.sets.items }

-- a step that the machine does not have, a group out of form, or want of memory
abbrev pub IsStageStop : PastTree → StageTree → TokenKind → Tok → ReadFault → Type 0
IsStageStop done stage k t e =
    (e ≡ NoMemory) ⊎ (((e ≡ Unexpected t.at) × (stage_step done stage k t ≡ None))
    ⊎ ((e ≡ BadAffix t.at) × (IsStep (stage_step done stage k t) × (has_form done.sets stage k t ≡ false))))

-- the machine has the step, and the group its form
abbrev pub IsStageStep : PastTree → StageTree → TokenKind → Tok → PastTree → StageTree → Type 0
IsStageStep done stage k t new next = (stage_step done stage k t ≡ at_stage new next) × (has_form done.sets stage k t ≡ true)

-- the step has no fault
abbrev pub IsGood : State → Tok → State → Type 0
IsGood s t next = (step_fault s t ≡ None) × (step s t ≡ Some next)

abbrev pub IsFaultAt : State → Tok → ReadFault → Type 0
IsFaultAt s t e = (e ≡ NoMemory) ⊎ (step_fault s t ≡ Some e)
