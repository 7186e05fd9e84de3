-- Which kinds of tokens follow one another.
use Rattle.std.specs.Prelude.{◌≡◌, Bool, true, false, List, [], ◌∷◌, map, Option, Some, None}
use Rattle.mrs_spelling.specs.declared.kinds.Kind.{Kind}
use Rattle.mrs_spelling.specs.declared.kinds.Kind.TheVariants.{Top, Index, PropName, PropValue, PredRun, PredText, Link, Role, Filler, OpensText, Text, EpEnd, High, HandleRel, Low, Left, VariableRel, Right}
use Rattle.mrs_reading.specs.Meaning.{Piece}
use Rattle.mrs_spelling.specs.Forms.{Form, nothing, sign, seq, many, either, token}

-- what was read last: outside of elementary predications and constraints, in an elementary predication, after a role, and so on
pub data Stage : Type 0 where
  begun : Stage
  topped : Stage
  outside : Stage
  in_ep : Stage
  at_role : Stage
  at_text : Stage
  at_high : Stage
  at_handle_rel : Stage
  at_left : Stage
  at_variable_rel : Stage
  -- the name of a property, and what was read before it
  named : Stage → Stage

abbrev pub named_after : Stage → Option Stage
named_after begun = None
named_after (named s) = None
named_after s = Some (named s)

abbrev pub valued_after : Stage → Option Stage
valued_after (named s) = Some s
valued_after _ = None

abbrev pub only_after : Bool → Stage → Option Stage
only_after true s = Some s
only_after false s = None

abbrev pub same_stage : Stage → Stage → Bool
same_stage begun begun = true
same_stage topped topped = true
same_stage outside outside = true
same_stage in_ep in_ep = true
same_stage at_role at_role = true
same_stage at_text at_text = true
same_stage at_high at_high = true
same_stage at_handle_rel at_handle_rel = true
same_stage at_left at_left = true
same_stage at_variable_rel at_variable_rel = true
same_stage (named s) (named t) = same_stage s t
same_stage _ _ = false

abbrev pub step : Stage → Kind → Option Stage
step s PropName = named_after s
step s PropValue = valued_after s
step s Top = only_after (same_stage s begun) topped
step s Index = only_after (same_stage s topped) outside
step s PredRun = only_after (same_stage s outside) in_ep
step s PredText = only_after (same_stage s outside) in_ep
step s Link = only_after (same_stage s in_ep) in_ep
step s Role = only_after (same_stage s in_ep) at_role
step s Filler = only_after (same_stage s at_role) in_ep
step s OpensText = only_after (same_stage s at_role) at_text
step s Text = only_after (same_stage s at_text) in_ep
step s EpEnd = only_after (same_stage s in_ep) outside
step s High = only_after (same_stage s outside) at_high
step s HandleRel = only_after (same_stage s at_high) at_handle_rel
step s Low = only_after (same_stage s at_handle_rel) outside
step s Left = only_after (same_stage s outside) at_left
step s VariableRel = only_after (same_stage s at_left) at_variable_rel
step s Right = only_after (same_stage s at_variable_rel) outside

abbrev pub stage_after : Option Stage → List Kind → Option Stage
stage_after o [] = o
stage_after None (k ∷ ks) = None
stage_after (Some s) (k ∷ ks) = stage_after (step s k) ks

abbrev pub kinds_in : List Piece → List Kind
kinds_in ps = map (λ p. p.kind) ps

-- tokens of these kinds follow one another
abbrev pub Follow : List Kind → Type 0
Follow ks = (s : Stage) × (stage_after (Some begun) ks ≡ Some s)

-- the stage after a form
abbrev pub if_same : Option Stage → Stage → Option Stage
if_same None s = None
if_same (Some t) s = only_after (same_stage t s) s

abbrev pub both_same : Option Stage → Option Stage → Option Stage
both_same None o = None
both_same (Some s) o = if_same o s

abbrev pub then_stage : Option Stage → (Stage → Option Stage) → Option Stage
then_stage None f = None
then_stage (Some s) f = f s

abbrev pub stage_of : Form → Stage → Option Stage
stage_of nothing s = Some s
stage_of (sign x) s = Some s
stage_of (seq p q) s = then_stage (stage_of p s) (stage_of q)
stage_of (many x p) s = if_same (stage_of p s) s
stage_of (either x p q) s = both_same (stage_of p s) (stage_of q s)
stage_of (token k p) s = then_stage (stage_of p s) (λ t. step t k)
