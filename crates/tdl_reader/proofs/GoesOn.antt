-- From each state of the machine some tokens lead to a place where the file may end.
use Rattle.std.proofs.Common.{◌≡◌, ℕ, List, [], ◌∷◌, ◌++◌, map, ◌∙◌, refl, ap}
use Rattle.std.specs.Prelude.{true, Option, Some, codes}
use Rattle.tdl_lexer.specs.declared.TokenKind.{TokenKind}
use Rattle.tdl_lexer.specs.declared.TokenKind.TheVariants.{Name, Text, Directive, Group, Added, AvmCloses, ListCloses, DiffCloses, Dot, Dots}
use Rattle.tdl_reader.specs.Machine.{FrameTree, in_avm, in_list, in_tail, in_diff, PointTree, want_term, got_term, avm_begins, want_attr, got_feature, want_feature, list_begins, list_goes_on, want_close, diff_begins, diff_goes_on, BodyState, at_point, StageTree, between, lettered, letter, named, defined, affixed, begin, begin_instance, begin_status, end, include, want_dot, in_body, PastTree, State, at_stage, run_on, may_end}
use Rattle.tdl_reader.specs.Toks.{Tok}
use Rattle.tdl_reader.specs.Trees.{TermTree}
use Rattle.tdl_reader.proofs.Reached.{run_body}
use Rattle.tdl_reader.proofs.Spelled.{run_on_append, within_body}

-- a token of a kind, wherever it stands
abbrev tok : TokenKind → Tok
tok k = record { kind = k; spelled = []; at = 0 }

abbrev word : List ℕ → Tok
word cs = record { kind = Directive; spelled = cs; at = 0 }

-- what closes an open bracket
abbrev closer : FrameTree → Tok
closer (in_avm _ _ _ _) = tok AvmCloses
closer (in_list _ _ _) = tok ListCloses
closer (in_tail _ _ _) = tok ListCloses
closer (in_diff _ _ _) = tok DiffCloses

-- a whole body of some terms is reached
record Whole (o : Option BodyState) : Type 0 where
  front : List TermTree
  last : TermTree
  reached : o ≡ at_point [] (got_term front last)

all_close : (stack : List FrameTree) (xs : List TermTree) (x : TermTree) → Whole (run_body (at_point stack (got_term xs x)) (map closer stack))
all_close [] xs x = record { front = xs; last = x; reached = refl }
all_close (in_avm at attrs path out ∷ stack) xs x = all_close stack _ _
all_close (in_list at items out ∷ stack) xs x = all_close stack _ _
all_close (in_tail at items out ∷ stack) xs x = all_close stack _ _
all_close (in_diff at items out ∷ stack) xs x = all_close stack _ _

record BodyGoesOn (stack : List FrameTree) (point : PointTree) : Type 0 where
  rest : List Tok
  whole : Whole (run_body (at_point stack point) rest)

-- what makes a term of the point, and closes the brackets
body_goes_on : (stack : List FrameTree) (p : PointTree) → BodyGoesOn stack p
body_goes_on stack (want_term xs) = record { rest = tok Name ∷ map closer stack; whole = all_close stack _ _ }
body_goes_on stack (got_term xs x) = record { rest = map closer stack; whole = all_close stack xs x }
body_goes_on stack (avm_begins at out) = record { rest = tok AvmCloses ∷ map closer stack; whole = all_close stack _ _ }
body_goes_on stack (want_attr at attrs out) = record { rest = tok Name ∷ tok Name ∷ tok AvmCloses ∷ map closer stack; whole = all_close stack _ _ }
body_goes_on stack (got_feature at attrs path out) = record { rest = tok Name ∷ tok AvmCloses ∷ map closer stack; whole = all_close stack _ _ }
body_goes_on stack (want_feature at attrs path out) = record { rest = tok Name ∷ tok Name ∷ tok AvmCloses ∷ map closer stack; whole = all_close stack _ _ }
body_goes_on stack (list_begins at out) = record { rest = tok ListCloses ∷ map closer stack; whole = all_close stack _ _ }
body_goes_on stack (list_goes_on at items out) = record { rest = tok Dots ∷ tok ListCloses ∷ map closer stack; whole = all_close stack _ _ }
body_goes_on stack (want_close at items out) = record { rest = tok ListCloses ∷ map closer stack; whole = all_close stack _ _ }
body_goes_on stack (diff_begins at out) = record { rest = tok DiffCloses ∷ map closer stack; whole = all_close stack _ _ }
body_goes_on stack (diff_goes_on at items out) = record { rest = tok Name ∷ tok DiffCloses ∷ map closer stack; whole = all_close stack _ _ }

-- some tokens lead from a state to one where the file may end
pub record GoesOn (s : State) : Type 0 where
  pub rest : List Tok
  pub final : State
  pub run : run_on (Some s) rest ≡ Some final
  pub whole : may_end final.stage ≡ true

stage_goes_on : (done : PastTree) (stage : StageTree) → GoesOn (record { done = done; stage = stage })
unfolding lib.Utf8.encode
stage_goes_on done between = record { rest = []; final = _; run = refl; whole = refl }
stage_goes_on done lettered = record { rest = []; final = _; run = refl; whole = refl }
stage_goes_on done (letter at) = record { rest = tok Group ∷ []; final = _; run = refl; whole = refl }
stage_goes_on done (named name at) = record { rest = tok Added ∷ tok Name ∷ tok Dot ∷ []; final = _; run = refl; whole = refl }
stage_goes_on done (defined name at) = record { rest = tok Name ∷ tok Dot ∷ []; final = _; run = refl; whole = refl }
stage_goes_on done (affixed name at s []) = record { rest = tok Group ∷ tok Name ∷ tok Dot ∷ []; final = _; run = refl; whole = refl }
stage_goes_on done (affixed name at s (g ∷ gs)) = record { rest = tok Name ∷ tok Dot ∷ []; final = _; run = refl; whole = refl }
stage_goes_on done (begin at) = record { rest = word (codes ":type") ∷ tok Dot ∷ []; final = _; run = refl; whole = refl }
stage_goes_on done (begin_instance at) = record { rest = word (codes ":status") ∷ tok Name ∷ tok Dot ∷ []; final = _; run = refl; whole = refl }
stage_goes_on done (begin_status at) = record { rest = tok Name ∷ tok Dot ∷ []; final = _; run = refl; whole = refl }
stage_goes_on done (end at) = record { rest = word (codes ":type") ∷ tok Dot ∷ []; final = _; run = refl; whole = refl }
stage_goes_on done (include at) = record { rest = tok Text ∷ tok Dot ∷ []; final = _; run = refl; whole = refl }
stage_goes_on done (want_dot s) = record { rest = tok Dot ∷ []; final = _; run = refl; whole = refl }
stage_goes_on done (in_body head stack point) =
    let b = body_goes_on stack point in
    record {
      rest = b.rest ++ tok Dot ∷ [];
      final = _;
      run = run_on_append (at_stage done (in_body head stack point)) b.rest (tok Dot ∷ [])
          ∙ ap (λ o. run_on o (tok Dot ∷ [])) (within_body b.rest done head (record { stack = stack; point = point }) (record { stack = []; point = got_term b.whole.front b.whole.last }) b.whole.reached);
      whole = refl;
    }

pub goes_on : (s : State) → GoesOn s
goes_on s = stage_goes_on s.done s.stage
