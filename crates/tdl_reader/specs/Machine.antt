-- The reader as a machine on tokens: a stage of the statement that is being read, and within its body a stack of open brackets and a point within the innermost.
use Rattle.std.specs.Prelude.{ℕ, ◌+◌, Bool, true, false, ◌&&◌, if◌then◌else◌, List, [], ◌∷◌, ◌++◌, length, Option, Some, None, codes}
use Rattle.std.specs.Str.{bytes_eq}
use Rattle.tdl_lexer.specs.declared.TokenKind.{TokenKind}
use Rattle.tdl_lexer.specs.declared.TokenKind.TheVariants.{Name, Text, Symbol, Coref, Directive, LetterSet, Prefix, Suffix, Group, Defined, Added, And, AvmOpens, AvmCloses, ListOpens, ListCloses, DiffOpens, DiffCloses, Comma, Dot, Dots}
use Rattle.tdl_reader.specs.declared.Status.TheVariants.{TypeDef}
use Rattle.tdl_reader.specs.Grammar.{status_of}
use Rattle.tdl_reader.specs.GroupScan.{group_of, letters_of}
use Rattle.tdl_reader.specs.Toks.{Tok, value}
use Rattle.tdl_reader.specs.Trees.{TermTree, of_name, of_text, of_coref, of_avm, of_list, of_diff, BodyTree, no_attrs, no_items, closed, open_end, tail_of, AttrTree, body_of, attrs_of, items_of, SetTree, GroupTree, AffixTree, StatementTree, defines, adds, begins, ends, includes, letters}

-- an open bracket: its place, what stands in it so far, and the terms of the body around it
pub data FrameTree : Type 0 where
  in_avm : ℕ → List AttrTree → List (List ℕ) → List TermTree → FrameTree
  in_list : ℕ → List BodyTree → List TermTree → FrameTree
  in_tail : ℕ → List BodyTree → List TermTree → FrameTree
  in_diff : ℕ → List BodyTree → List TermTree → FrameTree

-- where the machine stands within the innermost bracket
pub data PointTree : Type 0 where
  want_term : List TermTree → PointTree
  got_term : List TermTree → TermTree → PointTree
  avm_begins : ℕ → List TermTree → PointTree
  want_attr : ℕ → List AttrTree → List TermTree → PointTree
  got_feature : ℕ → List AttrTree → List (List ℕ) → List TermTree → PointTree
  want_feature : ℕ → List AttrTree → List (List ℕ) → List TermTree → PointTree
  list_begins : ℕ → List TermTree → PointTree
  list_goes_on : ℕ → List BodyTree → List TermTree → PointTree
  want_close : ℕ → List BodyTree → List TermTree → PointTree
  diff_begins : ℕ → List TermTree → PointTree
  diff_goes_on : ℕ → List BodyTree → List TermTree → PointTree

pub record BodyState : Type 0 where
  pub stack : List FrameTree
  pub point : PointTree

abbrev pub at_point : List FrameTree → PointTree → Option BodyState
at_point stack point = Some (record { stack = stack; point = point })

-- a term begins here, in a body with these terms before it
abbrev pub term_step : List FrameTree → List TermTree → TokenKind → Tok → Option BodyState
term_step stack xs Name t = at_point stack (got_term xs (of_name (value t) t.at))
term_step stack xs Text t = at_point stack (got_term xs (of_text (value t) t.at))
term_step stack xs Symbol t = at_point stack (got_term xs (of_text (value t) t.at))
term_step stack xs Coref t = at_point stack (got_term xs (of_coref (value t) t.at))
term_step stack xs AvmOpens t = at_point stack (avm_begins t.at xs)
term_step stack xs ListOpens t = at_point stack (list_begins t.at xs)
term_step stack xs DiffOpens t = at_point stack (diff_begins t.at xs)
term_step stack xs _ t = None

-- attributes stand within `[`, the last with its value
abbrev pub attr_point : ℕ → List AttrTree → List TermTree → TokenKind → Option PointTree
attr_point at attrs out Comma = Some (want_attr at attrs out)
attr_point at attrs out AvmCloses = Some (got_term out (of_avm (attrs_of attrs) at))
attr_point at attrs out _ = None

-- items stand within `<!`
abbrev pub diff_point : ℕ → List BodyTree → List TermTree → TokenKind → Option PointTree
diff_point at items out Comma = Some (diff_goes_on at items out)
diff_point at items out DiffCloses = Some (got_term out (of_diff (items_of items) at))
diff_point at items out _ = None

-- the items and the rest of a list stand within `<`
abbrev pub tail_point : ℕ → List BodyTree → BodyTree → List TermTree → TokenKind → Option PointTree
tail_point at items b out ListCloses = Some (got_term out (of_list (items_of items) (tail_of b) at))
tail_point at items b out _ = None

-- items stand within `<`
abbrev pub item_step : List FrameTree → ℕ → List BodyTree → List TermTree → TokenKind → Option BodyState
item_step stack at items out Comma = at_point stack (list_goes_on at items out)
item_step stack at items out Dot = at_point (in_tail at items out ∷ stack) (want_term [])
item_step stack at items out ListCloses = at_point stack (got_term out (of_list (items_of items) closed at))
item_step stack at items out _ = None

abbrev pub at_maybe : List FrameTree → Option PointTree → Option BodyState
at_maybe stack None = None
at_maybe stack (Some p) = at_point stack p

-- a body stands within the innermost bracket
abbrev pub after_body : List FrameTree → BodyTree → TokenKind → Option BodyState
after_body [] b k = None
after_body (in_avm at attrs path out ∷ stack) b k = at_maybe stack (attr_point at (attrs ++ record { path = path; body = b } ∷ []) out k)
after_body (in_list at items out ∷ stack) b k = item_step stack at (items ++ b ∷ []) out k
after_body (in_tail at items out ∷ stack) b k = at_maybe stack (tail_point at items b out k)
after_body (in_diff at items out ∷ stack) b k = at_maybe stack (diff_point at (items ++ b ∷ []) out k)

abbrev pub point_step : List FrameTree → PointTree → TokenKind → Tok → Option BodyState
point_step stack (want_term xs) k t = term_step stack xs k t
point_step stack (got_term xs x) And t = at_point stack (want_term (xs ++ x ∷ []))
point_step stack (got_term xs x) k t = after_body stack (body_of xs x) k
point_step stack (avm_begins at out) Name t = at_point stack (got_feature at [] (value t ∷ []) out)
point_step stack (avm_begins at out) AvmCloses t = at_point stack (got_term out (of_avm no_attrs at))
point_step stack (want_attr at attrs out) Name t = at_point stack (got_feature at attrs (value t ∷ []) out)
point_step stack (got_feature at attrs path out) Dot t = at_point stack (want_feature at attrs path out)
point_step stack (got_feature at attrs path out) k t = term_step (in_avm at attrs path out ∷ stack) [] k t
point_step stack (want_feature at attrs path out) Name t = at_point stack (got_feature at attrs (path ++ value t ∷ []) out)
point_step stack (list_begins at out) ListCloses t = at_point stack (got_term out (of_list no_items closed at))
point_step stack (list_begins at out) Dots t = at_point stack (want_close at [] out)
point_step stack (list_begins at out) k t = term_step (in_list at [] out ∷ stack) [] k t
point_step stack (list_goes_on at items out) Dots t = at_point stack (want_close at items out)
point_step stack (list_goes_on at items out) k t = term_step (in_list at items out ∷ stack) [] k t
point_step stack (want_close at items out) ListCloses t = at_point stack (got_term out (of_list (items_of items) open_end at))
point_step stack (diff_begins at out) DiffCloses t = at_point stack (got_term out (of_diff no_items at))
point_step stack (diff_begins at out) k t = term_step (in_diff at [] out ∷ stack) [] k t
point_step stack (diff_goes_on at items out) k t = term_step (in_diff at items out ∷ stack) [] k t
point_step _ _ _ t = None

-- what a statement with a body says before it
pub data HeadTree : Type 0 where
  to_define : List ℕ → ℕ → Option AffixTree → HeadTree
  to_add : List ℕ → ℕ → HeadTree

abbrev pub with_body : HeadTree → BodyTree → StatementTree
with_body (to_define name at affix) b = defines name at affix b
with_body (to_add name at) b = adds name at b

-- where the machine stands within a statement
pub data StageTree : Type 0 where
  between : StageTree
  lettered : StageTree
  letter : ℕ → StageTree
  named : List ℕ → ℕ → StageTree
  defined : List ℕ → ℕ → StageTree
  affixed : List ℕ → ℕ → Bool → List GroupTree → StageTree
  begin : ℕ → StageTree
  begin_instance : ℕ → StageTree
  begin_status : ℕ → StageTree
  end : ℕ → StageTree
  include : ℕ → StageTree
  want_dot : StatementTree → StageTree
  in_body : HeadTree → List FrameTree → PointTree → StageTree

-- the statements so far, and their letter sets
pub record PastTree : Type 0 where
  pub statements : List StatementTree
  pub sets : List SetTree

abbrev pub with_statement : PastTree → StatementTree → PastTree
with_statement done s = record { statements = done.statements ++ s ∷ []; sets = done.sets }

abbrev pub with_letters : PastTree → SetTree → ℕ → PastTree
with_letters done set at = record { statements = done.statements ++ letters set at ∷ []; sets = done.sets ++ set ∷ [] }

pub record State : Type 0 where
  pub done : PastTree
  pub stage : StageTree

abbrev pub at_stage : PastTree → StageTree → Option State
at_stage done stage = Some (record { done = done; stage = stage })

abbrev pub has_bytes : List ℕ → List ℕ → Bool
has_bytes bs word = bytes_eq bs word

abbrev pub in_body_at : PastTree → HeadTree → Option BodyState → Option State
in_body_at done head None = None
in_body_at done head (Some b) = at_stage done (in_body head b.stack b.point)

abbrev pub directive_step : PastTree → Tok → Option State
directive_step done t =
    if has_bytes (value t) (codes "begin") then at_stage done (begin t.at)
    else (if has_bytes (value t) (codes "end") then at_stage done (end t.at)
    else (if has_bytes (value t) (codes "include") then at_stage done (include t.at) else None))

abbrev pub begin_step : PastTree → ℕ → Tok → Option State
begin_step done at t =
    if has_bytes (value t) (codes "type") then at_stage done (want_dot (begins TypeDef at))
    else (if has_bytes (value t) (codes "instance") then at_stage done (begin_instance at) else None)

abbrev pub end_step : PastTree → ℕ → Tok → Option State
end_step done at t =
    if has_bytes (value t) (codes "type") then at_stage done (want_dot (ends false at))
    else (if has_bytes (value t) (codes "instance") then at_stage done (want_dot (ends true at)) else None)

-- a statement begins here
abbrev pub first_step : PastTree → TokenKind → Tok → Option State
first_step done Name t = at_stage done (named (value t) t.at)
first_step done LetterSet t = at_stage done (letter t.at)
first_step done Directive t = directive_step done t
first_step done _ t = None

abbrev pub is_empty : {A : Type 0} → List A → Bool
is_empty [] = true
is_empty (x ∷ xs) = false

abbrev pub is_whole : PointTree → Bool
is_whole (got_term xs x) = true
is_whole _ = false

abbrev pub is_dot : TokenKind → Bool
is_dot Dot = true
is_dot _ = false

-- the token ends the body, and the statement with it
abbrev pub ends_body : List FrameTree → PointTree → TokenKind → Bool
ends_body stack point k = is_dot k && (is_empty stack && is_whole point)

abbrev pub finish : PastTree → HeadTree → PointTree → Option State
finish done head (got_term xs x) = at_stage (with_statement done (with_body head (body_of xs x))) between
finish done head _ = None

abbrev pub body_step : PastTree → HeadTree → List FrameTree → PointTree → TokenKind → Tok → Option State
body_step done head stack point k t = if ends_body stack point k then finish done head point else in_body_at done head (point_step stack point k t)

-- the body after the groups of a spelling rule, of which there is one
abbrev pub groups_step : PastTree → List ℕ → ℕ → Bool → List GroupTree → TokenKind → Tok → Option State
groups_step done name at suffix groups k t = if is_empty groups then None else in_body_at done (to_define name at (Some (record { suffix = suffix; groups = groups }))) (term_step [] [] k t)

abbrev pub stage_step : PastTree → StageTree → TokenKind → Tok → Option State
stage_step done between k t = first_step done k t
stage_step done lettered Dot t = at_stage done between
stage_step done lettered k t = first_step done k t
stage_step done (letter at) Group t = at_stage (with_letters done (letters_of t.spelled) at) lettered
stage_step done (named name at) Defined t = at_stage done (defined name at)
stage_step done (named name at) Added t = at_stage done (in_body (to_add name at) [] (want_term []))
stage_step done (defined name at) Prefix t = at_stage done (affixed name at false [])
stage_step done (defined name at) Suffix t = at_stage done (affixed name at true [])
stage_step done (defined name at) k t = in_body_at done (to_define name at None) (term_step [] [] k t)
stage_step done (affixed name at suffix groups) Group t = at_stage done (affixed name at suffix (groups ++ group_of done.sets t.spelled ∷ []))
stage_step done (affixed name at suffix groups) k t = groups_step done name at suffix groups k t
stage_step done (begin at) Directive t = begin_step done at t
stage_step done (begin_instance at) Directive t = if has_bytes (value t) (codes "status") then at_stage done (begin_status at) else None
stage_step done (begin_status at) Name t = at_stage done (want_dot (begins (status_of (value t)) at))
stage_step done (end at) Directive t = end_step done at t
stage_step done (include at) Text t = at_stage done (want_dot (includes (value t) at))
stage_step done (want_dot s) Dot t = at_stage (with_statement done s) between
stage_step done (in_body head stack point) k t = body_step done head stack point k t
stage_step _ _ _ t = None

abbrev pub step : State → Tok → Option State
step s t = stage_step s.done s.stage t.kind t

abbrev pub run_on : Option State → List Tok → Option State
run_on None ts = None
run_on (Some s) [] = Some s
run_on (Some s) (t ∷ ts) = run_on (step s t) ts

abbrev pub begun : State
begun = record { done = record { statements = []; sets = [] }; stage = between }

-- whether the tokens may end here
abbrev pub may_end : StageTree → Bool
may_end between = true
may_end lettered = true
may_end _ = false

-- how many brackets are open
abbrev pub point_depth : PointTree → ℕ
point_depth (want_term _) = 0
point_depth (got_term _ _) = 0
point_depth _ = 1

abbrev pub depth : StageTree → ℕ
depth (in_body head stack point) = length stack + point_depth point
depth _ = 0
