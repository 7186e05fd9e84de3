-- How many brackets are open after a run is the nesting of its tokens.
use Rattle.std.proofs.Common.{◌≡◌, ℕ, ◌+◌, List, [], ◌∷◌, length, sym, ◌∙◌, refl, ap, subst, arith}
use Rattle.std.proofs.lemmas.Bool.{false≢true}
use Rattle.std.proofs.lemmas.Option.{none-some, same_Some}
use Rattle.std.proofs.lemmas.List.Sums.{sum_by-cons}
use Rattle.std.specs.Prelude.{Bool, true, false, if◌then◌else◌, Option, Some, None, codes}
use Rattle.std.proofs.Common.{cond}
use Rattle.std.specs.List.{count_by}
use Rattle.tdl_lexer.specs.declared.TokenKind.{TokenKind}
use Rattle.tdl_lexer.specs.declared.TokenKind.TheVariants.{Name, Text, Symbol, Coref, Directive, LetterSet, Prefix, Suffix, Group, Defined, Added, And, AvmOpens, AvmCloses, ListOpens, ListCloses, DiffOpens, DiffCloses, Comma, Dot, Dots}
use Rattle.tdl_reader.specs.Machine.{FrameTree, in_avm, in_list, in_tail, in_diff, PointTree, want_term, got_term, avm_begins, want_attr, got_feature, want_feature, list_begins, list_goes_on, want_close, diff_begins, diff_goes_on, BodyState, term_step, after_body, point_step, HeadTree, to_define, StageTree, between, lettered, letter, named, defined, affixed, begin, begin_instance, begin_status, end, include, want_dot, in_body, PastTree, State, in_body_at, at_stage, ends_body, finish, body_step, groups_step, first_step, stage_step, step, run_on, has_bytes, point_depth, depth, begun}
use Rattle.tdl_reader.specs.Reading.{opens, closes, nesting}
use Rattle.tdl_reader.specs.Toks.{Tok, value}
use Rattle.tdl_reader.specs.Trees.{BodyTree, GroupTree, begins, ends}
use Rattle.tdl_reader.specs.declared.Status.TheVariants.{TypeDef}

abbrev pub up : TokenKind → ℕ
up k = cond (opens k) 1 0

abbrev down : TokenKind → ℕ
down k = cond (closes k) 1 0

-- a step within a body from this depth
abbrev Steps : Option BodyState → ℕ → TokenKind → Type 0
Steps None d k = Unit {0}
Steps (Some b) d k = (length b.stack + point_depth b.point) + down k ≡ d + up k

term_steps : (stack : List FrameTree) (xs : _) (k : TokenKind) (t : Tok) → Steps (term_step stack xs k t) (length stack) k
term_steps stack xs Name t = omega arith
term_steps stack xs Text t = omega arith
term_steps stack xs Symbol t = omega arith
term_steps stack xs Coref t = omega arith
term_steps stack xs AvmOpens t = omega arith
term_steps stack xs ListOpens t = omega arith
term_steps stack xs DiffOpens t = omega arith
term_steps stack xs _ t = tt

body_steps : (stack : List FrameTree) (b : BodyTree) (k : TokenKind) → Steps (after_body stack b k) (length stack) k
body_steps [] b k = tt
body_steps (in_avm at attrs path out ∷ stack) b Comma = omega arith
body_steps (in_avm at attrs path out ∷ stack) b AvmCloses = omega arith
body_steps (in_avm at attrs path out ∷ stack) b _ = tt
body_steps (in_list at items out ∷ stack) b Comma = omega arith
body_steps (in_list at items out ∷ stack) b Dot = omega arith
body_steps (in_list at items out ∷ stack) b ListCloses = omega arith
body_steps (in_list at items out ∷ stack) b _ = tt
body_steps (in_tail at items out ∷ stack) b ListCloses = omega arith
body_steps (in_tail at items out ∷ stack) b _ = tt
body_steps (in_diff at items out ∷ stack) b Comma = omega arith
body_steps (in_diff at items out ∷ stack) b DiffCloses = omega arith
body_steps (in_diff at items out ∷ stack) b _ = tt

-- a step from another number that is the depth
steps_from : (o : Option BodyState) (d e : ℕ) (k : TokenKind) → d ≡ e → Steps o d k → Steps o e k
steps_from None d e k h f = tt
steps_from (Some b) d e k h f = omega arith

point_steps : (stack : List FrameTree) (point : PointTree) (k : TokenKind) (t : Tok) → Steps (point_step stack point k t) (length stack + point_depth point) k
point_steps stack (want_term xs) k t = steps_from (term_step stack xs k t) (length stack) (length stack + 0) k (omega arith) (term_steps stack xs k t)
point_steps stack (got_term xs x) And t = omega arith
point_steps stack (got_term xs x) k t = steps_from (after_body stack _ k) (length stack) (length stack + 0) k (omega arith) (body_steps stack _ k)
point_steps stack (avm_begins at out) Name t = omega arith
point_steps stack (avm_begins at out) AvmCloses t = omega arith
point_steps stack (want_attr at attrs out) Name t = omega arith
point_steps stack (got_feature at attrs path out) Dot t = omega arith
point_steps stack (got_feature at attrs path out) k t = steps_from (term_step (in_avm at attrs path out ∷ stack) [] k t) (length (in_avm at attrs path out ∷ stack)) (length stack + 1) k (omega arith) (term_steps (in_avm at attrs path out ∷ stack) [] k t)
point_steps stack (want_feature at attrs path out) Name t = omega arith
point_steps stack (list_begins at out) ListCloses t = omega arith
point_steps stack (list_begins at out) Dots t = omega arith
point_steps stack (list_begins at out) k t = steps_from (term_step (in_list at [] out ∷ stack) [] k t) (length (in_list at [] out ∷ stack)) (length stack + 1) k (omega arith) (term_steps (in_list at [] out ∷ stack) [] k t)
point_steps stack (list_goes_on at items out) Dots t = omega arith
point_steps stack (list_goes_on at items out) k t = steps_from (term_step (in_list at items out ∷ stack) [] k t) (length (in_list at items out ∷ stack)) (length stack + 1) k (omega arith) (term_steps (in_list at items out ∷ stack) [] k t)
point_steps stack (want_close at items out) ListCloses t = omega arith
point_steps stack (diff_begins at out) DiffCloses t = omega arith
point_steps stack (diff_begins at out) k t = steps_from (term_step (in_diff at [] out ∷ stack) [] k t) (length (in_diff at [] out ∷ stack)) (length stack + 1) k (omega arith) (term_steps (in_diff at [] out ∷ stack) [] k t)
point_steps stack (diff_goes_on at items out) k t = steps_from (term_step (in_diff at items out ∷ stack) [] k t) (length (in_diff at items out ∷ stack)) (length stack + 1) k (omega arith) (term_steps (in_diff at items out ∷ stack) [] k t)
point_steps _ _ _ t = tt

-- a step of a statement from this depth
abbrev Goes : Option State → ℕ → TokenKind → Type 0
Goes None d k = Unit {0}
Goes (Some s) d k = depth s.stage + down k ≡ d + up k

body_goes : (done : PastTree) (head : HeadTree) (o : Option BodyState) (d : ℕ) (k : TokenKind) → Steps o d k → Goes (in_body_at done head o) d k
body_goes done head None d k h = tt
body_goes done head (Some b) d k h = h

first_goes : (done : PastTree) (k : TokenKind) (t : Tok) → Goes (first_step done k t) 0 k
first_goes done Name t = refl
first_goes done LetterSet t = refl
first_goes done Directive t = by_words (has_bytes (value t) (codes "begin")) (has_bytes (value t) (codes "end")) (has_bytes (value t) (codes "include"))
  where
    by_words : (b c d : Bool) → Goes (if b then at_stage done (begin t.at) else (if c then at_stage done (end t.at) else (if d then at_stage done (include t.at) else None))) 0 Directive
    by_words true c d = refl
    by_words false true d = refl
    by_words false false true = refl
    by_words false false false = tt
first_goes done _ t = tt

-- a choice of two stages within a statement that has no body
two_go : (done : PastTree) (b c : Bool) (s r : StageTree) → depth s ≡ 0 → depth r ≡ 0 → Goes (if b then at_stage done s else (if c then at_stage done r else None)) 0 Directive
two_go done true c s r e f = omega arith
two_go done false true s r e f = omega arith
two_go done false false s r e f = tt

one_goes : (done : PastTree) (b : Bool) (at : ℕ) → Goes (if b then at_stage done (begin_status at) else None) 0 Directive
one_goes done true at = refl
one_goes done false at = tt

groups_go : (done : PastTree) (name : List ℕ) (at : ℕ) (s : Bool) (groups : List GroupTree) (k : TokenKind) (t : Tok) → Goes (groups_step done name at s groups k t) 0 k
groups_go done name at s [] k t = tt
groups_go done name at s (g ∷ gs) k t = body_goes done (to_define name at (Some (record { suffix = s; groups = g ∷ gs }))) (term_step [] [] k t) 0 k (term_steps [] [] k t)

-- the dot that ends a body
finish_goes : (done : PastTree) (head : HeadTree) (stack : List FrameTree) (point : PointTree) (k : TokenKind) → ends_body stack point k ≡ true → Goes (finish done head point) (length stack + point_depth point) k
finish_goes done head [] (got_term xs x) Dot e = refl
finish_goes done head (f ∷ stack) point Dot e = absurd (false≢true e)
finish_goes done head [] _ Dot e = absurd (false≢true e)
finish_goes done head stack point _ e = absurd (false≢true e)

within_goes : (done : PastTree) (head : HeadTree) (stack : List FrameTree) (point : PointTree) (k : TokenKind) (t : Tok) → Goes (body_step done head stack point k t) (length stack + point_depth point) k
within_goes done head stack point k t = by_end (ends_body stack point k) refl
  where
    by_end : (b : Bool) → ends_body stack point k ≡ b → Goes (if b then finish done head point else in_body_at done head (point_step stack point k t)) (length stack + point_depth point) k
    by_end true e = finish_goes done head stack point k e
    by_end false e = body_goes done head (point_step stack point k t) (length stack + point_depth point) k (point_steps stack point k t)

stage_goes : (done : PastTree) (stage : StageTree) (k : TokenKind) (t : Tok) → Goes (stage_step done stage k t) (depth stage) k
stage_goes done between k t = first_goes done k t
stage_goes done lettered Dot t = refl
stage_goes done lettered k t = first_goes done k t
stage_goes done (letter at) Group t = refl
stage_goes done (named name at) Defined t = refl
stage_goes done (named name at) Added t = refl
stage_goes done (defined name at) Prefix t = refl
stage_goes done (defined name at) Suffix t = refl
stage_goes done (defined name at) k t = body_goes done (to_define name at None) (term_step [] [] k t) 0 k (term_steps [] [] k t)
stage_goes done (affixed name at s groups) Group t = refl
stage_goes done (affixed name at s groups) k t = groups_go done name at s groups k t
stage_goes done (begin at) Directive t = two_go done (has_bytes (value t) (codes "type")) (has_bytes (value t) (codes "instance")) (want_dot (begins TypeDef at)) (begin_instance at) refl refl
stage_goes done (begin_instance at) Directive t = one_goes done (has_bytes (value t) (codes "status")) at
stage_goes done (begin_status at) Name t = refl
stage_goes done (end at) Directive t = two_go done (has_bytes (value t) (codes "type")) (has_bytes (value t) (codes "instance")) (want_dot (ends false at)) (want_dot (ends true at)) refl refl
stage_goes done (include at) Text t = refl
stage_goes done (want_dot s) Dot t = refl
stage_goes done (in_body head stack point) k t = within_goes done head stack point k t
stage_goes _ _ _ t = tt

abbrev opened_in : List Tok → ℕ
opened_in ts = count_by (λ t. opens t.kind) ts

abbrev closed_in : List Tok → ℕ
closed_in ts = count_by (λ t. closes t.kind) ts

next_there : (o : Option State) (ts : List Tok) (final : State) → run_on o ts ≡ Some final → (next : State) × (o ≡ Some next)
next_there None ts final e = absurd (none-some _ e)
next_there (Some next) ts final e = (next, refl)

-- a run from a number of open brackets
run_goes : (s final : State) (ts : List Tok) → run_on (Some s) ts ≡ Some final → depth final.stage + closed_in ts ≡ depth s.stage + opened_in ts
run_goes s final [] e = ap (λ (q : State). depth q.stage + 0) (sym (same_Some s final e))
run_goes s final (t ∷ ts) e =
    let n = next_there (step s t) ts final e in
    let rest = run_goes n.0 final ts (ap (λ o. run_on o ts) (sym n.1) ∙ e) in
    let one : depth n.0.stage + down t.kind ≡ depth s.stage + up t.kind = subst (λ r. Goes r (depth s.stage) t.kind) n.1 (stage_goes s.done s.stage t.kind t) in
    let opens_more = sum_by-cons (λ (u : Tok). cond (opens u.kind) 1 0) t ts in
    let closes_more = sum_by-cons (λ (u : Tok). cond (closes u.kind) 1 0) t ts in
    omega arith

-- the brackets that are open after tokens
pub nesting_is_depth : (ts : List Tok) (s : State) → run_on (Some begun) ts ≡ Some s → nesting ts ≡ depth s.stage
nesting_is_depth ts s e = let h = run_goes begun s ts e in omega arith
