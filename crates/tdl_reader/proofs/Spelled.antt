-- What the grammar spells, the machine reads: statements and files.
use Rattle.std.proofs.Common.{◌≡◌, ℕ, List, [], ◌∷◌, ◌++◌, Option, Some, None, sym, ◌∙◌, refl, ap, append_assoc}
use Rattle.std.specs.Prelude.{Bool, true, false, ◌&&◌, if◌then◌else◌, codes}
use Rattle.std.proofs.lemmas.Bool.{false≢true}
use Rattle.std.proofs.lemmas.List.{append-nil}
use Rattle.std.proofs.lemmas.Option.{none-some}
use Rattle.tdl_lexer.specs.declared.TokenKind.{TokenKind}
use Rattle.tdl_lexer.specs.declared.TokenKind.TheVariants.{Name, Text, Directive, LetterSet, Prefix, Suffix, Group, Defined, Added, Dot}
use Rattle.tdl_reader.specs.Grammar.{SpellsBody, SpellsGroups, one_group, more_groups, SpellsAffix, no_affix, prefix, suffix, SpellsStatement, define, add, begin_types, begin_instances, end_types, end_instances, include_file, letter_set, dotted_letter_set, SpellsFile, no_statements, more_statements}
use Rattle.tdl_reader.specs.Machine.{FrameTree, PointTree, want_term, got_term, BodyState, point_step, term_step, HeadTree, to_define, to_add, with_body, StageTree, between, lettered, letter, named, defined, affixed, begin, begin_instance, begin_status, end, include, want_dot, in_body, PastTree, with_statement, with_letters, State, at_stage, in_body_at, ends_body, is_empty, is_whole, stage_step, step, run_on, has_bytes, directive_step, may_end, begun}
use Rattle.tdl_reader.specs.Toks.{Tok, value, IsKind}
use Rattle.tdl_reader.specs.Trees.{BodyTree, SetTree, GroupTree, AffixTree, StatementTree, begins, ends}
use Rattle.tdl_reader.specs.GroupScan.{group_of, letters_of}
use Rattle.tdl_reader.specs.declared.Status.TheVariants.{TypeDef}
use Rattle.tdl_reader.proofs.SetForms.{group_said, set_said}
use Rattle.tdl_reader.proofs.Reached.{run_body, begins_term, first_of_body, body_met}

pub run_on_append : (o : Option State) (ts us : List Tok) → run_on o (ts ++ us) ≡ run_on (run_on o ts) us
run_on_append None ts us = refl
run_on_append (Some s) [] us = refl
run_on_append (Some s) (t ∷ ts) us = run_on_append (step s t) ts us

-- where a body goes on, its token does not end it
goes_dot : (stack : List FrameTree) (point : PointTree) (t : Tok) (next : BodyState) → point_step stack point Dot t ≡ Some next → (is_empty stack && is_whole point) ≡ false
goes_dot (f ∷ stack) point t next e = refl
goes_dot [] (got_term xs x) t next e = absurd (none-some _ e)
goes_dot [] _ t next e = refl

goes_on : (stack : List FrameTree) (point : PointTree) (k : TokenKind) (t : Tok) (next : BodyState) → point_step stack point k t ≡ Some next → ends_body stack point k ≡ false
goes_on stack point Dot t next e = goes_dot stack point t next e
goes_on stack point _ t next e = refl

by_step : (ts : List Tok) (done : PastTree) (head : HeadTree) (s final : BodyState) (t : Tok) (o : Option BodyState) → point_step s.stack s.point t.kind t ≡ o → run_body o ts ≡ Some final
    → ((next : BodyState) → run_body (Some next) ts ≡ Some final → run_on (at_stage done (in_body head next.stack next.point)) ts ≡ at_stage done (in_body head final.stack final.point))
    → run_on (step (record { done = done; stage = in_body head s.stack s.point }) t) ts ≡ at_stage done (in_body head final.stack final.point)
by_step ts done head s final t None p h f = absurd (none-some _ h)
by_step ts done head s final t (Some next) p h f =
    let e : step (record { done = done; stage = in_body head s.stack s.point }) t ≡ at_stage done (in_body head next.stack next.point) = rw (goes_on s.stack s.point t.kind t next p) (ap (in_body_at done head) p) in
    ap (λ o. run_on o ts) e ∙ f next h

-- a run within a body is one within the statement
pub within_body : (ts : List Tok) (done : PastTree) (head : HeadTree) (s final : BodyState) → run_body (Some s) ts ≡ Some final → run_on (at_stage done (in_body head s.stack s.point)) ts ≡ at_stage done (in_body head final.stack final.point)
within_body [] done head s final e = ap (λ q. in_body_at done head q) e
within_body (t ∷ ts) done head s final e = by_step ts done head s final t (point_step s.stack s.point t.kind t) refl e (λ next h. within_body ts done head next final h)

-- a stage at which a body begins with its first token
abbrev Enters : PastTree → StageTree → HeadTree → Type 0
Enters done stage head = (k : TokenKind) (t : Tok) → begins_term k ≡ true → stage_step done stage k t ≡ in_body_at done head (term_step [] [] k t)

enters_fresh : (done : PastTree) (head : HeadTree) → Enters done (in_body head [] (want_term [])) head
enters_fresh done head Dot t e = absurd (false≢true e)
enters_fresh done head _ t e = refl

enters_defined : (done : PastTree) (name : List ℕ) (at : ℕ) → Enters done (defined name at) (to_define name at None)
enters_defined done name at Prefix t e = absurd (false≢true e)
enters_defined done name at Suffix t e = absurd (false≢true e)
enters_defined done name at _ t e = refl

enters_affixed : (done : PastTree) (name : List ℕ) (at : ℕ) (s : Bool) (g : GroupTree) (gs : List GroupTree) → Enters done (affixed name at s (g ∷ gs)) (to_define name at (Some (record { suffix = s; groups = g ∷ gs })))
enters_affixed done name at s g gs Group t e = absurd (false≢true e)
enters_affixed done name at s g gs _ t e = refl

-- the body of a statement, up to its dot
body_read_on : (done : PastTree) (stage : StageTree) (head : HeadTree) (bs : List Tok) (b : BodyTree) (d : Tok) → Enters done stage head → SpellsBody bs b → IsKind Dot d → run_on (at_stage done stage) (bs ++ d ∷ []) ≡ at_stage (with_statement done (with_body head b)) between
body_read_on done stage head bs b d f h k =
    let r = body_met bs b h [] [] in
    let a = first_of_body bs b h in
    let same : run_on (at_stage done stage) bs ≡ run_on (at_stage done (in_body head [] (want_term []))) bs =
    rw a.split (ap (λ o. run_on o a.others) (f a.token.kind a.token a.holds ∙ sym (enters_fresh done head a.token.kind a.token a.holds))) in
    let inner : run_on (at_stage done (in_body head [] (want_term []))) bs ≡ at_stage done (in_body head [] (got_term r.front r.last)) = within_body bs done head (record { stack = []; point = want_term [] }) (record { stack = []; point = got_term r.front r.last }) r.reached in
    run_on_append (at_stage done stage) bs (d ∷ []) ∙ (ap (λ o. run_on o (d ∷ [])) (same ∙ inner) ∙ (rw k (ap (λ x. at_stage (with_statement done (with_body head x)) between) r.body)))

pub groups_met : (sets : List SetTree) (ts : List Tok) (gs : List GroupTree) → SpellsGroups sets ts gs → (statements : List StatementTree) (name : List ℕ) (at : ℕ) (s : Bool) (pre : List GroupTree) → run_on (at_stage (record { statements = statements; sets = sets }) (affixed name at s pre)) ts ≡ at_stage (record { statements = statements; sets = sets }) (affixed name at s (pre ++ gs))
groups_met sets _ _ (one_group g x k w) statements name at s pre = rw k (ap (λ y. at_stage (record { statements = statements; sets = sets }) (affixed name at s (pre ++ y ∷ []))) (group_said sets g.spelled x w))
groups_met sets _ _ (more_groups g x ts gs k w h) statements name at s pre =
    let first = group_of sets g.spelled in
    rw k (groups_met sets ts gs h statements name at s (pre ++ first ∷ []) ∙ ap (λ l. at_stage (record { statements = statements; sets = sets }) (affixed name at s l)) (append_assoc pre (first ∷ []) gs ∙ ap (λ y. pre ++ y ∷ gs) (group_said sets g.spelled x w)))

-- what a definition says before its body
record Entered (done : PastTree) (name : List ℕ) (at : ℕ) (ts : List Tok) (affix : Option AffixTree) : Type 0 where
  stage : StageTree
  reached : run_on (at_stage done (defined name at)) ts ≡ at_stage done stage
  enters : Enters done stage (to_define name at affix)

grouped : (statements : List StatementTree) (sets : List SetTree) (name : List ℕ) (at : ℕ) (b : Bool) (p : Tok) (ts : List Tok) (gs : List GroupTree) → SpellsGroups sets ts gs
    → run_on (at_stage (record { statements = statements; sets = sets }) (defined name at)) (p ∷ ts) ≡ run_on (at_stage (record { statements = statements; sets = sets }) (affixed name at b [])) ts
    → Entered (record { statements = statements; sets = sets }) name at (p ∷ ts) (Some (record { suffix = b; groups = gs }))
grouped statements sets name at b p _ _ (one_group g x k w) e = record { stage = _; reached = e ∙ groups_met sets _ _ (one_group g x k w) statements name at b []; enters = enters_affixed _ name at b _ _ }
grouped statements sets name at b p _ _ (more_groups g x ts gs k w h) e = record { stage = _; reached = e ∙ groups_met sets _ _ (more_groups g x ts gs k w h) statements name at b []; enters = enters_affixed _ name at b _ _ }

affix_met : (statements : List StatementTree) (sets : List SetTree) (name : List ℕ) (at : ℕ) (ts : List Tok) (affix : Option AffixTree) → SpellsAffix sets ts affix → Entered (record { statements = statements; sets = sets }) name at ts affix
affix_met statements sets name at _ _ no_affix = record { stage = defined name at; reached = refl; enters = enters_defined _ name at }
affix_met statements sets name at _ _ (prefix p ts gs k h) = grouped statements sets name at false p ts gs h (rw k refl)
affix_met statements sets name at _ _ (suffix p ts gs k h) = grouped statements sets name at true p ts gs h (rw k refl)

-- a stage at which a statement may begin, or the file end
pub data IsRest : StageTree → Type 0 where
  at_between : IsRest between
  at_lettered : IsRest lettered

pub at_kind : (done : PastTree) (stage : StageTree) (k : TokenKind) (t : Tok) → IsKind k t → stage_step done stage t.kind t ≡ stage_step done stage k t
at_kind done stage k t h = ap (λ q. stage_step done stage q t) h

pub first_name : (done : PastTree) (stage : StageTree) (t : Tok) → IsRest stage → IsKind Name t → stage_step done stage t.kind t ≡ at_stage done (named (value t) t.at)
first_name done _ t at_between k = at_kind done between Name t k
first_name done _ t at_lettered k = at_kind done lettered Name t k

pub first_letters : (done : PastTree) (stage : StageTree) (t : Tok) → IsRest stage → IsKind LetterSet t → stage_step done stage t.kind t ≡ at_stage done (letter t.at)
first_letters done _ t at_between k = at_kind done between LetterSet t k
first_letters done _ t at_lettered k = at_kind done lettered LetterSet t k

first_directive : (done : PastTree) (stage : StageTree) (t : Tok) → IsRest stage → IsKind Directive t → stage_step done stage t.kind t ≡ directive_step done t
first_directive done _ t at_between k = at_kind done between Directive t k
first_directive done _ t at_lettered k = at_kind done lettered Directive t k

abbrev first_of : PastTree → ℕ → List ℕ → Option State
first_of done at v =
    if has_bytes v (codes "begin") then at_stage done (begin at)
    else (if has_bytes v (codes "end") then at_stage done (end at)
    else (if has_bytes v (codes "include") then at_stage done (include at) else None))

abbrev begin_of : PastTree → ℕ → List ℕ → Option State
begin_of done at v =
    if has_bytes v (codes "type") then at_stage done (want_dot (begins TypeDef at))
    else (if has_bytes v (codes "instance") then at_stage done (begin_instance at) else None)

abbrev end_of : PastTree → ℕ → List ℕ → Option State
end_of done at v =
    if has_bytes v (codes "type") then at_stage done (want_dot (ends false at))
    else (if has_bytes v (codes "instance") then at_stage done (want_dot (ends true at)) else None)

abbrev status_at : PastTree → ℕ → List ℕ → Option State
status_at done at v = if has_bytes v (codes "status") then at_stage done (begin_status at) else None

on : (done : PastTree) (stage : StageTree) (t : Tok) (ts : List Tok) (next : Option State) → stage_step done stage t.kind t ≡ next → run_on (at_stage done stage) (t ∷ ts) ≡ run_on next ts
on done stage t ts next e = ap (λ o. run_on o ts) e

-- a statement was read, and what follows may begin
pub record StatementRead (o : Option State) (done : PastTree) : Type 0 where
  pub stage : StageTree
  pub reached : o ≡ at_stage done stage
  pub rest : IsRest stage

dotted : (done : PastTree) (s : StatementTree) (e : Tok) → IsKind Dot e → run_on (at_stage done (want_dot s)) (e ∷ []) ≡ at_stage (with_statement done s) between
dotted done s e k = on done (want_dot s) e [] _ (at_kind done (want_dot s) Dot e k)

statement_met : (statements : List StatementTree) (sets after : List SetTree) (ts : List Tok) (s : StatementTree) (stage : StageTree) → SpellsStatement sets ts s after → IsRest stage
    → StatementRead (run_on (at_stage (record { statements = statements; sets = sets }) stage) ts) (record { statements = statements ++ s ∷ []; sets = after })
statement_met statements sets _ _ _ stage (define n d e gs bs affix b k l a h m) r =
    let done : PastTree = record { statements = statements; sets = sets } in
    let entered = affix_met statements sets (value n) n.at gs affix a in
    record {
      stage = between;
      rest = at_between;
      reached = on done stage n (d ∷ (gs ++ (bs ++ e ∷ []))) _ (first_name done stage n r k)
          ∙ (on done (named (value n) n.at) d (gs ++ (bs ++ e ∷ [])) _ (at_kind done (named (value n) n.at) Defined d l)
          ∙ (run_on_append (at_stage done (defined (value n) n.at)) gs (bs ++ e ∷ [])
          ∙ (ap (λ o. run_on o (bs ++ e ∷ [])) entered.reached ∙ body_read_on done entered.stage (to_define (value n) n.at affix) bs b e entered.enters h m)));
    }
statement_met statements sets _ _ _ stage (add n d e bs b k l h m) r =
    let done : PastTree = record { statements = statements; sets = sets } in
    record {
      stage = between;
      rest = at_between;
      reached = on done stage n (d ∷ (bs ++ e ∷ [])) _ (first_name done stage n r k)
          ∙ (on done (named (value n) n.at) d (bs ++ e ∷ []) _ (at_kind done (named (value n) n.at) Added d l)
          ∙ body_read_on done (in_body (to_add (value n) n.at) [] (want_term [])) (to_add (value n) n.at) bs b e (enters_fresh done (to_add (value n) n.at)) h m);
    }
statement_met statements sets _ _ _ stage (begin_types b t e k l m) r =
    let done : PastTree = record { statements = statements; sets = sets } in
    record {
      stage = between;
      rest = at_between;
      reached = on done stage b (t ∷ e ∷ []) _ (first_directive done stage b r k.0 ∙ ap (first_of done b.at) k.1)
          ∙ (on done (begin b.at) t (e ∷ []) _ (at_kind done (begin b.at) Directive t l.0 ∙ ap (begin_of done b.at) l.1) ∙ dotted done _ e m);
    }
statement_met statements sets _ _ _ stage (begin_instances b i w n e k l j h m) r =
    let done : PastTree = record { statements = statements; sets = sets } in
    record {
      stage = between;
      rest = at_between;
      reached = on done stage b (i ∷ w ∷ n ∷ e ∷ []) _ (first_directive done stage b r k.0 ∙ ap (first_of done b.at) k.1)
          ∙ (on done (begin b.at) i (w ∷ n ∷ e ∷ []) _ (at_kind done (begin b.at) Directive i l.0 ∙ ap (begin_of done b.at) l.1)
          ∙ (on done (begin_instance b.at) w (n ∷ e ∷ []) _ (at_kind done (begin_instance b.at) Directive w j.0 ∙ ap (status_at done b.at) j.1)
          ∙ (on done (begin_status b.at) n (e ∷ []) _ (at_kind done (begin_status b.at) Name n h) ∙ dotted done _ e m)));
    }
statement_met statements sets _ _ _ stage (end_types b t e k l m) r =
    let done : PastTree = record { statements = statements; sets = sets } in
    record {
      stage = between;
      rest = at_between;
      reached = on done stage b (t ∷ e ∷ []) _ (first_directive done stage b r k.0 ∙ ap (first_of done b.at) k.1)
          ∙ (on done (end b.at) t (e ∷ []) _ (at_kind done (end b.at) Directive t l.0 ∙ ap (end_of done b.at) l.1) ∙ dotted done _ e m);
    }
statement_met statements sets _ _ _ stage (end_instances b t e k l m) r =
    let done : PastTree = record { statements = statements; sets = sets } in
    record {
      stage = between;
      rest = at_between;
      reached = on done stage b (t ∷ e ∷ []) _ (first_directive done stage b r k.0 ∙ ap (first_of done b.at) k.1)
          ∙ (on done (end b.at) t (e ∷ []) _ (at_kind done (end b.at) Directive t l.0 ∙ ap (end_of done b.at) l.1) ∙ dotted done _ e m);
    }
statement_met statements sets _ _ _ stage (include_file i t e k l m) r =
    let done : PastTree = record { statements = statements; sets = sets } in
    record {
      stage = between;
      rest = at_between;
      reached = on done stage i (t ∷ e ∷ []) _ (first_directive done stage i r k.0 ∙ ap (first_of done i.at) k.1)
          ∙ (on done (include i.at) t (e ∷ []) _ (at_kind done (include i.at) Text t l) ∙ dotted done _ e m);
    }
statement_met statements sets _ _ _ stage (letter_set p g x k l w) r =
    let done : PastTree = record { statements = statements; sets = sets } in
    record {
      stage = lettered;
      rest = at_lettered;
      reached = on done stage p (g ∷ []) _ (first_letters done stage p r k) ∙ (on done (letter p.at) g [] _ (at_kind done (letter p.at) Group g l) ∙ ap (λ y. at_stage (with_letters done y p.at) lettered) (set_said g.spelled x w));
    }
statement_met statements sets _ _ _ stage (dotted_letter_set p g e x k l w m) r =
    let done : PastTree = record { statements = statements; sets = sets } in
    let next : PastTree = with_letters done (letters_of g.spelled) p.at in
    record {
      stage = between;
      rest = at_between;
      reached = on done stage p (g ∷ e ∷ []) _ (first_letters done stage p r k) ∙ (on done (letter p.at) g (e ∷ []) _ (at_kind done (letter p.at) Group g l) ∙ (on next lettered e [] _ (at_kind next lettered Dot e m) ∙ ap (λ y. at_stage (with_letters done y p.at) between) (set_said g.spelled x w)));
    }

-- a file was read to its end
pub record FileRead (o : Option State) (statements : List StatementTree) : Type 0 where
  pub state : State
  pub reached : o ≡ Some state
  pub all : state.done.statements ≡ statements
  pub whole : may_end state.stage ≡ true

rest_may_end : (stage : StageTree) → IsRest stage → may_end stage ≡ true
rest_may_end _ at_between = refl
rest_may_end _ at_lettered = refl

file_met : (statements : List StatementTree) (sets : List SetTree) (ts : List Tok) (ss : List StatementTree) (stage : StageTree) → SpellsFile sets ts ss → IsRest stage
    → FileRead (run_on (at_stage (record { statements = statements; sets = sets }) stage) ts) (statements ++ ss)
file_met statements sets _ _ stage (no_statements _) r = record { state = _; reached = refl; all = sym (append-nil statements); whole = rest_may_end stage r }
file_met statements sets _ _ stage (more_statements _ after ts us s ss h k) r =
    let one = statement_met statements sets after ts s stage h r in
    let more = file_met (statements ++ s ∷ []) after us ss one.stage k one.rest in
    record {
      state = more.state;
      reached = run_on_append (at_stage (record { statements = statements; sets = sets }) stage) ts us ∙ (ap (λ o. run_on o us) one.reached ∙ more.reached);
      all = more.all ∙ append_assoc statements (s ∷ []) ss;
      whole = more.whole;
    }

-- what the grammar spells is read
pub spelled_is_run : (ts : List Tok) (ss : List StatementTree) → SpellsFile [] ts ss → FileRead (run_on (Some begun) ts) ss
spelled_is_run ts ss h = file_met [] [] ts ss between h at_between
