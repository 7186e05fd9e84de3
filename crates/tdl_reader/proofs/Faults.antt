-- The machine's faults are those of the grammar.
use Rattle.std.proofs.Common.{◌≡◌, ℕ, ◌≤◌, List, [], ◌∷◌, ◌++◌, length, length-append, sym, ◌∙◌, refl, ap, subst, append_assoc, arith, inl, inr, ⊎_elim}
use Rattle.std.proofs.lemmas.List.{append-nil}
use Rattle.std.proofs.lemmas.Bool.{true≢false, eqb-true, eqb-false, eq-eqb}
use Rattle.std.proofs.lemmas.Option.{none-some, same_Some}
use Rattle.std.specs.Prelude.{Bool, true, false, ◌&&◌, ◌==◌, if◌then◌else◌, ◌⊎◌, Option, Some, None, Result, Ok, Err}
use Rattle.std.specs.Option.{is_some}
use Rattle.tdl_lexer.specs.declared.TokenKind.TheVariants.{Name, LetterSet, Prefix, Suffix, Group, Defined}
use Rattle.tdl_reader.specs.declared.ReadFault.{ReadFault}
use Rattle.tdl_reader.specs.declared.ReadFault.TheVariants.{Unexpected, EndOfFile, TooDeep, BadAffix}
use Rattle.tdl_reader.specs.Grammar.{SpellsGroups, one_group, more_groups, SpellsAffix, no_affix, prefix, suffix, SpellsFile}
use Rattle.tdl_reader.specs.Groups.{IsGroup, IsLetterSet}
use Rattle.tdl_reader.specs.GroupScan.{group_of, read_group}
use Rattle.tdl_reader.specs.Machine.{StageTree, between, lettered, letter, named, defined, affixed, PastTree, State, at_stage, stage_step, step, run_on, may_end, depth, begun}
use Rattle.tdl_reader.specs.Reading.{Viable, opens, sets_of, IsMalformed, in_letter_set, in_rule, Fault, unexpected, end_of_file, too_deep, bad_affix, FirstFault, IsReading}
use Rattle.tdl_reader.specs.Running.{has_form, fault_beside, step_fault, read_on, read_from}
use Rattle.tdl_reader.specs.Toks.{Tok, value, IsKind}
use Rattle.tdl_reader.specs.Trees.{SetTree, GroupTree, AffixTree, StatementTree}
use Rattle.tdl_reader.proofs.GoesOn.{goes_on}
use Rattle.tdl_reader.proofs.Nesting.{nesting_is_depth}
use Rattle.tdl_reader.proofs.Spelled.{run_on_append, IsRest, at_between, at_lettered, first_name, first_letters, at_kind, spelled_is_run}
use Rattle.tdl_reader.proofs.SetForms.{group_unread, set_unread}
use Rattle.tdl_reader.proofs.Stands.{Stands, run_stands, sound, malformed_at}

run_on_nothing : (o : Option State) → run_on o [] ≡ o
run_on_nothing None = refl
run_on_nothing (Some s) = refl

-- the run over one token more
one_more : (front : List Tok) (t : Tok) (s : State) → run_on (Some begun) front ≡ Some s → run_on (Some begun) (front ++ t ∷ []) ≡ step s t
one_more front t s e = run_on_append (Some begun) front (t ∷ []) ∙ (ap (λ o. run_on o (t ∷ [])) e ∙ run_on_nothing (step s t))

state_there : (o : Option State) (ts : List Tok) (final : State) → run_on o ts ≡ Some final → (s : State) × (o ≡ Some s)
state_there None ts final e = absurd (none-some _ e)
state_there (Some s) ts final e = (s, refl)

-- tokens go on to a file exactly where the machine has run over them
viable_runs : (front : List Tok) → Viable front → (s : State) × (run_on (Some begun) front ≡ Some s)
viable_runs front v =
    let r = spelled_is_run (front ++ v.rest) v.statements v.spelled in
    state_there (run_on (Some begun) front) v.rest r.state (sym (run_on_append (Some begun) front v.rest) ∙ r.reached)

runs_viable : (front : List Tok) (s : State) → run_on (Some begun) front ≡ Some s → Viable front
runs_viable front s e =
    let g = goes_on s in
    record {
      rest = g.rest;
      statements = g.final.done.statements;
      spelled = sound (front ++ g.rest) g.final (run_on_append (Some begun) front g.rest ∙ (ap (λ o. run_on o g.rest) e ∙ g.run)) g.whole;
    }

-- where the machine has no step, or one with a fault, a fault of the grammar stands
deep_bits : (a : Bool) (n : ℕ) → (a && (n == 200)) ≡ true → (a ≡ true) × (n ≡ 200)
deep_bits true n e = (refl, eqb-true n 200 e)
deep_bits false n e = absurd (true≢false (sym e))

fault_stands : (ts front rest : List Tok) (t : Tok) (s : State) (f : ReadFault) → ts ≡ front ++ t ∷ rest → run_on (Some begun) front ≡ Some s → step_fault s t ≡ Some f → Fault ts front f
fault_stands ts front rest t s f split e h = by_bits (opens t.kind && (depth s.stage == 200)) (has_form s.done.sets s.stage t.kind t) (step s t) refl refl refl h
  where
    told : (g : ReadFault) → Some g ≡ Some f → Fault ts front g → Fault ts front f
    told g same k = subst (Fault ts front) (same_Some g f same) k

    stops : step s t ≡ None → Viable (front ++ t ∷ []) → ⊥
    stops n v = let r = viable_runs (front ++ t ∷ []) v in none-some _ (sym (one_more front t s e ∙ n) ∙ r.1)

    by_bits : (deep formed : Bool) (o : Option State) → (opens t.kind && (depth s.stage == 200)) ≡ deep → has_form s.done.sets s.stage t.kind t ≡ formed → step s t ≡ o → fault_beside deep formed o t.at ≡ Some f → Fault ts front f
    by_bits deep formed None d m n k = told (Unexpected t.at) k (unexpected t rest split (runs_viable front s e) (stops n))
    by_bits true formed (Some next) d m n k =
        let b = deep_bits (opens t.kind) (depth s.stage) d in
        told (TooDeep t.at) k (too_deep t rest split (runs_viable (front ++ t ∷ []) next (one_more front t s e ∙ n)) b.0 (nesting_is_depth front s e ∙ b.1))
    by_bits false true (Some next) d m n k = absurd (none-some _ k)
    by_bits false false (Some next) d m n k =
        let b = malformed_at s.done s.stage front t t.kind refl (run_stands front s e) m in
        told (BadAffix t.at) k (bad_affix t rest split (runs_viable (front ++ t ∷ []) next (one_more front t s e ∙ n)) b.0 b.1)

-- what the machine does where a fault of the grammar stands
pub record AtToken (ts front : List Tok) (f : ReadFault) : Type 0 where
  token : Tok
  others : List Tok
  split : ts ≡ front ++ token ∷ others
  state : State
  run : run_on (Some begun) front ≡ Some state
  fault : step_fault state token ≡ Some f

pub record AtEnd (ts front : List Tok) (f : ReadFault) : Type 0 where
  split : ts ≡ front
  is : f ≡ EndOfFile

-- a stage at which a group may be out of form
pub record IsAtGroup (front : List Tok) (g : Tok) : Type 0 where
  state : State
  run : run_on (Some begun) front ≡ Some state
  formless : has_form state.done.sets state.stage Group g ≡ false

rest_of : (stage : StageTree) → may_end stage ≡ true → IsRest stage
rest_of between e = at_between
rest_of lettered e = at_lettered
rest_of _ e = absurd (true≢false (sym e))

-- the machine after whole statements
record AfterWhole (before : List Tok) (ss : List StatementTree) : Type 0 where
  done : PastTree
  stage : StageTree
  run : run_on (Some begun) before ≡ at_stage done stage
  rest : IsRest stage
  sets : done.sets ≡ sets_of ss

sets_at : (done : PastTree) (stage : StageTree) (ts : List Tok) → IsRest stage → Stands done stage ts → done.sets ≡ sets_of done.statements
sets_at done _ ts at_between a = a.past.sets
sets_at done _ ts at_lettered a = a.now.past.sets

after_whole : (before : List Tok) (ss : List StatementTree) → SpellsFile [] before ss → AfterWhole before ss
after_whole before ss h =
    let r = spelled_is_run before ss h in
    let rest = rest_of r.state.stage r.whole in
    record { done = r.state.done; stage = r.state.stage; run = r.reached; rest = rest; sets = sets_at r.state.done r.state.stage before rest (run_stands before r.state r.reached) ∙ ap sets_of r.all }

-- tokens after whole statements
run_past : (before us : List Tok) (done : PastTree) (stage : StageTree) (final : Option State) → run_on (Some begun) before ≡ at_stage done stage → run_on (at_stage done stage) us ≡ final → run_on (Some begun) (before ++ us) ≡ final
run_past before us done stage final e h = run_on_append (Some begun) before us ∙ (ap (λ o. run_on o us) e ∙ h)

set_group : (front before : List Tok) (ss : List StatementTree) (p g : Tok) → front ≡ before ++ p ∷ [] → SpellsFile [] before ss → IsKind LetterSet p → ((s : SetTree) → IsLetterSet g.spelled s → ⊥) → IsAtGroup front g
set_group front before ss p g split h k e =
    let w = after_whole before ss h in
    record {
      state = record { done = w.done; stage = letter p.at };
      run = ap (run_on (Some begun)) split ∙ run_past before (p ∷ []) w.done w.stage (at_stage w.done (letter p.at)) w.run (run_on_nothing (stage_step w.done w.stage p.kind p) ∙ first_letters w.done w.stage p w.rest k);
      formless = set_unread g.spelled e;
    }

-- the machine within a spelling rule, before its last group
record Grouped (done : PastTree) (name : List ℕ) (at : ℕ) (s : Bool) (pre : List GroupTree) (us : List Tok) : Type 0 where
  groups : List GroupTree
  run : run_on (at_stage done (affixed name at s pre)) us ≡ at_stage done (affixed name at s groups)

not_nothing : (us : List Tok) (g : Tok) → [] ≡ us ++ g ∷ [] → ⊥
not_nothing [] g e = cc
not_nothing (u ∷ us) g e = cc

groups_before : (done : PastTree) (ts : List Tok) (gs : List GroupTree) → SpellsGroups done.sets ts gs → (name : List ℕ) (at : ℕ) (s : Bool) (pre : List GroupTree) (us : List Tok) (g : Tok) → ts ≡ us ++ g ∷ [] → Grouped done name at s pre us
groups_before done _ _ h name at s pre [] g e = record { groups = pre; run = refl }
groups_before done _ _ (one_group v x k w) name at s pre (u ∷ us) g e = let tail : [] ≡ us ++ g ∷ [] = cc in absurd (not_nothing us g tail)
groups_before done _ _ (more_groups v x ts gs k w h) name at s pre (u ∷ us) g e =
    let head : v ≡ u = cc in
    let tail : ts ≡ us ++ g ∷ [] = cc in
    let r = groups_before done ts gs h name at s (pre ++ group_of done.sets u.spelled ∷ []) us g tail in
    record { groups = r.groups; run = ap (λ o. run_on o us) (at_kind done (affixed name at s pre) Group u (subst (IsKind Group) head k)) ∙ r.run }

groups_are_some : (sets : List SetTree) (ts : List Tok) (gs : List GroupTree) → SpellsGroups sets ts gs → ts ≡ [] → ⊥
groups_are_some sets _ _ (one_group v x k w) e = cc
groups_are_some sets _ _ (more_groups v x ts gs k w h) e = cc

-- the machine within a definition, before a group of its rule
record RuleBegun (done : PastTree) (name : List ℕ) (at : ℕ) (us : List Tok) : Type 0 where
  suffixed : Bool
  groups : List GroupTree
  run : run_on (at_stage done (defined name at)) us ≡ at_stage done (affixed name at suffixed groups)

-- after the token that begins a rule
begun_by : (done : PastTree) (name : List ℕ) (at : ℕ) (s : Bool) (p g : Tok) (ts : List Tok) (gs : List GroupTree) (us : List Tok) → SpellsGroups done.sets ts gs → p ∷ ts ≡ us ++ g ∷ [] → stage_step done (defined name at) p.kind p ≡ at_stage done (affixed name at s []) → RuleBegun done name at us
begun_by done name at s p g ts gs [] h e f = let none : ts ≡ [] = cc in absurd (groups_are_some done.sets ts gs h none)
begun_by done name at s p g ts gs (u ∷ us) h e f =
    let head : p ≡ u = cc in
    let tail : ts ≡ us ++ g ∷ [] = cc in
    let r = groups_before done ts gs h name at s [] us g tail in
    record { suffixed = s; groups = r.groups; run = ap (λ o. run_on o us) (subst (λ (q : Tok). stage_step done (defined name at) q.kind q ≡ at_stage done (affixed name at s [])) head f) ∙ r.run }

rule_begun : (done : PastTree) (ts : List Tok) (affix : Option AffixTree) → SpellsAffix done.sets ts affix → (name : List ℕ) (at : ℕ) (us : List Tok) (g : Tok) → ts ≡ us ++ g ∷ [] → RuleBegun done name at us
rule_begun done _ _ no_affix name at us g e = absurd (not_nothing us g e)
rule_begun done _ _ (prefix p ts gs k h) name at us g e = begun_by done name at false p g ts gs us h e (at_kind done (defined name at) Prefix p k)
rule_begun done _ _ (suffix p ts gs k h) name at us g e = begun_by done name at true p g ts gs us h e (at_kind done (defined name at) Suffix p k)

rule_group : (front before gs : List Tok) (ss : List StatementTree) (n d g : Tok) (affix : Option AffixTree) → front ≡ before ++ n ∷ d ∷ gs → SpellsFile [] before ss → IsKind Name n → IsKind Defined d
    → SpellsAffix (sets_of ss) (gs ++ g ∷ []) affix → ((x : GroupTree) → IsGroup (sets_of ss) g.spelled x → ⊥) → IsAtGroup front g
rule_group front before gs ss n d g affix split h k l a e =
    let w = after_whole before ss h in
    let r = rule_begun w.done (gs ++ g ∷ []) affix (subst (λ q. SpellsAffix q (gs ++ g ∷ []) affix) (sym w.sets) a) (value n) n.at gs g refl in
    let first = ap (λ o. run_on o (d ∷ gs)) (first_name w.done w.stage n w.rest k) in
    let second = ap (λ o. run_on o gs) (at_kind w.done (named (value n) n.at) Defined d l) in
    record {
      state = record { done = w.done; stage = affixed (value n) n.at r.suffixed r.groups };
      run = ap (run_on (Some begun)) split ∙ run_past before (n ∷ d ∷ gs) w.done w.stage (at_stage w.done (affixed (value n) n.at r.suffixed r.groups)) w.run (first ∙ (second ∙ r.run));
      formless = ap (λ q. is_some (read_group q g.spelled)) w.sets ∙ group_unread (sets_of ss) g.spelled e;
    }

group_state : (front : List Tok) (g : Tok) → IsMalformed front g → IsAtGroup front g
group_state front g (in_letter_set before ss p split h k e) = set_group front before ss p g split h k e
group_state front g (in_rule before gs ss n d affix split h k l a e) = rule_group front before gs ss n d g affix split h k l a e

-- the step over a front and one token more
record StepsOn (front : List Tok) (t : Tok) : Type 0 where
  state : State
  next : State
  run : run_on (Some begun) front ≡ Some state
  there : step state t ≡ Some next

steps_on : (front : List Tok) (t : Tok) → Viable (front ++ t ∷ []) → StepsOn front t
steps_on front t v =
    let r = viable_runs (front ++ t ∷ []) v in
    let s = state_there (run_on (Some begun) front) (t ∷ []) r.0 (sym (run_on_append (Some begun) front (t ∷ [])) ∙ r.1) in
    record { state = s.0; next = r.0; run = s.1; there = sym (one_more front t s.0 s.1) ∙ r.1 }

stuck_fault : (front : List Tok) (t : Tok) (s : State) → run_on (Some begun) front ≡ Some s → (Viable (front ++ t ∷ []) → ⊥) → step_fault s t ≡ Some (Unexpected t.at)
stuck_fault front t s e n = by_step (step s t) refl
  where
    by_step : (o : Option State) → step s t ≡ o → fault_beside (opens t.kind && (depth s.stage == 200)) (has_form s.done.sets s.stage t.kind t) o t.at ≡ Some (Unexpected t.at)
    by_step None f = refl
    by_step (Some next) f = absurd (n (runs_viable (front ++ t ∷ []) next (one_more front t s e ∙ f)))

deep_fault : (s next : State) (t : Tok) → step s t ≡ Some next → opens t.kind ≡ true → depth s.stage ≡ 200 → step_fault s t ≡ Some (TooDeep t.at)
deep_fault s next t e o d = let n : (depth s.stage == 200) ≡ true = eq-eqb (depth s.stage) 200 d in rw (e, o, n) refl

form_fault : (s next : State) (t : Tok) → step s t ≡ Some next → IsKind Group t → has_form s.done.sets s.stage Group t ≡ false → step_fault s t ≡ Some (BadAffix t.at)
form_fault s next t e k f =
    let o : opens t.kind ≡ false = ap opens k in
    let n : has_form s.done.sets s.stage t.kind t ≡ false = subst (λ q. has_form s.done.sets s.stage q t ≡ false) (sym k) f in
    rw (e, o, n) refl

fault_at : (ts front : List Tok) (f : ReadFault) → Fault ts front f → AtToken ts front f ⊎ AtEnd ts front f
fault_at ts front _ (unexpected t rest split v n) =
    let r = viable_runs front v in
    inl (record { token = t; others = rest; split = split; state = r.0; run = r.1; fault = stuck_fault front t r.0 r.1 n })
fault_at ts front _ (end_of_file split v n) = inr (record { split = split; is = refl })
fault_at ts front _ (too_deep t rest split v o n) =
    let s = steps_on front t v in
    inl (record { token = t; others = rest; split = split; state = s.state; run = s.run; fault = deep_fault s.state s.next t s.there o (sym (nesting_is_depth front s.state s.run) ∙ n) })
fault_at ts front _ (bad_affix t rest split v k m) =
    let s = steps_on front t v in
    let g = group_state front t m in
    let same : g.state ≡ s.state = same_Some g.state s.state (sym g.run ∙ s.run) in
    inl (record { token = t; others = rest; split = split; state = s.state; run = s.run; fault = form_fault s.state s.next t s.there k (subst (λ (q : State). has_form q.done.sets q.stage Group t ≡ false) same g.formless) })

-- two fronts of tokens that are as long are one, and so is the token after them
same_front : (a b us vs : List Tok) → length a ≡ length b → a ++ us ≡ b ++ vs → (a ≡ b) × (us ≡ vs)
same_front [] [] us vs l e = (refl, e)
same_front [] (y ∷ b) us vs l e = absurd (omega arith)
same_front (x ∷ a) [] us vs l e = absurd (omega arith)
same_front (x ∷ a) (y ∷ b) us vs l e =
    let head : x ≡ y = cc in
    let tail : a ++ us ≡ b ++ vs = cc in
    let r = same_front a b us vs (omega arith) tail in
    let both : x ∷ a ≡ y ∷ b = cc (head, r.0) in
    (both, r.1)

-- at one front stands one fault
one_fault : (ts front : List Tok) (t : Tok) (rest : List Tok) (s : State) (f : ReadFault) → ts ≡ front ++ t ∷ rest → run_on (Some begun) front ≡ Some s → AtToken ts front f → step_fault s t ≡ Some f
one_fault ts front t rest s f split e a =
    let same = same_front front front (t ∷ rest) (a.token ∷ a.others) refl (sym split ∙ a.split) in
    let token : t ≡ a.token = cc (same.1) in
    let state : s ≡ a.state = same_Some s a.state (sym e ∙ a.run) in
    ap (λ q. step_fault q t) state ∙ (ap (λ u. step_fault a.state u) token ∙ a.fault)

not_at_end : (ts front : List Tok) (t : Tok) (rest : List Tok) → ts ≡ front ++ t ∷ rest → ts ≡ front → ⊥
not_at_end ts front t rest e f = omega (arith, length-append front (t ∷ rest), ap length e, ap length f)

only_fault : (ts front : List Tok) (t : Tok) (rest : List Tok) (s : State) (f : ReadFault) → ts ≡ front ++ t ∷ rest → run_on (Some begun) front ≡ Some s → Fault ts front f → step_fault s t ≡ Some f
only_fault ts front t rest s f split e h = ⊎_elim (λ a. one_fault ts front t rest s f split e a) (λ a. absurd (not_at_end ts front t rest split a.split)) (fault_at ts front f h)

-- no fault stands before a front
abbrev Clean : List Tok → List Tok → Type 0
Clean ts front = (other : List Tok) (f : ReadFault) → Fault ts other f → length front ≤ length other

front_of_fault : (ts front : List Tok) (f : ReadFault) → Fault ts front f → (rest : List Tok) × (ts ≡ front ++ rest)
front_of_fault ts front f h = ⊎_elim (λ a. (a.token ∷ a.others, a.split)) (λ a. ([], a.split ∙ sym (append-nil front))) (fault_at ts front f h)

-- after a step without fault none stands before one token more
clean_more : (ts front : List Tok) (t : Tok) (rest : List Tok) (s : State) → ts ≡ front ++ t ∷ rest → run_on (Some begun) front ≡ Some s → step_fault s t ≡ None → Clean ts front → Clean ts (front ++ t ∷ [])
clean_more ts front t rest s split e n c other f h = by_length (length other == length front) refl
  where
    by_length : (b : Bool) → (length other == length front) ≡ b → length (front ++ t ∷ []) ≤ length other
    by_length true l =
        let o = front_of_fault ts other f h in
        let same : other ≡ front = (same_front other front o.0 (t ∷ rest) (eqb-true (length other) (length front) l) (sym o.1 ∙ split)).0 in
        absurd (none-some _ (sym n ∙ only_fault ts front t rest s f split e (subst (λ q. Fault ts q f) same h)))
    by_length false l = omega (arith, c other f h, eqb-false (length other) (length front) l, length-append front (t ∷ []))

-- what the machine reads is the reading, and its fault the first
abbrev pub Outcome : List Tok → Result (List StatementTree) ReadFault → Type 0
Outcome ts (Ok ss) = IsReading ts ss
Outcome ts (Err f) = FirstFault ts f

whole_faultless : (ts : List Tok) (ss : List StatementTree) → SpellsFile [] ts ss → Clean ts ts → (front : List Tok) (f : ReadFault) → Fault ts front f → ⊥
whole_faultless ts ss h c front _ (unexpected t rest split v n) = omega (arith, c front _ (unexpected t rest split v n), length-append front (t ∷ rest), ap length split)
whole_faultless ts ss h c front _ (end_of_file split v n) = n ss (subst (λ q. SpellsFile [] q ss) split h)
whole_faultless ts ss h c front _ (too_deep t rest split v o n) = omega (arith, c front _ (too_deep t rest split v o n), length-append front (t ∷ rest), ap length split)
whole_faultless ts ss h c front _ (bad_affix t rest split v k m) = omega (arith, c front _ (bad_affix t rest split v k m), length-append front (t ∷ rest), ap length split)

at_end : (ts : List Tok) (s : State) → run_on (Some begun) ts ≡ Some s → Clean ts ts → Outcome ts (read_from s [])
at_end ts s e c = by_end (may_end s.stage) refl
  where
    spells_none : may_end s.stage ≡ false → (ss : List StatementTree) → SpellsFile [] ts ss → ⊥
    spells_none m ss h =
        let r = spelled_is_run ts ss h in
        let same : r.state ≡ s = same_Some r.state s (sym r.reached ∙ e) in
        true≢false (sym r.whole ∙ (ap (λ (q : State). may_end q.stage) same ∙ m))

    by_end : (b : Bool) → may_end s.stage ≡ b → Outcome ts (if b then Ok s.done.statements else Err EndOfFile)
    by_end true m = let h = sound ts s e m in record { spelled = h; faultless = whole_faultless ts s.done.statements h c }
    by_end false m = record { front = ts; stands = end_of_file refl (runs_viable ts s e) (spells_none m); first = c }

good_next : (s : State) (t : Tok) (o : Option State) → step s t ≡ o → step_fault s t ≡ None → (next : State) × (step s t ≡ Some next)
good_next s t None e f = let n : step_fault s t ≡ Some (Unexpected t.at) = rw e refl in absurd (none-some _ (sym f ∙ n))
good_next s t (Some next) e f = (next, e)

outcome_by : (front rest : List Tok) (t : Tok) (s : State) → run_on (Some begun) front ≡ Some s → Clean (front ++ t ∷ rest) front → (o : Option ReadFault) → step_fault s t ≡ o
    → ((next : State) → step s t ≡ Some next → step_fault s t ≡ None → Outcome (front ++ t ∷ rest) (read_from next rest)) → Outcome (front ++ t ∷ rest) (read_on o (step s t) rest)
outcome_by front rest t s e c (Some f) g k = record { front = front; stands = fault_stands (front ++ t ∷ rest) front rest t s f refl e g; first = c }
outcome_by front rest t s e c None g k =
    let n = good_next s t (step s t) refl g in
    subst (λ o. Outcome (front ++ t ∷ rest) (read_on None o rest)) (sym n.1) (k n.0 n.1 g)

outcome_from : (front rest : List Tok) (s : State) → run_on (Some begun) front ≡ Some s → Clean (front ++ rest) front → Outcome (front ++ rest) (read_from s rest)
outcome_from front [] s e c =
    let whole : front ++ [] ≡ front = append-nil front in
    subst (λ q. Outcome q (read_from s [])) (sym whole) (at_end front s e (subst (λ q. Clean q front) whole c))
outcome_from front (t ∷ rest) s e c = outcome_by front rest t s e c (step_fault s t) refl (λ next n g.
    subst (λ q. Outcome q (read_from next rest)) (append_assoc front (t ∷ []) rest) (outcome_from (front ++ t ∷ []) rest next (one_more front t s e ∙ n)
    (subst (λ q. Clean q (front ++ t ∷ [])) (sym (append_assoc front (t ∷ []) rest)) (clean_more (front ++ t ∷ rest) front t rest s refl e g c))))

-- the machine reads what the grammar says
pub outcome : (ts : List Tok) → Outcome ts (read_from begun ts)
outcome ts = outcome_from [] ts begun refl (λ other f h. omega arith)

pub one_spelled : (ts : List Tok) (ss us : List StatementTree) → IsReading ts ss → IsReading ts us → ss ≡ us
one_spelled ts ss us h k =
    let r = spelled_is_run ts ss h.spelled in
    let s = spelled_is_run ts us k.spelled in
    let same : r.state ≡ s.state = same_Some r.state s.state (sym r.reached ∙ s.reached) in
    sym r.all ∙ (ap (λ (q : State). q.done.statements) same ∙ s.all)

-- faults at fronts that are as long are one
faults_meet : (ts a b : List Tok) (d e : ReadFault) → length a ≡ length b → Fault ts a d → Fault ts b e → d ≡ e
faults_meet ts a b d e l h k =
    let m = front_of_fault ts a d h in
    let n = front_of_fault ts b e k in
    let same : a ≡ b = (same_front a b m.0 n.0 l (sym m.1 ∙ n.1)).0 in
    by_place (fault_at ts b d (subst (λ q. Fault ts q d) same h)) (fault_at ts b e k)
  where
    by_place : AtToken ts b d ⊎ AtEnd ts b d → AtToken ts b e ⊎ AtEnd ts b e → d ≡ e
    by_place (inl x) (inl y) = same_Some d e (sym x.fault ∙ one_fault ts b x.token x.others x.state e x.split x.run y)
    by_place (inl x) (inr y) = absurd (not_at_end ts b x.token x.others x.split y.split)
    by_place (inr x) (inl y) = absurd (not_at_end ts b y.token y.others y.split x.split)
    by_place (inr x) (inr y) = x.is ∙ sym y.is

pub one_first_fault : (ts : List Tok) (d e : ReadFault) → FirstFault ts d → FirstFault ts e → d ≡ e
one_first_fault ts d e h k = faults_meet ts h.front k.front d e (omega (arith, h.first k.front e k.stands, k.first h.front d h.stands)) h.stands k.stands

pub some_outcome : (ts : List Tok) (r : Result (List StatementTree) ReadFault) → Outcome ts r → ((ss : List StatementTree) × IsReading ts ss) ⊎ ((e : ReadFault) × FirstFault ts e)
some_outcome ts (Ok ss) h = inl (ss, h)
some_outcome ts (Err e) h = inr (e, h)
