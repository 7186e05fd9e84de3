-- What the tokens of a file are, at each stage of the machine: a run that may end here spells a file.
use Rattle.std.proofs.Common.{◌≡◌, ℕ, List, [], ◌∷◌, ◌++◌, sym, ◌∙◌, refl, ap, subst, append_assoc}
use Rattle.std.proofs.lemmas.List.{append-nil}
use Rattle.std.proofs.lemmas.Bool.{false≢true, true≢false}
use Rattle.std.proofs.lemmas.Option.{none-some, same_Some}
use Rattle.std.proofs.lemmas.Slice.Eq.{bytes_eq-Decides}
use Rattle.std.specs.Prelude.{Bool, true, false, if◌then◌else◌, Option, Some, None, codes}
use Rattle.std.specs.Option.{is_some}
use Rattle.tdl_lexer.specs.declared.TokenKind.{TokenKind}
use Rattle.tdl_lexer.specs.declared.TokenKind.TheVariants.{Name, Text, Directive, LetterSet, Prefix, Suffix, Group, Defined, Added, Dot}
use Rattle.tdl_reader.specs.declared.Status.TheVariants.{TypeDef}
use Rattle.tdl_reader.specs.Grammar.{status_of, SpellsBody, SpellsGroups, one_group, more_groups, SpellsAffix, no_affix, prefix, suffix, IsWord, SpellsStatement, define, add, begin_types, begin_instances, end_types, end_instances, include_file, letter_set, dotted_letter_set, SpellsFile, no_statements, more_statements}
use Rattle.tdl_reader.specs.GroupScan.{group_of, letters_of, read_group, read_letters}
use Rattle.tdl_reader.specs.Machine.{FrameTree, PointTree, want_term, got_term, BodyState, point_step, term_step, HeadTree, to_define, to_add, with_body, StageTree, between, lettered, letter, named, defined, affixed, begin, begin_instance, begin_status, end, include, want_dot, in_body, PastTree, with_letters, State, at_stage, in_body_at, ends_body, finish, body_step, groups_step, first_step, directive_step, begin_step, end_step, stage_step, step, run_on, has_bytes, may_end, begun}
use Rattle.tdl_reader.specs.Reading.{sets_of, IsMalformed, in_letter_set, in_rule}
use Rattle.tdl_reader.specs.Running.{has_form}
use Rattle.tdl_reader.specs.Toks.{Tok, value, IsKind}
use Rattle.tdl_reader.specs.Trees.{BodyTree, body_of, SetTree, GroupTree, StatementTree, begins, ends, includes, letters}
use Rattle.tdl_reader.proofs.SetForms.{group_formless, set_formless_by, group_says, set_says}
use Rattle.tdl_reader.proofs.Holds.{IsNothing, one_token, no_terms_yet, Opened, none_open, Holds, After, term_holds, point_holds, BodyAt, body_at}

-- the sets after a statement, and those of statements in a row
sets_after : (sets after : List SetTree) (ts : List Tok) (s : StatementTree) → SpellsStatement sets ts s after → after ≡ sets ++ sets_of (s ∷ [])
sets_after sets _ _ _ (define n d e gs bs affix b k l a h m) = sym (append-nil sets)
sets_after sets _ _ _ (add n d e bs b k l h m) = sym (append-nil sets)
sets_after sets _ _ _ (begin_types b t e k l m) = sym (append-nil sets)
sets_after sets _ _ _ (begin_instances b i w n e k l j h m) = sym (append-nil sets)
sets_after sets _ _ _ (end_types b t e k l m) = sym (append-nil sets)
sets_after sets _ _ _ (end_instances b i e k l m) = sym (append-nil sets)
sets_after sets _ _ _ (include_file i t e k l m) = sym (append-nil sets)
sets_after sets _ _ _ (letter_set p g x k l w) = refl
sets_after sets _ _ _ (dotted_letter_set p g e x k l w m) = refl

sets_of-append : (ss us : List StatementTree) → sets_of (ss ++ us) ≡ sets_of ss ++ sets_of us
sets_of-append [] us = refl
sets_of-append (letters set at ∷ ss) us = ap (λ l. set ∷ l) (sets_of-append ss us)
sets_of-append (_ ∷ ss) us = sets_of-append ss us

-- whole statements, before a file that spells the others
pub record Past (done : PastTree) (before : List Tok) : Type 0 where
  pub sets : done.sets ≡ sets_of done.statements
  pub on : (us : List Tok) (ss : List StatementTree) → SpellsFile done.sets us ss → SpellsFile [] (before ++ us) (done.statements ++ ss)

file_moved : (ts us : List Tok) (ss rs : List StatementTree) → SpellsFile [] ts ss → ts ≡ us → ss ≡ rs → SpellsFile [] us rs
file_moved ts us ss rs h e f = subst (λ l. SpellsFile [] l rs) e (subst (λ z. SpellsFile [] ts z) f h)

past_whole : (done : PastTree) (before : List Tok) → Past done before → SpellsFile [] before done.statements
past_whole done before p = file_moved _ _ _ _ (p.on [] [] (no_statements done.sets)) (append-nil before) (append-nil done.statements)

past_more : (done : PastTree) (before vs : List Tok) (s : StatementTree) (after : List SetTree) → Past done before → SpellsStatement done.sets vs s after → Past (record { statements = done.statements ++ s ∷ []; sets = after }) (before ++ vs)
past_more done before vs s after p h = record {
  sets = sets_after done.sets after vs s h ∙ (ap (λ l. l ++ sets_of (s ∷ [])) p.sets ∙ sym (sets_of-append done.statements (s ∷ [])));
  on = λ us ss j. file_moved _ _ _ _ (p.on (vs ++ us) (s ∷ ss) (more_statements done.sets after vs us s ss h j)) (sym (append_assoc before vs us)) (sym (append_assoc done.statements (s ∷ []) ss));
}

-- whole statements, and what has begun of the next
pub record InFile (done : PastTree) (P : List Tok → Type 0) (ts : List Tok) : Type 0 where
  pub before : List Tok
  pub piece : List Tok
  pub split : ts ≡ before ++ piece
  pub past : Past done before
  pub holds : P piece

further : (done : PastTree) (P Q : List Tok → Type 0) (ts ws : List Tok) → InFile done P ts → ((p : List Tok) → P p → Q (p ++ ws)) → InFile done Q (ts ++ ws)
further done P Q ts ws a f = record { before = a.before; piece = a.piece ++ ws; split = ap (λ l. l ++ ws) a.split ∙ append_assoc a.before a.piece ws; past = a.past; holds = f a.piece a.holds }

otherwise : (done : PastTree) (P Q : List Tok → Type 0) (ts : List Tok) → InFile done P ts → ((p : List Tok) → P p → Q p) → InFile done Q ts
otherwise done P Q ts a f = record { before = a.before; piece = a.piece; split = a.split; past = a.past; holds = f a.piece a.holds }

-- the statement stands whole
ended : (done : PastTree) (P : List Tok → Type 0) (ts ws : List Tok) (s : StatementTree) (after : List SetTree) → InFile done P ts → ((p : List Tok) → P p → SpellsStatement done.sets (p ++ ws) s after) → InFile (record { statements = done.statements ++ s ∷ []; sets = after }) IsNothing (ts ++ ws)
ended done P ts ws s after a f = record {
  before = a.before ++ (a.piece ++ ws);
  piece = [];
  split = ap (λ l. l ++ ws) a.split ∙ (append_assoc a.before a.piece ws ∙ sym (append-nil (a.before ++ (a.piece ++ ws))));
  past = past_more done a.before (a.piece ++ ws) s after a.past (f a.piece a.holds);
  holds = refl;
}

-- a letter set stands whole, whether its dot follows or not
pub record Lettered (done : PastTree) (ts : List Tok) : Type 0 where
  pub now : InFile done IsNothing ts
  pub dotted : (e : Tok) → IsKind Dot e → InFile done IsNothing (ts ++ e ∷ [])

-- the beginnings of statements
pub data LetterBegun : ℕ → List Tok → Type 0 where
  letter_begun : (p : Tok) → IsKind LetterSet p → LetterBegun p.at (p ∷ [])

pub data NameBegun : List ℕ → ℕ → List Tok → Type 0 where
  name_begun : (n : Tok) → IsKind Name n → NameBegun (value n) n.at (n ∷ [])

pub data Defining : List ℕ → ℕ → List Tok → Type 0 where
  defining : (n d : Tok) → IsKind Name n → IsKind Defined d → Defining (value n) n.at (n ∷ d ∷ [])

abbrev pub IsAffix : Bool → Tok → Type 0
IsAffix false p = IsKind Prefix p
IsAffix true p = IsKind Suffix p

pub data Affixing (sets : List SetTree) : List ℕ → ℕ → Bool → List GroupTree → List Tok → Type 0 where
  affix_begun : (n d p : Tok) (s : Bool) → IsKind Name n → IsKind Defined d → IsAffix s p → Affixing sets (value n) n.at s [] (n ∷ d ∷ p ∷ [])
  affix_grouped : (n d p : Tok) (s : Bool) (ts : List Tok) (gs : List GroupTree) → IsKind Name n → IsKind Defined d → IsAffix s p → SpellsGroups sets ts gs → Affixing sets (value n) n.at s gs (n ∷ d ∷ p ∷ ts)

pub data WordBegun (word : List ℕ) : ℕ → List Tok → Type 0 where
  word_begun : (b : Tok) → IsWord word b → WordBegun word b.at (b ∷ [])

pub data InstanceBegun : ℕ → List Tok → Type 0 where
  instance_begun : (b i : Tok) → IsWord (codes "begin") b → IsWord (codes "instance") i → InstanceBegun b.at (b ∷ i ∷ [])

pub data StatusBegun : ℕ → List Tok → Type 0 where
  status_begun : (b i w : Tok) → IsWord (codes "begin") b → IsWord (codes "instance") i → IsWord (codes "status") w → StatusBegun b.at (b ∷ i ∷ w ∷ [])

-- a statement up to its dot
pub record Finishing (sets : List SetTree) (s : StatementTree) (ts : List Tok) : Type 0 where
  pub on : (e : Tok) → IsKind Dot e → SpellsStatement sets (ts ++ e ∷ []) s sets

-- a statement up to its body
pub record Headed (sets : List SetTree) (head : HeadTree) (ts : List Tok) : Type 0 where
  pub on : (ws : List Tok) (b : BodyTree) (e : Tok) → SpellsBody ws b → IsKind Dot e → SpellsStatement sets (ts ++ (ws ++ e ∷ [])) (with_body head b) sets

pub data BodyBegun (sets : List SetTree) : HeadTree → List FrameTree → PointTree → List Tok → Type 0 where
  body_begun : (head : HeadTree) (stack : List FrameTree) (point : PointTree) (front back : List Tok) → Headed sets head front → Holds stack point back → BodyBegun sets head stack point (front ++ back)

-- what the tokens are at a stage
abbrev pub Stands : PastTree → StageTree → List Tok → Type 0
Stands done between ts = InFile done IsNothing ts
Stands done lettered ts = Lettered done ts
Stands done (letter at) ts = InFile done (LetterBegun at) ts
Stands done (named name at) ts = InFile done (NameBegun name at) ts
Stands done (defined name at) ts = InFile done (Defining name at) ts
Stands done (affixed name at s groups) ts = InFile done (Affixing done.sets name at s groups) ts
Stands done (begin at) ts = InFile done (WordBegun (codes "begin") at) ts
Stands done (begin_instance at) ts = InFile done (InstanceBegun at) ts
Stands done (begin_status at) ts = InFile done (StatusBegun at) ts
Stands done (end at) ts = InFile done (WordBegun (codes "end") at) ts
Stands done (include at) ts = InFile done (WordBegun (codes "include") at) ts
Stands done (want_dot s) ts = InFile done (Finishing done.sets s) ts
Stands done (in_body head stack point) ts = InFile done (BodyBegun done.sets head stack point) ts

abbrev pub Arrives : Option State → List Tok → Type 0
Arrives None ts = Unit {0}
Arrives (Some s) ts = Stands s.done s.stage ts

same_word : (v w : List ℕ) → has_bytes v w ≡ true → v ≡ w
same_word v w e = (bytes_eq-Decides v w).0 e

directive_holds : (done : PastTree) (t : Tok) → IsKind Directive t → (ts : List Tok) → InFile done IsNothing ts → Arrives (directive_step done t) (ts ++ t ∷ [])
directive_holds done t l ts a = by_words (has_bytes (value t) (codes "begin")) (has_bytes (value t) (codes "end")) (has_bytes (value t) (codes "include")) refl refl refl
  where
    word : (w : List ℕ) → has_bytes (value t) w ≡ true → InFile done (WordBegun w t.at) (ts ++ t ∷ [])
    word w e = further done IsNothing (WordBegun w t.at) ts (t ∷ []) a (one_token (WordBegun w t.at) t (word_begun t (l, same_word (value t) w e)))

    by_words : (b c d : Bool) → has_bytes (value t) (codes "begin") ≡ b → has_bytes (value t) (codes "end") ≡ c → has_bytes (value t) (codes "include") ≡ d
        → Arrives (if b then at_stage done (begin t.at) else (if c then at_stage done (end t.at) else (if d then at_stage done (include t.at) else None))) (ts ++ t ∷ [])
    by_words true c d e f g = word (codes "begin") e
    by_words false true d e f g = word (codes "end") f
    by_words false false true e f g = word (codes "include") g
    by_words false false false e f g = tt

first_holds : (done : PastTree) (k : TokenKind) (t : Tok) → IsKind k t → (ts : List Tok) → InFile done IsNothing ts → Arrives (first_step done k t) (ts ++ t ∷ [])
first_holds done Name t l ts a = further done IsNothing (NameBegun (value t) t.at) ts (t ∷ []) a (one_token (NameBegun (value t) t.at) t (name_begun t l))
first_holds done LetterSet t l ts a = further done IsNothing (LetterBegun t.at) ts (t ∷ []) a (one_token (LetterBegun t.at) t (letter_begun t l))
first_holds done Directive t l ts a = directive_holds done t l ts a
first_holds done _ t l ts a = tt

-- what a token makes of a beginning
types_begun : (sets : List SetTree) (at : ℕ) (p : List Tok) → WordBegun (codes "begin") at p → (t : Tok) → IsWord (codes "type") t → Finishing sets (begins TypeDef at) (p ++ t ∷ [])
types_begun sets _ _ (word_begun b k) t l = record { on = λ e m. begin_types b t e k l m }

instances_begun : (at : ℕ) (p : List Tok) → WordBegun (codes "begin") at p → (t : Tok) → IsWord (codes "instance") t → InstanceBegun at (p ++ t ∷ [])
instances_begun _ _ (word_begun b k) t l = instance_begun b t k l

begin_holds : (done : PastTree) (at : ℕ) (t : Tok) → IsKind Directive t → (ts : List Tok) → InFile done (WordBegun (codes "begin") at) ts → Arrives (begin_step done at t) (ts ++ t ∷ [])
begin_holds done at t l ts a = by_words (has_bytes (value t) (codes "type")) (has_bytes (value t) (codes "instance")) refl refl
  where
    by_words : (b c : Bool) → has_bytes (value t) (codes "type") ≡ b → has_bytes (value t) (codes "instance") ≡ c
        → Arrives (if b then at_stage done (want_dot (begins TypeDef at)) else (if c then at_stage done (begin_instance at) else None)) (ts ++ t ∷ [])
    by_words true c e f = further done (WordBegun (codes "begin") at) (Finishing done.sets (begins TypeDef at)) ts (t ∷ []) a (λ p h. types_begun done.sets at p h t (l, same_word (value t) (codes "type") e))
    by_words false true e f = further done (WordBegun (codes "begin") at) (InstanceBegun at) ts (t ∷ []) a (λ p h. instances_begun at p h t (l, same_word (value t) (codes "instance") f))
    by_words false false e f = tt

status_after : (at : ℕ) (p : List Tok) → InstanceBegun at p → (t : Tok) → IsWord (codes "status") t → StatusBegun at (p ++ t ∷ [])
status_after _ _ (instance_begun b i k l) t m = status_begun b i t k l m

status_holds : (done : PastTree) (at : ℕ) (t : Tok) → IsKind Directive t → (ts : List Tok) → InFile done (InstanceBegun at) ts → Arrives (if has_bytes (value t) (codes "status") then at_stage done (begin_status at) else None) (ts ++ t ∷ [])
status_holds done at t l ts a = by_word (has_bytes (value t) (codes "status")) refl
  where
    by_word : (b : Bool) → has_bytes (value t) (codes "status") ≡ b → Arrives (if b then at_stage done (begin_status at) else None) (ts ++ t ∷ [])
    by_word true e = further done (InstanceBegun at) (StatusBegun at) ts (t ∷ []) a (λ p h. status_after at p h t (l, same_word (value t) (codes "status") e))
    by_word false e = tt

status_named : (sets : List SetTree) (at : ℕ) (p : List Tok) → StatusBegun at p → (n : Tok) → IsKind Name n → Finishing sets (begins (status_of (value n)) at) (p ++ n ∷ [])
status_named sets _ _ (status_begun b i w k l m) n j = record { on = λ e h. begin_instances b i w n e k l m j h }

types_ended : (sets : List SetTree) (at : ℕ) (p : List Tok) → WordBegun (codes "end") at p → (t : Tok) → IsWord (codes "type") t → Finishing sets (ends false at) (p ++ t ∷ [])
types_ended sets _ _ (word_begun b k) t l = record { on = λ e m. end_types b t e k l m }

instances_ended : (sets : List SetTree) (at : ℕ) (p : List Tok) → WordBegun (codes "end") at p → (t : Tok) → IsWord (codes "instance") t → Finishing sets (ends true at) (p ++ t ∷ [])
instances_ended sets _ _ (word_begun b k) t l = record { on = λ e m. end_instances b t e k l m }

end_holds : (done : PastTree) (at : ℕ) (t : Tok) → IsKind Directive t → (ts : List Tok) → InFile done (WordBegun (codes "end") at) ts → Arrives (end_step done at t) (ts ++ t ∷ [])
end_holds done at t l ts a = by_words (has_bytes (value t) (codes "type")) (has_bytes (value t) (codes "instance")) refl refl
  where
    by_words : (b c : Bool) → has_bytes (value t) (codes "type") ≡ b → has_bytes (value t) (codes "instance") ≡ c
        → Arrives (if b then at_stage done (want_dot (ends false at)) else (if c then at_stage done (want_dot (ends true at)) else None)) (ts ++ t ∷ [])
    by_words true c e f = further done (WordBegun (codes "end") at) (Finishing done.sets (ends false at)) ts (t ∷ []) a (λ p h. types_ended done.sets at p h t (l, same_word (value t) (codes "type") e))
    by_words false true e f = further done (WordBegun (codes "end") at) (Finishing done.sets (ends true at)) ts (t ∷ []) a (λ p h. instances_ended done.sets at p h t (l, same_word (value t) (codes "instance") f))
    by_words false false e f = tt

file_named : (sets : List SetTree) (at : ℕ) (p : List Tok) → WordBegun (codes "include") at p → (t : Tok) → IsKind Text t → Finishing sets (includes (value t) at) (p ++ t ∷ [])
file_named sets _ _ (word_begun b k) t l = record { on = λ e m. include_file b t e k l m }

letters_whole : (sets : List SetTree) (at : ℕ) (p : List Tok) → LetterBegun at p → (g : Tok) → IsKind Group g → SpellsStatement sets (p ++ g ∷ []) (letters (letters_of g.spelled) at) (sets ++ letters_of g.spelled ∷ [])
letters_whole sets _ _ (letter_begun p k) g l = letter_set p g (letters_of g.spelled) k l (set_says g.spelled)

letters_dotted : (sets : List SetTree) (at : ℕ) (p : List Tok) → LetterBegun at p → (g e : Tok) → IsKind Group g → IsKind Dot e → SpellsStatement sets (p ++ g ∷ e ∷ []) (letters (letters_of g.spelled) at) (sets ++ letters_of g.spelled ∷ [])
letters_dotted sets _ _ (letter_begun p k) g e l m = dotted_letter_set p g e (letters_of g.spelled) k l (set_says g.spelled) m

letter_holds : (done : PastTree) (at : ℕ) (t : Tok) → IsKind Group t → (ts : List Tok) → InFile done (LetterBegun at) ts → Lettered (with_letters done (letters_of t.spelled) at) (ts ++ t ∷ [])
letter_holds done at t l ts a = record {
  now = ended done (LetterBegun at) ts (t ∷ []) (letters (letters_of t.spelled) at) (done.sets ++ letters_of t.spelled ∷ []) a (λ p h. letters_whole done.sets at p h t l);
  dotted = λ e m. subst (InFile (with_letters done (letters_of t.spelled) at) IsNothing) (sym (append_assoc ts (t ∷ []) (e ∷ []))) (ended done (LetterBegun at) ts (t ∷ e ∷ []) (letters (letters_of t.spelled) at) (done.sets ++ letters_of t.spelled ∷ []) a (λ p h. letters_dotted done.sets at p h t e l m));
}

defined_after : (name : List ℕ) (at : ℕ) (p : List Tok) → NameBegun name at p → (d : Tok) → IsKind Defined d → Defining name at (p ++ d ∷ [])
defined_after _ _ _ (name_begun n k) d l = defining n d k l

adding : (sets : List SetTree) (name : List ℕ) (at : ℕ) (p : List Tok) → NameBegun name at p → (d : Tok) → IsKind Added d → Headed sets (to_add name at) (p ++ d ∷ [])
adding sets _ _ _ (name_begun n k) d l = record { on = λ ws b e w m. add n d e ws b k l w m }

-- no token of a body yet
at_start : Holds [] (want_term []) []
at_start = record { outer = []; inner = []; piece = []; split = refl; opened = none_open; terms = no_terms_yet; holds = refl }

fresh_body : (sets : List SetTree) (head : HeadTree) (p : List Tok) → Headed sets head p → BodyBegun sets head [] (want_term []) p
fresh_body sets head p h = subst (BodyBegun sets head [] (want_term [])) (append-nil p) (body_begun head [] (want_term []) p [] h at_start)

affix_after : (sets : List SetTree) (name : List ℕ) (at : ℕ) (s : Bool) (p : List Tok) → Defining name at p → (t : Tok) → IsAffix s t → Affixing sets name at s [] (p ++ t ∷ [])
affix_after sets _ _ s _ (defining n d k l) t m = affix_begun n d t s k l m

unaffixed : (sets : List SetTree) (name : List ℕ) (at : ℕ) (p : List Tok) → Defining name at p → Headed sets (to_define name at None) p
unaffixed sets _ _ _ (defining n d k l) = record { on = λ ws b e w m. define n d e [] ws None b k l no_affix w m }

last_group : (sets : List SetTree) (g : Tok) → IsKind Group g → SpellsGroups sets (g ∷ []) (group_of sets g.spelled ∷ [])
last_group sets g k = one_group g (group_of sets g.spelled) k (group_says sets g.spelled)

groups_more : (sets : List SetTree) (ts : List Tok) (gs : List GroupTree) → SpellsGroups sets ts gs → (g : Tok) → IsKind Group g → SpellsGroups sets (ts ++ g ∷ []) (gs ++ group_of sets g.spelled ∷ [])
groups_more sets _ _ (one_group h x k w) g l = more_groups h x (g ∷ []) (group_of sets g.spelled ∷ []) k w (last_group sets g l)
groups_more sets _ _ (more_groups h x ts gs k w j) g l = more_groups h x (ts ++ g ∷ []) (gs ++ group_of sets g.spelled ∷ []) k w (groups_more sets ts gs j g l)

group_after : (sets : List SetTree) (name : List ℕ) (at : ℕ) (s : Bool) (gs : List GroupTree) (p : List Tok) → Affixing sets name at s gs p → (g : Tok) → IsKind Group g → Affixing sets name at s (gs ++ group_of sets g.spelled ∷ []) (p ++ g ∷ [])
group_after sets _ _ _ _ _ (affix_begun n d p s k l m) g j = affix_grouped n d p s (g ∷ []) (group_of sets g.spelled ∷ []) k l m (last_group sets g j)
group_after sets _ _ _ _ _ (affix_grouped n d p s ts gs k l m h) g j = affix_grouped n d p s (ts ++ g ∷ []) (gs ++ group_of sets g.spelled ∷ []) k l m (groups_more sets ts gs h g j)

affix_spelled : (sets : List SetTree) (s : Bool) (p : Tok) (ts : List Tok) (gs : List GroupTree) → IsAffix s p → SpellsGroups sets ts gs → SpellsAffix sets (p ∷ ts) (Some (record { suffix = s; groups = gs }))
affix_spelled sets false p ts gs k h = prefix p ts gs k h
affix_spelled sets true p ts gs k h = suffix p ts gs k h

affix_headed : (sets : List SetTree) (name : List ℕ) (at : ℕ) (s : Bool) (g : GroupTree) (gs : List GroupTree) (p : List Tok) → Affixing sets name at s (g ∷ gs) p → Headed sets (to_define name at (Some (record { suffix = s; groups = g ∷ gs }))) p
affix_headed sets _ _ _ g gs _ (affix_grouped n d p s ts _ k l m h) = record { on = λ ws b e w j. define n d e (p ∷ ts) ws (Some (record { suffix = s; groups = g ∷ gs })) b k l (affix_spelled sets s p ts (g ∷ gs) m h) w j }

-- a body begins with its first token
into_body : (done : PastTree) (head : HeadTree) (o : Option BodyState) (ts ws : List Tok) → InFile done (Headed done.sets head) ts → After o ws → Arrives (in_body_at done head o) (ts ++ ws)
into_body done head None ts ws a h = tt
into_body done head (Some b) ts ws a h = further done (Headed done.sets head) (BodyBegun done.sets head b.stack b.point) ts ws a (λ p j. body_begun head b.stack b.point p ws j h)

groups_holds : (done : PastTree) (name : List ℕ) (at : ℕ) (s : Bool) (groups : List GroupTree) (k : TokenKind) (t : Tok) → IsKind k t → (ts : List Tok) → InFile done (Affixing done.sets name at s groups) ts → Arrives (groups_step done name at s groups k t) (ts ++ t ∷ [])
groups_holds done name at s [] k t l ts a = tt
groups_holds done name at s (g ∷ gs) k t l ts a =
    let head = to_define name at (Some (record { suffix = s; groups = g ∷ gs })) in
    into_body done head (term_step [] [] k t) ts (t ∷ []) (otherwise done (Affixing done.sets name at s (g ∷ gs)) (Headed done.sets head) ts a (λ p h. affix_headed done.sets name at s g gs p h)) (term_holds [] [] k t l [] at_start)

-- the token ends the body
data IsEnd : List FrameTree → PointTree → TokenKind → Type 0 where
  is_end : (xs : _) (x : _) → IsEnd [] (got_term xs x) Dot

end_of : (stack : List FrameTree) (point : PointTree) (k : TokenKind) → ends_body stack point k ≡ true → IsEnd stack point k
end_of [] (got_term xs x) Dot e = is_end xs x
end_of (f ∷ stack) point Dot e = absurd (false≢true e)
end_of [] _ Dot e = absurd (false≢true e)
end_of stack point _ e = absurd (false≢true e)

none_outside : (ts : List Tok) → Opened [] ts → ts ≡ []
none_outside _ none_open = refl

body_whole : (sets : List SetTree) (head : HeadTree) (b : BodyTree) (front back : List Tok) (e : Tok) → Headed sets head front → BodyAt [] b back → IsKind Dot e → SpellsStatement sets ((front ++ back) ++ e ∷ []) (with_body head b) sets
body_whole sets head b front back e h a m =
    let same : back ≡ a.words = a.split ∙ ap (λ l. l ++ a.words) (none_outside a.outer a.opened) in
    subst (λ l. SpellsStatement sets l (with_body head b) sets) (ap (λ l. front ++ (l ++ e ∷ [])) (sym same) ∙ sym (append_assoc front back (e ∷ []))) (h.on a.words b e a.body m)

body_ended : (sets : List SetTree) (head : HeadTree) (xs : _) (x : _) (p : List Tok) → BodyBegun sets head [] (got_term xs x) p → (e : Tok) → IsKind Dot e → SpellsStatement sets (p ++ e ∷ []) (with_body head (body_of xs x)) sets
body_ended sets _ xs x _ (body_begun head _ _ front back h b) e m = body_whole sets head (body_of xs x) front back e h (body_at [] xs x back b) m

end_holds_by : (done : PastTree) (head : HeadTree) (stack : List FrameTree) (point : PointTree) (k : TokenKind) (t : Tok) → IsEnd stack point k → IsKind k t → (ts : List Tok) → InFile done (BodyBegun done.sets head stack point) ts → Arrives (finish done head point) (ts ++ t ∷ [])
end_holds_by done head _ _ _ t (is_end xs x) l ts a = ended done (BodyBegun done.sets head [] (got_term xs x)) ts (t ∷ []) (with_body head (body_of xs x)) done.sets a (λ p h. body_ended done.sets head xs x p h t l)

body_on : (sets : List SetTree) (head : HeadTree) (stack : List FrameTree) (point : PointTree) (p : List Tok) → BodyBegun sets head stack point p → (t : Tok) (next : BodyState) → ((back : List Tok) → Holds stack point back → Holds next.stack next.point (back ++ t ∷ [])) → BodyBegun sets head next.stack next.point (p ++ t ∷ [])
body_on sets _ _ _ _ (body_begun head stack point front back h b) t next f = subst (BodyBegun sets head next.stack next.point) (sym (append_assoc front back (t ∷ []))) (body_begun head next.stack next.point front (back ++ t ∷ []) h (f back b))

body_goes_on : (done : PastTree) (head : HeadTree) (stack : List FrameTree) (point : PointTree) (t : Tok) (o : Option BodyState) → ((back : List Tok) → Holds stack point back → After o (back ++ t ∷ [])) → (ts : List Tok) → InFile done (BodyBegun done.sets head stack point) ts → Arrives (in_body_at done head o) (ts ++ t ∷ [])
body_goes_on done head stack point t None f ts a = tt
body_goes_on done head stack point t (Some next) f ts a = further done (BodyBegun done.sets head stack point) (BodyBegun done.sets head next.stack next.point) ts (t ∷ []) a (λ p h. body_on done.sets head stack point p h t next f)

body_holds : (done : PastTree) (head : HeadTree) (stack : List FrameTree) (point : PointTree) (k : TokenKind) (t : Tok) → IsKind k t → (ts : List Tok) → InFile done (BodyBegun done.sets head stack point) ts → Arrives (body_step done head stack point k t) (ts ++ t ∷ [])
body_holds done head stack point k t l ts a = by_end (ends_body stack point k) refl
  where
    by_end : (b : Bool) → ends_body stack point k ≡ b → Arrives (if b then finish done head point else in_body_at done head (point_step stack point k t)) (ts ++ t ∷ [])
    by_end true e = end_holds_by done head stack point k t (end_of stack point k e) l ts a
    by_end false e = body_goes_on done head stack point t (point_step stack point k t) (λ back h. point_holds stack point k t l back h) ts a

-- a step keeps what the tokens are
stage_holds : (done : PastTree) (stage : StageTree) (k : TokenKind) (t : Tok) → IsKind k t → (ts : List Tok) → Stands done stage ts → Arrives (stage_step done stage k t) (ts ++ t ∷ [])
stage_holds done between k t l ts a = first_holds done k t l ts a
stage_holds done lettered Dot t l ts a = a.dotted t l
stage_holds done lettered k t l ts a = first_holds done k t l ts a.now
stage_holds done (letter at) Group t l ts a = letter_holds done at t l ts a
stage_holds done (named name at) Defined t l ts a = further done (NameBegun name at) (Defining name at) ts (t ∷ []) a (λ p h. defined_after name at p h t l)
stage_holds done (named name at) Added t l ts a = further done (NameBegun name at) (BodyBegun done.sets (to_add name at) [] (want_term [])) ts (t ∷ []) a (λ p h. fresh_body done.sets (to_add name at) (p ++ t ∷ []) (adding done.sets name at p h t l))
stage_holds done (defined name at) Prefix t l ts a = further done (Defining name at) (Affixing done.sets name at false []) ts (t ∷ []) a (λ p h. affix_after done.sets name at false p h t l)
stage_holds done (defined name at) Suffix t l ts a = further done (Defining name at) (Affixing done.sets name at true []) ts (t ∷ []) a (λ p h. affix_after done.sets name at true p h t l)
stage_holds done (defined name at) k t l ts a = into_body done (to_define name at None) (term_step [] [] k t) ts (t ∷ []) (otherwise done (Defining name at) (Headed done.sets (to_define name at None)) ts a (λ p h. unaffixed done.sets name at p h)) (term_holds [] [] k t l [] at_start)
stage_holds done (affixed name at s groups) Group t l ts a = further done (Affixing done.sets name at s groups) (Affixing done.sets name at s (groups ++ group_of done.sets t.spelled ∷ [])) ts (t ∷ []) a (λ p h. group_after done.sets name at s groups p h t l)
stage_holds done (affixed name at s groups) k t l ts a = groups_holds done name at s groups k t l ts a
stage_holds done (begin at) Directive t l ts a = begin_holds done at t l ts a
stage_holds done (begin_instance at) Directive t l ts a = status_holds done at t l ts a
stage_holds done (begin_status at) Name t l ts a = further done (StatusBegun at) (Finishing done.sets (begins (status_of (value t)) at)) ts (t ∷ []) a (λ p h. status_named done.sets at p h t l)
stage_holds done (end at) Directive t l ts a = end_holds done at t l ts a
stage_holds done (include at) Text t l ts a = further done (WordBegun (codes "include") at) (Finishing done.sets (includes (value t) at)) ts (t ∷ []) a (λ p h. file_named done.sets at p h t l)
stage_holds done (want_dot s) Dot t l ts a = ended done (Finishing done.sets s) ts (t ∷ []) s done.sets a (λ p h. h.on t l)
stage_holds done (in_body head stack point) k t l ts a = body_holds done head stack point k t l ts a
stage_holds _ _ _ t l ts a = tt

run_holds : (o : Option State) (ts : List Tok) (final : State) (before : List Tok) → Arrives o before → run_on o ts ≡ Some final → Stands final.done final.stage (before ++ ts)
run_holds None ts final before h e = absurd (none-some _ e)
run_holds (Some s) [] final before h e = subst (Stands final.done final.stage) (sym (append-nil before)) (subst (λ (q : State). Stands q.done q.stage before) (same_Some s final e) h)
run_holds (Some s) (t ∷ ts) final before h e = subst (Stands final.done final.stage) (append_assoc before (t ∷ []) ts) (run_holds (step s t) ts final (before ++ t ∷ []) (stage_holds s.done s.stage t.kind t refl before h) e)

at_begin : Arrives (Some begun) []
at_begin = record { before = []; piece = []; split = refl; past = record { sets = refl; on = λ us ss h. h }; holds = refl }

-- where the machine stands after tokens
pub run_stands : (ts : List Tok) (s : State) → run_on (Some begun) ts ≡ Some s → Stands s.done s.stage ts
run_stands ts s e = run_holds (Some begun) ts s [] at_begin e

rest_spelled : (done : PastTree) (ts : List Tok) → InFile done IsNothing ts → SpellsFile [] ts done.statements
rest_spelled done ts a = subst (λ l. SpellsFile [] l done.statements) (sym (a.split ∙ (ap (λ l. a.before ++ l) a.holds ∙ append-nil a.before))) (past_whole done a.before a.past)

stage_spelled : (done : PastTree) (stage : StageTree) (ts : List Tok) → Stands done stage ts → may_end stage ≡ true → SpellsFile [] ts done.statements
stage_spelled done between ts a e = rest_spelled done ts a
stage_spelled done lettered ts a e = rest_spelled done ts a.now
stage_spelled done _ ts a e = absurd (false≢true e)

-- a run that may end spells a file
pub sound : (ts : List Tok) (s : State) → run_on (Some begun) ts ≡ Some s → may_end s.stage ≡ true → SpellsFile [] ts s.done.statements
sound ts s e m = stage_spelled s.done s.stage ts (run_stands ts s e) m

letter_malformed : (ss : List StatementTree) (at : ℕ) (before p : List Tok) (g : Tok) → SpellsFile [] before ss → LetterBegun at p → is_some (read_letters g.spelled) ≡ false → IsMalformed (before ++ p) g
letter_malformed ss _ before _ g h (letter_begun p k) e = in_letter_set before ss p refl h k (set_formless_by g.spelled e)

rule_malformed : (ss : List StatementTree) (name : List ℕ) (at : ℕ) (s : Bool) (gs : List GroupTree) (before p : List Tok) (g : Tok) → IsKind Group g → SpellsFile [] before ss → Affixing (sets_of ss) name at s gs p → is_some (read_group (sets_of ss) g.spelled) ≡ false → IsMalformed (before ++ p) g
rule_malformed ss _ _ _ _ before _ g j h (affix_begun n d p s k l m) e =
    in_rule before (p ∷ []) ss n d _ refl h k l (affix_spelled (sets_of ss) s p (g ∷ []) (group_of (sets_of ss) g.spelled ∷ []) m (last_group (sets_of ss) g j)) (group_formless (sets_of ss) g.spelled e)
rule_malformed ss _ _ _ _ before _ g j h (affix_grouped n d p s ts gs k l m i) e =
    in_rule before (p ∷ ts) ss n d _ refl h k l (affix_spelled (sets_of ss) s p (ts ++ g ∷ []) (gs ++ group_of (sets_of ss) g.spelled ∷ []) m (groups_more (sets_of ss) ts gs i g j)) (group_formless (sets_of ss) g.spelled e)

-- a group out of form by the machine is one by the grammar
pub malformed_at : (done : PastTree) (stage : StageTree) (ts : List Tok) (g : Tok) (k : TokenKind) → IsKind k g → Stands done stage ts → has_form done.sets stage k g ≡ false → IsKind Group g × IsMalformed ts g
malformed_at done (letter at) ts g Group l a e = (l, subst (λ q. IsMalformed q g) (sym a.split) (letter_malformed done.statements at a.before a.piece g (past_whole done a.before a.past) a.holds e))
malformed_at done (affixed name at s groups) ts g Group l a e =
    let sets = a.past.sets in (
      l,
      subst (λ q. IsMalformed q g) (sym a.split) (rule_malformed done.statements name at s groups a.before a.piece g l (past_whole done a.before a.past)
          (subst (λ q. Affixing q name at s groups a.piece) sets a.holds) (subst (λ q. is_some (read_group q g.spelled) ≡ false) sets e)),
    )
malformed_at done _ ts g _ l a e = absurd (true≢false e)
