-- Groups, as they are read, write only variables of their patterns.
use Rattle.std.proofs.Common.{ℕ, ◌≡◌, ◌==◌, Bool, true, false, not, if◌then◌else◌, List, [], ◌∷◌, ◌++◌, map, Option, Some, None, inl, inr, refl, sym, ◌∙◌, ap, subst}
use Rattle.std.specs.List.{list_all}
use Rattle.std.proofs.lemmas.Bool.{eq-eqb}
use Rattle.std.proofs.lemmas.List.Sums.{list_all-from_AllPass}
use Rattle.tdl_reader.specs.Grammar.{SpellsGroups, one_group, more_groups, SpellsAffix, no_affix, prefix, suffix, SpellsStatement, define, add, begin_types, begin_instances, end_types, end_instances, include_file, letter_set, dotted_letter_set, SpellsFile, no_statements, more_statements}
use Rattle.tdl_reader.specs.Groups.{IsNamed, AreSigns, no_signs, itself, variable as set_variable, last_mark, IsPattern, empty, of_signs, HasVariable, here, later, IsGroup, Says, by_form, formless}
use Rattle.tdl_reader.specs.GroupScan.{latest}
use Rattle.tdl_reader.specs.Toks.{Tok}
use Rattle.tdl_reader.specs.Trees.{SetTree, SignTree as WrittenSign, one_char, one_of, GroupTree as WrittenGroup, AffixTree, StatementTree}
use Rattle.tdl_reader.proofs.GroupForms.{and_parts}
use Rattle.lexicon.specs.Words.{Has, Each}
use Rattle.spelling_rules.specs.Trees.{variable, RuleTree, IsBound}
use Rattle.grammar_load.specs.Spellings.{sign_written, group_written, affix_written, rule_written}

is_not : (b : Bool) → not b ≡ true → b ≡ false
is_not true e = absurd (let z : false ≡ true = e in cc)
is_not false e = refl

-- no set of this name comes later
abbrev NoneLater : ℕ → List SetTree → Type 0
NoneLater name after = list_all (λ r. not (r.name == name)) after ≡ true

none_later : (found : Option SetTree) (name : ℕ) (after : List SetTree) → NoneLater name after → latest found name after ≡ found
none_later found name [] e = refl
none_later found name (r ∷ rs) e =
    let p = and_parts (not (r.name == name)) (list_all (λ (x : SetTree). not (x.name == name)) rs) e in
    ap (λ b. latest (if b then Some r else found) name rs) (is_not (r.name == name) p.0) ∙ none_later found name rs p.1

the_last : (found : Option SetTree) (name : ℕ) (before after : List SetTree) (s : SetTree) → s.name ≡ name → NoneLater name after → latest found name (before ++ s ∷ after) ≡ Some s
the_last found name [] after s e none = ap (λ b. latest (if b then Some s else found) name after) (eq-eqb s.name name e) ∙ none_later (Some s) name after none
the_last found name (r ∷ rs) after s e none = the_last (if r.name == name then Some r else found) name rs after s e none

latest_is : (sets : List SetTree) (name : ℕ) (s : SetTree) → IsNamed sets name s → latest None name sets ≡ Some s
latest_is sets name s h = ap (latest None name) h.split ∙ the_last None name h.before h.after s h.is (list_all-from_AllPass (λ (r : SetTree). not (r.name == name)) h.after h.last)

named_one : (sets : List SetTree) (name : ℕ) (s t : SetTree) → IsNamed sets name s → IsNamed sets name t → s ≡ t
named_one sets name s t h k = let z : Some s ≡ Some t = sym (latest_is sets name s h) ∙ latest_is sets name t k in cc

-- a variable's set is that of its name
abbrev IsOwn : List SetTree → WrittenSign → Type 0
IsOwn sets (one_char c) = Unit {0}
IsOwn sets (one_of s) = IsNamed sets s.name s

signs_own : (sets : List SetTree) (cs : List ℕ) (signs : List WrittenSign) → AreSigns sets cs signs → Each (IsOwn sets) signs
signs_own sets cs signs no_signs = tt
signs_own sets cs signs (itself c d rest more e f h) = (tt, signs_own sets rest more h)
signs_own sets cs signs (set_variable c d s rest more f n h) = (subst (λ k. IsNamed sets k s) (sym n.is) n, signs_own sets rest more h)
signs_own sets cs signs last_mark = (tt, tt)

pattern_own : (sets : List SetTree) (cs : List ℕ) (signs : List WrittenSign) → IsPattern sets cs signs → Each (IsOwn sets) signs
pattern_own sets cs signs empty = tt
pattern_own sets cs signs (of_signs _ _ n h) = signs_own sets cs signs h

own_at : (sets : List SetTree) (signs : List WrittenSign) (s : SetTree) → Each (IsOwn sets) signs → Has (one_of s) signs → IsNamed sets s.name s
own_at sets [] s e h = absurd h
own_at sets (x ∷ xs) s e (inl is) = subst (IsOwn sets) (sym is) e.0
own_at sets (x ∷ xs) s e (inr h) = own_at sets xs s e.1 h

-- the set of a variable among signs
pub record SetIn (name : ℕ) (signs : List WrittenSign) : Type 0 where
  pub set : SetTree
  pub there : Has (one_of set) signs
  pub named : set.name ≡ name

set_in : (name : ℕ) (signs : List WrittenSign) → HasVariable name signs → SetIn name signs
set_in name signs (here s rest e) = record { set = s; there = inl refl; named = e }
set_in name signs (later x rest h) = let r = set_in name rest h in record { set = r.set; there = inr r.there; named = r.named }

variable_in : (signs : List WrittenSign) (s : SetTree) → Has (one_of s) signs → HasVariable s.name signs
variable_in [] s h = absurd h
variable_in (x ∷ xs) s (inl e) = subst (λ y. HasVariable s.name (y ∷ xs)) e (here s xs refl)
variable_in (x ∷ xs) s (inr h) = later x xs (variable_in xs s h)

-- a variable that is written is that of a set
pub record WrittenIn (name : ℕ) (members : List ℕ) (signs : List WrittenSign) : Type 0 where
  pub set : SetTree
  pub there : Has (one_of set) signs
  pub is : variable name members ≡ variable set.name set.members

written_in : (name : ℕ) (members : List ℕ) (signs : List WrittenSign) → Has (variable name members) (map sign_written signs) → WrittenIn name members signs
written_in name members [] h = absurd h
written_in name members (one_char c ∷ xs) (inl e) = absurd cc
written_in name members (one_of s ∷ xs) (inl e) = record { set = s; there = inl refl; is = e }
written_in name members (x ∷ xs) (inr h) = let r = written_in name members xs h in record { set = r.set; there = inr r.there; is = r.is }

has_written : (signs : List WrittenSign) (s : SetTree) → Has (one_of s) signs → Has (variable s.name s.members) (map sign_written signs)
has_written [] s h = absurd h
has_written (x ∷ xs) s (inl e) = inl (ap sign_written e)
has_written (x ∷ xs) s (inr h) = inr (has_written xs s h)

same_name : (a b : ℕ) (xs ys : List ℕ) → variable a xs ≡ variable b ys → a ≡ b
same_name a b xs ys e = cc

group_bound : (sets : List SetTree) (cs : List ℕ) (g : WrittenGroup) → IsGroup sets cs g → IsBound (group_written g)
group_bound sets cs g h = λ name members has.
    let w = written_in name members g.with has in
    let p = set_in w.set.name g.pattern (h.bound w.set.name (variable_in g.with w.set w.there)) in
    let one : p.set ≡ w.set = named_one sets w.set.name p.set w.set (subst (λ k. IsNamed sets k p.set) p.named (own_at sets g.pattern p.set (pattern_own sets h.p g.pattern h.pattern) p.there)) (own_at sets g.with w.set (pattern_own sets h.r g.with h.with) w.there) in
    subst (λ v. Has v (map sign_written g.pattern)) (sym w.is) (has_written g.pattern w.set (subst (λ s. Has (one_of s) g.pattern) one p.there))

said_bound : (sets : List SetTree) (cs : List ℕ) (g : WrittenGroup) → Says sets cs g → IsBound (group_written g)
said_bound sets cs g (by_form _ h) = group_bound sets cs g h
said_bound sets cs g (formless none) = λ name members has. absurd has

groups_bound : (sets : List SetTree) (ts : List Tok) (gs : List WrittenGroup) → SpellsGroups sets ts gs → Each IsBound (map group_written gs)
groups_bound sets ts gs (one_group g x k h) = (said_bound sets g.spelled x h, tt)
groups_bound sets ts gs (more_groups g x us more k h rest) = (said_bound sets g.spelled x h, groups_bound sets us more rest)

-- the groups of a rule are fit for a spelling
abbrev pub IsFit : RuleTree → Type 0
IsFit r = Each IsBound r.groups

affix_bound : (sets : List SetTree) (ts : List Tok) (affix : Option AffixTree) → SpellsAffix sets ts affix → IsFit (affix_written affix)
affix_bound sets ts affix no_affix = tt
affix_bound sets ts affix (prefix p us gs k h) = groups_bound sets us gs h
affix_bound sets ts affix (suffix p us gs k h) = groups_bound sets us gs h

statement_bound : (sets after : List SetTree) (ts : List Tok) (s : StatementTree) → SpellsStatement sets ts s after → IsFit (rule_written s)
statement_bound sets after ts s (define n d e gs bs affix b kn kd h body ke) = affix_bound sets gs affix h
statement_bound sets after ts s (add n d e bs b kn kd body ke) = tt
statement_bound sets after ts s (begin_types b t e kb kt ke) = tt
statement_bound sets after ts s (begin_instances b i t n e kb ki kt kn ke) = tt
statement_bound sets after ts s (end_types b t e kb kt ke) = tt
statement_bound sets after ts s (end_instances b i e kb ki ke) = tt
statement_bound sets after ts s (include_file i t e ki kt ke) = tt
statement_bound sets after ts s (letter_set p g x kp kg h) = tt
statement_bound sets after ts s (dotted_letter_set p g e x kp kg h ke) = tt

pub file_bound : (sets : List SetTree) (ts : List Tok) (ss : List StatementTree) → SpellsFile sets ts ss → Each (λ s. IsFit (rule_written s)) ss
file_bound sets ts ss (no_statements _) = tt
file_bound sets ts ss (more_statements _ after us vs s more h rest) = (statement_bound sets after us s h, file_bound after vs more rest)
