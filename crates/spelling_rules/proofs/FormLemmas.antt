-- The forms that the code finds are the forms of the definition, and there are no others.
use Rattle.std.proofs.Common.{ℕ, zero, suc, ◌≡◌, ◌<◌, ◌≤◌, ◌+◌, ◌⊎◌, inl, inr, Bool, true, false, List, [], ◌∷◌, ◌++◌, length, map, drop, get_or, Option, Some, None, refl, sym, ◌∙◌, ap, subst, arith, length-append}
use Rattle.std.specs.Prelude.{encode_utf8_all}
use Rattle.std.specs.Option.{is_some, option_map}
use Rattle.std.proofs.lemmas.Str.{encodes_same}
use Rattle.lexicon.specs.Words.{Word, Has, Each}
use Rattle.spelling_rules.specs.declared.rules.SpellRule.{SpellRule}
use Rattle.spelling_rules.specs.Trees.{GroupTree, RuleTree, SpellingTree, IsBound}
use Rattle.spelling_rules.specs.Forms.{Rewrites, NoneMatches, IsMadeByLast, AreRegular, itself, made, emptied, unmatched, AreFormsBy, irregular, regular, once, rule_at, AreForms}
use Rattle.spelling_rules.specs.Inner.Rewriting.{rewritten, later, by_groups, unless_empty, words_made, regular_forms, forms_with}
use Rattle.spelling_rules.specs.Views.{rule_of}
use Rattle.spelling_rules.proofs.RewriteLemmas.{rewritten_sound, rewritten_all, rewritten_none}

options : {A : Type 0} (o : Option A) → (o ≡ None) ⊎ ((x : A) × (o ≡ Some x))
options None = inl refl
options (Some x) = inr (x, refl)

none_some : {A B : Type 0} (a : A) → None ≡ Some a → B
none_some a e = cc

pub no_match : (suffix : Bool) (gs : List GroupTree) (letters : List ℕ) → Each IsBound gs → by_groups suffix gs letters ≡ None → NoneMatches suffix gs (encode_utf8_all letters)
no_match suffix [] letters b e = tt
no_match suffix (g ∷ gs) letters b e = go (options (by_groups suffix gs letters)) (no_match suffix gs letters b.1)
  where
    go : (by_groups suffix gs letters ≡ None) ⊎ ((x : List ℕ) × (by_groups suffix gs letters ≡ Some x)) → (by_groups suffix gs letters ≡ None → NoneMatches suffix gs (encode_utf8_all letters)) → NoneMatches suffix (g ∷ gs) (encode_utf8_all letters)
    go (inl n) more =
        let mine : rewritten suffix g letters ≡ None = sym (ap (λ o. later o (rewritten suffix g letters)) n) ∙ e in
        (λ form r. rewritten_none suffix g letters form b.0 mine r, more n)
    go (inr s) more = none_some s.0 (sym (sym (ap (λ o. later o (rewritten suffix g letters)) s.1) ∙ e))

pub match_none : (suffix : Bool) (gs : List GroupTree) (letters : List ℕ) → NoneMatches suffix gs (encode_utf8_all letters) → by_groups suffix gs letters ≡ None
match_none suffix [] letters h = refl
match_none suffix (g ∷ gs) letters h = ap (λ o. later o (rewritten suffix g letters)) (match_none suffix gs letters h.1) ∙ go (options (rewritten suffix g letters))
  where
    go : (rewritten suffix g letters ≡ None) ⊎ ((x : List ℕ) × (rewritten suffix g letters ≡ Some x)) → rewritten suffix g letters ≡ None
    go (inl n) = n
    go (inr s) = absurd (h.0 (encode_utf8_all s.0) (rewritten_sound suffix g letters s.0 s.1))

pub last_found : (suffix : Bool) (gs : List GroupTree) (letters out : List ℕ) → Each IsBound gs → by_groups suffix gs letters ≡ Some out → IsMadeByLast suffix gs (encode_utf8_all letters) (encode_utf8_all out)
last_found suffix [] letters out b e = none_some out e
last_found suffix (g ∷ gs) letters out b e = go (options (by_groups suffix gs letters)) (last_found suffix gs letters out b.1)
  where
    go : (by_groups suffix gs letters ≡ None) ⊎ ((x : List ℕ) × (by_groups suffix gs letters ≡ Some x)) → (by_groups suffix gs letters ≡ Some out → IsMadeByLast suffix gs (encode_utf8_all letters) (encode_utf8_all out))
        → IsMadeByLast suffix (g ∷ gs) (encode_utf8_all letters) (encode_utf8_all out)
    go (inl n) more =
        record {
          before = [];
          group = g;
          after = gs;
          split = refl;
          makes = rewritten_sound suffix g letters out (sym (ap (λ o. later o (rewritten suffix g letters)) n) ∙ e);
          last = no_match suffix gs letters b.1 n;
        }
    go (inr s) more =
        let m = more (s.1 ∙ sym (ap (λ o. later o (rewritten suffix g letters)) s.1) ∙ e) in
        record {
          before = g ∷ m.before;
          group = m.group;
          after = m.after;
          split = ap (λ l. g ∷ l) m.split;
          makes = m.makes;
          last = m.last;
        }

last_is : (suffix : Bool) (before : List GroupTree) (g : GroupTree) (after : List GroupTree) (letters : List ℕ) (form : Word) → Each IsBound (before ++ g ∷ after) → Rewrites suffix g (encode_utf8_all letters) form
    → NoneMatches suffix after (encode_utf8_all letters) → (out : List ℕ) × (by_groups suffix (before ++ g ∷ after) letters ≡ Some out) × (form ≡ encode_utf8_all out)
last_is suffix [] g after letters form b r n =
    let m = rewritten_all suffix g letters form b.0 r in
    (m.0, ap (λ o. later o (rewritten suffix g letters)) (match_none suffix after letters n) ∙ m.1, m.2)
last_is suffix (f ∷ before) g after letters form b r n =
    let m = last_is suffix before g after letters form b.1 r n in
    (m.0, ap (λ o. later o (rewritten suffix f letters)) m.1, m.2)

pub last_made : (suffix : Bool) (gs : List GroupTree) (letters : List ℕ) (form : Word) → Each IsBound gs → IsMadeByLast suffix gs (encode_utf8_all letters) form
    → (out : List ℕ) × (by_groups suffix gs letters ≡ Some out) × (form ≡ encode_utf8_all out)
last_made suffix gs letters form b m =
    let r = last_is suffix m.before m.group m.after letters form (subst (Each IsBound) m.split b) m.makes m.last in
    (r.0, ap (λ l. by_groups suffix l letters) m.split ∙ r.1, r.2)

nonempty_split : (gs before : List GroupTree) (g : GroupTree) (after : List GroupTree) → gs ≡ before ++ g ∷ after → 0 < length gs
nonempty_split gs before g after e = subst (λ l. 0 < length l) (sym e) (omega (arith, length-append before (g ∷ after)))

pub with_groups : (suffix : Bool) (gs : List GroupTree) (letters : List ℕ) → 0 < length gs → regular_forms suffix gs letters ≡ words_made (by_groups suffix gs letters)
with_groups suffix [] letters h = absurd (omega arith)
with_groups suffix (g ∷ gs) letters h = refl

empty_letters : (out : List ℕ) → [] ≡ encode_utf8_all out → out ≡ []
empty_letters out e = sym (encodes_same [] out e)

kept_letters : (out : List ℕ) → 0 < length (encode_utf8_all out) → unless_empty out ≡ encode_utf8_all out ∷ []
kept_letters [] h = absurd (omega arith)
kept_letters (c ∷ cs) h = refl

pub regular_is : (rule : RuleTree) (letters : List ℕ) (stem : Word) (forms : List Word) → Each IsBound rule.groups → stem ≡ encode_utf8_all letters → AreRegular rule stem forms
    → forms ≡ regular_forms rule.suffix rule.groups letters
regular_is rule letters stem _ b s (itself e) = ap (λ w. w ∷ []) s ∙ sym (ap (λ gs. regular_forms rule.suffix gs letters) e)
regular_is rule letters stem _ b s (made form m h) =
    let at : IsMadeByLast rule.suffix rule.groups (encode_utf8_all letters) form = subst (λ w. IsMadeByLast rule.suffix rule.groups w form) s m in
    let r = last_made rule.suffix rule.groups letters form b at in
    ap (λ w. w ∷ []) r.2 ∙ sym (kept_letters r.0 (subst (λ w. 0 < length w) r.2 h)) ∙ sym (ap words_made r.1)
    ∙ sym (with_groups rule.suffix rule.groups letters (nonempty_split rule.groups m.before m.group m.after m.split))
regular_is rule letters stem _ b s (emptied m) =
    let at : IsMadeByLast rule.suffix rule.groups (encode_utf8_all letters) [] = subst (λ w. IsMadeByLast rule.suffix rule.groups w []) s m in
    let r = last_made rule.suffix rule.groups letters [] b at in
    sym (ap unless_empty (empty_letters r.0 r.2)) ∙ sym (ap words_made r.1) ∙ sym (with_groups rule.suffix rule.groups letters (nonempty_split rule.groups m.before m.group m.after m.split))
regular_is rule letters stem _ b s (unmatched h n) =
    let at : NoneMatches rule.suffix rule.groups (encode_utf8_all letters) = subst (NoneMatches rule.suffix rule.groups) s n in
    sym (ap words_made (match_none rule.suffix rule.groups letters at)) ∙ sym (with_groups rule.suffix rule.groups letters h)

by_made : (rule : RuleTree) (letters : List ℕ) → Each IsBound rule.groups → 0 < length rule.groups → (o : Option (List ℕ)) → by_groups rule.suffix rule.groups letters ≡ o → AreRegular rule (encode_utf8_all letters) (words_made o)
by_made rule letters b h None e = unmatched h (no_match rule.suffix rule.groups letters b e)
by_made rule letters b h (Some []) e = emptied (last_found rule.suffix rule.groups letters [] b e)
by_made rule letters b h (Some (c ∷ cs)) e = made (encode_utf8_all (c ∷ cs)) (last_found rule.suffix rule.groups letters (c ∷ cs) b e) (not_empty c cs)
  where
    not_empty : (d : ℕ) (ds : List ℕ) → 0 < length (encode_utf8_all (d ∷ ds))
    not_empty d ds = go (encode_utf8_all (d ∷ ds)) refl
      where
        go : (w : Word) → encode_utf8_all (d ∷ ds) ≡ w → 0 < length w
        go [] q = let k : d ∷ ds ≡ [] = empty_letters (d ∷ ds) (sym q) in cc
        go (x ∷ xs) q = omega arith

pub regular_there : (rule : RuleTree) (letters : List ℕ) → Each IsBound rule.groups → AreRegular rule (encode_utf8_all letters) (regular_forms rule.suffix rule.groups letters)
regular_there rule letters b = go rule.groups refl
  where
    go : (gs : List GroupTree) → rule.groups ≡ gs → AreRegular rule (encode_utf8_all letters) (regular_forms rule.suffix rule.groups letters)
    go [] e = subst (AreRegular rule (encode_utf8_all letters)) (sym (ap (λ l. regular_forms rule.suffix l letters) e)) (itself e)
    go (g ∷ gs) e =
        let h : 0 < length rule.groups = subst (λ l. 0 < length l) (sym e) (omega arith) in
        subst (AreRegular rule (encode_utf8_all letters)) (sym (with_groups rule.suffix rule.groups letters h)) (by_made rule letters b h (by_groups rule.suffix rule.groups letters) refl)

pub forms_are : (rule : RuleTree) (listed : List Word) (letters : List ℕ) (stem : Word) (forms : List Word) → Each IsBound rule.groups → stem ≡ encode_utf8_all letters → AreFormsBy rule listed stem forms
    → forms ≡ forms_with rule (once listed) letters
forms_are rule [] letters stem _ b s (irregular h) = absurd (omega arith)
forms_are rule (x ∷ xs) letters stem _ b s (irregular h) = refl
forms_are rule listed letters stem _ b s (regular forms e r) = regular_is rule letters stem forms b s r ∙ sym (ap (λ l. forms_with rule (once l) letters) e)

pub forms_there : (rule : RuleTree) (listed : List Word) (letters : List ℕ) (stem : Word) → Each IsBound rule.groups → stem ≡ encode_utf8_all letters → AreFormsBy rule listed stem (forms_with rule (once listed) letters)
forms_there rule [] letters stem b s = regular (regular_forms rule.suffix rule.groups letters) refl (subst (λ w. AreRegular rule w (regular_forms rule.suffix rule.groups letters)) (sym s) (regular_there rule letters b))
forms_there rule (x ∷ xs) letters stem b s = irregular (omega arith)

pub rule_kept : (rules : List SpellRule) (i : ℕ) (r : SpellRule) → i < length rules → r ≡ get_or rules i r → rule_at (map rule_of rules) i ≡ rule_of r
rule_kept [] i r lt e = absurd (omega arith)
rule_kept (x ∷ xs) zero r lt e = ap rule_of (sym e)
rule_kept (x ∷ xs) (suc i) r lt e = rule_kept xs i r (omega arith) e

pub bound_at : (rules : List RuleTree) (i : ℕ) → i < length rules → Each (λ r. Each IsBound r.groups) rules → Each IsBound (rule_at rules i).groups
bound_at [] i lt b = absurd (omega arith)
bound_at (r ∷ rs) zero lt b = b.0
bound_at (r ∷ rs) (suc i) lt b = bound_at rs i (omega arith) b.1

pub found_in_rest : (suffix : Bool) (gs : List GroupTree) (i : ℕ) (letters out : List ℕ) → by_groups suffix (drop i gs) letters ≡ Some out → by_groups suffix gs letters ≡ Some out
found_in_rest suffix gs zero letters out e = e
found_in_rest suffix [] (suc i) letters out e = e
found_in_rest suffix (g ∷ gs) (suc i) letters out e = ap (λ o. later o (rewritten suffix g letters)) (found_in_rest suffix gs i letters out e)

pub some_of : {A B : Type 0} (f : A → B) (o : Option A) → is_some o ≡ true → (y : B) × (option_map f o ≡ Some y)
some_of f None e = absurd (let z : false ≡ true = e in cc)
some_of f (Some x) e = (f x, refl)

pub none_of : {A B : Type 0} (f : A → B) (o : Option A) → is_some o ≡ false → option_map f o ≡ None
none_of f None e = refl
none_of f (Some x) e = absurd (let z : true ≡ false = e in cc)

-- no list has forms of its own
pub forms_one : (s : SpellingTree) (rule : ℕ) (stem : Word) (letters : List ℕ) (xs ys : List Word) → Each IsBound (rule_at s.rules rule).groups → stem ≡ encode_utf8_all letters → AreForms s rule stem xs → AreForms s rule stem ys → xs ≡ ys
forms_one s rule stem letters xs ys b e p q = forms_are (rule_at s.rules rule) _ letters stem xs b e p ∙ sym (forms_are (rule_at s.rules rule) _ letters stem ys b e q)

-- the words that a group made have no empty one, and have the word of these letters alone
pub never_empty : (o : Option (List ℕ)) → Has [] (words_made o) → ⊥
never_empty None h = h
never_empty (Some []) h = h
never_empty (Some (c ∷ cs)) (inl e) = let k : c ∷ cs ≡ [] = empty_letters (c ∷ cs) e in cc
never_empty (Some (c ∷ cs)) (inr h) = h

pub word_made : (letters form : List ℕ) → 0 < length form → letters ≡ form → Has (encode_utf8_all form) (words_made (Some letters))
word_made [] form h e = absurd (let z : 0 < 0 = subst (λ l. 0 < length l) (sym e) h in omega arith)
word_made (c ∷ cs) form h e = inl (ap encode_utf8_all (sym e))

pub made_word : (letters form : List ℕ) → Has (encode_utf8_all form) (words_made (Some letters)) → letters ≡ form
made_word [] form h = absurd h
made_word (c ∷ cs) form (inl e) = sym (encodes_same form (c ∷ cs) e)
made_word (c ∷ cs) form (inr h) = absurd h

-- a rule without groups has the stem's own word
pub own_word : (suffix : Bool) (gs : List GroupTree) (stem form : List ℕ) → gs ≡ [] → stem ≡ form → Has (encode_utf8_all form) (regular_forms suffix gs stem)
own_word suffix gs stem form none e = subst (λ g. Has (encode_utf8_all form) (regular_forms suffix g stem)) (sym none) (inl (ap encode_utf8_all (sym e)))

pub word_own : (suffix : Bool) (gs : List GroupTree) (stem form : List ℕ) → gs ≡ [] → Has (encode_utf8_all form) (regular_forms suffix gs stem) → stem ≡ form
word_own suffix gs stem form none h = elim (subst (λ g. Has (encode_utf8_all form) (regular_forms suffix g stem)) none h) [ inl e ↦ sym (encodes_same form stem e) | inr k ↦ absurd k ]
