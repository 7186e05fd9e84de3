-- The irregular table by stems and forms, and words each once.
use Rattle.std.proofs.Common.{ℕ, zero, suc, ◌≡◌, ◌<◌, ◌≤◌, ◌+◌, ◌⊎◌, inl, inr, Bool, true, false, not, cond, ◌||◌, ◌&&◌, ◌==◌, List, [], ◌∷◌, ◌++◌, length, map, filter, take, get_or, String, string_bytes, refl, sym, ◌∙◌, ap, subst, arith}
use Rattle.std.specs.Global.{Global}
use Rattle.std.specs.List.{list_any}
use Rattle.std.specs.Str.{bytes_eq}
use Rattle.std.proofs.lemmas.List.{append-nil, append_assoc, map-append}
use Rattle.std.proofs.lemmas.List.Folds.{list_any-append}
use Rattle.lexicon.specs.Words.{Word, Has, Each, Rises, put}
use Rattle.lexicon.proofs.WordLemmas.{bytes_eq-same, bytes_eq-refl, bytes_eq-swap, put_rises, put_new, put_old, put_only}
use Rattle.spelling_rules.specs.Trees.{LineTree, RuleTree, SpellingTree, IsBound}
use Rattle.spelling_rules.specs.Forms.{listed_forms, once, rule_at, AreRegular, AreFormsBy, irregular, regular, AreForms, HasForm}
use Rattle.spelling_rules.specs.Inner.Keeping.{IsStem, IsKept}
use Rattle.spelling_rules.specs.Inner.Rewriting.{forms_with}
use Rattle.spelling_rules.specs.Inner.Undoing.{HasStems}
use Rattle.spelling_rules.specs.declared.table.Line.{Line}
use Rattle.spelling_rules.proofs.FormLemmas.{forms_there, forms_one}
use Rattle.std.specs.Prelude.{encode_utf8_all}
use Rattle.spelling_rules.specs.Inner.Tables.{Pair, pair_of, form_pair, stem_pair, words_of_rule, is_among, with_each}
use Rattle.spelling_rules.proofs.Lists.{bools, true_not_false}

filter-append : {A : Type 0} (p : A → Bool) (xs ys : List A) → filter p (xs ++ ys) ≡ filter p xs ++ filter p ys
filter-append p [] ys = refl
filter-append p (x ∷ xs) ys = go (p x) (filter-append p xs ys)
  where
    go : (b : Bool) → filter p (xs ++ ys) ≡ filter p xs ++ filter p ys → cond b (x ∷ filter p (xs ++ ys)) (filter p (xs ++ ys)) ≡ cond b (x ∷ filter p xs) (filter p xs) ++ filter p ys
    go true e = ap (λ l. x ∷ l) e
    go false e = e

filter-one : {A : Type 0} (p : A → Bool) (x : A) → filter p (x ∷ []) ≡ cond (p x) (x ∷ []) []
filter-one p x = go (p x) refl
  where
    go : (b : Bool) → p x ≡ b → filter p (x ∷ []) ≡ cond b (x ∷ []) []
    go true e = ap (λ b. cond b (x ∷ []) []) e
    go false e = ap (λ b. cond b (x ∷ []) []) e

map-cond : {A B : Type 0} (f : A → B) (b : Bool) (x : A) → map f (cond b (x ∷ []) []) ≡ cond b (f x ∷ []) []
map-cond f true x = refl
map-cond f false x = refl

-- a note more for a line more
pub noted_more : {A : Type 0} (f : A → Pair) (p : A → Bool) (xs : List A) (x : A) (now new : List Pair) → new ≡ now ++ cond (p x) (f x ∷ []) [] → now ≡ map f (filter p xs) → new ≡ map f (filter p (xs ++ x ∷ []))
noted_more f p xs x now new grown had =
    grown ∙ ap (λ l. l ++ cond (p x) (f x ∷ []) []) had
    ∙ sym (ap (map f) (filter-append p xs (x ∷ []) ∙ ap (λ l. filter p xs ++ l) (filter-one p x)) ∙ map-append f (filter p xs) (cond (p x) (x ∷ []) []) ∙ ap (λ l. map f (filter p xs) ++ l) (map-cond f (p x) x))

-- what is noted for a stem, of one rule
pub listed_is : (lines : List LineTree) (rule : ℕ) (stem : Word) → words_of_rule rule (map form_pair (filter (λ l. bytes_eq stem l.stem) lines)) ≡ listed_forms lines rule stem
listed_is [] rule stem = refl
listed_is (l ∷ ls) rule stem = go (bools (bytes_eq stem l.stem)) (bools (l.rule == rule)) (listed_is ls rule stem)
  where
    go : (bytes_eq stem l.stem ≡ true) ⊎ (bytes_eq stem l.stem ≡ false) → ((l.rule == rule) ≡ true) ⊎ ((l.rule == rule) ≡ false) → words_of_rule rule (map form_pair (filter (λ m. bytes_eq stem m.stem) ls)) ≡ listed_forms ls rule stem
        → words_of_rule rule (map form_pair (filter (λ m. bytes_eq stem m.stem) (l ∷ ls))) ≡ listed_forms (l ∷ ls) rule stem
    go (inl s) (inl r) h = simp (s, r) (ap (λ k. l.form ∷ k) h)
    go (inl s) (inr r) h = simp (s, r) h
    go (inr s) (inl r) h = simp (s, r) h
    go (inr s) (inr r) h = simp (s, r) h

-- a line's stem is noted for its form
pub stems_listed : (lines : List LineTree) (rule : ℕ) (stem form : Word) → Has form (listed_forms lines rule stem) → Has stem (words_of_rule rule (map stem_pair (filter (λ l. bytes_eq form l.form) lines)))
stems_listed [] rule stem form h = absurd h
stems_listed (l ∷ ls) rule stem form h = go (bools (l.rule == rule)) (bools (bytes_eq stem l.stem)) (bools (bytes_eq form l.form)) (stems_listed ls rule stem form) h
  where
    go : ((l.rule == rule) ≡ true) ⊎ ((l.rule == rule) ≡ false) → (bytes_eq stem l.stem ≡ true) ⊎ (bytes_eq stem l.stem ≡ false) → (bytes_eq form l.form ≡ true) ⊎ (bytes_eq form l.form ≡ false)
        → (Has form (listed_forms ls rule stem) → Has stem (words_of_rule rule (map stem_pair (filter (λ m. bytes_eq form m.form) ls)))) → Has form (listed_forms (l ∷ ls) rule stem)
        → Has stem (words_of_rule rule (map stem_pair (filter (λ m. bytes_eq form m.form) (l ∷ ls))))
    go (inl r) (inl s) (inl f) k h =
        let old : Has form (l.form ∷ listed_forms ls rule stem) = simp (r, s) at h in
        simp (r, f) (elim old [ inl e ↦ inl (bytes_eq-same stem l.stem s) | inr m ↦ inr (k m) ])
    go (inl r) (inl s) (inr f) k h =
        let old : Has form (l.form ∷ listed_forms ls rule stem) = simp (r, s) at h in
        simp (r, f) (elim old [ inl e ↦ true_not_false (bytes_eq form l.form) (bytes_eq-refl form l.form e) f | inr m ↦ k m ])
    go (inl r) (inr s) (inl f) k h = let old : Has form (listed_forms ls rule stem) = simp (r, s) at h in simp (r, f) (inr (k old))
    go (inl r) (inr s) (inr f) k h = let old : Has form (listed_forms ls rule stem) = simp (r, s) at h in simp (r, f) (k old)
    go (inr r) s (inl f) k h = let old : Has form (listed_forms ls rule stem) = simp r at h in simp (r, f) (k old)
    go (inr r) s (inr f) k h = let old : Has form (listed_forms ls rule stem) = simp r at h in simp (r, f) (k old)

filter-filter : {X : Type 0} (p q r : X → Bool) → ((x : X) → (p x && q x) ≡ r x) → (xs : List X) → filter p (filter q xs) ≡ filter r xs
filter-filter p q r h [] = refl
filter-filter p q r h (x ∷ xs) = go (p x) (q x) (r x) refl (h x) (filter-filter p q r h xs)
  where
    go : (a b c : Bool) → p x ≡ a → (a && b) ≡ c → filter p (filter q xs) ≡ filter r xs → filter p (cond b (x ∷ filter q xs) (filter q xs)) ≡ cond c (x ∷ filter r xs) (filter r xs)
    go true true c k e ih = ap (λ z. cond z (x ∷ filter p (filter q xs)) (filter p (filter q xs))) k ∙ ap (λ l. x ∷ l) ih ∙ ap (λ z. cond z (x ∷ filter r xs) (filter r xs)) e
    go true false c k e ih = ih ∙ ap (λ z. cond z (x ∷ filter r xs) (filter r xs)) e
    go false true c k e ih = ap (λ z. cond z (x ∷ filter p (filter q xs)) (filter p (filter q xs))) k ∙ ih ∙ ap (λ z. cond z (x ∷ filter r xs) (filter r xs)) e
    go false false c k e ih = ih ∙ ap (λ z. cond z (x ∷ filter r xs) (filter r xs)) e

abbrev pub is_new : List Word → Word → Bool
is_new ns y = not (is_among ns y)

and_true : (b : Bool) → (b && true) ≡ b
and_true true = refl
and_true false = refl

-- those that are new beside x are new, and not x
new_beside : (ns : List Word) (x y : Word) → (is_new ns y && not (bytes_eq x y)) ≡ is_new (ns ++ x ∷ []) y
new_beside ns x y = go (is_among ns y) (bytes_eq x y) (bytes_eq y x) (bytes_eq-swap x y) ∙ sym (ap not (list_any-append (bytes_eq y) ns (x ∷ [])))
  where
    go : (a b c : Bool) → b ≡ c → (not a && not b) ≡ not (a || (c || false))
    go true b c e = refl
    go false true c e = ap (λ z. not (z || false)) e
    go false false c e = ap (λ z. not (z || false)) e

-- where x is there already, nothing new is x
new_among : (ns : List Word) (x y : Word) → is_among ns x ≡ true → (is_new ns y && not (bytes_eq x y)) ≡ is_new ns y
new_among ns x y h = go (bools (bytes_eq x y))
  where
    go : (bytes_eq x y ≡ true) ⊎ (bytes_eq x y ≡ false) → (not (is_among ns y) && not (bytes_eq x y)) ≡ not (is_among ns y)
    go (inl e) =
        let there : is_among ns y ≡ true = subst (λ z. is_among ns z ≡ true) (bytes_eq-same x y e) h in
        ap (λ b. not b && not (bytes_eq x y)) there ∙ sym (ap not there)
    go (inr e) = ap (λ b. not (is_among ns y) && not b) e ∙ and_true (not (is_among ns y))

-- the names, and then what is new, once
pub with_each-once : (ns xs : List Word) → with_each ns xs ≡ ns ++ filter (is_new ns) (once xs)
with_each-once ns [] = sym (append-nil ns)
with_each-once ns (x ∷ xs) = go (bools (is_among ns x)) (with_each-once ns xs) (with_each-once (ns ++ x ∷ []) xs)
  where
    go : (is_among ns x ≡ true) ⊎ (is_among ns x ≡ false) → with_each ns xs ≡ ns ++ filter (is_new ns) (once xs)
        → with_each (ns ++ x ∷ []) xs ≡ (ns ++ x ∷ []) ++ filter (is_new (ns ++ x ∷ [])) (once xs)
        → with_each (cond (is_among ns x) ns (ns ++ x ∷ [])) xs ≡ ns ++ filter (is_new ns) (x ∷ filter (λ y. not (bytes_eq x y)) (once xs))
    go (inl e) old new =
        ap (λ b. with_each (cond b ns (ns ++ x ∷ [])) xs) e ∙ old
        ∙ ap (λ l. ns ++ l) (sym (filter-filter (is_new ns) (λ y. not (bytes_eq x y)) (is_new ns) (λ y. new_among ns x y e) (once xs))
        ∙ sym (ap (λ b. cond (not b) (x ∷ filter (is_new ns) (filter (λ y. not (bytes_eq x y)) (once xs))) (filter (is_new ns) (filter (λ y. not (bytes_eq x y)) (once xs)))) e))
    go (inr e) old new =
        ap (λ b. with_each (cond b ns (ns ++ x ∷ [])) xs) e ∙ new ∙ append_assoc ns (x ∷ []) (filter (is_new (ns ++ x ∷ [])) (once xs))
        ∙ ap (λ l. ns ++ l) (ap (λ l. x ∷ l) (sym (filter-filter (is_new ns) (λ y. not (bytes_eq x y)) (is_new (ns ++ x ∷ [])) (λ y. new_beside ns x y) (once xs)))
        ∙ sym (ap (λ b. cond (not b) (x ∷ filter (is_new ns) (filter (λ y. not (bytes_eq x y)) (once xs))) (filter (is_new ns) (filter (λ y. not (bytes_eq x y)) (once xs)))) e))

all_new : (xs : List Word) → filter (is_new []) xs ≡ xs
all_new [] = refl
all_new (x ∷ xs) = ap (λ l. x ∷ l) (all_new xs)

pub from_none : (xs : List Word) → with_each [] xs ≡ once xs
from_none xs = with_each-once [] xs ∙ all_new (once xs)

-- a word that is there already, and a new one
pub Has-filter : (p : Word → Bool) (x : Word) (xs : List Word) → Has x xs → p x ≡ true → Has x (filter p xs)
Has-filter p x [] h e = absurd h
Has-filter p x (y ∷ ys) (inl q) e = subst (λ b. Has x (cond b (y ∷ filter p ys) (filter p ys))) (sym (ap p (sym q) ∙ e)) (inl q)
Has-filter p x (y ∷ ys) (inr h) e = go (bools (p y)) (Has-filter p x ys h e)
  where
    go : (p y ≡ true) ⊎ (p y ≡ false) → Has x (filter p ys) → Has x (cond (p y) (y ∷ filter p ys) (filter p ys))
    go (inl t) k = subst (λ b. Has x (cond b (y ∷ filter p ys) (filter p ys))) (sym t) (inr k)
    go (inr f) k = subst (λ b. Has x (cond b (y ∷ filter p ys) (filter p ys))) (sym f) k

pub Has-once : (x : Word) (xs : List Word) → Has x xs → Has x (once xs)
Has-once x [] h = absurd h
Has-once x (y ∷ ys) (inl e) = inl e
Has-once x (y ∷ ys) (inr h) = go (bools (bytes_eq y x)) (Has-once x ys h)
  where
    go : (bytes_eq y x ≡ true) ⊎ (bytes_eq y x ≡ false) → Has x (once ys) → Has x (once (y ∷ ys))
    go (inl e) k = inl (sym (bytes_eq-same y x e))
    go (inr e) k = inr (Has-filter (λ z. not (bytes_eq y z)) x (once ys) k (ap not e))

filter-Has : (x : Word) (p : Word → Bool) (zs : List Word) → Has x (filter p zs) → Has x zs
filter-Has x p [] h = absurd h
filter-Has x p (z ∷ zs) h = go (p z) (filter-Has x p zs) h
  where
    go : (b : Bool) → (Has x (filter p zs) → Has x zs) → Has x (cond b (z ∷ filter p zs) (filter p zs)) → Has x (z ∷ zs)
    go true f (inl e) = inl e
    go true f (inr m) = inr (f m)
    go false f m = inr (f m)

pub once-Has : (x : Word) (xs : List Word) → Has x (once xs) → Has x xs
once-Has x [] h = absurd h
once-Has x (y ∷ ys) (inl e) = inl e
once-Has x (y ∷ ys) (inr h) = inr (once-Has x ys (filter-Has x (λ z. not (bytes_eq y z)) (once ys) h))

pub with_each-append : (done xs ys : List Word) → with_each done (xs ++ ys) ≡ with_each (with_each done xs) ys
with_each-append done [] ys = refl
with_each-append done (x ∷ xs) ys = with_each-append (cond (is_among done x) done (done ++ x ∷ [])) xs ys

-- one turn of the loop over the words of a rule
pub rule_words_more : (rule : ℕ) (pairs : List Pair) (p : Pair) → words_of_rule rule (pairs ++ p ∷ []) ≡ words_of_rule rule pairs ++ cond (p.rule == rule) (p.word ∷ []) []
rule_words_more rule pairs p =
    ap (map (λ q. q.word)) (filter-append (λ q. q.rule == rule) pairs (p ∷ []) ∙ ap (λ l. filter (λ q. q.rule == rule) pairs ++ l) (filter-one (λ q. q.rule == rule) p))
    ∙ map-append (λ q. q.word) (filter (λ q. q.rule == rule) pairs) (cond (p.rule == rule) (p ∷ []) []) ∙ ap (λ l. words_of_rule rule pairs ++ l) (map-cond (λ q. q.word) (p.rule == rule) p)

-- one turn of the loop over lines
pub table_step : (now new : List Line) (y : Line) (b : Bool) (q : Pair) → new ≡ now ++ cond b (y ∷ []) [] → pair_of y ≡ q → map pair_of new ≡ map pair_of now ++ cond b (q ∷ []) []
table_step now new y b q e f = ap (map pair_of) e ∙ map-append pair_of now (cond b (y ∷ []) []) ∙ ap (λ l. map pair_of now ++ l) (map-cond pair_of b y ∙ ap (λ z. cond b (z ∷ []) []) f)

pub any_swap : (w : Word) (ws : List (String Global)) → list_any (λ y. bytes_eq (string_bytes y) w) ws ≡ list_any (bytes_eq w) (map string_bytes ws)
any_swap w [] = refl
any_swap w (x ∷ xs) = ap (λ b. b || list_any (λ y. bytes_eq (string_bytes y) w) xs) (bytes_eq-swap (string_bytes x) w) ∙ ap (λ b. bytes_eq w (string_bytes x) || b) (any_swap w xs)

-- the stems of a form are among those that the table and the groups give
pub candidates_there : (s : SpellingTree) (rule : ℕ) (r : RuleTree) (form : Word) (listed : List Pair) (first last : List Word) → rule_at s.rules rule ≡ r
    → listed ≡ map stem_pair (filter (λ l. bytes_eq form l.form) s.lines) → first ≡ once (words_of_rule rule listed) → ((w : Word) → Has w first → Has w last)
    → ((w : Word) (forms : List Word) → AreRegular r w forms → Has form forms → Has w last) → HasStems s rule form last
candidates_there s rule r form listed first last e l f kept added = λ stem h. go stem h.0 (listed_forms s.lines rule stem) refl h.1 h.2
  where
    go : (stem : Word) (forms : List Word) (had : List Word) → listed_forms s.lines rule stem ≡ had → AreFormsBy (rule_at s.rules rule) had stem forms → Has form forms → Has stem last
    go stem _ had q (irregular h) k =
        let there : Has form (listed_forms s.lines rule stem) = subst (Has form) (sym q) (once-Has form had k) in
        let mine : Has stem (words_of_rule rule listed) = subst (λ p. Has stem (words_of_rule rule p)) (sym l) (stems_listed s.lines rule stem form there) in
        kept stem (subst (Has stem) (sym f) (Has-once stem (words_of_rule rule listed) mine))
    go stem forms had q (regular _ none are) k = added stem forms (subst (λ t. AreRegular t stem forms) e are) k

-- what the code finds are the forms of a stem
pub inflect_there : (s : SpellingTree) (rule : ℕ) (r : RuleTree) (stem : Word) (letters : List ℕ) (listed : List Pair) (first out : List Word) → rule_at s.rules rule ≡ r → Each IsBound r.groups
    → listed ≡ map form_pair (filter (λ l. bytes_eq stem l.stem) s.lines) → first ≡ once (words_of_rule rule listed) → stem ≡ encode_utf8_all letters → out ≡ forms_with r first letters → AreForms s rule stem out
inflect_there s rule r stem letters listed first out e b l f k o =
    let is : first ≡ once (listed_forms s.lines rule stem) = f ∙ ap (λ p. once (words_of_rule rule p)) l ∙ ap once (listed_is s.lines rule stem) in
    subst (λ t. AreFormsBy t (listed_forms s.lines rule stem) stem out) (sym e)
    (subst (AreFormsBy r (listed_forms s.lines rule stem) stem) (sym (o ∙ ap (λ p. forms_with r p letters) is)) (forms_there r (listed_forms s.lines rule stem) letters stem b k))

pub kept_put : (s : SpellingTree) (rule : ℕ) (form stem key : Word) (old new : List Word) → new ≡ put key old → key ≡ stem → IsStem s rule form stem → IsKept s rule form stem old new
kept_put s rule form stem key old new e k is =
    let f : new ≡ put stem old = e ∙ ap (λ w. put w old) k in
    record {
      rises = λ h. subst Rises (sym f) (put_rises stem old h);
      kept = λ w h. subst (Has w) (sym f) (put_old stem w old h);
      added = λ h. subst (Has stem) (sym f) (put_new stem old);
      only = λ w h. elim (put_only stem w old (subst (Has w) f h)) [ inl q ↦ inr (q, is) | inr m ↦ inl m ];
    }

-- a stem has a form exactly where the form is among those that the code finds
pub record HasBoth (A B : Type 0) : Type 0 where
  pub there : A → B
  pub back : B → A

pub form_had : (s : SpellingTree) (rule : ℕ) (r : RuleTree) (stem form : Word) (letters : List ℕ) (listed : List Pair) (first : List Word) → rule_at s.rules rule ≡ r → Each IsBound r.groups
    → listed ≡ map form_pair (filter (λ l. bytes_eq stem l.stem) s.lines) → first ≡ once (words_of_rule rule listed) → stem ≡ encode_utf8_all letters
    → HasBoth (HasForm s rule stem form) (Has form (forms_with r first letters))
form_had s rule r stem form letters listed first e b l f k =
    let are : AreForms s rule stem (forms_with r first letters) = inflect_there s rule r stem letters listed first (forms_with r first letters) e b l f k refl in
    let bound : Each IsBound (rule_at s.rules rule).groups = subst (λ t. Each IsBound t.groups) (sym e) b in
    record {
      there = λ h. subst (Has form) (forms_one s rule stem letters h.0 (forms_with r first letters) bound k h.1 are) h.2;
      back = λ h. (forms_with r first letters, are, h);
    }

-- where a line speaks of a stem, the forms are those of the lines
pub listed_first : (r : RuleTree) (first : List Word) (letters : List ℕ) → 0 < length first → forms_with r first letters ≡ first
listed_first r [] letters h = absurd (omega arith)
listed_first r (x ∷ xs) letters h = refl

-- a stem that is kept already
pub kept_known : (s : SpellingTree) (rule : ℕ) (form stem : Word) (old : List Word) → (IsStem s rule form stem → Has stem old) → IsKept s rule form stem old old
kept_known s rule form stem old h = record { rises = λ r. r; kept = λ w k. k; added = h; only = λ w k. inl k }

pub among_Has : (w : Word) (ws : List Word) → is_among ws w ≡ true → Has w ws
among_Has w [] e = absurd (true_not_false false e refl)
among_Has w (x ∷ xs) e = go (bools (bytes_eq w x)) (among_Has w xs)
  where
    go : (bytes_eq w x ≡ true) ⊎ (bytes_eq w x ≡ false) → (is_among xs w ≡ true → Has w xs) → Has w (x ∷ xs)
    go (inl t) more = inl (bytes_eq-same w x t)
    go (inr f) more = inr (more (sym (ap (λ b. b || is_among xs w) f) ∙ e))
