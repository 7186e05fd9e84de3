-- A group undone gives all stems of which it makes a form.
use Rattle.std.proofs.Common.{ℕ, zero, suc, ◌≡◌, ◌<◌, ◌≤◌, ◌⊎◌, inl, inr, Bool, true, false, cond, ◌||◌, ◌==◌, List, [], ◌∷◌, ◌++◌, length, map, get_or, refl, sym, ◌∙◌, ap, subst, arith, append_assoc, length-append}
use Rattle.std.specs.Prelude.{encode_utf8_all}
use Rattle.std.specs.List.{flat_map}
use Rattle.std.proofs.lemmas.Str.{encodes_same}
use Rattle.std.proofs.lemmas.List.{append-nil, length-map}
use Rattle.lexicon.specs.Words.{Word, Has, Each}
use Rattle.spelling_rules.specs.Trees.{SignTree, letter, variable, GroupTree, RuleTree, IsBound}
use Rattle.spelling_rules.specs.Forms.{stands_for, Suits, joined, Rewrites, AreRegular, itself, made, emptied, unmatched}
use Rattle.spelling_rules.specs.Inner.Keeping.{group_at}
use Rattle.spelling_rules.specs.Views.{group_of}
use Rattle.spelling_rules.specs.declared.rules.SpellGroup.{SpellGroup}
use Rattle.spelling_rules.specs.Inner.Rewriting.{is_variable, value_in, fits_by, part_of, rest_of}
use Rattle.spelling_rules.specs.Inner.Undoing.{occurs, options, longer, fillings}
use Rattle.spelling_rules.proofs.Lists.{bools, true_not_false, eq_same, Has-map, Has-flat_map}
use Rattle.spelling_rules.proofs.RewriteLemmas.{Agree, value_found, agree_found, fits_all, part_joined, rest_joined, length_joined}

occurs_has : (name : ℕ) (ss : List SignTree) → occurs name ss ≡ true → (members : List ℕ) × Has (variable name members) ss
occurs_has name [] e = absurd (true_not_false false e refl)
occurs_has name (letter c ∷ ss) e = let r = occurs_has name ss e in (r.0, inr r.1)
occurs_has name (variable other ms ∷ ss) e = go (bools (other == name)) (occurs_has name ss)
  where
    go : ((other == name) ≡ true) ⊎ ((other == name) ≡ false) → (occurs name ss ≡ true → (members : List ℕ) × Has (variable name members) ss) → (members : List ℕ) × Has (variable name members) (variable other ms ∷ ss)
    go (inl t) more = (ms, inl (ap (λ n. variable n ms) (sym (eq_same other name t))))
    go (inr f) more = let r = more (sym (ap (λ b. b || occurs name ss) f) ∙ e) in (r.0, inr r.1)

options_has : (v : ℕ → ℕ) (with : List SignTree) (part : List ℕ) (s : SignTree) → part ≡ map (stands_for v) with → Suits v (s ∷ []) → Has (stands_for v s) (options with part s)
options_has v with part (letter c) e h = inl refl
options_has v with part (variable name members) e h = go (bools (occurs name with))
  where
    go : (occurs name with ≡ true) ⊎ (occurs name with ≡ false) → Has (v name) (options with part (variable name members))
    go (inl t) =
        let r = occurs_has name with t in
        subst (Has (v name)) (sym (ap (λ b. cond b (value_in with part name ∷ []) members) t)) (inl (sym (ap (λ p. value_in with p name) e ∙ value_found v with name r.0 r.1)))
    go (inr f) = subst (Has (v name)) (sym (ap (λ b. cond b (value_in with part name ∷ []) members) f)) h.0

first_suits : (v : ℕ → ℕ) (s : SignTree) (ss : List SignTree) → Suits v (s ∷ ss) → Suits v (s ∷ [])
first_suits v (letter c) ss h = tt
first_suits v (variable name members) ss h = (h.0, tt)

others_suit : (v : ℕ → ℕ) (s : SignTree) (ss : List SignTree) → Suits v (s ∷ ss) → Suits v ss
others_suit v (letter c) ss h = h
others_suit v (variable name members) ss h = h.1

pub fillings_have : (v : ℕ → ℕ) (with : List SignTree) (part : List ℕ) (ss : List SignTree) (done : List (List ℕ)) (front : List ℕ) → part ≡ map (stands_for v) with → Suits v ss → Has front done
    → Has (front ++ map (stands_for v) ss) (fillings with part done ss)
fillings_have v with part [] done front e h k = subst (λ l. Has l done) (sym (append-nil front)) k
fillings_have v with part (s ∷ ss) done front e h k =
    let next : List (List ℕ) = flat_map (λ filled. longer filled (options with part s)) done in
    let one : Has (front ++ stands_for v s ∷ []) (longer front (options with part s)) = Has-map (λ c. front ++ c ∷ []) (stands_for v s) (options with part s) (options_has v with part s e (first_suits v s ss h)) in
    let there : Has (front ++ stands_for v s ∷ []) next = Has-flat_map (λ filled. longer filled (options with part s)) front (front ++ stands_for v s ∷ []) done k one in
    subst (λ l. Has l (fillings with part next ss)) (append_assoc front (stands_for v s ∷ []) (map (stands_for v) ss))
    (fillings_have v with part ss next (front ++ stands_for v s ∷ []) e (others_suit v s ss h) there)

suits_at : (v : ℕ → ℕ) (ss : List SignTree) (name : ℕ) (members : List ℕ) → Suits v ss → Has (variable name members) ss → Has (v name) members
suits_at v [] name members h k = absurd k
suits_at v (letter c ∷ ss) name members h (inl e) = cc
suits_at v (letter c ∷ ss) name members h (inr k) = suits_at v ss name members h k
suits_at v (variable other ms ∷ ss) name members h (inl e) =
    let n : name ≡ other = cc in
    let m : members ≡ ms = cc in
    subst (Has (v name)) (sym m) (subst (λ k. Has (v k) ms) (sym n) h.0)
suits_at v (variable other ms ∷ ss) name members h (inr k) = suits_at v ss name members h.1 k

suits_those : (v : ℕ → ℕ) (p ss : List SignTree) → Suits v p → ((name : ℕ) (members : List ℕ) → Has (variable name members) ss → Has (variable name members) p) → Suits v ss
suits_those v p [] h f = tt
suits_those v p (letter c ∷ ss) h f = suits_those v p ss h (λ n ms k. f n ms (inr k))
suits_those v p (variable name members ∷ ss) h f = (suits_at v p name members h (f name members (inl refl)), suits_those v p ss h (λ n ms k. f n ms (inr k)))

-- what a group that makes these letters leaves for the code
pub record Undone (suffix : Bool) (g : GroupTree) (letters : List ℕ) (w : Word) : Type 0 where
  pub long : length g.with ≤ length letters
  pub fits : fits_by (value_in g.with (part_of suffix (length g.with) letters)) g.with (part_of suffix (length g.with) letters) ≡ true
  pub filled : List ℕ
  pub has : Has filled (fillings g.with (part_of suffix (length g.with) letters) ([] ∷ []) g.pattern)
  pub is : w ≡ encode_utf8_all (joined suffix (rest_of suffix (length g.with) letters) filled)

pub undone : (suffix : Bool) (g : GroupTree) (letters : List ℕ) (w : Word) → IsBound g → Rewrites suffix g w (encode_utf8_all letters) → Undone suffix g letters w
undone suffix g letters w bound r =
    let v = r.value in
    let q : List ℕ = map (stands_for r.value) g.with in
    let size : length g.with ≡ length q = sym (length-map g.with (stands_for r.value)) in
    let is : letters ≡ joined suffix r.rest q = encodes_same letters _ r.to in
    let part : part_of suffix (length g.with) letters ≡ q = ap (λ n. part_of suffix n letters) size ∙ ap (part_of suffix (length q)) is ∙ part_joined suffix r.rest q in
    let left : rest_of suffix (length g.with) letters ≡ r.rest = ap (λ n. rest_of suffix n letters) size ∙ ap (rest_of suffix (length q)) is ∙ rest_joined suffix r.rest q in
    record {
      long = subst (λ n. n ≤ length letters) (sym size) (subst (λ l. length q ≤ length l) (sym is) (length_joined suffix r.rest q));
      fits = ap (λ p. fits_by (value_in g.with p) g.with p) part ∙ fits_all (value_in g.with q) r.value g.with (agree_found r.value g.with) (suits_those r.value g.pattern g.with r.suits bound);
      filled = map (stands_for r.value) g.pattern;
      has = subst (λ p. Has (map (stands_for r.value) g.pattern) (fillings g.with p ([] ∷ []) g.pattern)) (sym part) (fillings_have r.value g.with q g.pattern ([] ∷ []) [] refl r.suits (inl refl));
      is = r.from ∙ ap encode_utf8_all (ap (λ l. joined suffix l (map (stands_for r.value) g.pattern)) (sym left));
    }

pub fillings_next : (with : List SignTree) (part : List ℕ) (now new : List (List ℕ)) (S SS : List SignTree) (s : SignTree) (letters : List ℕ) (total : List (List ℕ)) → S ≡ s ∷ SS → letters ≡ options with part s
    → new ≡ flat_map (λ filled. longer filled letters) now → fillings with part now S ≡ total → fillings with part new SS ≡ total
fillings_next with part now new S SS s letters total e f g t =
    ap (λ d. fillings with part d SS) (g ∙ ap (λ l. flat_map (λ filled. longer filled l) now) f) ∙ sym (ap (fillings with part now) e) ∙ t

place_of : (gs before : List GroupTree) (g : GroupTree) (after : List GroupTree) → gs ≡ before ++ g ∷ after → (length before < length gs) × (group_at gs (length before) ≡ g)
place_of gs before g after e = (subst (λ l. length before < length l) (sym e) (omega (arith, length-append before (g ∷ after))), ap (λ l. group_at l (length before)) e ∙ here before)
  where
    here : (xs : List GroupTree) → group_at (xs ++ g ∷ after) (length xs) ≡ g
    here [] = refl
    here (x ∷ xs) = here xs

-- a stem that a group of the rule makes into a form is among the words that the groups give
pub regular_stem : (rule : RuleTree) (letters : List ℕ) (form : Word) (out : List Word) (w : Word) (forms : List Word) → 0 < length rule.groups → form ≡ encode_utf8_all letters
    → ((v : Word) (k : ℕ) → k < length rule.groups → Rewrites rule.suffix (group_at rule.groups k) v (encode_utf8_all letters) → Has v out) → AreRegular rule w forms → Has form forms → Has w out
regular_stem rule letters form out w _ h e all (itself none) k = absurd (let z : 0 < 0 = subst (λ l. 0 < length l) none h in omega arith)
regular_stem rule letters form out w _ h e all (made f m pos) (inl q) =
    let there : Rewrites rule.suffix m.group w (encode_utf8_all letters) = subst (Rewrites rule.suffix m.group w) (sym q ∙ e) m.makes in
    let at = place_of rule.groups m.before m.group m.after m.split in
    all w (length m.before) at.0 (subst (λ g. Rewrites rule.suffix g w (encode_utf8_all letters)) (sym at.1) there)
regular_stem rule letters form out w _ h e all (made f m pos) (inr q) = absurd q
regular_stem rule letters form out w _ h e all (emptied m) k = absurd k
regular_stem rule letters form out w _ h e all (unmatched n m) k = absurd k

pub group_kept : (gs : List SpellGroup) (k : ℕ) (g : SpellGroup) → k < length gs → g ≡ get_or gs k g → group_at (map group_of gs) k ≡ group_of g
group_kept [] k g lt e = absurd (omega arith)
group_kept (x ∷ xs) zero g lt e = ap group_of (sym e)
group_kept (x ∷ xs) (suc k) g lt e = group_kept xs k g (omega arith) e

pub bound_group : (gs : List SpellGroup) (k : ℕ) (g : SpellGroup) → Each IsBound (map group_of gs) → k < length gs → g ≡ get_or gs k g → IsBound (group_of g)
bound_group [] k g b lt e = absurd (omega arith)
bound_group (x ∷ xs) zero g b lt e = subst (λ y. IsBound (group_of y)) (sym e) b.0
bound_group (x ∷ xs) (suc k) g b lt e = bound_group xs k g b.1 (omega arith) e

pub itself_only : (rule : RuleTree) (form w : Word) (forms : List Word) → rule.groups ≡ [] → AreRegular rule w forms → Has form forms → w ≡ form
itself_only rule form w _ e (itself none) (inl q) = sym q
itself_only rule form w _ e (itself none) (inr q) = absurd q
itself_only rule form w _ e (made f m pos) k =
    let at = place_of rule.groups m.before m.group m.after m.split in
    absurd (let z : length m.before < 0 = subst (λ l. length m.before < length l) e at.0 in omega arith)
itself_only rule form w _ e (emptied m) k = absurd k
itself_only rule form w _ e (unmatched h m) k = absurd k
