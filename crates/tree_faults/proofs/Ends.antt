-- Words that rules lead to, one rule more and one fewer.
use Rattle.std.specs.Prelude.{ℕ, ◌≡◌, ◌<◌, ◌+◌, ◌-◌, ◌↔◌, Bool, true, false, IsTrue, List, [], ◌∷◌, ◌++◌, length, map, take, drop, get_or, replicate}
use Rattle.std.proofs.Common.{inl, inr, refl, sym, ◌∙◌, ap, subst, arith, length-append}
use Rattle.std.proofs.lemmas.List.{take-append-drop, length-map, length-take, get_or_default}
use Rattle.lexicon.specs.Words.{Has}
use Rattle.derivation.specs.Order.{outermost}
use Rattle.morph_analysis.proofs.Lists.{take_next, drop_nat}
use Rattle.tree_model.specs.Lexical.{Word, Words, IsForm, Become, become_none, become_next, Spells}
use Rattle.lexical_items.proofs.Lists.{snoc_same}
use Rattle.lexical_items.specs.Forms.{AreFormsOf}
use Rattle.lexical_items.proofs.Chains.{last_word}
use Rattle.tree_faults.specs.Spelled.{HasForms, FailsWithin, no_form, other_words}
use Rattle.tree_faults.specs.Inner.Ends.{AreEnds, front_of}

take_front : {A : Type 0} (xs ys : List A) → take (length xs) (xs ++ ys) ≡ xs
take_front [] ys = refl
take_front (x ∷ xs) ys = ap (λ l. x ∷ l) (take_front xs ys)

-- all but the last
pub front_is : {A : Type 0} (ws front : List A) (x : A) → ws ≡ front ++ x ∷ [] → take (length ws - 1) ws ≡ front
front_is ws front x e =
    let l : length ws ≡ length (front ++ x ∷ []) = ap length e in
    let m = length-append front (x ∷ []) in
    let n : length ws - 1 ≡ length front = omega (arith, l, m) in
    ap (λ k. take k ws) n ∙ ap (take (length front)) e ∙ take_front front (x ∷ [])

head_of : {A : Type 0} (xs : List A) → 0 < length xs → (x : A) × Has x xs
head_of [] h = absurd (omega arith)
head_of (x ∷ xs) h = (x, inl refl)

none_has : {A : Type 0} (xs : List A) (x : A) → length xs ≡ 0 → Has x xs → ⊥
none_has [] x e h = h
none_has (y ∷ ys) x e h = absurd (omega (arith, e))

module _ (words : Words) where
  nothing_more : {ws vs : List Word} {rules : List ℕ} → Become words ws rules vs → rules ≡ [] → ws ≡ vs
  nothing_more become_none e = refl
  nothing_more (become_next front word form is f more) e = absurd (cc)

  become_more : {ws vs : List Word} {rules : List ℕ} (rule : ℕ) → Become words ws rules vs → (front : List Word) (w e : Word) → vs ≡ front ++ w ∷ [] → IsForm words rule w e → Become words ws (rules ++ rule ∷ []) (front ++ e ∷ [])
  become_more rule become_none front w e q f = become_next front w e q f become_none
  become_more rule (become_next other word form is g more) front w e q f = become_next other word form is g (become_more rule more front w e q f)

  record Fewer (ws : List Word) (rules : List ℕ) (rule : ℕ) (vs : List Word) : Type 0 where
    front : List Word
    word : Word
    form : Word
    before : Become words ws rules (front ++ word ∷ [])
    makes : IsForm words rule word form
    is : vs ≡ front ++ form ∷ []

  become_less : {ws vs : List Word} (rules : List ℕ) (rule : ℕ) → Become words ws (rules ++ rule ∷ []) vs → Fewer ws rules rule vs
  become_less {ws = ws} [] rule (become_next front word form is f more) =
      record { front = front; word = word; form = form; before = subst (Become words ws []) is become_none; makes = f; is = sym (nothing_more more refl) }
  become_less (r ∷ rules) rule (become_next front word form is f more) =
      let z = become_less rules rule more in record { front = z.front; word = z.word; form = z.form; before = become_next front word form is f z.before; makes = z.makes; is = z.is }

  module _ (entry : ℕ) where
    pub ends_first : (front : List Word) (stem : Word) → words.words_of entry ≡ front ++ stem ∷ [] → AreEnds words entry [] front (stem ∷ [])
    ends_first front stem e = record {
      have = λ x h. have x h;
      all = λ said s. (stem, inl refl, sym (nothing_more s refl) ∙ e);
    }
      where
        have : (x : Word) → Has x (stem ∷ []) → Spells words entry [] (front ++ x ∷ [])
        have x (inl q) = subst (Become words (words.words_of entry) []) (e ∙ ap (λ w. front ++ w ∷ []) (sym q)) become_none
        have x (inr q) = absurd q

    pub ends_next : (rules : List ℕ) (rule : ℕ) (front ends forms : List Word) → AreEnds words entry rules front ends → AreFormsOf words.spelling (words.number_of rule) ends forms → AreEnds words entry (rules ++ rule ∷ []) front forms
    ends_next rules rule front ends forms a f = record {
      have = λ x h. let o = f.have x h in become_more rule (a.have o.0 o.1) front o.0 x refl (o.2, o.3);
      all = λ said s. all said (become_less rules rule s);
    }
      where
        all : (said : List Word) → Fewer (words.words_of entry) rules rule said → (e : Word) × Has e forms × (said ≡ front ++ e ∷ [])
        all said z =
            let o = a.all (z.front ++ z.word ∷ []) z.before in
            let same = snoc_same z.front front z.word o.0 o.2 in
            (z.form, f.all z.form (z.word, subst (λ w. Has w ends) (sym same.1) o.1, z.makes.0, z.makes.1), z.is ∙ ap (λ l. l ++ z.form ∷ []) same.0)

    pub has_forms : (rules : List ℕ) (front ends : List Word) → AreEnds words entry rules front ends → 0 < length ends → HasForms words entry rules
    has_forms rules front ends a some = let x = head_of ends some in (front ++ x.0 ∷ [], a.have x.0 x.1)

    pub no_forms : (rules : List ℕ) (front ends : List Word) → AreEnds words entry rules front ends → length ends ≡ 0 → HasForms words entry rules → ⊥
    no_forms rules front ends a none h = let x = a.all h.0 h.1 in none_has ends x.0 none x.1

    -- the last word of an entry, which no rule has changed
    pub first_of : {A : Type 0} (f : A → Word) (ws : List A) (i : ℕ) (x : A) (ends : List Word) → i + 1 ≡ length ws → x ≡ get_or ws i x → map f ws ≡ words.words_of entry → ends ≡ f x ∷ [] → AreEnds words entry [] (front_of words entry) ends
    first_of f ws i x ends l at h e =
        let is : words.words_of entry ≡ map f (take i ws) ++ f x ∷ [] = sym h ∙ last_word f ws i x l at in
        let front : front_of words entry ≡ map f (take i ws) = front_is (words.words_of entry) (map f (take i ws)) (f x) is in
        subst (λ b. AreEnds words entry [] b ends) (sym front) (subst (AreEnds words entry [] (map f (take i ws))) (sym e) (ends_first (map f (take i ws)) (f x) is))

    -- one rule of several more
    pub ends_step : (rules : List ℕ) (i : ℕ) (front ends forms : List Word) → i < length rules → AreEnds words entry (take i rules) front ends → AreFormsOf words.spelling (words.number_of (get_or rules i 0)) ends forms
        → AreEnds words entry (take (i + 1) rules) front forms
    ends_step rules i front ends forms lt a f =
        subst (λ rs. AreEnds words entry rs front forms) (sym (take_next rules i (get_or rules i 0) lt (get_or_default rules i 0 (get_or rules i 0) lt))) (ends_next (take i rules) (get_or rules i 0) front ends forms a f)

    -- where no form is left
    pub fails_at : (rules : List ℕ) (said : List Word) (i d : ℕ) → i < length rules → HasForms words entry (take i rules) → (HasForms words entry (take (i + 1) rules) → ⊥) → d + 1 + i ≡ length rules → FailsWithin words entry rules said (replicate d 1) (get_or rules i 0)
    fails_at rules said i d lt has none e =
        let r = get_or rules i 0 in
        let after = drop (i + 1) rules in
        let split : rules ≡ take i rules ++ r ∷ after = sym (take-append-drop i rules) ∙ ap (λ l. take i rules ++ l) (drop_nat rules i lt) in
        let next : take (i + 1) rules ≡ take i rules ++ r ∷ [] = take_next rules i r lt (get_or_default rules i 0 r lt) in
        let total : length rules ≡ length (take i rules ++ r ∷ after) = ap length split in
        let parts = length-append (take i rules) (r ∷ after) in
        let low = length-take i rules in
        let deep : d ≡ length after = grind (arith, total, parts, low, e, lt) in
        subst (λ k. FailsWithin words entry rules said (replicate k 1) r) (sym deep)
        (subst (λ rs. FailsWithin words entry rs said (replicate (length after) 1) r) (sym split) (no_form (take i rules) r after has (λ h. none (subst (HasForms words entry) (sym next) h))))

    pub not_said : (rules : List ℕ) (said front ends : List Word) (answer : Bool) → AreEnds words entry rules front ends → (IsTrue answer ↔ ((e : Word) × Has e ends × (said ≡ front ++ e ∷ []))) → answer ≡ false → Spells words entry rules said → ⊥
    not_said rules said front ends answer a h never s = let t : answer ≡ true = h.1 (a.all said s) in absurd (cc)

    pub said_front : {A : Type 0} (f : A → Word) (ws : List A) → map f ws ≡ words.words_of entry → take (length ws - 1) (map f ws) ≡ front_of words entry
    said_front f ws h = ap (λ n. take (n - 1) (map f ws)) (sym (length-map ws f)) ∙ ap (λ (l : List Word). take (length l - 1) l) h

    -- where forms are left, and others than these
    pub other_at : (rules : List ℕ) (said front ends last : List Word) (answer : Bool) (instance : ℕ) → AreEnds words entry rules (front_of words entry) ends → 0 < length ends → front ≡ front_of words entry → last ≡ ends
        → (IsTrue answer ↔ ((e : Word) × Has e last × (said ≡ front ++ e ∷ []))) → answer ≡ false → instance ≡ outermost entry rules → FailsWithin words entry rules said [] instance
    other_at rules said front ends last answer instance a some e l h never i =
        let there : IsTrue answer ↔ ((x : Word) × Has x ends × (said ≡ front_of words entry ++ x ∷ [])) =
        subst (λ fs. IsTrue answer ↔ ((x : Word) × Has x ends × (said ≡ fs ++ x ∷ []))) e (subst (λ ls. IsTrue answer ↔ ((x : Word) × Has x ls × (said ≡ front ++ x ∷ []))) l h) in
        subst (FailsWithin words entry rules said []) (sym i) (other_words (has_forms rules (front_of words entry) ends a some) (not_said rules said (front_of words entry) ends answer a there never))
