-- The functions on groups find what the relations say.
use Rattle.std.proofs.Common.{◌≡◌, ℕ, ◌<◌, List, [], ◌∷◌, ◌++◌, length, sym, ◌∙◌, refl, ap, subst, length-append, inl, inr, ⊎_elim, arith}
use Rattle.std.proofs.lemmas.List.{append-nil}
use Rattle.std.proofs.lemmas.Bool.{true≢false, false≢true, eqb-true, eq-eqb}
use Rattle.std.proofs.lemmas.Option.{none-some, same_Some}
use Rattle.std.proofs.lemmas.List.Sums.{AllPass-from_list_all, list_all-from_AllPass}
use Rattle.std.specs.Prelude.{Bool, true, false, not, ◌==◌, ◌&&◌, ◌||◌, if◌then◌else◌, ◌⊎◌, Option, Some, None}
use Rattle.std.specs.List.{list_all}
use Rattle.std.specs.Char.{is_whitespace, is_not_whitespace}
use Rattle.caseless.specs.Caseless.{default_case_fold}
use Rattle.tdl_reader.specs.Groups.{IsInside, Folds, AllFold, none_folds, one_folds, IsNamed, AreSigns, no_signs, itself, variable, last_mark, IsPattern, empty, of_signs, HasVariable, here, later, IsGroup}
use Rattle.tdl_reader.specs.GroupScan.{only, fold, then_some, add_char, fold_all, after_white, run, after_run, is_nothing, latest, set_named, sign_at, add_sign, signs_after, signs as run_signs, is_of, occurs, all_occur, but_last, inside, group_signs, read_group}
use Rattle.tdl_reader.specs.Trees.{SetTree, SignTree, one_char, one_of, GroupTree}
use Rattle.tdl_reader.proofs.GroupLemmas.{but_last-last}

pub and_parts : (a b : Bool) → (a && b) ≡ true → (a ≡ true) × (b ≡ true)
and_parts true b e = (refl, e)
and_parts false b e = absurd (false≢true e)

pub and_both : (a b : Bool) → a ≡ true → b ≡ true → (a && b) ≡ true
and_both true b e f = f
and_both false b e f = absurd (false≢true e)

not_white : (c : ℕ) → is_not_whitespace c ≡ true → is_whitespace c ≡ false
not_white c e = from (is_whitespace c) e
  where
    from : (b : Bool) → not b ≡ true → b ≡ false
    from true e = absurd (false≢true e)
    from false e = refl

black : (c : ℕ) → is_whitespace c ≡ false → is_not_whitespace c ≡ true
black c e = ap not e

-- a text that begins with no white space, and one that begins with no other character
abbrev pub Stops : List ℕ → Type 0
Stops [] = Unit {0}
Stops (c ∷ cs) = is_whitespace c ≡ false

abbrev pub Pauses : List ℕ → Type 0
Pauses [] = Unit {0}
Pauses (c ∷ cs) = is_whitespace c ≡ true

abbrev pub White : List ℕ → Type 0
White cs = list_all is_whitespace cs ≡ true

abbrev pub Black : List ℕ → Type 0
Black cs = list_all is_not_whitespace cs ≡ true

by_white : (A : Type 0) (c : ℕ) → (is_whitespace c ≡ true → A) → (is_whitespace c ≡ false → A) → A
by_white A c f g = from (is_whitespace c) refl
  where
    from : (b : Bool) → is_whitespace c ≡ b → A
    from true e = f e
    from false e = g e

white_on : (c : ℕ) (cs : List ℕ) → is_whitespace c ≡ true → after_white (c ∷ cs) ≡ after_white cs
white_on c cs e = ap (λ b. if b then after_white cs else c ∷ cs) e

white_off : (c : ℕ) (cs : List ℕ) → is_whitespace c ≡ false → after_white (c ∷ cs) ≡ c ∷ cs
white_off c cs e = ap (λ b. if b then after_white cs else c ∷ cs) e

run_off : (c : ℕ) (cs : List ℕ) → is_whitespace c ≡ true → run (c ∷ cs) ≡ []
run_off c cs e = ap (λ b. if b then [] else c ∷ run cs) e

run_on : (c : ℕ) (cs : List ℕ) → is_whitespace c ≡ false → run (c ∷ cs) ≡ c ∷ run cs
run_on c cs e = ap (λ b. if b then [] else c ∷ run cs) e

rest_off : (c : ℕ) (cs : List ℕ) → is_whitespace c ≡ true → after_run (c ∷ cs) ≡ c ∷ cs
rest_off c cs e = ap (λ b. if b then c ∷ cs else after_run cs) e

rest_on : (c : ℕ) (cs : List ℕ) → is_whitespace c ≡ false → after_run (c ∷ cs) ≡ after_run cs
rest_on c cs e = ap (λ b. if b then c ∷ cs else after_run cs) e

pub past_white : (w rest : List ℕ) → White w → Stops rest → after_white (w ++ rest) ≡ rest
past_white [] [] e s = refl
past_white [] (c ∷ cs) e s = white_off c cs s
past_white (c ∷ w) rest e s = let p = and_parts (is_whitespace c) (list_all is_whitespace w) e in white_on c (w ++ rest) p.0 ∙ past_white w rest p.1 s

pub the_run : (p rest : List ℕ) → Black p → Pauses rest → run (p ++ rest) ≡ p
the_run [] [] e s = refl
the_run [] (c ∷ cs) e s = run_off c cs s
the_run (c ∷ p) rest e s = let q = and_parts (is_not_whitespace c) (list_all is_not_whitespace p) e in run_on c (p ++ rest) (not_white c q.0) ∙ ap (λ l. c ∷ l) (the_run p rest q.1 s)

pub past_run : (p rest : List ℕ) → Black p → Pauses rest → after_run (p ++ rest) ≡ rest
past_run [] [] e s = refl
past_run [] (c ∷ cs) e s = rest_off c cs s
past_run (c ∷ p) rest e s = let q = and_parts (is_not_whitespace c) (list_all is_not_whitespace p) e in rest_on c (p ++ rest) (not_white c q.0) ∙ past_run p rest q.1 s

-- how a text is cut at its white space
pub record WhiteCut (cs : List ℕ) : Type 0 where
  pub front : List ℕ
  pub split : cs ≡ front ++ after_white cs
  pub white : White front
  pub stops : Stops (after_white cs)

pub white_cut : (cs : List ℕ) → WhiteCut cs
white_cut [] = record { front = []; split = refl; white = refl; stops = tt }
white_cut (c ∷ cs) =
    let w = white_cut cs in
    by_white (WhiteCut (c ∷ cs)) c
    (λ e. let on = white_on c cs e in record { front = c ∷ w.front; split = ap (λ l. c ∷ l) w.split ∙ ap (λ l. c ∷ (w.front ++ l)) (sym on); white = and_both (is_whitespace c) (list_all is_whitespace w.front) e w.white; stops = subst Stops (sym on) w.stops })
    (λ e. let off = white_off c cs e in record { front = []; split = sym off; white = refl; stops = subst Stops (sym off) e })

pub record RunCut (cs : List ℕ) : Type 0 where
  pub split : cs ≡ run cs ++ after_run cs
  pub dark : Black (run cs)
  pub pauses : Pauses (after_run cs)

pub run_cut : (cs : List ℕ) → RunCut cs
run_cut [] = record { split = refl; dark = refl; pauses = tt }
run_cut (c ∷ cs) =
    let r = run_cut cs in
    by_white (RunCut (c ∷ cs)) c
    (λ e. let a = run_off c cs e in let b = rest_off c cs e in record { split = sym (ap (λ l. l ++ after_run (c ∷ cs)) a ∙ b); dark = subst Black (sym a) refl; pauses = subst Pauses (sym b) e })
    (λ e. let a = run_on c cs e in let b = rest_on c cs e in
    record { split = ap (λ l. c ∷ l) r.split ∙ (ap (λ l. c ∷ (run cs ++ l)) (sym b) ∙ ap (λ l. l ++ after_run (c ∷ cs)) (sym a)); dark = subst Black (sym a) (and_both (is_not_whitespace c) (list_all is_not_whitespace (run cs)) (black c e) r.dark); pauses = subst Pauses (sym b) r.pauses })

-- a text that begins with a run, or with white space
pub run_stops : (p rest : List ℕ) → 0 < length p → Black p → Stops (p ++ rest)
run_stops [] rest l e = absurd (omega (arith, l))
run_stops (c ∷ p) rest l e = not_white c (and_parts (is_not_whitespace c) (list_all is_not_whitespace p) e).0

pub gap_pauses : (w rest : List ℕ) → 0 < length w → White w → Pauses (w ++ rest)
gap_pauses [] rest l e = absurd (omega (arith, l))
gap_pauses (c ∷ w) rest l e = (and_parts (is_whitespace c) (list_all is_whitespace w) e).0

pub white_pauses : (w : List ℕ) → White w → Pauses w
white_pauses [] e = tt
white_pauses (c ∷ w) e = (and_parts (is_whitespace c) (list_all is_whitespace w) e).0

pub all_white : (w : List ℕ) → White w → after_white w ≡ []
all_white w e = ap after_white (sym (append-nil w)) ∙ past_white w [] e tt

-- a gap is there where a run has ended and something else begins
pub gap_is : (front cs : List ℕ) → Pauses (front ++ cs) → Stops cs → 0 < length cs → 0 < length front
gap_is [] [] p s l = absurd (omega (arith, l))
gap_is [] (c ∷ cs) p s l = absurd (true≢false (sym p ∙ s))
gap_is (c ∷ front) cs p s l = omega arith

-- steps that may fail
pub then_parts : {A B : Type 0} (o : Option A) (f : A → Option B) (b : B) → then_some o f ≡ Some b → (a : A) × (o ≡ Some a) × (f a ≡ Some b)
then_parts None f b e = absurd (none-some _ e)
then_parts (Some a) f b e = (a, refl, e)

pub if_parts : {A : Type 0} (t : Bool) (a b : A) → (if t then Some a else None) ≡ Some b → (t ≡ true) × (a ≡ b)
if_parts true a b e = (refl, same_Some a b e)
if_parts false a b e = absurd (none-some _ e)

pub if_holds : {A : Type 0} (t : Bool) (o : Option A) (b : A) → (if t then o else None) ≡ Some b → (t ≡ true) × (o ≡ Some b)
if_holds true o b e = (refl, e)
if_holds false o b e = absurd (none-some _ e)

-- folding
only_is : (cs : List ℕ) (d : ℕ) → only cs ≡ Some d → cs ≡ d ∷ []
only_is [] d e = absurd (none-some _ e)
only_is (c ∷ []) d e = ap (λ x. x ∷ []) (same_Some c d e)
only_is (c ∷ b ∷ cs) d e = absurd (none-some _ e)

pub folds_is : (c d : ℕ) → fold c ≡ Some d → Folds c d
folds_is c d e = only_is (default_case_fold (c ∷ [])) d e

pub fold_is : (c d : ℕ) → Folds c d → fold c ≡ Some d
fold_is c d h = ap only h

add_char_parts : (o : Option ℕ) (p : Option (List ℕ)) (ds : List ℕ) → add_char o p ≡ Some ds → (d : ℕ) × (es : List ℕ) × (o ≡ Some d) × (p ≡ Some es) × (d ∷ es ≡ ds)
add_char_parts None p ds e = absurd (none-some _ e)
add_char_parts (Some d) None ds e = absurd (none-some _ e)
add_char_parts (Some d) (Some es) ds e = (d, es, refl, refl, same_Some (d ∷ es) ds e)

pub all_fold_is : (cs ds : List ℕ) → fold_all cs ≡ Some ds → AllFold cs ds
all_fold_is [] ds e = subst (AllFold []) (same_Some [] ds e) none_folds
all_fold_is (c ∷ cs) ds e =
    let p = add_char_parts (fold c) (fold_all cs) ds e in
    subst (AllFold (c ∷ cs)) p.4 (one_folds c p.0 cs p.1 (folds_is c p.0 p.2) (all_fold_is cs p.1 p.3))

pub fold_all_is : (cs ds : List ℕ) → AllFold cs ds → fold_all cs ≡ Some ds
fold_all_is _ _ none_folds = refl
fold_all_is _ _ (one_folds c d cs ds f h) = ap (λ o. add_char o (fold_all cs)) (fold_is c d f) ∙ ap (add_char (Some d)) (fold_all_is cs ds h)

-- letter sets by their names
abbrev Others : ℕ → List SetTree → Type 0
Others name sets = list_all (λ r. not (r.name == name)) sets ≡ true

record Latest (sets : List SetTree) (name : ℕ) (s : SetTree) : Type 0 where
  before : List SetTree
  after : List SetTree
  split : sets ≡ before ++ s ∷ after
  is : s.name ≡ name
  last : Others name after

-- the latest is one of the list, or what was found before it
data Found (found : Option SetTree) (sets : List SetTree) (name : ℕ) (s : SetTree) : Type 0 where
  among : Latest sets name s → Found found sets name s
  earlier : found ≡ Some s → Others name sets → Found found sets name s

found_more : (found : Option SetTree) (r : SetTree) (sets : List SetTree) (name : ℕ) (s : SetTree) (b : Bool) → (r.name == name) ≡ b → Found (if b then Some r else found) sets name s → Found found (r ∷ sets) name s
found_more found r sets name s b e (among l) = among (record { before = r ∷ l.before; after = l.after; split = ap (λ q. r ∷ q) l.split; is = l.is; last = l.last })
found_more found r sets name s true e (earlier f o) =
    let same : r ≡ s = same_Some r s f in
    among (record { before = []; after = sets; split = ap (λ q. q ∷ sets) same; is = ap (λ (q : SetTree). q.name) (sym same) ∙ eqb-true r.name name e; last = o })
found_more found r sets name s false e (earlier f o) = earlier f (and_both (not (r.name == name)) (list_all (λ (q : SetTree). not (q.name == name)) sets) (ap not e) o)

found_is : (found : Option SetTree) (sets : List SetTree) (name : ℕ) (s : SetTree) → latest found name sets ≡ Some s → Found found sets name s
found_is found [] name s e = earlier e refl
found_is found (r ∷ sets) name s e = found_more found r sets name s (r.name == name) refl (found_is (if r.name == name then Some r else found) sets name s e)

named_is : (sets : List SetTree) (name : ℕ) (s : SetTree) → set_named sets name ≡ Some s → IsNamed sets name s
named_is sets name s e = from (found_is None sets name s e)
  where
    from : Found None sets name s → IsNamed sets name s
    from (among l) = record { before = l.before; after = l.after; split = l.split; is = l.is; last = AllPass-from_list_all (λ (r : SetTree). not (r.name == name)) l.after l.last }
    from (earlier f o) = absurd (none-some _ f)

pub not_false : (b : Bool) → not b ≡ true → b ≡ false
not_false true e = absurd (false≢true e)
not_false false e = refl

latest_others : (found : Option SetTree) (name : ℕ) (sets : List SetTree) → Others name sets → latest found name sets ≡ found
latest_others found name [] o = refl
latest_others found name (r ∷ sets) o =
    let p = and_parts (not (r.name == name)) (list_all (λ (q : SetTree). not (q.name == name)) sets) o in
    ap (λ b. latest (if b then Some r else found) name sets) (not_false (r.name == name) p.0) ∙ latest_others found name sets p.1

latest_last : (found : Option SetTree) (name : ℕ) (before after : List SetTree) (s : SetTree) → s.name ≡ name → Others name after → latest found name (before ++ s ∷ after) ≡ Some s
latest_last found name [] after s e o = ap (λ b. latest (if b then Some s else found) name after) (eq-eqb s.name name e) ∙ latest_others (Some s) name after o
latest_last found name (r ∷ before) after s e o = latest_last (if r.name == name then Some r else found) name before after s e o

set_named_is : (sets : List SetTree) (name : ℕ) (s : SetTree) → IsNamed sets name s → set_named sets name ≡ Some s
set_named_is sets name s h = ap (latest None name) h.split ∙ latest_last None name h.before h.after s h.is (list_all-from_AllPass (λ (r : SetTree). not (r.name == name)) h.after h.last)

-- signs
add_sign_parts : (o : Option SignTree) (p : Option (List SignTree)) (signs : List SignTree) → add_sign o p ≡ Some signs → (x : SignTree) × (xs : List SignTree) × (o ≡ Some x) × (p ≡ Some xs) × (x ∷ xs ≡ signs)
add_sign_parts None p signs e = absurd (none-some _ e)
add_sign_parts (Some x) None signs e = absurd (none-some _ e)
add_sign_parts (Some x) (Some xs) signs e = (x, xs, refl, refl, same_Some (x ∷ xs) signs e)

one_itself : (sets : List SetTree) (c : ℕ) (cs : List ℕ) (signs : List SignTree) → (c == 33) ≡ false → add_sign (sign_at false sets c) (signs_after false sets cs) ≡ Some signs → ((xs : List SignTree) → signs_after false sets cs ≡ Some xs → AreSigns sets cs xs) → AreSigns sets (c ∷ cs) signs
one_itself sets c cs signs n e k =
    let p = add_sign_parts (sign_at false sets c) (signs_after false sets cs) signs e in
    let d = then_parts (fold c) (λ d. Some (one_char d)) p.0 p.2 in
    let same : one_char d.0 ≡ p.0 = same_Some (one_char d.0) p.0 d.2 in
    subst (AreSigns sets (c ∷ cs)) (ap (λ x. x ∷ p.1) same ∙ p.4) (itself c d.0 cs p.1 n (folds_is c d.0 d.1) (k p.1 p.3))

one_variable : (sets : List SetTree) (c : ℕ) (cs : List ℕ) (signs : List SignTree) → add_sign (sign_at true sets c) (signs_after false sets cs) ≡ Some signs → ((xs : List SignTree) → signs_after false sets cs ≡ Some xs → AreSigns sets cs xs) → AreSigns sets (33 ∷ c ∷ cs) signs
one_variable sets c cs signs e k =
    let p = add_sign_parts (sign_at true sets c) (signs_after false sets cs) signs e in
    let d = then_parts (fold c) (λ d. then_some (set_named sets d) (λ s. Some (one_of s))) p.0 p.2 in
    let s = then_parts (set_named sets d.0) (λ s. Some (one_of s)) p.0 d.2 in
    let same : one_of s.0 ≡ p.0 = same_Some (one_of s.0) p.0 s.2 in
    subst (AreSigns sets (33 ∷ c ∷ cs)) (ap (λ x. x ∷ p.1) same ∙ p.4) (variable c d.0 s.0 cs p.1 (folds_is c d.0 d.1) (named_is sets d.0 s.0 s.1) (k p.1 p.3))

-- the first character of a run of signs
by_mark : (A : Type 0) (c : ℕ) → (c ≡ 33 → (c == 33) ≡ true → A) → ((c == 33) ≡ false → A) → A
by_mark A c f g = from (c == 33) refl
  where
    from : (b : Bool) → (c == 33) ≡ b → A
    from true e = f (eqb-true c 33 e) e
    from false e = g e

signs_are : (sets : List SetTree) (cs : List ℕ) (signs : List SignTree) → signs_after false sets cs ≡ Some signs → AreSigns sets cs signs
signs_are sets [] signs e = subst (AreSigns sets []) (same_Some [] signs e) no_signs
signs_are sets (c ∷ []) signs e = by_mark (AreSigns sets (c ∷ []) signs) c
    (λ m b. let f : signs_after true sets [] ≡ Some signs = ap (λ t. if t then signs_after true sets [] else add_sign (sign_at false sets c) (signs_after false sets [])) (sym b) ∙ e in
    subst (λ q. AreSigns sets (q ∷ []) signs) (sym m) (subst (AreSigns sets (33 ∷ [])) (same_Some (one_char 33 ∷ []) signs f) last_mark))
    (λ b. let f : add_sign (sign_at false sets c) (signs_after false sets []) ≡ Some signs = ap (λ t. if t then signs_after true sets [] else add_sign (sign_at false sets c) (signs_after false sets [])) (sym b) ∙ e in
    one_itself sets c [] signs b f (λ xs h. subst (AreSigns sets []) (same_Some [] xs h) no_signs))
signs_are sets (c ∷ d ∷ cs) signs e = by_mark (AreSigns sets (c ∷ d ∷ cs) signs) c
    (λ m b. let f : signs_after true sets (d ∷ cs) ≡ Some signs = ap (λ t. if t then signs_after true sets (d ∷ cs) else add_sign (sign_at false sets c) (signs_after false sets (d ∷ cs))) (sym b) ∙ e in
    subst (λ q. AreSigns sets (q ∷ d ∷ cs) signs) (sym m) (one_variable sets d cs signs f (λ xs h. signs_are sets cs xs h)))
    (λ b. let f : add_sign (sign_at false sets c) (signs_after false sets (d ∷ cs)) ≡ Some signs = ap (λ t. if t then signs_after true sets (d ∷ cs) else add_sign (sign_at false sets c) (signs_after false sets (d ∷ cs))) (sym b) ∙ e in
    one_itself sets c (d ∷ cs) signs b f (λ xs h. signs_are sets (d ∷ cs) xs h))

signs_found : (sets : List SetTree) (cs : List ℕ) (signs : List SignTree) → AreSigns sets cs signs → signs_after false sets cs ≡ Some signs
signs_found sets _ _ no_signs = refl
signs_found sets _ _ (itself c d cs signs n f h) =
    ap (λ t. if t then signs_after true sets cs else add_sign (sign_at false sets c) (signs_after false sets cs)) n
    ∙ (ap (λ o. add_sign (then_some o (λ q. Some (one_char q))) (signs_after false sets cs)) (fold_is c d f) ∙ ap (add_sign (Some (one_char d))) (signs_found sets cs signs h))
signs_found sets _ _ (variable c d s cs signs f n h) =
    ap (λ o. add_sign (then_some o (λ q. then_some (set_named sets q) (λ r. Some (one_of r)))) (signs_after false sets cs)) (fold_is c d f)
    ∙ (ap (λ o. add_sign (then_some o (λ r. Some (one_of r))) (signs_after false sets cs)) (set_named_is sets d s n) ∙ ap (add_sign (Some (one_of s))) (signs_found sets cs signs h))
signs_found sets _ _ last_mark = refl

by_equal : (A : Type 0) (c k : ℕ) → (c ≡ k → (c == k) ≡ true → A) → ((c == k) ≡ false → A) → A
by_equal A c k f g = from (c == k) refl
  where
    from : (b : Bool) → (c == k) ≡ b → A
    from true e = f (eqb-true c k e) e
    from false e = g e

pattern_is : (sets : List SetTree) (cs : List ℕ) (xs : List SignTree) → run_signs sets cs ≡ Some xs → IsPattern sets cs xs
pattern_is sets [] xs e = absurd (none-some _ e)
pattern_is sets (c ∷ []) xs e = by_equal (IsPattern sets (c ∷ []) xs) c 42
    (λ m b. let f : Some [] ≡ Some xs = ap (λ t. if t then Some [] else signs_after false sets (c ∷ [])) (sym b) ∙ e in
    subst (λ q. IsPattern sets (q ∷ []) xs) (sym m) (subst (IsPattern sets (42 ∷ [])) (same_Some [] xs f) empty))
    (λ b. let f : signs_after false sets (c ∷ []) ≡ Some xs = ap (λ t. if t then Some [] else signs_after false sets (c ∷ [])) (sym b) ∙ e in
    of_signs (c ∷ []) xs (λ q. let m : c ≡ 42 = cc in true≢false (sym (eq-eqb c 42 m) ∙ b)) (signs_are sets (c ∷ []) xs f))
pattern_is sets (c ∷ d ∷ cs) xs e = of_signs (c ∷ d ∷ cs) xs (λ q. cc) (signs_are sets (c ∷ d ∷ cs) xs e)

signs_given : (sets : List SetTree) (cs : List ℕ) (xs : List SignTree) → 0 < length cs → (cs ≡ 42 ∷ [] → ⊥) → AreSigns sets cs xs → run_signs sets cs ≡ Some xs
signs_given sets [] xs l n h = absurd (omega (arith, l))
signs_given sets (c ∷ []) xs l n h = by_equal (run_signs sets (c ∷ []) ≡ Some xs) c 42
    (λ m b. absurd (n (ap (λ q. q ∷ []) m)))
    (λ b. ap (λ t. if t then Some [] else signs_after false sets (c ∷ [])) b ∙ signs_found sets (c ∷ []) xs h)
signs_given sets (c ∷ d ∷ cs) xs l n h = signs_found sets (c ∷ d ∷ cs) xs h

pattern_found : (sets : List SetTree) (cs : List ℕ) (xs : List SignTree) → 0 < length cs → IsPattern sets cs xs → run_signs sets cs ≡ Some xs
pattern_found sets _ _ l empty = refl
pattern_found sets _ _ l (of_signs cs xs n h) = signs_given sets cs xs l n h

pattern_there : (sets : List SetTree) (cs : List ℕ) (xs : List SignTree) → run_signs sets cs ≡ Some xs → 0 < length cs
pattern_there sets [] xs e = absurd (none-some _ e)
pattern_there sets (c ∷ cs) xs e = omega arith

-- variables that occur
or_parts : (a b : Bool) → (a || b) ≡ true → (a ≡ true) ⊎ (b ≡ true)
or_parts true b e = inl refl
or_parts false b e = inr e

or_right : (a b : Bool) → b ≡ true → (a || b) ≡ true
or_right true b e = refl
or_right false b e = e

has_is : (name : ℕ) (xs : List SignTree) → occurs name xs ≡ true → HasVariable name xs
has_is name [] e = absurd (false≢true e)
has_is name (one_char c ∷ xs) e = later (one_char c) xs (has_is name xs e)
has_is name (one_of s ∷ xs) e = ⊎_elim (λ h. here s xs (eqb-true s.name name h)) (λ h. later (one_of s) xs (has_is name xs h)) (or_parts (s.name == name) (occurs name xs) e)

has_found : (name : ℕ) (xs : List SignTree) → HasVariable name xs → occurs name xs ≡ true
has_found name _ (here s xs e) = ap (λ b. b || occurs name xs) (eq-eqb s.name name e)
has_found name _ (later x xs h) = or_right (is_of name x) (occurs name xs) (has_found name xs h)

tail_occurs : (x : SignTree) (xs pattern : List SignTree) → all_occur (x ∷ xs) pattern ≡ true → all_occur xs pattern ≡ true
tail_occurs (one_char c) xs pattern e = e
tail_occurs (one_of s) xs pattern e = (and_parts (occurs s.name pattern) (all_occur xs pattern) e).1

bound_is : (pattern : List SignTree) (name : ℕ) (xs : List SignTree) → HasVariable name xs → all_occur xs pattern ≡ true → HasVariable name pattern
bound_is pattern name _ (here s xs n) e = subst (λ q. HasVariable q pattern) n (has_is s.name pattern (and_parts (occurs s.name pattern) (all_occur xs pattern) e).0)
bound_is pattern name _ (later x xs h) e = bound_is pattern name xs h (tail_occurs x xs pattern e)

bound_found : (xs pattern : List SignTree) → ((name : ℕ) → HasVariable name xs → HasVariable name pattern) → all_occur xs pattern ≡ true
bound_found [] pattern f = refl
bound_found (one_char c ∷ xs) pattern f = bound_found xs pattern (λ name h. f name (later (one_char c) xs h))
bound_found (one_of s ∷ xs) pattern f = and_both (occurs s.name pattern) (all_occur xs pattern) (has_found s.name pattern (f s.name (here s xs refl))) (bound_found xs pattern (λ name h. f name (later (one_of s) xs h)))

-- what stands between parentheses
pub inside_is : (cs inner : List ℕ) → IsInside cs inner → inside cs ≡ inner
inside_is cs inner h = ap inside h.split ∙ but_last-last inner h.last

last_there : (c : ℕ) (cs : List ℕ) → (l : ℕ) × (c ∷ cs ≡ but_last (c ∷ cs) ++ l ∷ [])
last_there c [] = (c, refl)
last_there c (d ∷ cs) = let r = last_there d cs in (r.0, ap (λ l. c ∷ l) r.1)

pub is_inside : (cs inner : List ℕ) → inside cs ≡ inner → 0 < length inner → IsInside cs inner
is_inside [] inner e l = absurd (omega (arith, l, ap length e))
is_inside (c ∷ []) inner e l = absurd (omega (arith, l, ap length e))
is_inside (c ∷ d ∷ cs) inner e l = let r = last_there d cs in record { first = c; last = r.0; split = ap (λ q. c ∷ q) (r.1 ∙ ap (λ q. q ++ r.0 ∷ []) e) }

pub longer : (a p rest t : List ℕ) → t ≡ a ++ (p ++ rest) → 0 < length p → 0 < length t
longer a p rest t e l = omega (arith, l, length-append a (p ++ rest), length-append p rest, ap length e)

-- groups
abbrev group_if : Bool → List SignTree → List SignTree → Option GroupTree
group_if b xs ys = if b then Some (record { pattern = xs; with = ys }) else None

abbrev second_run : List SetTree → List ℕ → List SignTree → Option GroupTree
second_run sets rest xs = then_some (run_signs sets (run rest)) (λ ys. group_if (is_nothing (after_white (after_run rest)) && all_occur ys xs) xs ys)

pub nothing_is : (cs : List ℕ) → is_nothing cs ≡ true → cs ≡ []
nothing_is [] e = refl
nothing_is (c ∷ cs) e = absurd (false≢true e)

five : (t t1 t2 t3 t4 a p b r u : List ℕ) → t ≡ a ++ t1 → t1 ≡ p ++ t2 → t2 ≡ b ++ t3 → t3 ≡ r ++ t4 → t4 ≡ u → t ≡ a ++ (p ++ (b ++ (r ++ u)))
five t t1 t2 t3 t4 a p b r u d e f g h = d ∙ ap (λ l. a ++ l) (e ∙ ap (λ l. p ++ l) (f ∙ ap (λ l. b ++ l) (g ∙ ap (λ l. r ++ l) h)))

group_of_parts : (sets : List SetTree) (cs : List ℕ) (xs ys : List SignTree) → run_signs sets (run (after_white (inside cs))) ≡ Some xs → run_signs sets (run (after_white (after_run (after_white (inside cs))))) ≡ Some ys
    → is_nothing (after_white (after_run (after_white (after_run (after_white (inside cs)))))) ≡ true → all_occur ys xs ≡ true → IsGroup sets cs (record { pattern = xs; with = ys })
group_of_parts sets cs xs ys e f n o =
    let t = inside cs in
    let t1 = after_white t in
    let t2 = after_run t1 in
    let t3 = after_white t2 in
    let t4 = after_run t3 in
    let w = white_cut t in
    let p = run_cut t1 in
    let v = white_cut t2 in
    let r = run_cut t3 in
    let u = white_cut t4 in
    let whole : t4 ≡ u.front = u.split ∙ (ap (λ l. u.front ++ l) (nothing_is (after_white t4) n) ∙ append-nil u.front) in
    let split = five t t1 t2 t3 t4 w.front (run t1) v.front (run t3) u.front w.split p.split v.split r.split whole in
    let p_there = pattern_there sets (run t1) xs e in
    let r_there = pattern_there sets (run t3) ys f in
    let rest_there = longer [] (run t3) t4 t3 r.split r_there in
    record {
      left = w.front;
      p = run t1;
      between = v.front;
      r = run t3;
      right = u.front;
      inside = is_inside cs (w.front ++ (run t1 ++ (v.front ++ (run t3 ++ u.front)))) split (longer w.front (run t1) (v.front ++ (run t3 ++ u.front)) (w.front ++ (run t1 ++ (v.front ++ (run t3 ++ u.front)))) refl p_there);
      left_white = AllPass-from_list_all is_whitespace w.front w.white;
      p_run = (p_there, AllPass-from_list_all is_not_whitespace (run t1) p.dark);
      gap = (gap_is v.front t3 (subst Pauses v.split p.pauses) v.stops rest_there, AllPass-from_list_all is_whitespace v.front v.white);
      r_run = (r_there, AllPass-from_list_all is_not_whitespace (run t3) r.dark);
      right_white = AllPass-from_list_all is_whitespace u.front u.white;
      pattern = pattern_is sets (run t1) xs e;
      with = pattern_is sets (run t3) ys f;
      bound = λ name h. bound_is xs name ys h o;
    }

pub group_is : (sets : List SetTree) (cs : List ℕ) (g : GroupTree) → read_group sets cs ≡ Some g → IsGroup sets cs g
group_is sets cs g e =
    let t1 = after_white (inside cs) in
    let t3 = after_white (after_run t1) in
    let a = then_parts (run_signs sets (run t1)) (second_run sets t3) g e in
    let b = then_parts (run_signs sets (run t3)) (λ ys. group_if (is_nothing (after_white (after_run t3)) && all_occur ys a.0) a.0 ys) g a.2 in
    let made : GroupTree = record { pattern = a.0; with = b.0 } in
    let c = if_parts (is_nothing (after_white (after_run t3)) && all_occur b.0 a.0) made g b.2 in
    let d = and_parts (is_nothing (after_white (after_run t3))) (all_occur b.0 a.0) c.0 in
    subst (IsGroup sets cs) c.1 (group_of_parts sets cs a.0 b.0 a.1 b.1 d.0 d.1)

second_found : (sets : List SetTree) (r right : List ℕ) (xs ys : List SignTree) → 0 < length r → Black r → White right → IsPattern sets r ys → all_occur ys xs ≡ true → second_run sets (r ++ right) xs ≡ Some (record { pattern = xs; with = ys })
second_found sets r right xs ys l b w h o =
    let pauses = white_pauses right w in
    let found : run_signs sets (run (r ++ right)) ≡ Some ys = ap (run_signs sets) (the_run r right b pauses) ∙ pattern_found sets r ys l h in
    let none : is_nothing (after_white (after_run (r ++ right))) ≡ true = ap (λ q. is_nothing (after_white q)) (past_run r right b pauses) ∙ ap is_nothing (all_white right w) in
    ap (λ q. then_some q (λ zs. group_if (is_nothing (after_white (after_run (r ++ right))) && all_occur zs xs) xs zs)) found
    ∙ ap (λ q. group_if q xs ys) (and_both (is_nothing (after_white (after_run (r ++ right)))) (all_occur ys xs) none o)

pub group_found : (sets : List SetTree) (cs : List ℕ) (g : GroupTree) → IsGroup sets cs g → read_group sets cs ≡ Some g
group_found sets cs g h =
    let t3 = h.r ++ h.right in
    let t2 = h.between ++ t3 in
    let t1 = h.p ++ t2 in
    let left = list_all-from_AllPass is_whitespace h.left h.left_white in
    let p = list_all-from_AllPass is_not_whitespace h.p h.p_run.1 in
    let between = list_all-from_AllPass is_whitespace h.between h.gap.1 in
    let r = list_all-from_AllPass is_not_whitespace h.r h.r_run.1 in
    let right = list_all-from_AllPass is_whitespace h.right h.right_white in
    let pauses = gap_pauses h.between t3 h.gap.0 between in
    let start : after_white (inside cs) ≡ t1 = ap after_white (inside_is cs (h.left ++ t1) h.inside) ∙ past_white h.left t1 left (run_stops h.p t2 h.p_run.0 p) in
    let first : run_signs sets (run t1) ≡ Some g.pattern = ap (run_signs sets) (the_run h.p t2 p pauses) ∙ pattern_found sets h.p g.pattern h.p_run.0 h.pattern in
    let next : after_white (after_run t1) ≡ t3 = ap after_white (past_run h.p t2 p pauses) ∙ past_white h.between t3 between (run_stops h.r h.right h.r_run.0 r) in
    ap (group_signs sets) start ∙ (ap (λ q. then_some q (second_run sets (after_white (after_run t1)))) first
    ∙ (ap (λ q. second_run sets q g.pattern) next ∙ second_found sets h.r h.right g.pattern g.with h.r_run.0 r right h.with (bound_found g.with g.pattern h.bound)))
