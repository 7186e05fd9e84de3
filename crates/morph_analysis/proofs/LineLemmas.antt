-- Lines that write a lattice.
use Rattle.std.proofs.Common.{ℕ, zero, suc, ◌≡◌, ◌<◌, ◌≤◌, ◌+◌, ◌*◌, ◌-◌, ◌⊎◌, ◌==◌, ◌&&◌, ◌||◌, inl, inr, not, Bool, true, false, cond, List, [], ◌∷◌, ◌++◌, length, map, filter, take, drop, get_or, refl, sym, ◌∙◌, ap, subst, arith, length-append}
use mathlib.Core.Bool.{beq}
use Rattle.std.specs.Prelude.{encode_utf8_all}
use Rattle.std.specs.Char.{is_whitespace, is_ascii_digit, encode_utf8}
use Rattle.std.specs.List.{list_any}
use Rattle.std.specs.Str.{bytes_eq}
use Rattle.std.proofs.lemmas.Str.{encodes-append}
use Rattle.std.proofs.lemmas.List.{map-append, append_assoc, append-nil, take-append-drop, take_more, take_all, length-take-le, length-drop}
use Rattle.std.proofs.lemmas.Slice.Eq.{bytes_eq-Decides}
use Rattle.std.proofs.lemmas.Bool.Decides.{Decides-eqb, Decides-and}
use Rattle.caseless.specs.Caseless.{default_case_fold}
use Rattle.lexicon.specs.Words.{Has, Each}
use Rattle.morph_analysis.proofs.Lists.{bools, true_not_false, Each-at, Has-left, Has-right, Has-snoc, take_next, map_take_next, all_taken}
use Rattle.morph_analysis.proofs.Lists.{filter_has, has_filter}
use Rattle.morph_analysis.specs.Lattices.{StepTree, LatticeTree, IsValid}
use Rattle.morph_analysis.specs.declared.lattice.Step.{Step}
use Rattle.morph_analysis.specs.LatticeViews.{step_of}
use Rattle.morph_analysis.specs.LatticeLines.{value_of, IsNumber, Writes, ItemTree, StopsBefore, Items, ends, blank, item, same_step, once, AllWrite, no_more, one_more, IsEnd, IsLineOf, IsFirstWrong}
use Rattle.morph_analysis.specs.Inner.Lines.{BeginsWith, IsLeft, IsAtColon, HasParts, HasNoParts, WritesNone, with_step, HasRead}

-- ---- elements
pub each_get : {A : Type 0} (P : A → Type 0) (xs : List A) (i : ℕ) (d : A) → Each P xs → i < length xs → P (get_or xs i d)
each_get P [] i d e lt = absurd (omega arith)
each_get P (x ∷ xs) zero d e lt = e.0
each_get P (x ∷ xs) (suc i) d e lt = each_get P xs i d e.1 (omega arith)

pub each_snoc : {A : Type 0} (P : A → Type 0) (xs : List A) (x : A) → Each P xs → P x → Each P (xs ++ x ∷ [])
each_snoc P [] x e p = (p, tt)
each_snoc P (y ∷ ys) x e p = (e.0, each_snoc P ys x e.1 p)

pub each_next : {A : Type 0} (P : A → Type 0) (xs : List A) (i : ℕ) (d : A) → i < length xs → Each P (take i xs) → P (get_or xs i d) → Each P (take (i + 1) xs)
each_next P xs i d lt e p = subst (Each P) (sym (take_more xs i d lt)) (each_snoc P (take i xs) (get_or xs i d) e p)

pub drop_next : (xs : List ℕ) (i d : ℕ) → i < length xs → drop i xs ≡ get_or xs i d ∷ drop (i + 1) xs
drop_next [] i d lt = absurd (omega arith)
drop_next (y ∷ ys) zero d lt = refl
drop_next (y ∷ ys) (suc i) d lt = drop_next ys i d (omega arith) ∙ ap (λ k. get_or ys i d ∷ drop k (y ∷ ys)) (let k : suc (i + 1) ≡ suc i + 1 = omega arith in k)

pub begins_at : (kind : Bool) (xs : List ℕ) (i d : ℕ) → i < length xs → is_whitespace (get_or xs i d) ≡ kind → BeginsWith kind (drop i xs)
begins_at kind xs i d lt e = subst (BeginsWith kind) (sym (drop_next xs i d lt)) e

pub begins_none : (kind : Bool) (xs : List ℕ) (i : ℕ) → length xs ≤ i → BeginsWith kind (drop i xs)
begins_none kind [] zero le = tt
begins_none kind [] (suc i) le = tt
begins_none kind (x ∷ xs) zero le = absurd (omega arith)
begins_none kind (x ∷ xs) (suc i) le = begins_none kind xs i (omega arith)

-- ---- items
pub same_kind : (a b : Bool) → not (beq a b) ≡ false → a ≡ b
same_kind true true e = refl
same_kind true false e = cc
same_kind false true e = cc
same_kind false false e = refl

pub bytes_more : (xs ys : List ℕ) → length (encode_utf8_all (xs ++ ys)) ≡ length (encode_utf8_all xs) + length (encode_utf8_all ys)
bytes_more xs ys = ap (λ l. length l) (encodes-append xs ys) ∙ length-append (encode_utf8_all xs) (encode_utf8_all ys)

blanks : (run rest : List ℕ) (at : ℕ) (items : List ItemTree) → Each (λ c. is_whitespace c ≡ true) run → Items (at + length (encode_utf8_all run)) rest items → Items at (run ++ rest) items
blanks [] rest at items e h = subst (λ k. Items k rest items) (let k : at + 0 ≡ at = omega arith in k) h
blanks (c ∷ cs) rest at items e h =
    let size : length (encode_utf8_all (c ∷ cs)) ≡ length (encode_utf8_all (c ∷ [])) + length (encode_utf8_all cs) = bytes_more (c ∷ []) cs in
    let place : at + length (encode_utf8_all (c ∷ cs)) ≡ at + length (encode_utf8_all (c ∷ [])) + length (encode_utf8_all cs) = omega (arith, size) in
    blank at c (cs ++ rest) items e.0 (blanks cs rest (at + length (encode_utf8_all (c ∷ []))) items e.1 (subst (λ k. Items k rest items) place h))

pub left_is : (at gap : ℕ) (letters : List ℕ) (left : ItemTree) → gap ≤ length letters → Each (λ c. is_whitespace c ≡ true) (take gap letters) → BeginsWith false (drop gap letters) → left.at ≡ at + length (encode_utf8_all (take gap letters)) → left.letters ≡ drop gap letters
    → IsLeft at letters left
left_is at gap letters left le run begins place rest = record {
  items = λ more h. subst (λ l. Items at l more) (take-append-drop gap letters) (blanks (take gap letters) (drop gap letters) at more run (subst (λ k. Items k (drop gap letters) more) place (subst (λ l. Items left.at l more) rest h)));
  begins = subst (BeginsWith false) (sym rest) begins;
  size = omega (arith, ap (λ l. length (encode_utf8_all l)) rest, place, bytes_more (take gap letters) (drop gap letters), ap (λ l. length (encode_utf8_all l)) (take-append-drop gap letters));
  shorter = (let parts = length-append (take gap letters) (drop gap letters) in omega (arith, ap (λ l. length l) rest, parts, ap (λ l. length l) (take-append-drop gap letters)));
}

stops : (letters : List ℕ) → BeginsWith true letters → StopsBefore letters
stops [] b = tt
stops (c ∷ cs) b = b

pub run_some : (letters : List ℕ) (size : ℕ) → 0 < length letters → BeginsWith false letters → BeginsWith true (drop size letters) → 0 < size
run_some [] size some b t = absurd (omega arith)
run_some (c ∷ cs) zero some b t = true_not_false (is_whitespace c) t b
run_some (c ∷ cs) (suc size) some b t = omega arith

-- one item more
pub item_more : (letters : List ℕ) (out : List ItemTree) (left next : ItemTree) (size : ℕ) → ((more : List ItemTree) → Items left.at left.letters more → Items 0 letters (out ++ more)) → size ≤ length left.letters → 0 < size
    → Each (λ c. is_whitespace c ≡ false) (take size left.letters) → BeginsWith true (drop size left.letters) → IsLeft (left.at + length (encode_utf8_all (take size left.letters))) (drop size left.letters) next
    → (more : List ItemTree) → Items next.at next.letters more → Items 0 letters ((out ++ record { at = left.at; letters = take size left.letters } ∷ []) ++ more)
item_more letters out left next size before le some run end is more h =
    subst (Items 0 letters) (sym (append_assoc out (record { at = left.at; letters = take size left.letters } ∷ []) more))
    (before (record { at = left.at; letters = take size left.letters } ∷ more)
    (item left.at left.letters (take size left.letters) (drop size left.letters) more (sym (take-append-drop size left.letters)) (omega (arith, length-take-le size left.letters le)) run (stops (drop size left.letters) end) (is.items more h)))

-- ---- numbers
value-append : (n : ℕ) (xs ys : List ℕ) → value_of n (xs ++ ys) ≡ value_of (value_of n xs) ys
value-append n [] ys = refl
value-append n (x ∷ xs) ys = value-append (10 * n + (x - 48)) xs ys

value_grows : (n : ℕ) (ds : List ℕ) → n ≤ value_of n ds
value_grows n [] = omega arith
value_grows n (d ∷ ds) = omega (arith, value_grows (10 * n + (d - 48)) ds)

pub value_next : (xs : List ℕ) (i d : ℕ) → i < length xs → value_of 0 (take (i + 1) xs) ≡ 10 * value_of 0 (take i xs) + (get_or xs i d - 48)
value_next xs i d lt = ap (value_of 0) (take_more xs i d lt) ∙ value-append 0 (take i xs) (get_or xs i d ∷ [])

pub value_least : (xs : List ℕ) (i : ℕ) → value_of 0 (take i xs) ≤ value_of 0 xs
value_least xs i = omega (arith, value_grows (value_of 0 (take i xs)) (drop i xs), value-append 0 (take i xs) (drop i xs), ap (value_of 0) (take-append-drop i xs))

pub one_number : (ds : List ℕ) (n m : ℕ) → IsNumber ds n → IsNumber ds m → n ≡ m
one_number ds n m p q = p.is ∙ sym q.is

-- ---- colons
pub colon_at : (xs : List ℕ) (i d : ℕ) → i < length xs → get_or xs i d ≡ 58 → (Has 58 (take i xs) → ⊥) → IsAtColon xs (take i xs) (drop (i + 1) xs)
colon_at xs i d lt e never = record {
  split = sym (take-append-drop i xs) ∙ ap (λ l. take i xs ++ l) (drop_next xs i d lt ∙ ap (λ x. x ∷ drop (i + 1) xs) e);
  none = never;
}

pub colon_next : (xs : List ℕ) (i d : ℕ) → i < length xs → (get_or xs i d ≡ 58 → ⊥) → (Has 58 (take i xs) → ⊥) → Has 58 (take (i + 1) xs) → ⊥
colon_next xs i d lt ne never h = elim (Has-snoc 58 (get_or xs i d) (take i xs) (subst (Has 58) (take_more xs i d lt) h)) [ inl k ↦ never k | inr e ↦ ne (sym e) ]

pub split_unique : (a b c d : List ℕ) → a ++ 58 ∷ b ≡ c ++ 58 ∷ d → (Has 58 a → ⊥) → (Has 58 c → ⊥) → (a ≡ c) × (b ≡ d)
split_unique [] b [] d e p q = (refl, let k : b ≡ d = cc in k)
split_unique [] b (x ∷ c) d e p q = absurd (q (inl (let k : 58 ≡ x = cc in k)))
split_unique (x ∷ a) b [] d e p q = absurd (p (inl (let k : 58 ≡ x = cc in k)))
split_unique (x ∷ a) b (y ∷ c) d e p q =
    let h : x ≡ y = cc in
    let t : a ++ 58 ∷ b ≡ c ++ 58 ∷ d = cc in
    let r = split_unique a b c d t (λ k. p (inr k)) (λ k. q (inr k)) in
    (ap (λ z. z ∷ a) h ∙ ap (λ l. y ∷ l) r.0, r.1)

pub plain : (ds : List ℕ) → Each (λ d. is_ascii_digit d ≡ true) ds → Has 58 ds → ⊥
plain ds e h = let k : is_ascii_digit 58 ≡ true = Each-at (λ d. is_ascii_digit d ≡ true) 58 ds e h in true_not_false false k refl

pub has_colon : (text : List ℕ) (from to : ℕ) (word : List ℕ) → HasParts text from to word → Has 58 text
has_colon text from to word p = subst (Has 58) (sym p.split) (Has-right 58 p.first (58 ∷ (p.second ++ 58 ∷ word)) (inl refl))

pub rest_colon : (text before after : List ℕ) (from to : ℕ) (word : List ℕ) → IsAtColon text before after → HasParts text from to word → Has 58 after
rest_colon text before after from to word c p =
    let u = split_unique before after p.first (p.second ++ 58 ∷ word) (sym c.split ∙ p.split) c.none (plain p.first p.from_is.digits_are) in
    subst (Has 58) (sym u.1) (Has-right 58 p.second (58 ∷ word) (inl refl))

-- what an item writes stands where its colons say
pub parts_are : (text first rest second word : List ℕ) (from to : ℕ) (letters : List ℕ) → IsAtColon text first rest → IsAtColon rest second word → HasParts text from to letters → IsNumber first from × IsNumber second to × (letters ≡ word)
parts_are text first rest second word from to letters c d p =
    let u = split_unique first rest p.first (p.second ++ 58 ∷ letters) (sym c.split ∙ p.split) c.none (plain p.first p.from_is.digits_are) in
    let v = split_unique second word p.second letters (sym d.split ∙ u.1) d.none (plain p.second p.to_is.digits_are) in
    (subst (λ l. IsNumber l from) (sym u.0) p.from_is, subst (λ l. IsNumber l to) (sym v.0) p.to_is, sym v.1)

pub parts_there : (text first rest second word : List ℕ) (from to : ℕ) → IsAtColon text first rest → IsAtColon rest second word → IsNumber first from → IsNumber second to → from < to → 0 < length word → HasParts text from to word
parts_there text first rest second word from to c d p q lt some = record {
  first = first;
  second = second;
  split = c.split ∙ ap (λ l. first ++ 58 ∷ l) d.split;
  from_is = p;
  to_is = q;
  forward = lt;
  some = some;
}

pub writes_none : (text : List ℕ) → HasNoParts text → WritesNone text
writes_none text never s w = never s.from s.to w.word (record { first = w.first; second = w.second; split = w.split; from_is = w.from; to_is = w.to; forward = w.forward; some = w.some })

pub writes_it : (text : List ℕ) (from to : ℕ) (word : List ℕ) (s : StepTree) → HasParts text from to word → s.from ≡ from → s.to ≡ to → s.word ≡ encode_utf8_all (default_case_fold word) → Writes text s
writes_it text from to word s p f t w = record {
  first = p.first;
  second = p.second;
  word = word;
  split = p.split;
  from = subst (IsNumber p.first) (sym f) p.from_is;
  to = subst (IsNumber p.second) (sym t) p.to_is;
  forward = omega (arith, p.forward, f, t);
  some = p.some;
  folded = w;
}

-- ---- steps once
same_step-same : (s t : StepTree) → same_step s t ≡ true → s ≡ t
same_step-same s t e =
    let both = (Decides-and (s.from == t.from) ((s.to == t.to) && bytes_eq s.word t.word) (Decides-eqb s.from t.from) (Decides-and (s.to == t.to) (bytes_eq s.word t.word) (Decides-eqb s.to t.to) (bytes_eq-Decides s.word t.word))).0 e in
    ap (λ v. let k : StepTree = record { from = v; to = s.to; word = s.word } in k) both.0
    ∙ ap (λ v. let k : StepTree = record { from = t.from; to = v; word = s.word } in k) both.1.0
    ∙ ap (λ v. let k : StepTree = record { from = t.from; to = t.to; word = v } in k) both.1.1

same_step-refl : (s t : StepTree) → s ≡ t → same_step s t ≡ true
same_step-refl s t e =
    (Decides-and (s.from == t.from) ((s.to == t.to) && bytes_eq s.word t.word) (Decides-eqb s.from t.from) (Decides-and (s.to == t.to) (bytes_eq s.word t.word) (Decides-eqb s.to t.to) (bytes_eq-Decides s.word t.word))).1
    (ap (λ (k : StepTree). k.from) e, (ap (λ (k : StepTree). k.to) e, ap (λ (k : StepTree). k.word) e))

any_has : (s : StepTree) (xs : List StepTree) → list_any (same_step s) xs ≡ true → Has s xs
any_has s [] e = true_not_false false e refl
any_has s (x ∷ xs) e = go (bools (same_step s x)) (any_has s xs)
  where
    go : (same_step s x ≡ true) ⊎ (same_step s x ≡ false) → (list_any (same_step s) xs ≡ true → Has s xs) → Has s (x ∷ xs)
    go (inl t) more = inl (same_step-same s x t)
    go (inr f) more = inr (more (sym (ap (λ b. b || list_any (same_step s) xs) f) ∙ e))

has_any : (s : StepTree) (xs : List StepTree) → Has s xs → list_any (same_step s) xs ≡ true
has_any s [] h = absurd h
has_any s (x ∷ xs) (inl e) = ap (λ b. b || list_any (same_step s) xs) (same_step-refl s x e)
has_any s (x ∷ xs) (inr h) = go (bools (same_step s x)) (has_any s xs h)
  where
    go : (same_step s x ≡ true) ⊎ (same_step s x ≡ false) → list_any (same_step s) xs ≡ true → list_any (same_step s) (x ∷ xs) ≡ true
    go (inl t) k = ap (λ b. b || list_any (same_step s) xs) t
    go (inr f) k = ap (λ b. b || list_any (same_step s) xs) f ∙ k

once_has : (s : StepTree) (xs : List StepTree) → Has s (once xs) → Has s xs
once_has s [] h = h
once_has s (x ∷ xs) (inl e) = inl e
once_has s (x ∷ xs) (inr h) = inr (once_has s xs (has_filter (λ t. not (same_step x t)) s (once xs) h).0)

filter_snoc : (p : StepTree → Bool) (xs : List StepTree) (x : StepTree) (b : Bool) → p x ≡ b → filter p (xs ++ x ∷ []) ≡ cond b (filter p xs ++ x ∷ []) (filter p xs)
filter_snoc p [] x true e = ap (λ b. cond b (x ∷ []) []) e
filter_snoc p [] x false e = ap (λ b. cond b (x ∷ []) []) e
filter_snoc p (y ∷ ys) x b e = go (p y) b (filter_snoc p ys x b e)
  where
    go : (c d : Bool) → filter p (ys ++ x ∷ []) ≡ cond d (filter p ys ++ x ∷ []) (filter p ys)
        → cond c (y ∷ filter p (ys ++ x ∷ [])) (filter p (ys ++ x ∷ [])) ≡ cond d (cond c (y ∷ filter p ys) (filter p ys) ++ x ∷ []) (cond c (y ∷ filter p ys) (filter p ys))
    go true true h = ap (λ l. y ∷ l) h
    go true false h = ap (λ l. y ∷ l) h
    go false true h = h
    go false false h = h

-- one step more is there already, or goes last
pub once_new : (xs : List StepTree) (x : StepTree) → (Has x (once xs) → ⊥) → once (xs ++ x ∷ []) ≡ once xs ++ x ∷ []
once_new [] x never = refl
once_new (y ∷ ys) x never = go (bools (same_step y x)) (once_new ys x)
  where
    go : (same_step y x ≡ true) ⊎ (same_step y x ≡ false) → ((Has x (once ys) → ⊥) → once (ys ++ x ∷ []) ≡ once ys ++ x ∷ []) → once (y ∷ (ys ++ x ∷ [])) ≡ once (y ∷ ys) ++ x ∷ []
    go (inl t) more = absurd (never (inl (sym (same_step-same y x t))))
    go (inr f) more =
        ap (λ l. y ∷ filter (λ t. not (same_step y t)) l) (more (λ k. never (inr (filter_has (λ t. not (same_step y t)) x (once ys) k (ap not f)))))
        ∙ ap (λ l. y ∷ l) (filter_snoc (λ t. not (same_step y t)) (once ys) x true (ap not f))

pub once_known : (xs : List StepTree) (x : StepTree) → Has x (once xs) → once (xs ++ x ∷ []) ≡ once xs
once_known [] x h = absurd h
once_known (y ∷ ys) x h = go (bools (same_step y x)) (bools (list_any (same_step x) (once ys))) (once_known ys x) h
  where
    go : (same_step y x ≡ true) ⊎ (same_step y x ≡ false) → (list_any (same_step x) (once ys) ≡ true) ⊎ (list_any (same_step x) (once ys) ≡ false) → (Has x (once ys) → once (ys ++ x ∷ []) ≡ once ys) → Has x (once (y ∷ ys))
        → once (y ∷ (ys ++ x ∷ [])) ≡ once (y ∷ ys)
    go s (inl k) more h = ap (λ l. y ∷ filter (λ t. not (same_step y t)) l) (more (any_has x (once ys) k))
    go (inl t) (inr n) more h =
        ap (λ l. y ∷ filter (λ t. not (same_step y t)) l) (once_new ys x (λ k. true_not_false (list_any (same_step x) (once ys)) (has_any x (once ys) k) n))
        ∙ ap (λ l. y ∷ l) (filter_snoc (λ t. not (same_step y t)) (once ys) x false (ap not t))
    go (inr f) (inr n) more (inl e) = true_not_false (same_step y x) (same_step-refl y x (sym e)) f
    go (inr f) (inr n) more (inr k) = true_not_false (list_any (same_step x) (once ys)) (has_any x (once ys) (has_filter (λ t. not (same_step y t)) x (once ys) k).0) n

pub once_more : (written : List StepTree) (s : StepTree) (keys : List StepTree) → keys ≡ once written → cond (list_any (same_step s) keys) keys (keys ++ s ∷ []) ≡ once (written ++ s ∷ [])
once_more written s keys e = go (bools (list_any (same_step s) keys))
  where
    go : (list_any (same_step s) keys ≡ true) ⊎ (list_any (same_step s) keys ≡ false) → cond (list_any (same_step s) keys) keys (keys ++ s ∷ []) ≡ once (written ++ s ∷ [])
    go (inl t) = ap (λ b. cond b keys (keys ++ s ∷ [])) t ∙ e ∙ sym (once_known written s (subst (Has s) e (any_has s keys t)))
    go (inr f) = ap (λ b. cond b keys (keys ++ s ∷ [])) f ∙ ap (λ l. l ++ s ∷ []) e ∙ sym (once_new written s (λ k. true_not_false (list_any (same_step s) keys) (has_any s keys (subst (Has s) (sym e) k)) f))

pub writes_more : (is : List ItemTree) (i : ItemTree) (ss : List StepTree) (s : StepTree) → AllWrite is ss → Writes i.letters s → AllWrite (is ++ i ∷ []) (ss ++ s ∷ [])
writes_more _ i _ s no_more w = one_more i [] s [] w no_more
writes_more _ i _ s (one_more j js t ts v more) w = one_more j (js ++ i ∷ []) t (ts ++ s ∷ []) v (writes_more js i ts s more w)

pub end_none : IsEnd [] 0
end_none = record { bound = λ s h. absurd h; met = inl refl }

pub end_more : (ss : List StepTree) (s : StepTree) (end new : ℕ) → IsEnd ss end → end ≤ new → s.to ≤ new → (new ≡ end) ⊎ (new ≡ s.to) → IsEnd (ss ++ s ∷ []) new
end_more ss s end new p le to is = record {
  bound = λ t h. elim (Has-snoc t s ss h) [ inl k ↦ (let b = p.bound t k in omega (arith, b, le)) | inr e ↦ (let same : t.to ≡ s.to = ap (λ (k : StepTree). k.to) e in omega (arith, same, to)) ];
  met = elim is [ inl e ↦ (elim p.met [ inl z ↦ inl (e ∙ z) | inr m ↦ inr (m.0, Has-left m.0 ss (s ∷ []) m.1, m.2 ∙ sym e) ]) | inr e ↦ inr (s, Has-right s ss (s ∷ []) (inl refl), sym e) ];
}

written_by : (is : List ItemTree) (ss : List StepTree) (s : StepTree) → AllWrite is ss → Has s ss → s.from < s.to
written_by _ _ s no_more h = absurd h
written_by _ _ s (one_more i is t ts w more) (inl e) = subst (λ (k : StepTree). k.from < k.to) (sym e) w.forward
written_by _ _ s (one_more i is t ts w more) (inr h) = written_by is ts s more h

each_of : (P : StepTree → Type 0) (xs : List StepTree) → ((s : StepTree) → Has s xs → P s) → Each P xs
each_of P [] f = tt
each_of P (x ∷ xs) f = (f x (inl refl), each_of P xs (λ s h. f s (inr h)))

pub line_valid : (is : List ItemTree) (written : List StepTree) (l : LatticeTree) → AllWrite is written → IsEnd written l.end → l.steps ≡ once written → IsValid l
line_valid is written l a e s =
    subst (Each (λ s. (s.from < s.to) × (s.to ≤ l.end))) (sym s)
    (each_of (λ s. (s.from < s.to) × (s.to ≤ l.end)) (once written) (λ t h. (written_by is written t a (once_has t written h), e.bound t (once_has t written h))))

parted : {X : Type 0} (see : X → ItemTree) (xs : List X) (i : ℕ) (x : X) → i < length xs → x ≡ get_or xs i x → map see xs ≡ map see (take i xs) ++ see x ∷ map see (drop (i + 1) xs)
parted see [] i x lt e = absurd (omega arith)
parted see (y ∷ ys) zero x lt e = ap (λ z. see z ∷ map see ys) (sym e)
parted see (y ∷ ys) (suc i) x lt e = ap (λ l. see y ∷ l) (parted see ys i x (omega arith) e ∙ ap (λ k. map see (take i ys) ++ see x ∷ map see (drop k (y ∷ ys))) (let k : suc (i + 1) ≡ suc i + 1 = omega arith in k))

-- an item that writes nothing, after those that write
pub wrong_at : {X : Type 0} (see : X → ItemTree) (line : List ℕ) (xs : List X) (i : ℕ) (x : X) (written : List StepTree) → Items 0 line (map see xs) → i < length xs → x ≡ get_or xs i x → AllWrite (map see (take i xs)) written → WritesNone (see x).letters
    → IsFirstWrong line (see x).at
wrong_at see line xs i x written items lt e right never = record {
  before = map see (take i xs);
  wrong = see x;
  after = map see (drop (i + 1) xs);
  written = written;
  split = subst (Items 0 line) (parted see xs i x lt e) items;
  right = right;
  not_so = never;
  is = refl;
}

pub bytes_next : (xs : List ℕ) (i x : ℕ) → i < length xs → x ≡ get_or xs i x → length (encode_utf8_all (take (i + 1) xs)) ≡ length (encode_utf8_all (take i xs)) + length (encode_utf8 x)
bytes_next xs i x lt e =
    ap (λ l. length (encode_utf8_all l)) (take_next xs i x lt e) ∙ bytes_more (take i xs) (x ∷ []) ∙ ap (λ l. length (encode_utf8_all (take i xs)) + length l) (append-nil (encode_utf8 x))

pub bytes_within : (xs : List ℕ) (i : ℕ) → length (encode_utf8_all (take i xs)) ≤ length (encode_utf8_all xs)
bytes_within xs i = omega (arith, bytes_more (take i xs) (drop i xs), ap (λ l. length (encode_utf8_all l)) (take-append-drop i xs))

-- ---- what is left after a front
pub rest_is : (size : ℕ) (l : List ℕ) → take (length l - size) (drop size l) ≡ drop size l
rest_is size l = take_all (length l - size) (drop size l) (omega (arith, length-drop size l))

pub bytes_parted : (size : ℕ) (l : List ℕ) → length (encode_utf8_all (take size l)) + length (encode_utf8_all (take (length l - size) (drop size l))) ≡ length (encode_utf8_all l)
bytes_parted size l =
    ap (λ r. length (encode_utf8_all (take size l)) + length (encode_utf8_all r)) (rest_is size l)
    ∙ sym (bytes_more (take size l) (drop size l)) ∙ ap (λ r. length (encode_utf8_all r)) (take-append-drop size l)

pub rest_shorter : (size : ℕ) (l : List ℕ) → 0 < length l → 0 < size → length (take (length l - size) (drop size l)) < length l
rest_shorter size l some moves = let e : length (take (length l - size) (drop size l)) ≡ length (drop size l) = ap (λ r. length r) (rest_is size l) in omega (arith, e, length-drop size l)

pub item_goes : (letters : List ℕ) (out : List ItemTree) (left next : ItemTree) (size bytes : ℕ) → ((more : List ItemTree) → Items left.at left.letters more → Items 0 letters (out ++ more)) → size ≤ length left.letters → 0 < length left.letters
    → BeginsWith false left.letters → Each (λ c. is_whitespace c ≡ false) (take size left.letters) → BeginsWith true (drop size left.letters) → bytes ≡ length (encode_utf8_all (take size left.letters))
    → IsLeft (left.at + bytes) (take (length left.letters - size) (drop size left.letters)) next
    → (more : List ItemTree) → Items next.at next.letters more → Items 0 letters ((out ++ record { at = left.at; letters = take size left.letters } ∷ []) ++ more)
item_goes letters out left next size bytes before le some begins run end e is =
    item_more letters out left next size before le (run_some left.letters size some begins end) run end
    (subst (λ l. IsLeft (left.at + length (encode_utf8_all (take size left.letters))) l next) (rest_is size left.letters)
    (subst (λ n. IsLeft (left.at + n) (take (length left.letters - size) (drop size left.letters)) next) e is))

pub items_end : (letters : List ℕ) (out : List ItemTree) (left : ItemTree) → ((more : List ItemTree) → Items left.at left.letters more → Items 0 letters (out ++ more)) → left.letters ≡ [] → Items 0 letters out
items_end letters out left before e = subst (Items 0 letters) (append-nil out) (before [] (subst (λ l. Items left.at l []) (sym e) (ends left.at)))

-- ---- a line, item by item
get_again : {A : Type 0} (xs : List A) (i : ℕ) (d : A) → i < length xs → get_or xs i d ≡ get_or xs i (get_or xs i d)
get_again [] i d lt = absurd (omega arith)
get_again (x ∷ xs) zero d lt = refl
get_again (x ∷ xs) (suc i) d lt = get_again xs i d (omega arith)

pub noted_step : (is : Step → Bool) (old new : List Step) (s : Step) → new ≡ cond (list_any is old) old (old ++ s ∷ []) → ((t : Step) → is t ≡ same_step (step_of s) (step_of t)) → map step_of new ≡ with_step (map step_of old) (step_of s)
noted_step is old new s e same = ap (map step_of) e ∙ go (list_any is old) (found old)
  where
    found : (xs : List Step) → list_any is xs ≡ list_any (same_step (step_of s)) (map step_of xs)
    found [] = refl
    found (x ∷ xs) = ap (λ b. b || list_any is xs) (same x) ∙ ap (λ b. same_step (step_of s) (step_of x) || b) (found xs)

    go : (b : Bool) → b ≡ list_any (same_step (step_of s)) (map step_of old) → map step_of (cond b old (old ++ s ∷ [])) ≡ with_step (map step_of old) (step_of s)
    go true e = ap (λ b. cond b (map step_of old) (map step_of old ++ step_of s ∷ [])) e
    go false e = map-append step_of old (s ∷ []) ∙ ap (λ b. cond b (map step_of old) (map step_of old ++ step_of s ∷ [])) e

pub read_none : (steps : List StepTree) → steps ≡ [] → HasRead [] steps 0
read_none steps e = record { written = []; each = no_more; kept = e; ends_there = end_none }

pub read_more : {X : Type 0} (see : X → ItemTree) (xs : List X) (i : ℕ) (d : X) (steps : List StepTree) (end new : ℕ) (s : StepTree) → i < length xs → HasRead (map see (take i xs)) steps end → Writes (see (get_or xs i d)).letters s
    → end ≤ new → s.to ≤ new → (new ≡ end) ⊎ (new ≡ s.to) → HasRead (map see (take (i + 1) xs)) (with_step steps s) new
read_more see xs i d steps end new s lt r w le to one = record {
  written = r.written ++ s ∷ [];
  each = subst (λ l. AllWrite l (r.written ++ s ∷ [])) (sym (map_take_next see xs i (get_or xs i d) lt (get_again xs i d lt))) (writes_more (map see (take i xs)) (see (get_or xs i d)) r.written s r.each w);
  kept = once_more r.written s steps r.kept;
  ends_there = end_more r.written s end new r.ends_there le to one;
}

pub items_of : {X : Type 0} (see : X → ItemTree) (now line : List ℕ) (xs ys : List X) → Items 0 now (map see ys) → now ≡ line → xs ≡ ys → Items 0 line (map see xs)
items_of see now line xs ys h e f = subst (λ l. Items 0 l (map see xs)) e (subst (λ l. Items 0 now (map see l)) (sym f) h)

pub wrong_here : {X : Type 0} (see : X → ItemTree) (line : List ℕ) (xs : List X) (i : ℕ) (d : X) (steps : List StepTree) (end : ℕ) → Items 0 line (map see xs) → i < length xs → HasRead (map see (take i xs)) steps end → WritesNone (see (get_or xs i d)).letters
    → IsFirstWrong line (see (get_or xs i d)).at
wrong_here see line xs i d steps end items lt r never = wrong_at see line xs i (get_or xs i d) r.written items lt (get_again xs i d lt) r.each never

pub read_all : {X : Type 0} (see : X → ItemTree) (xs : List X) (i : ℕ) (keys steps : List StepTree) (end : ℕ) → length xs ≤ i → HasRead (map see (take i xs)) keys end → steps ≡ keys → HasRead (map see xs) steps end
read_all see xs i keys steps end le r e = subst (λ k. HasRead (map see xs) k end) (sym e) (subst (λ l. HasRead (map see l) keys end) (all_taken xs i le) r)

pub line_is : (line : List ℕ) (items : List ItemTree) (l : LatticeTree) → Items 0 line items → HasRead items l.steps l.end → IsLineOf line l
line_is line items l split r = record { items = items; written = r.written; split = split; each = r.each; steps = r.kept; end = r.ends_there }

pub read_valid : (items : List ItemTree) (l : LatticeTree) → HasRead items l.steps l.end → IsValid l
read_valid items l r = line_valid items r.written l r.each r.ends_there r.kept
