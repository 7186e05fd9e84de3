-- A line has one reading.
use Rattle.std.proofs.Common.{ℕ, ◌≡◌, ◌<◌, ◌≤◌, ◌+◌, inl, inr, false, List, [], ◌∷◌, ◌++◌, length, refl, sym, ◌∙◌, ap, subst, arith, length-append}
use Rattle.std.specs.Prelude.{encode_utf8_all}
use Rattle.std.specs.Char.{is_whitespace}
use Rattle.caseless.specs.Caseless.{default_case_fold}
use Rattle.lexicon.specs.Words.{Each}
use Rattle.morph_analysis.proofs.Lists.{true_not_false}
use Rattle.morph_analysis.proofs.LineLemmas.{split_unique, plain}
use Rattle.morph_analysis.specs.Lattices.{StepTree, LatticeTree}
use Rattle.morph_analysis.specs.LatticeLines.{value_of, Writes, ItemTree, StopsBefore, Items, ends, blank, item, once, AllWrite, no_more, one_more, IsEnd, IsLineOf, IsFirstWrong}

run_one : (run rest run2 rest2 : List ℕ) → run ++ rest ≡ run2 ++ rest2 → Each (λ c. is_whitespace c ≡ false) run → Each (λ c. is_whitespace c ≡ false) run2 → StopsBefore rest → StopsBefore rest2 → (run ≡ run2) × (rest ≡ rest2)
run_one [] rest [] rest2 e p q s t = (refl, e)
run_one [] rest (y ∷ ys) rest2 e p q s t = true_not_false (is_whitespace y) (subst StopsBefore e s) q.0
run_one (x ∷ xs) rest [] rest2 e p q s t = true_not_false (is_whitespace x) (subst StopsBefore (sym e) t) p.0
run_one (x ∷ xs) rest (y ∷ ys) rest2 e p q s t =
    let h : x ≡ y = cc in
    let u : xs ++ rest ≡ ys ++ rest2 = cc in
    let r = run_one xs rest ys rest2 u p.1 q.1 s t in
    (ap (λ z. z ∷ xs) h ∙ ap (λ l. y ∷ l) r.0, r.1)

begins : (cs run rest : List ℕ) (c : ℕ) → c ∷ cs ≡ run ++ rest → 0 < length run → Each (λ c. is_whitespace c ≡ false) run → is_whitespace c ≡ false
begins cs [] rest c e some p = absurd (omega arith)
begins cs (x ∷ xs) rest c e some p = let h : c ≡ x = cc in subst (λ k. is_whitespace k ≡ false) (sym h) p.0

-- the same characters from the same place have the same items
items_one : (at at2 : ℕ) (cs cs2 : List ℕ) (xs ys : List ItemTree) → Items at cs xs → Items at2 cs2 ys → at ≡ at2 → cs ≡ cs2 → xs ≡ ys
items_one _ _ _ _ _ _ (ends at) (ends at2) e f = refl
items_one _ _ _ _ _ _ (ends at) (blank at2 c rest is b h) e f = absurd (let k : [] ≡ c ∷ rest = f in cc)
items_one _ _ _ _ _ _ (ends at) (item at2 cs run rest is p some w s h) e f = absurd (let n : length (run ++ rest) ≡ 0 = ap (λ l. length l) (sym (f ∙ p)) in omega (arith, n, length-append run rest))
items_one _ _ _ _ _ _ (blank at c rest is b h) (ends at2) e f = absurd (let k : c ∷ rest ≡ [] = f in cc)
items_one _ _ _ _ _ _ (blank at c rest is b h) (blank at2 d rest2 js b2 g) e f =
    let k : c ≡ d = cc in
    let r : rest ≡ rest2 = cc in
    items_one (at + length (encode_utf8_all (c ∷ []))) (at2 + length (encode_utf8_all (d ∷ []))) rest rest2 is js h g (ap (λ n. n + length (encode_utf8_all (c ∷ []))) e ∙ ap (λ n. at2 + length (encode_utf8_all (n ∷ []))) k) r
items_one _ _ _ _ _ _ (blank at c rest is b h) (item at2 cs run rest2 js p some w s g) e f = true_not_false (is_whitespace c) b (begins rest run rest2 c (f ∙ p) some w)
items_one _ _ _ _ _ _ (item at cs run rest is p some w s h) (ends at2) e f = absurd (let n : length (run ++ rest) ≡ 0 = ap (λ l. length l) (sym p ∙ f) in omega (arith, n, length-append run rest))
items_one _ _ _ _ _ _ (item at cs run rest is p some w s h) (blank at2 c rest2 js b g) e f = true_not_false (is_whitespace c) b (begins rest2 run rest c (sym f ∙ p) some w)
items_one _ _ _ _ _ _ (item at cs run rest is p some w s h) (item at2 cs2 run2 rest2 js p2 some2 w2 s2 g) e f =
    let r = run_one run rest run2 rest2 (sym p ∙ f ∙ p2) w w2 s s2 in
    let more : is ≡ js = items_one (at + length (encode_utf8_all run)) (at2 + length (encode_utf8_all run2)) rest rest2 is js h g (ap (λ n. n + length (encode_utf8_all run)) e ∙ ap (λ l. at2 + length (encode_utf8_all l)) r.0) r.1 in
    ap (λ n. let i : ItemTree = record { at = n; letters = run } in i ∷ is) e ∙ ap (λ l. let i : ItemTree = record { at = at2; letters = l } in i ∷ is) r.0 ∙ ap (λ l. let i : ItemTree = record { at = at2; letters = run2 } in i ∷ l) more

writes_one : (letters : List ℕ) (s t : StepTree) → Writes letters s → Writes letters t → s ≡ t
writes_one letters s t p q =
    let u = split_unique p.first (p.second ++ 58 ∷ p.word) q.first (q.second ++ 58 ∷ q.word) (sym p.split ∙ q.split) (plain p.first p.from.digits_are) (plain q.first q.from.digits_are) in
    let v = split_unique p.second p.word q.second q.word u.1 (plain p.second p.to.digits_are) (plain q.second q.to.digits_are) in
    let from : s.from ≡ t.from = p.from.is ∙ ap (value_of 0) u.0 ∙ sym q.from.is in
    let to : s.to ≡ t.to = p.to.is ∙ ap (value_of 0) v.0 ∙ sym q.to.is in
    let word : s.word ≡ t.word = p.folded ∙ ap (λ l. encode_utf8_all (default_case_fold l)) v.1 ∙ sym q.folded in
    ap (λ n. let k : StepTree = record { from = n; to = s.to; word = s.word } in k) from
    ∙ ap (λ n. let k : StepTree = record { from = t.from; to = n; word = s.word } in k) to
    ∙ ap (λ w. let k : StepTree = record { from = t.from; to = t.to; word = w } in k) word

written_one : (is js : List ItemTree) (ss ts : List StepTree) → AllWrite is ss → AllWrite js ts → is ≡ js → ss ≡ ts
written_one _ _ _ _ no_more no_more e = refl
written_one _ _ _ _ no_more (one_more j js t ts w h) e = absurd (let k : [] ≡ j ∷ js = e in cc)
written_one _ _ _ _ (one_more i is s ss w h) no_more e = absurd (let k : i ∷ is ≡ [] = e in cc)
written_one _ _ _ _ (one_more i is s ss v g) (one_more j js t ts w h) e =
    let k : i ≡ j = cc in
    let l : is ≡ js = cc in
    ap (λ x. x ∷ ss) (writes_one j.letters s t (subst (λ x. Writes x.letters s) k v) w) ∙ ap (λ x. t ∷ x) (written_one is js ss ts g h l)

end_under : (ss : List StepTree) (a b : ℕ) → IsEnd ss a → IsEnd ss b → a ≤ b
end_under ss a b p q = elim p.met [ inl e ↦ omega (arith, e) | inr m ↦ (let k = q.bound m.0 m.1 in omega (arith, k, m.2)) ]

pub line_one : (line : List ℕ) (l m : LatticeTree) → IsLineOf line l → IsLineOf line m → l ≡ m
line_one line l m p q =
    let w : p.written ≡ q.written = written_one p.items q.items p.written q.written p.each q.each (items_one 0 0 line line p.items q.items p.split q.split refl refl) in
    let end = subst (λ ss. IsEnd ss l.end) w p.end in
    let steps : l.steps ≡ m.steps = p.steps ∙ ap once w ∙ sym q.steps in
    let ends : l.end ≡ m.end = omega (arith, end_under q.written l.end m.end end q.end, end_under q.written m.end l.end q.end end) in
    ap (λ x. let k : LatticeTree = record { steps = x; end = l.end } in k) steps ∙ ap (λ n. let k : LatticeTree = record { steps = m.steps; end = n } in k) ends

wrong_same : (bs cs xs ds : List ItemTree) (v w : ItemTree) (ss ts : List StepTree) → bs ++ v ∷ xs ≡ cs ++ w ∷ ds → AllWrite bs ss → AllWrite cs ts → ((s : StepTree) → Writes v.letters s → ⊥) → ((s : StepTree) → Writes w.letters s → ⊥) → v ≡ w
wrong_same _ _ xs ds v w _ _ e no_more no_more n m = cc
wrong_same _ _ xs ds v w _ _ e no_more (one_more j js t ts x h) n m = let k : v ≡ j = cc in absurd (n t (subst (λ i. Writes i.letters t) (sym k) x))
wrong_same _ _ xs ds v w _ _ e (one_more i is s ss x h) no_more n m = let k : i ≡ w = cc in absurd (m s (subst (λ i. Writes i.letters s) k x))
wrong_same _ _ xs ds v w _ _ e (one_more i is s ss x h) (one_more j js t ts y g) n m = let k : is ++ v ∷ xs ≡ js ++ w ∷ ds = cc in wrong_same is js xs ds v w ss ts k h g n m

pub wrong_one : (line : List ℕ) (a b : ℕ) → IsFirstWrong line a → IsFirstWrong line b → a ≡ b
wrong_one line a b p q =
    let e = items_one 0 0 line line (p.before ++ p.wrong ∷ p.after) (q.before ++ q.wrong ∷ q.after) p.split q.split refl refl in
    p.is ∙ ap (λ (i : ItemTree). i.at) (wrong_same p.before q.before p.after q.after p.wrong q.wrong p.written q.written e p.right q.right p.not_so q.not_so) ∙ sym q.is

all_right : (before after is : List ItemTree) (wrong : ItemTree) (ss : List StepTree) → AllWrite is ss → is ≡ before ++ wrong ∷ after → ((s : StepTree) → Writes wrong.letters s → ⊥) → ⊥
all_right [] after _ wrong _ no_more e never = absurd (let k : [] ≡ wrong ∷ after = e in cc)
all_right (b ∷ bs) after _ wrong _ no_more e never = absurd (let k : [] ≡ b ∷ (bs ++ wrong ∷ after) = e in cc)
all_right [] after _ wrong _ (one_more i is s ss w h) e never = let k : i ≡ wrong = cc in never s (subst (λ i. Writes i.letters s) k w)
all_right (b ∷ bs) after _ wrong _ (one_more i is s ss w h) e never = let k : is ≡ bs ++ wrong ∷ after = cc in all_right bs after is wrong ss h k never

pub right_or_wrong : (line : List ℕ) (l : LatticeTree) (at : ℕ) → IsLineOf line l → IsFirstWrong line at → ⊥
right_or_wrong line l at p q = all_right q.before q.after p.items q.wrong p.written p.each (items_one 0 0 line line p.items (q.before ++ q.wrong ∷ q.after) p.split q.split refl refl) q.not_so
