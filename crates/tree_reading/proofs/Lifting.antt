-- Where a part of a text stops, the text stops.
use Rattle.std.proofs.Common.{◌≡◌, ℕ, true, not, List, [], ◌∷◌, ◌++◌, length, Option, Some, None, refl, sym, ap, subst, ◌∙◌, append_assoc, append-nil, ◌<◌, ◌≤◌, ◌^◌, ◌⊎◌, inl, inr, arith, decimal, Result, Ok, Err, MatchOption, drop, take, length-append, length-drop}
use Rattle.std.specs.Result.{IfErr, IsErrAnd}
use Rattle.std.specs.List.{All, flat_map}
use Rattle.std.specs.Str.{IsUtf8, IsCharBoundary}
use Rattle.std.proofs.lemmas.Str.{IsUtf8-nil, IsUtf8-from_ascii, IsCharBoundary-from_take}
use Rattle.std.proofs.lemmas.Fmt.{IsAscii-decimal}
use Rattle.std.proofs.lemmas.List.Elements.{All-push}
use Rattle.derivation.specs.Text.{escaped}
use Rattle.tree_reading.specs.declared.stops.Stop.{Stop}
use Rattle.tree_reading.specs.declared.stops.Stop.TheVariants.{Left, NoMemory}
use Rattle.tree_reading.specs.Grammars.{IsWord, AreWords, AreNodes}
use Rattle.tree_reading.specs.Inner.Shapes.{Begins}
use Rattle.tree_reading.specs.Inner.Stops.{Fails, IsStop, IsAlike, is_digit, Numbers, EndsAt, spelling, IsNumber, BeginsNumber, IsEnding, BeginsEnding, IsBody, BeginsBody, IsEndedWord, BeginsWord, IsLeafEnd, BeginsLeafEnd, EndsWord, body, ending}
use Rattle.tree_reading.proofs.Runs.{heads, rests}
use Rattle.tree_reading.proofs.NodeTexts.{ending_some, decimal_splits}
use Rattle.tree_reading.proofs.Numbering.{no_number, no_digits}
use Rattle.tree_reading.proofs.WordTexts.{spelled, spelled_more, body_last, body_one, body_more, decode_body, split_body, first_word}
use Rattle.tree_reading.proofs.Going.{one_word}

pub lift_fails : (K L M N : List ℕ → Type 0) (pre rest : List ℕ) (n : ℕ) → ((w : List ℕ) → K w → (more : List ℕ) × M (pre ++ (w ++ more))) → ((w : List ℕ) → N (pre ++ w) → L w) →
    Fails K L rest n → Fails M N (pre ++ rest) n
lift_fails K L M N pre rest n goes stops h =
    let g = goes (h.done ++ h.goes.0) h.goes.1 in
    record {
      done = pre ++ h.done;
      tail = h.tail;
      is = ap (λ t. pre ++ t) h.is ∙ sym (append_assoc pre h.done h.tail);
      left_is = h.left_is;
      goes = (h.goes.0 ++ g.0, subst M (ap (λ t. pre ++ t) (append_assoc h.done h.goes.0 g.0) ∙ sym (append_assoc pre h.done (h.goes.0 ++ g.0))) g.1);
      stops = λ more alike k. h.stops more alike (stops (h.done ++ more) (subst N (append_assoc pre h.done more) k));
    }

pub lift : (K L M N : List ℕ → Type 0) (pre rest whole : List ℕ) (e : Stop) → whole ≡ pre ++ rest → ((w : List ℕ) → K w → (more : List ℕ) × M (pre ++ (w ++ more))) → ((w : List ℕ) → N (pre ++ w) → L w) →
    IsStop K L rest e → IsStop M N whole e
lift K L M N pre rest whole (Left n) is goes stops h = subst (λ t. Fails M N t n) (sym is) (lift_fails K L M N pre rest n goes stops h)
lift K L M N pre rest whole NoMemory is goes stops h = tt

pub at_exit : {A E : Type 0} (P : E → Type 0) (r : Result A E) (e : E) → IsErrAnd r (λ y. y ≡ e) → P e → IfErr r P
at_exit P (Ok x) e is h = tt
at_exit P (Err y) e is h = subst P (sym is) h

pub match_some : (P : Type 0) (Q : ℕ → Type 0) (r : Option ℕ) → MatchOption r P Q → (n : ℕ) → r ≡ Some n → Q n
match_some P Q None h n e = cc
match_some P Q (Some m) h n e = let same : m ≡ n = cc in subst Q same h

pub alike_begins : (x : ℕ) (a b : List ℕ) → IsAlike a b → Begins x b → Begins x a
alike_begins x [] [] alike h = h
alike_begins x [] (z ∷ zs) alike h = absurd alike
alike_begins x (y ∷ ys) [] alike h = absurd alike
alike_begins x (y ∷ ys) (z ∷ zs) alike h = alike ∙ h

-- numbers
pub moved : (bs text rest : List ℕ) (number : Option ℕ) (k : ℕ) → Numbers bs number (drop k bs) → bs ≡ text → rest ≡ drop k text → Numbers text number rest
moved bs text rest number k h e f =
    record {
      is = sym e ∙ h.is ∙ ap (λ t. spelling number ++ drop k t) e ∙ ap (λ t. spelling number ++ t) (sym f);
      fits = h.fits;
      ends = subst (EndsAt number) (ap (λ t. drop k t) e ∙ sym f) h.ends;
    }

take_front : (a b : List ℕ) → take (length a) (a ++ b) ≡ a
take_front [] b = refl
take_front (x ∷ a) b = ap (λ t. x ∷ t) (take_front a b)

spelling_utf8 : (number : Option ℕ) → ((n : ℕ) → number ≡ Some n → n < 2 ^ 32) → IsUtf8 (spelling number)
spelling_utf8 None fits = IsUtf8-nil
spelling_utf8 (Some n) fits = let lt = fits n refl in IsUtf8-from_ascii (decimal n) (IsAscii-decimal n (omega arith))

cut_by : (text w rest : List ℕ) (k : ℕ) → IsUtf8 text → IsUtf8 w → text ≡ w ++ rest → length w ≡ k → k ≤ length text → IsCharBoundary text k
cut_by text w rest k u v e size le =
    IsCharBoundary-from_take text k u le (subst IsUtf8 (sym (ap (λ t. take k t) e ∙ ap (λ n. take n (w ++ rest)) (sym size) ∙ take_front w rest)) v)

pub cut_number : (bs text : List ℕ) (number : Option ℕ) (k : ℕ) → IsUtf8 text → Numbers bs number (drop k bs) → bs ≡ text → k ≤ length bs → IsCharBoundary text k
cut_number bs text number k u h e le =
    cut_by text (spelling number) (drop k bs) k u (spelling_utf8 number h.fits) (sym e ∙ h.is)
    (omega (arith, ap length h.is, length-append (spelling number) (drop k bs), length-drop k bs)) (omega (arith, ap length e))

end_low : (end : ℕ) → (end ≡ 32) ⊎ (end ≡ 41) → not (is_digit end) ≡ true
end_low end (inl e) = ap (λ t. not (is_digit t)) e
end_low end (inr e) = ap (λ t. not (is_digit t)) e

pub stop_none : (text rest : List ℕ) (number : Option ℕ) (end : ℕ) → number ≡ None → Numbers text number rest → Fails (IsNumber end) (BeginsNumber end) text (length rest)
stop_none text rest number end e h =
    let is : text ≡ rest = h.is ∙ ap (λ t. spelling t ++ rest) e in
    record {
      done = [];
      tail = text;
      is = refl;
      left_is = ap length is;
      goes = (decimal 0 ++ end ∷ [], (0, omega arith, refl));
      stops = λ more alike k. no_digits end text more (subst (EndsAt None) (sym is) (subst (λ t. EndsAt t rest) e h.ends)) alike k;
    }

pub stop_some : (text rest : List ℕ) (number : Option ℕ) (n end : ℕ) → number ≡ Some n → (end ≡ 32) ⊎ (end ≡ 41) → (Begins end rest → ⊥) → Numbers text number rest → Fails (IsNumber end) (BeginsNumber end) text (length rest)
stop_some text rest number n end e low other h =
    record {
      done = decimal n;
      tail = rest;
      is = h.is ∙ ap (λ t. spelling t ++ rest) e;
      left_is = refl;
      goes = (end ∷ [], (n, h.fits n e, refl));
      stops = λ more alike k. no_number n end rest more (h.fits n e) (subst (λ t. EndsAt t rest) e h.ends) (end_low end low) other alike k;
    }

-- nodes
ending_begins : (nodes : Option (ℕ × ℕ)) (after more text : List ℕ) → (Begins 41 text → ⊥) → (Begins 32 text → ⊥) → IsAlike text more → more ≡ ending nodes ++ after → ⊥
ending_begins None after more text a b alike e = a (alike_begins 41 text more alike (subst (Begins 41) (sym e) refl))
ending_begins (Some n) after more text a b alike e = b (alike_begins 32 text more alike (subst (Begins 32) (sym (e ∙ ending_some n after)) refl))

pub stop_ending : (text : List ℕ) → (Begins 41 text → ⊥) → (Begins 32 text → ⊥) → Fails IsEnding BeginsEnding text (length text)
stop_ending text a b =
    record { done = []; tail = text; is = refl; left_is = refl; goes = (41 ∷ [], (None, tt, refl)); stops = λ more alike k. ending_begins k.0 k.1 more text a b alike k.3 }

from_by : (w : List ℕ) (nodes : Option (ℕ × ℕ)) (after : List ℕ) → AreNodes nodes → 32 ∷ w ≡ ending nodes ++ after → BeginsNumber 32 w
from_by w None after are e = absurd (omega (arith, heads _ _ _ _ e))
from_by w (Some n) after are e = (n.0, decimal n.1 ++ 41 ∷ after, are.0, rests _ _ _ _ (e ∙ ending_some n after))

from_stops : (w : List ℕ) → BeginsEnding ((32 ∷ []) ++ w) → BeginsNumber 32 w
from_stops w k = from_by w k.0 k.1 k.2 k.3

ending_pair : (n m : ℕ) → ending (Some (n, m)) ≡ 32 ∷ (decimal n ++ 32 ∷ (decimal m ++ 41 ∷ []))
ending_pair n m = sym (append-nil (ending (Some (n, m)))) ∙ ending_some (n, m) []

pub lift_from : (rest text : List ℕ) (e : Stop) → text ≡ 32 ∷ rest → IsStop (IsNumber 32) (BeginsNumber 32) rest e → IsStop IsEnding BeginsEnding text e
lift_from rest text e is h =
    let tail = decimal 0 ++ 41 ∷ [] in
    lift (IsNumber 32) (BeginsNumber 32) IsEnding BeginsEnding (32 ∷ []) rest text e is
    (λ w k. (tail, (Some (k.0, 0), (k.1, omega arith), ap (λ t. 32 ∷ (t ++ tail)) k.2 ∙ ap (λ t. 32 ∷ t) (append_assoc (decimal k.0) (32 ∷ []) tail) ∙ sym (ending_pair k.0 0))))
    from_stops h

to_by : (from : ℕ) (w : List ℕ) (nodes : Option (ℕ × ℕ)) (after : List ℕ) → from < 2 ^ 32 → AreNodes nodes → 32 ∷ (decimal from ++ 32 ∷ w) ≡ ending nodes ++ after → BeginsNumber 41 w
to_by from w None after lt are e = absurd (omega (arith, heads _ _ _ _ e))
to_by from w (Some n) after lt are e =
    let k = decimal_splits from n.0 32 32 _ _ lt are.0 refl refl (rests _ _ _ _ (e ∙ ending_some n after)) in
    (n.1, after, are.1, k.2)

to_row : (from : ℕ) (w : List ℕ) → (32 ∷ decimal from ++ 32 ∷ []) ++ w ≡ 32 ∷ (decimal from ++ 32 ∷ w)
to_row from w = ap (λ t. 32 ∷ t) (append_assoc (decimal from) (32 ∷ []) w)

pub lift_to : (from : ℕ) (rest text : List ℕ) (e : Stop) → from < 2 ^ 32 → text ≡ 32 ∷ (decimal from ++ 32 ∷ rest) → IsStop (IsNumber 41) (BeginsNumber 41) rest e → IsStop IsEnding BeginsEnding text e
lift_to from rest text e lt is h =
    let pre = 32 ∷ decimal from ++ 32 ∷ [] in
    lift (IsNumber 41) (BeginsNumber 41) IsEnding BeginsEnding pre rest text e (is ∙ sym (to_row from rest))
    (λ w k. ([], (Some (from, k.0), (lt, k.1), ap (λ t. pre ++ t) (append-nil w ∙ k.2) ∙ to_row from (decimal k.0 ++ 41 ∷ []) ∙ sym (ending_pair from k.0))))
    (λ w k. to_by from w k.0 k.1 lt k.2 (sym (to_row from w) ∙ k.3)) h

-- words
one_more : (words : List (List ℕ)) (word : List ℕ) → All IsWord words → IsWord word → AreWords (words ++ word ∷ [])
one_more words word all is = (omega (arith, length-append words (word ∷ [])), All-push IsWord words word all is)

body_as : (words : List (List ℕ)) (word : List ℕ) → spelled words ++ (flat_map escaped word ++ 34 ∷ []) ≡ body (words ++ word ∷ [])
body_as words word = sym (body_last words word []) ∙ append-nil (body (words ++ word ∷ []))

word_goes : (words : List (List ℕ)) (w word : List ℕ) (x : ℕ) → All IsWord words → IsWord word → EndsWord x → w ≡ flat_map escaped word ++ x ∷ [] → (more : List ℕ) × IsBody (spelled words ++ (w ++ more))
word_goes words w word x all is (inr e) q =
    ([], (words ++ word ∷ [], one_more words word all is, ap (λ t. spelled words ++ t) (append-nil w ∙ q ∙ ap (λ t. flat_map escaped word ++ t ∷ []) e) ∙ body_as words word))
word_goes words w word x all is (inl e) q =
    let longer = words ++ word ∷ [] in (
      97 ∷ 34 ∷ [],
      (
        longer ++ (97 ∷ []) ∷ [],
        one_more longer (97 ∷ []) (All-push IsWord words word all is) (first_word (97 ∷ []) [] one_word),
        ap (λ t. spelled words ++ (t ++ 97 ∷ 34 ∷ [])) (q ∙ ap (λ t. flat_map escaped word ++ t ∷ []) e)
            ∙ sym (append_assoc (spelled words) (flat_map escaped word ++ 32 ∷ []) (97 ∷ 34 ∷ [])) ∙ ap (λ t. t ++ 97 ∷ 34 ∷ []) (sym (spelled_more words word)) ∙ body_as longer (97 ∷ []),
      ),
    )

word_stops : (v : List ℕ) (later : List (List ℕ)) (s r : List ℕ) → AreWords (v ∷ later) → r ≡ body (v ∷ later) ++ s → BeginsWord r
word_stops v [] s r are e = (v, 34, s, first_word v [] are, inr refl, e ∙ body_one v s)
word_stops v (w ∷ ws) s r are e = (v, 32, body (w ∷ ws) ++ s, first_word v (w ∷ ws) are, inl refl, e ∙ body_more v w ws s)

body_stops : (words : List (List ℕ)) (w : List ℕ) → All IsWord words → BeginsBody (spelled words ++ w) → BeginsWord w
body_stops words w all k = let h = split_body words k.0 w k.1 all k.2 k.3 in word_stops h.0 h.1 k.1 w h.3 h.2

pub lift_word : (words : List (List ℕ)) (rest text : List ℕ) (e : Stop) → All IsWord words → text ≡ spelled words ++ rest → IsStop IsEndedWord BeginsWord rest e → IsStop IsBody BeginsBody text e
lift_word words rest text e all is h =
    lift IsEndedWord BeginsWord IsBody BeginsBody (spelled words) rest text e is (λ w k. word_goes words w k.0 k.1 all k.2 k.3 k.4) (λ w k. body_stops words w all k) h

-- leaves
pub lift_body : (text : List ℕ) (e : Stop) → IsStop IsBody BeginsBody text e → IsStop IsLeafEnd BeginsLeafEnd text e
lift_body text e h =
    lift IsBody BeginsBody IsLeafEnd BeginsLeafEnd [] text text e refl
    (λ w k. (ending None, (k.0, None, k.1, tt, ap (λ t. t ++ ending None) k.2)))
    (λ w k. (k.0, ending k.1 ++ k.2, k.3, k.5 ∙ append_assoc (body k.0) (ending k.1) k.2)) h

pub lift_ending : (words : List (List ℕ)) (rest text : List ℕ) (e : Stop) → AreWords words → text ≡ body words ++ rest → IsStop IsEnding BeginsEnding rest e → IsStop IsLeafEnd BeginsLeafEnd text e
lift_ending words rest text e are is h =
    lift IsEnding BeginsEnding IsLeafEnd BeginsLeafEnd (body words) rest text e is
    (λ w k. ([], (words, k.0, are, k.1, ap (λ t. body words ++ t) (append-nil w ∙ k.2))))
    (λ w k. let d = decode_body words k.0 w (ending k.1 ++ k.2) are k.3 (k.5 ∙ append_assoc (body k.0) (ending k.1) k.2) in (k.1, k.2, k.4, d.1)) h
