-- The forms of the grammar over the steps of the text.
use Rattle.std.proofs.Common.{◌≡◌, ℕ, ◌∙◌, ◌<◌, ◌^◌, Bool, true, false, not, ◌&&◌, ◌||◌, ◌==◌, nat_lt, if◌then◌else◌, eqb-true, ltb-true, List, [], ◌∷◌, ◌++◌, refl, ap, sym, subst, append_assoc, length, codes, Option, Some, None, decimal, arith}
use Rattle.std.specs.List.{All, flat_map, list_all}
use Rattle.std.specs.Str.{chars, IsUtf8}
use Rattle.std.proofs.lemmas.Str.{chars-append, IsUtf8-append, IsUtf8-from_ascii}
use Rattle.std.proofs.lemmas.Str.Ascii.{IsAscii-cons, IsAscii-nil}
use Rattle.std.proofs.lemmas.List.Elements.{All-nil, All-cons, All-head, All-tail}
use Rattle.mrs_model.specs.declared.Extent.{Extent}
use Rattle.mrs_model.specs.Meanings.{Variable}
use Rattle.mrs_spelling.specs.declared.kinds.Kind.TheVariants.{PredRun, PredText, Link, Role, Filler as FillerKind, OpensText, Text}
use Rattle.mrs_spelling.specs.Forms.{Class, white, digit, in_name, in_pred, only, other_than, has, nothing, sign, seq, either, token}
use Rattle.mrs_spelling.specs.Grammar.{run, word, name, quoted as QuotedForm, linked, var, text, role, pred, link}
use Rattle.mrs_spelling.specs.Reading.{head, passes}
use Rattle.mrs_reading.specs.Meaning.{Piece}
use Rattle.mrs_text.specs.Signs.{in_pred as is_in_pred}
use Rattle.mrs_text.specs.Written.{escaped, quoted, pred_text, span_text, variable_text, properties_text}
use Rattle.mrs_text.specs.Stored.{IsStoredSpan}
use Rattle.mrs_text.proofs.Taking.{Takes, take_nothing, take_seq, take_then, take_none, take_more, take_sign, take_first, take_second}
use Rattle.mrs_text.proofs.Uppers.{IsRunOf, all_weaker}
use Rattle.mrs_text.proofs.Eating.{Eats, Past, past_low, meets_low, eat_sign, eat_only, eat_word, eat_run, eat_token, eat_name, run_first}
use Rattle.mrs_text.proofs.Steps.{pred_piece, link_pieces}
use Rattle.mrs_text.proofs.Variables.{name_white, digit_run}
use Rattle.mrs_text.proofs.Quoting.{chars_escaped, escaped_utf8, take_escaped}

abbrev pub tl : List ℕ → List ℕ
tl [] = []
tl (c ∷ s) = s

-- it begins with one blank
pub record Led (t : List ℕ) : Type 0 where
  pub is : t ≡ 32 ∷ tl t
  pub white : Past white (tl t)

-- a character of names is none that isn't
pub name_not : (d c : ℕ) → has in_name d ≡ false → has in_name c ≡ true → (c == d) ≡ false
name_not d c e h = by (c == d) refl
  where
    by : (b : Bool) → (c == d) ≡ b → (c == d) ≡ false
    by true f = absurd (let g = eqb-true c d f in let k : has in_name c ≡ has in_name d = ap (has in_name) g in cc)
    by false f = f

-- the first character of a variable
pub var_first : (y : Class) (o : Option ℕ) (next : ℕ) (v : Variable) (rest : List ℕ) (b : Bool) (x : Class) → IsRunOf x v.sort → ((c : ℕ) → has x c ≡ true → has y c ≡ b) → passes y (head (chars (variable_text o next v ++ rest))) ≡ b
var_first y (Some n) next v rest b x h f = ap (λ z. passes y (head (chars z))) (append_assoc v.sort (decimal n) rest) ∙ run_first x y v.sort (decimal n ++ rest) b h f
var_first y None next v rest b x h f =
    let p = properties_text v v.props in
    ap (λ z. passes y (head (chars z))) (append_assoc (v.sort ++ decimal next) p rest ∙ append_assoc v.sort (decimal next) (p ++ rest)) ∙ run_first x y v.sort (decimal next ++ (p ++ rest)) b h f

pub quote_utf8 : (c : ℕ) → c < 128 → IsUtf8 (c ∷ [])
quote_utf8 c l = IsUtf8-from_ascii (c ∷ []) (IsAscii-cons c [] l IsAscii-nil)

-- what stands between quotes
eat_quoted : (t rest : List ℕ) → IsUtf8 t → Eats QuotedForm (flat_map escaped t ++ 34 ∷ rest) (34 ∷ rest) []
eat_quoted t rest u =
    let e = chars-append (flat_map escaped t) (34 ∷ rest) (escaped_utf8 t u) ∙ ap (λ z. z ++ chars (34 ∷ rest)) (chars_escaped t u) in
    subst (λ (z : List ℕ). Takes QuotedForm z (chars (34 ∷ rest)) []) (sym e) (take_escaped (chars t) (chars (34 ∷ rest)) (past_low (other_than 34) 34 rest (omega arith) refl))

pub quoted_is : (t rest : List ℕ) → quoted t ++ rest ≡ 34 ∷ (flat_map escaped t ++ 34 ∷ rest)
quoted_is t rest = append_assoc (34 ∷ flat_map escaped t) (34 ∷ []) rest

pub eat_text : (t x : List ℕ) → IsUtf8 t → Past white x → Eats text (34 ∷ (flat_map escaped t ++ 34 ∷ 32 ∷ x)) x (record { kind = OpensText; text = 34 ∷ [] } ∷ record { kind = Text; text = flat_map escaped t } ∷ [])
eat_text t x u p =
    let s = flat_map escaped t ++ 34 ∷ 32 ∷ x in
    take_seq (token OpensText (sign (only 34))) (seq (token Text QuotedForm) (word (codes "\""))) (chars (34 ∷ s)) (chars s) (chars x) (record { kind = OpensText; text = 34 ∷ [] } ∷ []) (record { kind = Text; text = flat_map escaped t } ∷ [])
    (eat_token OpensText (sign (only 34)) (34 ∷ []) s (quote_utf8 34 (omega arith)) (eat_only 34 s (omega arith)))
    (take_then (token Text QuotedForm) (word (codes "\"")) (chars s) (chars (34 ∷ 32 ∷ x)) (chars x) (record { kind = Text; text = flat_map escaped t } ∷ [])
    (eat_token Text QuotedForm (flat_map escaped t) (34 ∷ 32 ∷ x) (escaped_utf8 t u) (eat_quoted t (32 ∷ x) u)) (eat_word (codes "\"") x (omega arith, tt) p))

-- a role and what fills it
pub eat_role : (r f x : List ℕ) (ps : List Piece) → IsRunOf in_name r → Past white f → Eats (either (only 34) text (var FillerKind)) f x ps → Eats role (r ++ 58 ∷ 32 ∷ f) x (record { kind = Role; text = r } ∷ ps)
eat_role r f x ps h p e =
    take_seq (name Role) (seq (word (codes ":")) (either (only 34) text (var FillerKind))) (chars (r ++ 58 ∷ 32 ∷ f)) (chars (58 ∷ 32 ∷ f)) (chars x) (record { kind = Role; text = r } ∷ []) ps
    (eat_name Role r (32 ∷ f) h)
    (take_seq (word (codes ":")) (either (only 34) text (var FillerKind)) (chars (58 ∷ 32 ∷ f)) (chars f) (chars x) [] ps (eat_word (codes ":") f (omega arith, tt) p) e)

-- a predicate
both : (a b : Bool) → (a && b) ≡ true → (a ≡ true) × (b ≡ true)
both true true e = (refl, refl)
both true false e = absurd (cc)
both false b e = absurd (cc)

all_in : (cs : List ℕ) → list_all is_in_pred cs ≡ true → All (λ c. has in_pred c ≡ true) cs
all_in [] e = All-nil (λ c. has in_pred c ≡ true)
all_in (c ∷ cs) e = let w = both (is_in_pred c) (list_all is_in_pred cs) e in All-cons (λ c. has in_pred c ≡ true) c cs w.0 (all_in cs w.1)

pred_opens : (c : ℕ) → has in_pred c ≡ true → has (only 34) c ≡ false
pred_opens c h = by (c == 34) refl
  where
    by : (b : Bool) → (c == 34) ≡ b → (c == 34) ≡ false
    by true f = absurd (let g = eqb-true c 34 f in let k : has in_pred c ≡ false = ap (has in_pred) g in cc)
    by false f = f

pub eat_pred : (p rest : List ℕ) → IsUtf8 p → Past in_pred rest → Eats pred (pred_text p ++ rest) rest (pred_piece p ∷ [])
eat_pred p rest u q = by (nat_lt 0 (length p)) (list_all is_in_pred (chars p)) refl refl
  where
    as_run : IsRunOf in_pred p → Eats pred (p ++ rest) rest (record { kind = PredRun; text = p } ∷ [])
    as_run h = take_second (only 34) (seq (sign (only 34)) (seq (token PredText QuotedForm) (sign (only 34)))) (token PredRun (run in_pred)) (chars (p ++ rest)) (chars rest) (record { kind = PredRun; text = p } ∷ [])
        (run_first in_pred (only 34) p rest false h pred_opens) (eat_token PredRun (run in_pred) p rest u (eat_run in_pred p rest h q))

    as_text : Eats pred (quoted p ++ rest) rest (record { kind = PredText; text = flat_map escaped p } ∷ [])
    as_text =
        let s = flat_map escaped p ++ 34 ∷ rest in
        let ps : List Piece = record { kind = PredText; text = flat_map escaped p } ∷ [] in
        subst (λ (z : List ℕ). Eats pred z rest ps) (sym (quoted_is p rest))
        (take_first (only 34) (seq (sign (only 34)) (seq (token PredText QuotedForm) (sign (only 34)))) (token PredRun (run in_pred)) (chars (34 ∷ s)) (chars rest) ps (meets_low (only 34) 34 s (omega arith) refl)
        (take_seq (sign (only 34)) (seq (token PredText QuotedForm) (sign (only 34))) (chars (34 ∷ s)) (chars s) (chars rest) [] ps (eat_only 34 s (omega arith))
        (take_then (token PredText QuotedForm) (sign (only 34)) (chars s) (chars (34 ∷ rest)) (chars rest) ps
        (eat_token PredText QuotedForm (flat_map escaped p) (34 ∷ rest) (escaped_utf8 p u) (eat_quoted p rest u)) (eat_only 34 rest (omega arith)))))

    told_by : (b : Bool) → (nat_lt 0 (length p) && list_all is_in_pred (chars p)) ≡ b → Eats pred ((if b then p else quoted p) ++ rest) rest ((if b then record { kind = PredRun; text = p } else record { kind = PredText; text = flat_map escaped p }) ∷ []) → Eats pred (pred_text p ++ rest) rest (pred_piece p ∷ [])
    told_by b e h = subst (λ (b : Bool). Eats pred ((if b then p else quoted p) ++ rest) rest ((if b then record { kind = PredRun; text = p } else record { kind = PredText; text = flat_map escaped p }) ∷ [])) (sym e) h

    by : (a b : Bool) → nat_lt 0 (length p) ≡ a → list_all is_in_pred (chars p) ≡ b → Eats pred (pred_text p ++ rest) rest (pred_piece p ∷ [])
    by true true f g = told_by true (ap (λ z. z && list_all is_in_pred (chars p)) f ∙ g) (as_run (record { utf8 = u; some = ltb-true 0 (length p) f; signs = all_in (chars p) g }))
    by true false f g = told_by false (ap (λ z. z && list_all is_in_pred (chars p)) f ∙ g) as_text
    by false b f g = told_by false (ap (λ z. z && list_all is_in_pred (chars p)) f) as_text

-- the mark after it
digit_stays : (c : ℕ) → has digit c ≡ true → has (other_than 62) c ≡ true
digit_stays c h = by (c == 62) refl
  where
    by : (b : Bool) → (c == 62) ≡ b → not (c == 62) ≡ true
    by true f = absurd (let g = eqb-true c 62 f in let k : has digit c ≡ false = ap (has digit) g in cc)
    by false f = ap not f

some_other : (n : ℕ) → n < 2 ^ 64 → IsRunOf (other_than 62) (decimal n)
some_other n l = let d = digit_run n l in record { utf8 = d.utf8; some = d.some; signs = all_weaker (λ c. has digit c ≡ true) (λ c. has (other_than 62) c ≡ true) (chars (decimal n)) digit_stays d.signs }

eat_other : (s t rest : List ℕ) → IsRunOf (other_than 62) s → Eats linked t rest [] → Eats linked (s ++ t) rest []
eat_other s t rest r h = subst (λ (z : List ℕ). Takes linked z (chars rest) []) (sym (chars-append s t r.utf8)) (on (chars s) r.signs)
  where
    on : (cs : List ℕ) → All (λ c. has (other_than 62) c ≡ true) cs → Takes linked (cs ++ chars t) (chars rest) []
    on [] a = h
    on (c ∷ cs) a =
        let w = All-head (λ c. has (other_than 62) c ≡ true) c cs a in
        take_more (other_than 62) (sign (other_than 62)) (c ∷ (cs ++ chars t)) (cs ++ chars t) (chars rest) [] [] w (take_sign (other_than 62) c (cs ++ chars t) w) (on cs (All-tail (λ c. has (other_than 62) c ≡ true) c cs a))

no_other : (rest : List ℕ) → Eats linked (62 ∷ rest) (62 ∷ rest) []
no_other rest = take_none (other_than 62) (sign (other_than 62)) (chars (62 ∷ rest)) (past_low (other_than 62) 62 rest (omega arith) refl)

colon_other : (t : List ℕ) (rest : List ℕ) → Eats linked t rest [] → Eats linked (58 ∷ t) rest []
colon_other t rest h =
    take_more (other_than 62) (sign (other_than 62)) (chars (58 ∷ t)) (chars t) (chars rest) [] [] (meets_low (other_than 62) 58 t (omega arith) refl) (eat_sign (other_than 62) 58 t (omega arith) refl) h

link_utf8 : (a b : ℕ) → a < 2 ^ 64 → b < 2 ^ 64 → IsUtf8 (decimal a ++ 58 ∷ decimal b)
link_utf8 a b l m = IsUtf8-append (decimal a) (58 ∷ decimal b) (digit_run a l).utf8 (IsUtf8-append (58 ∷ []) (decimal b) (quote_utf8 58 (omega arith)) (digit_run b m).utf8)

span_is : (e : Extent) (rest : List ℕ) → span_text (Some e) ++ rest ≡ 60 ∷ ((decimal e.from ++ 58 ∷ decimal e.to) ++ 62 ∷ rest)
span_is e rest =
    append_assoc ((60 ∷ decimal e.from) ++ (58 ∷ decimal e.to)) (62 ∷ []) rest

pub eat_link : (o : Option Extent) (rest : List ℕ) → IsStoredSpan o → Past (only 60) rest → Eats link (span_text o ++ rest) rest (link_pieces o)
eat_link None rest s p = take_second (only 60) (seq (sign (only 60)) (seq (token Link linked) (sign (only 62)))) nothing (chars rest) (chars rest) [] p (take_nothing (chars rest))
eat_link (Some e) rest s p =
    let d = decimal e.from ++ 58 ∷ decimal e.to in
    let t = d ++ 62 ∷ rest in
    let ps : List Piece = record { kind = Link; text = d } ∷ [] in
    let l : e.from < 2 ^ 64 = let w = s.0 in omega (arith, w) in
    let m : e.to < 2 ^ 64 = let w = s.1 in omega (arith, w) in
    subst (λ (z : List ℕ). Eats link z rest ps) (sym (span_is e rest))
    (take_first (only 60) (seq (sign (only 60)) (seq (token Link linked) (sign (only 62)))) nothing (chars (60 ∷ t)) (chars rest) ps (meets_low (only 60) 60 t (omega arith) refl)
    (take_seq (sign (only 60)) (seq (token Link linked) (sign (only 62))) (chars (60 ∷ t)) (chars t) (chars rest) [] ps (eat_only 60 t (omega arith))
    (take_then (token Link linked) (sign (only 62)) (chars t) (chars (62 ∷ rest)) (chars rest) ps
    (eat_token Link linked d (62 ∷ rest) (link_utf8 e.from e.to l m)
    (subst (λ (z : List ℕ). Eats linked z (62 ∷ rest) []) (sym (append_assoc (decimal e.from) (58 ∷ decimal e.to) (62 ∷ rest)))
    (eat_other (decimal e.from) (58 ∷ (decimal e.to ++ 62 ∷ rest)) (62 ∷ rest) (some_other e.from l)
    (colon_other (decimal e.to ++ 62 ∷ rest) (62 ∷ rest) (eat_other (decimal e.to) (62 ∷ rest) (62 ∷ rest) (some_other e.to m) (no_other rest))))))
    (eat_only 62 rest (omega arith)))))

-- the first character of a predicate
in_pred_white : (c : ℕ) → has in_pred c ≡ true → has white c ≡ false
in_pred_white c h = by (has in_name c) (c == 58) refl refl
  where
    by : (b d : Bool) → has in_name c ≡ b → (c == 58) ≡ d → has white c ≡ false
    by true d e f = name_white c e
    by false true e f = ap (has white) (eqb-true c 58 f)
    by false false e f = absurd (let k : has in_pred c ≡ false = ap (λ z. z || c == 58) e ∙ f in cc)

pub pred_white : (p rest : List ℕ) → IsUtf8 p → Past white (pred_text p ++ rest)
pred_white p rest u = by (nat_lt 0 (length p)) (list_all is_in_pred (chars p)) refl refl
  where
    told_by : (b : Bool) → (nat_lt 0 (length p) && list_all is_in_pred (chars p)) ≡ b → Past white ((if b then p else quoted p) ++ rest) → Past white (pred_text p ++ rest)
    told_by b e h = subst (λ (b : Bool). Past white ((if b then p else quoted p) ++ rest)) (sym e) h

    as_text : Past white (quoted p ++ rest)
    as_text = past_low white 34 ((flat_map escaped p ++ 34 ∷ []) ++ rest) (omega arith) refl

    by : (a b : Bool) → nat_lt 0 (length p) ≡ a → list_all is_in_pred (chars p) ≡ b → Past white (pred_text p ++ rest)
    by true true f g = told_by true (ap (λ z. z && list_all is_in_pred (chars p)) f ∙ g) (run_first in_pred white p rest false (record { utf8 = u; some = ltb-true 0 (length p) f; signs = all_in (chars p) g }) in_pred_white)
    by true false f g = told_by false (ap (λ z. z && list_all is_in_pred (chars p)) f ∙ g) as_text
    by false b f g = told_by false (ap (λ z. z && list_all is_in_pred (chars p)) f) as_text
