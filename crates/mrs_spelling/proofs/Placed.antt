-- The places of tokens.
use Rattle.std.proofs.Common.{◌&&◌, Bool, true, false, ◌≡◌, ℕ, ◌≤◌, ◌∙◌, List, [], ◌∷◌, ◌++◌, refl, ap, sym, subst, append_assoc, append-nil, length, length-append, map, arith}
use Rattle.mrs_spelling.specs.declared.kinds.Kind.{Kind}
use Rattle.mrs_spelling.specs.Forms.{Form, nothing, sign, seq, many, either, token}
use Rattle.mrs_spelling.specs.Reading.{Tok, Outcome, done, stuck, Reads, reads_nothing, sign_yes, sign_no, seq_stop, seq_go, many_none, many_stop, many_go, either_yes, either_no, token_yes, token_no}
use Rattle.mrs_spelling.specs.Grammar.{mrs}
use Rattle.mrs_spelling.specs.Conditions.{Breaks, AllKeep, word_of}
use Rattle.mrs_spelling.specs.Faults.{Spells, Viable, Fault, unexpected, ends, breaks, FirstFault}
use Rattle.mrs_spelling.proofs.Moving.{moved}
use Rattle.mrs_spelling.proofs.Single.{one_reading}
use Rattle.mrs_spelling.proofs.Firsts.{viable_front, front_viable, no_earlier, no_end_earlier, text_is, Keeps, keeps_told}

pub record Begins (b d : List ℕ) : Type 0 where
  pub more : List ℕ
  pub is : d ≡ b ++ more

begins_over : (b m d : List ℕ) → Begins b m → Begins m d → Begins b d
begins_over b m d u v = record { more = u.more ++ v.more; is = v.is ∙ ap (λ l. l ++ v.more) u.is ∙ append_assoc b u.more v.more }

-- each token's characters before it begin those of the next one
abbrev pub InOrder : List ℕ → List Tok → List ℕ → Type 0
InOrder b [] d = Begins b d
InOrder b (e ∷ es) d = Begins b e.at × InOrder e.at es d

order_from : (b m d : List ℕ) (es : List Tok) → Begins b m → InOrder m es d → InOrder b es d
order_from b m d [] u h = begins_over b m d u h
order_from b m d (e ∷ es) u h = (begins_over b m e.at u h.0, h.1)

order_append : (b m d : List ℕ) (es fs : List Tok) → InOrder b es m → InOrder m fs d → InOrder b (es ++ fs) d
order_append b m d [] fs h k = order_from b m d fs h k
order_append b m d (e ∷ es) fs h k = (h.0, order_append e.at m d es fs h.1 k)

-- a form without tokens, and one whose tokens have none within
abbrev pub silent : Form → Bool
silent nothing = true
silent (sign x) = true
silent (seq p q) = silent p && silent q
silent (many x p) = silent p
silent (either x p q) = silent p && silent q
silent (token k p) = false

abbrev pub plain : Form → Bool
plain nothing = true
plain (sign x) = true
plain (seq p q) = plain p && plain q
plain (many x p) = plain p
plain (either x p q) = plain p && plain q
plain (token k p) = silent p

both_true : (a b : Bool) → (a && b) ≡ true → (a ≡ true) × (b ≡ true)
both_true true b h = (refl, h)
both_true false b h = absurd (cc)

none_both : (es fs : List Tok) → es ≡ [] → fs ≡ [] → es ++ fs ≡ []
none_both es fs e f = rw (e, f) refl

pub no_tokens : (r : Form) (b cs : List ℕ) (es : List Tok) (o : Outcome) (d rest : List ℕ) → Reads r b cs es o d rest → silent r ≡ true → es ≡ []
no_tokens _ _ _ _ _ _ _ (reads_nothing b cs) t = refl
no_tokens _ _ _ _ _ _ _ (sign_yes x b cs c h) t = refl
no_tokens _ _ _ _ _ _ _ (sign_no x b cs h) t = refl
no_tokens _ _ _ _ _ _ _ (seq_stop p q b cs d rest es h) t = no_tokens p b cs es stuck d rest h (both_true (silent p) (silent q) t).0
no_tokens _ _ _ _ _ _ _ (seq_go p q b cs m mid d rest es fs o h k) t =
    let w = both_true (silent p) (silent q) t in none_both es fs (no_tokens p b cs es done m mid h w.0) (no_tokens q m mid fs o d rest k w.1)
no_tokens _ _ _ _ _ _ _ (many_none x p b cs h) t = refl
no_tokens _ _ _ _ _ _ _ (many_stop x p b cs d rest es g h) t = no_tokens p b cs es stuck d rest h t
no_tokens _ _ _ _ _ _ _ (many_go x p b cs m mid d rest es fs o g h k) t = none_both es fs (no_tokens p b cs es done m mid h t) (no_tokens (many x p) m mid fs o d rest k t)
no_tokens _ _ _ _ _ _ _ (either_yes x p q b cs d rest es o g h) t = no_tokens p b cs es o d rest h (both_true (silent p) (silent q) t).0
no_tokens _ _ _ _ _ _ _ (either_no x p q b cs d rest es o g h) t = no_tokens q b cs es o d rest h (both_true (silent p) (silent q) t).1
no_tokens _ _ _ _ _ _ _ (token_yes k p b cs text rest es h) t = absurd (cc)
no_tokens _ _ _ _ _ _ _ (token_no k p b cs d rest es h) t = absurd (cc)

begins_from : (r : Form) (b cs : List ℕ) (es : List Tok) (o : Outcome) (d rest : List ℕ) → Reads r b cs es o d rest → Begins b d
begins_from r b cs es o d rest h = let m = moved r b cs es o d rest h in record { more = m.read; is = m.before }

alone : (es : List Tok) (k : Kind) (b text d : List ℕ) → es ≡ [] → Begins b d → InOrder b (es ++ record { kind = k; text = text; at = b } ∷ []) d
alone es k b text d e h = subst (λ (z : List Tok). InOrder b (z ++ record { kind = k; text = text; at = b } ∷ []) d) (sym e) (record { more = []; is = sym (append-nil b) }, h)

pub in_order : (r : Form) (b cs : List ℕ) (es : List Tok) (o : Outcome) (d rest : List ℕ) → Reads r b cs es o d rest → plain r ≡ true → InOrder b es d
in_order _ _ _ _ _ _ _ (reads_nothing b cs) t = record { more = []; is = sym (append-nil b) }
in_order _ _ _ _ _ _ _ (sign_yes x b cs c h) t = record { more = c ∷ []; is = refl }
in_order _ _ _ _ _ _ _ (sign_no x b cs h) t = record { more = []; is = sym (append-nil b) }
in_order _ _ _ _ _ _ _ (seq_stop p q b cs d rest es h) t = in_order p b cs es stuck d rest h (both_true (plain p) (plain q) t).0
in_order _ _ _ _ _ _ _ (seq_go p q b cs m mid d rest es fs o h k) t =
    let w = both_true (plain p) (plain q) t in order_append b m d es fs (in_order p b cs es done m mid h w.0) (in_order q m mid fs o d rest k w.1)
in_order _ _ _ _ _ _ _ (many_none x p b cs h) t = record { more = []; is = sym (append-nil b) }
in_order _ _ _ _ _ _ _ (many_stop x p b cs d rest es g h) t = in_order p b cs es stuck d rest h t
in_order _ _ _ _ _ _ _ (many_go x p b cs m mid d rest es fs o g h k) t = order_append b m d es fs (in_order p b cs es done m mid h t) (in_order (many x p) m mid fs o d rest k t)
in_order _ _ _ _ _ _ _ (either_yes x p q b cs d rest es o g h) t = in_order p b cs es o d rest h (both_true (plain p) (plain q) t).0
in_order _ _ _ _ _ _ _ (either_no x p q b cs d rest es o g h) t = in_order q b cs es o d rest h (both_true (plain p) (plain q) t).1
in_order _ _ _ _ _ _ _ (token_yes k p b cs text rest es h) t = alone es k b text (b ++ text) (no_tokens p b cs es done (b ++ text) rest h t) (record { more = text; is = refl })
in_order _ _ _ _ _ _ _ (token_no k p b cs d rest es h) t = subst (λ (z : List Tok). InOrder b z d) (sym (no_tokens p b cs es stuck d rest h t)) (begins_from p b cs es stuck d rest h)

-- a token's place begins those of the tokens after it, and what was read
after_it : (b d : List ℕ) (e : Tok) (before after : List Tok) → InOrder b (before ++ e ∷ after) d → InOrder e.at after d
after_it b d e [] after h = h.1
after_it b d e (t ∷ before) after h = after_it t.at d e before after h.1

to_end : (b d : List ℕ) (es : List Tok) → InOrder b es d → Begins b d
to_end b d [] h = h
to_end b d (e ∷ es) h = begins_over b e.at d h.0 (to_end e.at d es h.1)

to_token : (b d : List ℕ) (e : Tok) (before after : List Tok) → InOrder b (before ++ e ∷ after) d → Begins b e.at
to_token b d e [] after h = h.0
to_token b d e (t ∷ before) after h = begins_over b t.at e.at h.0 (to_token t.at d e before after h.1)

-- of two places in a list, the one is before the other
data Compared (es : List Tok) (e : Tok) (fs gs : List Tok) (t : Tok) (hs : List Tok) : Type 0 where
  earlier : (more : List Tok) → es ≡ gs ++ t ∷ more → Compared es e fs gs t hs
  same : e ≡ t → Compared es e fs gs t hs
  later : (more : List Tok) → fs ≡ more ++ t ∷ hs → Compared es e fs gs t hs

one_more : (a : Tok) (es : List Tok) (e : Tok) (fs gs : List Tok) (t : Tok) (hs : List Tok) → Compared es e fs gs t hs → Compared (a ∷ es) e fs (a ∷ gs) t hs
one_more a es e fs gs t hs (earlier more h) = earlier more (ap (λ l. a ∷ l) h)
one_more a es e fs gs t hs (same h) = same h
one_more a es e fs gs t hs (later more h) = later more h

compared : (es : List Tok) (e : Tok) (fs gs : List Tok) (t : Tok) (hs : List Tok) → es ++ e ∷ fs ≡ gs ++ t ∷ hs → Compared es e fs gs t hs
compared [] e fs [] t hs h = same (cc)
compared [] e fs (g ∷ gs) t hs h = later gs (cc)
compared (a ∷ es) e fs [] t hs h = earlier es (let i : a ≡ t = cc in ap (λ z. z ∷ es) i)
compared (a ∷ es) e fs (g ∷ gs) t hs h =
    let i : a ≡ g = cc in
    let j : es ++ e ∷ fs ≡ gs ++ t ∷ hs = cc in
    subst (λ (z : Tok). Compared (a ∷ es) e fs (z ∷ gs) t hs) i (one_more a es e fs gs t hs (compared es e fs gs t hs j))

begins_length : (b d : List ℕ) → Begins b d → length b ≤ length d
begins_length b d u = let e = ap length u.is in let n = length-append b u.more in omega (arith, e, n)

breach_before : (cs d : List ℕ) (es fs gs hs : List Tok) (e t : Tok) → Keeps es → InOrder [] (es ++ e ∷ fs) d → Breaks gs t → Compared es e fs gs t hs → length e.at ≤ length t.at
breach_before cs d es fs gs hs e t keeps h b (earlier more i) = absurd (keeps gs more t i b)
breach_before cs d es fs gs hs e t keeps h b (same i) = let j = ap (λ z. length z.at) i in omega (arith, j)
breach_before cs d es fs gs hs e t keeps h b (later more i) = begins_length e.at t.at (to_token e.at d t more hs (subst (λ (z : List Tok). InOrder e.at z d) i (after_it [] d e es fs h)))

front_begins : (cs : List ℕ) (es : List Tok) (o : Outcome) (d rest at : List ℕ) → Reads mrs [] cs es o d rest → (u : Begins at d) → (cs ≡ at ++ (u.more ++ rest)) × Viable at
front_begins cs es o d rest at h u = (text_is cs es o d rest h ∙ ap (λ l. l ++ rest) u.is ∙ append_assoc at u.more rest, viable_front at u.more (subst Viable u.is (front_viable cs es o d rest h)))

-- the first token that breaks a condition is the first fault
pub breach_first : (cs : List ℕ) (es fs : List Tok) (e : Tok) (o : Outcome) (d rest : List ℕ) → Reads mrs [] cs (es ++ e ∷ fs) o d rest → Keeps es → Breaks es e → FirstFault cs e.at
breach_first cs es fs e o d rest h keeps b =
    let i = in_order mrs [] cs (es ++ e ∷ fs) o d rest h refl in
    let u = to_end e.at d fs (after_it [] d e es fs i) in
    let w = front_begins cs (es ++ e ∷ fs) o d rest e.at h u in
    record {
      stands = breaks es fs e o d rest h b refl;
      first = λ other f. (elim f [
        | unexpected c more k v not ↦ no_earlier cs e.at (u.more ++ rest) other c more w.0 w.1 k not
        | ends k v not ↦ no_end_earlier cs e.at (u.more ++ rest) other w.0 k
        | breaks gs hs t o2 d2 rest2 k c at ↦ (let s = one_reading mrs [] cs (es ++ e ∷ fs) o d rest (gs ++ t ∷ hs) o2 d2 rest2 h k in
            subst (λ (z : List ℕ). length e.at ≤ length z) at (breach_before cs d es fs gs hs e t keeps i c (compared es e fs gs t hs s.toks)))
      ]);
    }

-- a text that keeps the conditions has no fault
pub never_both : (cs front : List ℕ) (es : List Tok) → Spells cs es → AllKeep (map word_of es) → Fault cs front → ⊥
never_both cs front es h keeps (unexpected c rest e v not) =
    not (record { rest = rest; toks = es; spelled = subst (λ (z : List ℕ). Spells z es) (e ∙ sym (append_assoc front (c ∷ []) rest)) h })
never_both cs front es h keeps (ends e v not) = not es h
never_both cs front es h keeps (breaks before after t o d rest k b at) =
    keeps_told es keeps before after t (let s = one_reading mrs [] cs es done cs [] (before ++ t ∷ after) o d rest h.reads k in s.toks) b
