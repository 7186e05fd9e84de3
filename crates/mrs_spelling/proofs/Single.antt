-- A form reads characters in one way.
use Rattle.std.proofs.Common.{◌≡◌, ℕ, ◌∙◌, List, [], ◌∷◌, ◌++◌, refl, sym, subst}
use Rattle.std.proofs.lemmas.Bool.{false≢true}
use Rattle.std.proofs.lemmas.List.{append_cancel_left}
use Rattle.mrs_spelling.specs.declared.kinds.Kind.{Kind}
use Rattle.mrs_spelling.specs.Forms.{Form, many}
use Rattle.mrs_spelling.specs.Reading.{Tok, Outcome, done, stuck, Reads, reads_nothing, sign_yes, sign_no, seq_stop, seq_go, many_none, many_stop, many_go, either_yes, either_no, token_yes, token_no}

-- what was read in two ways is the same
pub record Same (es : List Tok) (o : Outcome) (d rest : List ℕ) (fs : List Tok) (o' : Outcome) (d' rest' : List ℕ) : Type 0 where
  pub toks : es ≡ fs
  pub outcome : o ≡ o'
  pub front : d ≡ d'
  pub left : rest ≡ rest'

carried : (r : Form) (b cs b' cs' : List ℕ) (es : List Tok) (o : Outcome) (d rest : List ℕ) → b ≡ b' → cs ≡ cs' → Reads r b cs es o d rest → Reads r b' cs' es o d rest
carried r b cs b' cs' es o d rest e f h = subst (λ (z : List ℕ). Reads r b' z es o d rest) f (subst (λ (z : List ℕ). Reads r z cs es o d rest) e h)

both : (es fs es2 fs2 : List Tok) (o : Outcome) (d rest : List ℕ) (o2 : Outcome) (d2 rest2 : List ℕ) → es ≡ es2 → Same fs o d rest fs2 o2 d2 rest2 → Same (es ++ fs) o d rest (es2 ++ fs2) o2 d2 rest2
both es fs es2 fs2 o d rest o2 d2 rest2 e s = record { toks = let f = s.toks in cc; outcome = s.outcome; front = s.front; left = s.left }

token_same : (k : Kind) (b text text2 rest rest2 : List ℕ) (es es2 : List Tok) → Same es done (b ++ text) rest es2 done (b ++ text2) rest2
    → Same (es ++ record { kind = k; text = text; at = b } ∷ []) done (b ++ text) rest (es2 ++ record { kind = k; text = text2; at = b } ∷ []) done (b ++ text2) rest2
token_same k b text text2 rest rest2 es es2 s = record { toks = let e : text ≡ text2 = append_cancel_left b text text2 s.front in let f : es ≡ es2 = s.toks in rw (e, f) refl; outcome = refl; front = s.front; left = s.left }

pub one_reading : (r : Form) (b cs : List ℕ) (es : List Tok) (o : Outcome) (d rest : List ℕ) (fs : List Tok) (o' : Outcome) (d' rest' : List ℕ) → Reads r b cs es o d rest → Reads r b cs fs o' d' rest' → Same es o d rest fs o' d' rest'
one_reading _ _ _ _ _ _ _ _ _ _ _ (reads_nothing b cs) (reads_nothing _ _) = record { toks = refl; outcome = refl; front = refl; left = refl }
one_reading _ _ _ _ _ _ _ _ _ _ _ (sign_yes x b cs c h) (sign_yes _ _ _ _ _) = record { toks = refl; outcome = refl; front = refl; left = refl }
one_reading _ _ _ _ _ _ _ _ _ _ _ (sign_yes x b cs c h) (sign_no _ _ _ g) = absurd (false≢true (sym g ∙ h))
one_reading _ _ _ _ _ _ _ _ _ _ _ (sign_no x b _ h) (sign_yes _ _ cs c g) = absurd (false≢true (sym h ∙ g))
one_reading _ _ _ _ _ _ _ _ _ _ _ (sign_no x b cs h) (sign_no _ _ _ g) = record { toks = refl; outcome = refl; front = refl; left = refl }
one_reading _ _ _ _ _ _ _ _ _ _ _ (seq_stop p q b cs d rest es h) (seq_stop _ _ _ _ d2 rest2 fs k) = one_reading p b cs es stuck d rest fs stuck d2 rest2 h k
one_reading _ _ _ _ _ _ _ _ _ _ _ (seq_stop p q b cs d rest es h) (seq_go _ _ _ _ m mid d2 rest2 fs gs o k l) = absurd (let s = one_reading p b cs es stuck d rest fs done m mid h k in let e : stuck ≡ done = s.outcome in cc)
one_reading _ _ _ _ _ _ _ _ _ _ _ (seq_go p q b cs m mid d rest es fs o h k) (seq_stop _ _ _ _ d2 rest2 gs l) = absurd (let s = one_reading p b cs es done m mid gs stuck d2 rest2 h l in let e : done ≡ stuck = s.outcome in cc)
one_reading _ _ _ _ _ _ _ _ _ _ _ (seq_go p q b cs m mid d rest es fs o h k) (seq_go _ _ _ _ m2 mid2 d2 rest2 es2 fs2 o2 h2 k2) =
    let s = one_reading p b cs es done m mid es2 done m2 mid2 h h2 in
    let l = carried q m2 mid2 m mid fs2 o2 d2 rest2 (sym s.front) (sym s.left) k2 in
    both es fs es2 fs2 o d rest o2 d2 rest2 s.toks (one_reading q m mid fs o d rest fs2 o2 d2 rest2 k l)
one_reading _ _ _ _ _ _ _ _ _ _ _ (many_none x p b cs h) (many_none _ _ _ _ _) = record { toks = refl; outcome = refl; front = refl; left = refl }
one_reading _ _ _ _ _ _ _ _ _ _ _ (many_none x p b cs h) (many_stop _ _ _ _ d rest es g k) = absurd (false≢true (sym h ∙ g))
one_reading _ _ _ _ _ _ _ _ _ _ _ (many_none x p b cs h) (many_go _ _ _ _ m mid d rest es fs o g k l) = absurd (false≢true (sym h ∙ g))
one_reading _ _ _ _ _ _ _ _ _ _ _ (many_stop x p b cs d rest es g k) (many_none _ _ _ _ h) = absurd (false≢true (sym h ∙ g))
one_reading _ _ _ _ _ _ _ _ _ _ _ (many_stop x p b cs d rest es g h) (many_stop _ _ _ _ d2 rest2 fs g2 k) = one_reading p b cs es stuck d rest fs stuck d2 rest2 h k
one_reading _ _ _ _ _ _ _ _ _ _ _ (many_stop x p b cs d rest es g h) (many_go _ _ _ _ m mid d2 rest2 fs gs o g2 k l) = absurd (let s = one_reading p b cs es stuck d rest fs done m mid h k in let e : stuck ≡ done = s.outcome in cc)
one_reading _ _ _ _ _ _ _ _ _ _ _ (many_go x p b cs m mid d rest es fs o g h k) (many_none _ _ _ _ l) = absurd (false≢true (sym l ∙ g))
one_reading _ _ _ _ _ _ _ _ _ _ _ (many_go x p b cs m mid d rest es fs o g h k) (many_stop _ _ _ _ d2 rest2 gs g2 l) = absurd (let s = one_reading p b cs es done m mid gs stuck d2 rest2 h l in let e : done ≡ stuck = s.outcome in cc)
one_reading _ _ _ _ _ _ _ _ _ _ _ (many_go x p b cs m mid d rest es fs o g h k) (many_go _ _ _ _ m2 mid2 d2 rest2 es2 fs2 o2 g2 h2 k2) =
    let s = one_reading p b cs es done m mid es2 done m2 mid2 h h2 in
    let l = carried (many x p) m2 mid2 m mid fs2 o2 d2 rest2 (sym s.front) (sym s.left) k2 in
    both es fs es2 fs2 o d rest o2 d2 rest2 s.toks (one_reading (many x p) m mid fs o d rest fs2 o2 d2 rest2 k l)
one_reading _ _ _ _ _ _ _ _ _ _ _ (either_yes x p q b cs d rest es o g h) (either_yes _ _ _ _ _ d2 rest2 fs o2 g2 k) = one_reading p b cs es o d rest fs o2 d2 rest2 h k
one_reading _ _ _ _ _ _ _ _ _ _ _ (either_yes x p q b cs d rest es o g h) (either_no _ _ _ _ _ d2 rest2 fs o2 g2 k) = absurd (false≢true (sym g2 ∙ g))
one_reading _ _ _ _ _ _ _ _ _ _ _ (either_no x p q b cs d rest es o g h) (either_yes _ _ _ _ _ d2 rest2 fs o2 g2 k) = absurd (false≢true (sym g ∙ g2))
one_reading _ _ _ _ _ _ _ _ _ _ _ (either_no x p q b cs d rest es o g h) (either_no _ _ _ _ _ d2 rest2 fs o2 g2 k) = one_reading q b cs es o d rest fs o2 d2 rest2 h k
one_reading _ _ _ _ _ _ _ _ _ _ _ (token_yes t p b cs text rest es h) (token_yes _ _ _ _ text2 rest2 es2 k) =
    token_same t b text text2 rest rest2 es es2 (one_reading p b cs es done (b ++ text) rest es2 done (b ++ text2) rest2 h k)
one_reading _ _ _ _ _ _ _ _ _ _ _ (token_yes t p b cs text rest es h) (token_no _ _ _ _ d2 rest2 es2 k) = absurd (let s = one_reading p b cs es done (b ++ text) rest es2 stuck d2 rest2 h k in let e : done ≡ stuck = s.outcome in cc)
one_reading _ _ _ _ _ _ _ _ _ _ _ (token_no t p b cs d rest es h) (token_yes _ _ _ _ text2 rest2 es2 k) = absurd (let s = one_reading p b cs es stuck d rest es2 done (b ++ text2) rest2 h k in let e : stuck ≡ done = s.outcome in cc)
one_reading _ _ _ _ _ _ _ _ _ _ _ (token_no t p b cs d rest es h) (token_no _ _ _ _ d2 rest2 es2 k) = one_reading p b cs es stuck d rest es2 stuck d2 rest2 h k
