-- Where the tokens of a text stand.
use Rattle.std.proofs.Common.{◌≡◌, ℕ, zero, suc, ◌+◌, ◌<◌, ◌≤◌, Bool, true, false, List, [], ◌∷◌, ◌++◌, length, length-append, Option, None, sym, ◌∙◌, refl, ap, subst, arith, append_assoc}
use Rattle.std.specs.Prelude.{◌==◌, if◌then◌else◌}
use Rattle.std.specs.Str.{chars, IsUtf8, IsCharBoundary, encode_utf8_all}
use Rattle.std.specs.List.{slice_index_or}
use Rattle.std.proofs.Math.Utf8.{scalars, encode}
use Rattle.std.proofs.lemmas.Str.{encodes-chars, encodes-append, scalars-chars, IsCharBoundary-at_seam}
use Rattle.std.proofs.lemmas.Bool.{and_parts, eqb-true}
use Rattle.tdl_lexer.specs.declared.Token.{Token}
use Rattle.tdl_lexer.specs.declared.Mode.{Mode}
use Rattle.tdl_lexer.specs.declared.LexFault.{LexFault}
use Rattle.tdl_lexer.specs.Characters.{width}
use Rattle.tdl_lexer.specs.Readings.{Reads, ends, passes, token, stuck, Tokens, spelled, not_utf8, unmarked, mark_width}
use Rattle.tdl_lexer.specs.Spelling.{IsTokenOf}

-- the characters before a token, those that it spells, and those after it
pub record Span (cs : List ℕ) (at : ℕ) (t : Token) : Type 0 where
  pub before : List ℕ
  pub spells : List ℕ
  pub after : List ℕ
  pub split : cs ≡ before ++ (spells ++ after)
  pub from : t.from ≡ at + width before
  pub to : t.to ≡ at + width (before ++ spells)

width-append : (a b : List ℕ) → width (a ++ b) ≡ width a + width b
width-append a b = ap length (encodes-append a b) ∙ length-append (encode_utf8_all a) (encode_utf8_all b)

-- a token after a piece is one of the text that begins with the piece
further : (cs p rest : List ℕ) (at : ℕ) (t : Token) → cs ≡ p ++ rest → Span rest (at + width p) t → Span cs at t
further cs p rest at t e s =
    record {
      before = p ++ s.before;
      spells = s.spells;
      after = s.after;
      split = e ∙ (ap (λ l. p ++ l) s.split ∙ sym (append_assoc p s.before (s.spells ++ s.after)));
      from = omega (arith, s.from, width-append p s.before);
      to = let a : width ((p ++ s.before) ++ s.spells) ≡ width p + width (s.before ++ s.spells) = ap width (append_assoc p s.before s.spells) ∙ width-append p (s.before ++ s.spells) in omega (arith, s.to, a);
    }

span_in : (mode : Mode) (at : ℕ) (cs : List ℕ) (ts : List Token) (end : Option LexFault) → Reads mode at cs ts end → (k : ℕ) (t : Token) → k < length ts → slice_index_or ts k t ≡ t → Span cs at t
span_in _ _ _ _ _ (ends _ _) k t h e = absurd (omega (arith, h))
span_in mode at cs ts end (passes _ next _ _ p rest _ _ s piece more) k t h e = further cs p rest at t s (span_in next (at + width p) rest ts end more k t h e)
span_in mode at cs _ end (token _ next _ _ p rest kind ts _ s piece more) zero t h e =
    record {
      before = [];
      spells = p;
      after = rest;
      split = s;
      from = let f : t.from ≡ at = ap (λ (u : Token). u.from) (sym e) in omega (arith, f);
      to = ap (λ (u : Token). u.to) (sym e);
    }
span_in mode at cs _ end (token _ next _ _ p rest kind ts _ s piece more) (suc k) t h e = further cs p rest at t s (span_in next (at + width p) rest ts end more k t (omega (arith, h)) e)
span_in _ _ _ _ _ (stuck _ _ _ _ _) k t h e = absurd (omega (arith, h))

-- the span in the text with its byte order mark
past_mark : (c : ℕ) (cs : List ℕ) (t : Token) (b : Bool) → (c == 0xFEFF) ≡ b → Span (if b then cs else c ∷ cs) (if b then 3 else 0) t → Span (c ∷ cs) 0 t
unfolding encode
past_mark c cs t true e s = further (c ∷ cs) (0xFEFF ∷ []) cs 0 t (ap (λ d. d ∷ cs) (eqb-true c 0xFEFF e)) s
past_mark c cs t false e s = s

unmarked_span : (cs : List ℕ) (t : Token) → Span (unmarked cs) (mark_width cs) t → Span cs 0 t
unmarked_span [] t s = s
unmarked_span (c ∷ cs) t s = past_mark c cs t (c == 0xFEFF) refl s

scalars_right : (a b : List ℕ) → scalars (a ++ b) ≡ true → scalars b ≡ true
scalars_right [] b h = h
scalars_right (c ∷ a) b h = scalars_right a b (and_parts _ _ h).1

-- the bytes of a token of a text
pub record Cuts (text : List ℕ) (t : Token) : Type 0 where
  pub ordered : t.from ≤ t.to
  pub from : IsCharBoundary text t.from
  pub to : IsCharBoundary text t.to

cuts_at : (text : List ℕ) (t : Token) → IsUtf8 text → Span (chars text) 0 t → Cuts text t
cuts_at text t u s =
    let e : text ≡ encode_utf8_all s.before ++ encode_utf8_all (s.spells ++ s.after) = sym (encodes-chars text u) ∙ (ap encode_utf8_all s.split ∙ encodes-append s.before (s.spells ++ s.after)) in
    let f : text ≡ encode_utf8_all (s.before ++ s.spells) ++ encode_utf8_all s.after = sym (encodes-chars text u) ∙ (ap encode_utf8_all (s.split ∙ sym (append_assoc s.before s.spells s.after)) ∙ encodes-append (s.before ++ s.spells) s.after) in
    let h : scalars (s.spells ++ s.after) ≡ true = scalars_right s.before (s.spells ++ s.after) (ap scalars (sym s.split) ∙ scalars-chars text u) in
    let k : scalars s.after ≡ true = scalars_right s.spells s.after h in
    let from : t.from ≡ width s.before = omega (arith, s.from) in
    let to : t.to ≡ width (s.before ++ s.spells) = omega (arith, s.to) in
    record {
      ordered = omega (arith, s.from, s.to, width-append s.before s.spells);
      from = subst (IsCharBoundary text) (sym from) (IsCharBoundary-at_seam text _ _ e (s.spells ++ s.after, (h, refl)));
      to = subst (IsCharBoundary text) (sym to) (IsCharBoundary-at_seam text _ _ f (s.after, (k, refl)));
    }

cuts_in : (text : List ℕ) (ts : List Token) (end : Option LexFault) (t : Token) (k : ℕ) → end ≡ None → k < length ts → slice_index_or ts k t ≡ t → Tokens text ts end → Cuts text t
cuts_in text _ _ t k n h e (spelled ts end u r) = cuts_at text t u (unmarked_span (chars text) t (span_in _ _ _ ts end r k t h e))
cuts_in text _ _ t k n h e (not_utf8 at u v) = absurd (omega (arith, h))

-- a text may be cut where its tokens begin and end
pub cuts : (text : List ℕ) (t : Token) → IsTokenOf text t → Cuts text t
cuts text t h = cuts_in text h.tokens None t h.among.0 refl h.among.1 h.among.2 h.reading
