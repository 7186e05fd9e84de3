-- Tokens of texts, and their faults.
use Rattle.std.proofs.Common.{◌≡◌, ℕ, ◌+◌, ◌-◌, ◌≤◌, ◌∙◌, List, [], ◌∷◌, ◌++◌, Option, Some, None, map, refl, ap, sym, subst, length, length-append, append-nil, arith}
use Rattle.std.specs.List.{AllZip}
use Rattle.std.specs.Str.{chars, IsUtf8, encode_utf8_all}
use Rattle.std.proofs.lemmas.Str.{encodes-chars, encodes-append}
use Rattle.mrs_spelling.specs.declared.tokens.Token.{Token}
use Rattle.mrs_spelling.specs.Grammar.{mrs}
use Rattle.mrs_spelling.specs.Reading.{Tok, Outcome, done, Reads}
use Rattle.mrs_spelling.specs.Scanning.{IsTok, size, AreTokensOf}
use Rattle.mrs_spelling.specs.Conditions.{Word, word_of, AllKeep, BreaksAfter}
use Rattle.mrs_spelling.specs.Faults.{Spells}
use Rattle.mrs_spelling.proofs.Moving.{moved}
use Rattle.mrs_spelling.proofs.Firsts.{keeps_told, stop_first}
use Rattle.mrs_spelling.proofs.Placed.{breach_first}
use Rattle.mrs_reading.specs.Inner.Stages.{Follow}
use Rattle.mrs_reading.specs.Inner.Built.{word_at, kinds, IsBreach}
use Rattle.mrs_reading.specs.Inner.Placing.{IsFaultAt}
use Rattle.mrs_reading.proofs.Staging.{kinds_of, followed}

same_word : (n : ℕ) (t : Token) (e : Tok) → IsTok n t e → word_of e ≡ word_at t
same_word n t e h = rw (h.kind, h.text) refl

pub words_same : (n : ℕ) (ts : List Token) (es : List Tok) → AllZip (IsTok n) ts es → map word_of es ≡ map word_at ts
words_same n [] [] h = refl
words_same n [] (e ∷ es) h = absurd h
words_same n (t ∷ ts) [] h = absurd h
words_same n (t ∷ ts) (e ∷ es) h = let a = same_word n t e h.0 in let b = words_same n ts es h.1 in cc

kinds_same : (n : ℕ) (ts : List Token) (es : List Tok) → AllZip (IsTok n) ts es → kinds_of es ≡ kinds ts
kinds_same n [] [] h = refl
kinds_same n [] (e ∷ es) h = absurd h
kinds_same n (t ∷ ts) [] h = absurd h
kinds_same n (t ∷ ts) (e ∷ es) h = let a : e.kind ≡ t.kind = h.0.kind in let b = kinds_same n ts es h.1 in cc

-- the tokens of a text follow one another
pub tokens_follow : (cs : List ℕ) (ts : List Token) (stop : Option ℕ) → AreTokensOf cs ts stop → Follow (kinds ts)
tokens_follow cs ts stop h = subst Follow (kinds_same (size cs) ts h.toks h.same) (followed cs h.toks h.outcome h.front h.rest h.reads)

record Parted (n : ℕ) (before : List Token) (t : Token) (es : List Tok) : Type 0 where
  pub front : List Tok
  pub here : Tok
  pub others : List Tok
  pub is : es ≡ front ++ here ∷ others
  pub first : AllZip (IsTok n) before front
  pub same : IsTok n t here

parted : (n : ℕ) (before after : List Token) (t : Token) (es : List Tok) → AllZip (IsTok n) (before ++ t ∷ after) es → Parted n before t es
parted n [] after t [] h = absurd h
parted n [] after t (e ∷ es) h = record { front = []; here = e; others = es; is = refl; first = tt; same = h.0 }
parted n (b ∷ before) after t [] h = absurd h
parted n (b ∷ before) after t (e ∷ es) h =
    let u = parted n before after t es h.1 in
    record { front = e ∷ u.front; here = u.here; others = u.others; is = ap (λ l. e ∷ l) u.is; first = (h.0, u.first); same = u.same }

-- the first token that breaks a condition is the first fault
pub breach_fault : (cs : List ℕ) (ts : List Token) (stop : Option ℕ) (left : ℕ) → AreTokensOf cs ts stop → IsBreach ts left → IsFaultAt cs (size cs - left)
breach_fault cs ts stop left h b =
    let u = parted (size cs) b.before b.after b.token h.toks (subst (λ (l : List Token). AllZip (IsTok (size cs)) l h.toks) b.split h.same) in
    let w = words_same (size cs) b.before u.front u.first in
    let x = same_word (size cs) b.token u.here u.same in
    let r = subst (λ (l : List Tok). Reads mrs [] cs l h.outcome h.front h.rest) u.is h.reads in
    let k : AllKeep (map word_of u.front) = subst AllKeep (sym w) b.keeps in
    let y : BreaksAfter (map word_of u.front) (word_of u.here) = subst (λ (z : Word). BreaksAfter (map word_of u.front) z) (sym x) (subst (λ (l : List Word). BreaksAfter l (word_at b.token)) (sym w) b.breaks) in
    let p : size cs ≡ size u.here.at + b.token.left = u.same.place in
    let q : left ≡ b.token.left = b.left_is in
    record { front = u.here.at; first = breach_first cs u.front u.others u.here h.outcome h.front h.rest r (keeps_told u.front k) y; at_is = omega (arith, p, q) }

size_split : (cs d rest : List ℕ) → cs ≡ d ++ rest → size cs ≡ size d + size rest
size_split cs d rest e = ap size e ∙ ap length (encodes-append d rest) ∙ length-append (encode_utf8_all d) (encode_utf8_all rest)

-- where no token breaks one, the place where nothing goes on is
pub stop_fault : (cs : List ℕ) (ts : List Token) (left : ℕ) → AreTokensOf cs ts (Some left) → AllKeep (map word_at ts) → IsFaultAt cs (size cs - left)
stop_fault cs ts left h k =
    let w = words_same (size cs) ts h.toks h.same in
    let u = moved mrs [] cs h.toks h.outcome h.front h.rest h.reads in
    let c : cs ≡ h.front ++ h.rest = u.is ∙ ap (λ l. l ++ h.rest) (sym u.before) in
    let z = size_split cs h.front h.rest c in
    let l : left ≡ size h.rest = h.stop_is.0 in
    record { front = h.front; first = stop_first cs h.toks h.outcome h.front h.rest h.reads (keeps_told h.toks (subst AllKeep (sym w) k)) h.stop_is.1; at_is = omega (arith, z, l) }

-- tokens to the end of the characters spell them
pub whole_spelled : (cs : List ℕ) (ts : List Token) (h : AreTokensOf cs ts None) → Spells cs h.toks
whole_spelled cs ts h =
    let u = moved mrs [] cs h.toks h.outcome h.front h.rest h.reads in
    let c : cs ≡ h.front ++ h.rest = u.is ∙ ap (λ l. l ++ h.rest) (sym u.before) in
    let d : h.front ≡ cs = sym (c ∙ ap (λ l. h.front ++ l) h.stop_is.1 ∙ append-nil h.front) in
    let r : Reads mrs [] cs h.toks done cs [] = subst (λ (z : List ℕ). Reads mrs [] cs h.toks done z []) d
    (subst (λ (z : List ℕ). Reads mrs [] cs h.toks done h.front z) h.stop_is.1 (subst (λ (o : Outcome). Reads mrs [] cs h.toks o h.front h.rest) h.stop_is.0 h.reads)) in
    record { reads = r }

pub text_size : (bs : List ℕ) → IsUtf8 bs → size (chars bs) ≡ length bs
text_size bs h = ap length (encodes-chars bs h)

pub left_fits : (cs : List ℕ) (ts : List Token) (stop : Option ℕ) (left : ℕ) → AreTokensOf cs ts stop → IsBreach ts left → left ≤ size cs
left_fits cs ts stop left h b =
    let u = parted (size cs) b.before b.after b.token h.toks (subst (λ (l : List Token). AllZip (IsTok (size cs)) l h.toks) b.split h.same) in
    let p : size cs ≡ size u.here.at + b.token.left = u.same.place in
    let q : left ≡ b.token.left = b.left_is in
    omega (arith, p, q)

pub stop_fits : (cs : List ℕ) (ts : List Token) (left : ℕ) → AreTokensOf cs ts (Some left) → left ≤ size cs
stop_fits cs ts left h =
    let u = moved mrs [] cs h.toks h.outcome h.front h.rest h.reads in
    let c : cs ≡ h.front ++ h.rest = u.is ∙ ap (λ l. l ++ h.rest) (sym u.before) in
    let z = size_split cs h.front h.rest c in
    let l : left ≡ size h.rest = h.stop_is.0 in
    omega (arith, z, l)
