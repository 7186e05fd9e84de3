-- Each text has a reading.
use Rattle.std.proofs.Common.{◌≡◌, ℕ, zero, suc, ◌+◌, ◌<◌, ◌≤◌, Bool, true, false, List, [], ◌∷◌, ◌++◌, length, take, Option, Some, None, sym, ◌∙◌, refl, ap, subst, arith}
use Rattle.std.specs.Str.{chars, IsUtf8, is_utf8}
use Rattle.std.proofs.lemmas.Str.{IsUtf8-from_is_utf8, is_utf8-from_IsUtf8, IsUtf8-nil}
use Rattle.std.specs.Prelude.{nat_lt, ◌==◌}
use Rattle.std.proofs.lemmas.Bool.{true≢false, eqb-true, eqb-false, ltb-true, ltb-false}
use Rattle.std.proofs.lemmas.List.{take_all}
use Rattle.std.proofs.Common.{length-append}
use Rattle.tdl_lexer.specs.declared.TokenKind.{TokenKind}
use Rattle.tdl_lexer.specs.declared.Token.{Token}
use Rattle.tdl_lexer.specs.declared.Mode.{Mode}
use Rattle.tdl_lexer.specs.declared.Mode.TheVariants.{Plain}
use Rattle.tdl_lexer.specs.declared.LexFault.{LexFault}
use Rattle.tdl_lexer.specs.declared.LexFault.TheVariants.{NotUtf8}
use Rattle.tdl_lexer.specs.Characters.{width}
use Rattle.tdl_lexer.specs.Pieces.{Piece}
use Rattle.tdl_lexer.specs.Readings.{Reads, ends, passes, token, stuck, fault, Tokens, spelled, not_utf8, unmarked, mark_width}
use Rattle.tdl_lexer.specs.Scan.{Cut, piece_at}
use Rattle.tdl_lexer.proofs.Sound.{sound, nothing_begins, nonempty}

pub record Reading (mode : Mode) (at : ℕ) (cs : List ℕ) : Type 0 where
  pub tokens : List Token
  pub end : Option LexFault
  pub reads : Reads mode at cs tokens end

by_kind : (mode next : Mode) (at : ℕ) (cs p rest : List ℕ) (what : Option TokenKind) → cs ≡ p ++ rest → Piece mode p rest what next → Reading next (at + width p) rest → Reading mode at cs
by_kind mode next at cs p rest None e h r = record { tokens = r.tokens; end = r.end; reads = passes mode next at cs p rest r.tokens r.end e h r.reads }
by_kind mode next at cs p rest (Some kind) e h r = record { tokens = record { kind = kind; from = at; to = at + width p } ∷ r.tokens; end = r.end; reads = token mode next at cs p rest kind r.tokens r.end e h r.reads }

by_cut : (n : ℕ) (mode : Mode) (at c : ℕ) (cs : List ℕ) (o : Option Cut) → piece_at mode (c ∷ cs) ≡ o → length (c ∷ cs) ≤ suc n → ((next : Mode) (to : ℕ) (rest : List ℕ) → length rest ≤ n → Reading next to rest) → Reading mode at (c ∷ cs)
by_cut n mode at c cs None e h f = record { tokens = []; end = Some (fault mode at (c ∷ cs)); reads = stuck mode at c cs (nothing_begins mode (c ∷ cs) e) }
by_cut n mode at c cs (Some cut) e h f =
    let b = sound mode (c ∷ cs) cut e in
    by_kind mode cut.next at (c ∷ cs) b.spelled cut.rest cut.what b.split b.piece
    (f cut.next (at + width b.spelled) cut.rest (omega (arith, h, nonempty mode cut.next b.spelled cut.rest cut.what b.piece, ap length b.split ∙ length-append b.spelled cut.rest)))

reading_of : (n : ℕ) (mode : Mode) (at : ℕ) (cs : List ℕ) → length cs ≤ n → Reading mode at cs
reading_of n mode at [] h = record { tokens = []; end = None; reads = ends mode at }
reading_of zero mode at (c ∷ cs) h = absurd (omega (arith, h))
reading_of (suc n) mode at (c ∷ cs) h = by_cut n mode at c cs (piece_at mode (c ∷ cs)) refl h (λ next to rest k. reading_of n next to rest k)

-- the longest front of at most n bytes that is UTF-8
record Longest (bs : List ℕ) : Type 0 where
  len : ℕ
  is : IsUtf8 (take len bs)
  longest : (m : ℕ) → len < m → IsUtf8 (take m bs) → ⊥

not_at : (bs : List ℕ) (n : ℕ) → is_utf8 (take n bs) ≡ false → IsUtf8 (take n bs) → ⊥
not_at bs n e h = true≢false (sym (is_utf8-from_IsUtf8 (take n bs) h) ∙ e)

none_past : (bs : List ℕ) (n : ℕ) → is_utf8 (take (suc n) bs) ≡ false → ((m : ℕ) → suc n < m → IsUtf8 (take m bs) → ⊥) → (m : ℕ) → n < m → IsUtf8 (take m bs) → ⊥
none_past bs n e f m h u = past (suc n == m) refl
  where
    past : (b : Bool) → (suc n == m) ≡ b → ⊥
    past true q = not_at bs (suc n) e (subst (λ k. IsUtf8 (take k bs)) (sym (eqb-true (suc n) m q)) u)
    past false q = let k = eqb-false (suc n) m q in f m (omega (arith, h, k)) u

longest_by : (bs : List ℕ) (n : ℕ) (b : Bool) → is_utf8 (take (suc n) bs) ≡ b → ((m : ℕ) → suc n < m → IsUtf8 (take m bs) → ⊥) → (((m : ℕ) → n < m → IsUtf8 (take m bs) → ⊥) → Longest bs) → Longest bs
longest_by bs n true e f g = record { len = suc n; is = IsUtf8-from_is_utf8 (take (suc n) bs) e; longest = f }
longest_by bs n false e f g = g (none_past bs n e f)

longest_of : (bs : List ℕ) (n : ℕ) → ((m : ℕ) → n < m → IsUtf8 (take m bs) → ⊥) → Longest bs
longest_of bs zero f = record { len = 0; is = IsUtf8-nil; longest = f }
longest_of bs (suc n) f = longest_by bs n (is_utf8 (take (suc n) bs)) refl f (longest_of bs n)

pub record Lexing (source : List ℕ) : Type 0 where
  pub tokens : List Token
  pub end : Option LexFault
  pub reading : Tokens source tokens end

wrong_bytes : (source : List ℕ) → (IsUtf8 source → ⊥) → Longest source → Lexing source
wrong_bytes source n l =
    let whole : (k : ℕ) → length source ≤ k → IsUtf8 (take k source) → ⊥ = λ k h u. n (subst IsUtf8 (take_all k source h) u) in
    let short : l.len < length source = shorter (nat_lt l.len (length source)) refl whole in
    record { tokens = []; end = Some (NotUtf8 l.len); reading = not_utf8 l.len n (record { short = short; front = l.is; longest = l.longest }) }
  where
    shorter : (b : Bool) → nat_lt l.len (length source) ≡ b → ((k : ℕ) → length source ≤ k → IsUtf8 (take k source) → ⊥) → l.len < length source
    shorter true e w = ltb-true l.len (length source) e
    shorter false e w = absurd (w l.len (ltb-false l.len (length source) e) l.is)

lexing_by : (source : List ℕ) (b : Bool) → is_utf8 source ≡ b → Lexing source
lexing_by source true e =
    let u = IsUtf8-from_is_utf8 source e in
    let r = reading_of (length (unmarked (chars source))) Plain (mark_width (chars source)) (unmarked (chars source)) (omega arith) in
    record { tokens = r.tokens; end = r.end; reading = spelled r.tokens r.end u r.reads }
lexing_by source false e =
    let n : IsUtf8 source → ⊥ = λ u. true≢false (sym (is_utf8-from_IsUtf8 source u) ∙ e) in
    wrong_bytes source n (longest_of source (length source) (λ m h u. n (subst IsUtf8 (take_all m source (omega (arith, h))) u)))

pub lexing_of : (source : List ℕ) → Lexing source
lexing_of source = lexing_by source (is_utf8 source) refl
