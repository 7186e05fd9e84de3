-- The names among the tokens of a text.
use Rattle.std.proofs.Common.{ℕ, ◌≡◌, ◌+◌, ◌-◌, ◌<◌, Bool, true, false, List, [], ◌∷◌, ◌++◌, length, length-append, map, take, drop, Option, Some, append_assoc, refl, sym, ◌∙◌, ap, subst, arith}
use Rattle.std.specs.Prelude.{encode_utf8_all, ◌==◌, if◌then◌else◌}
use Rattle.std.specs.List.{list_all}
use Rattle.std.specs.Str.{chars, IsUtf8}
use Rattle.std.proofs.Math.Utf8.{scalar, scalars, encode}
use Rattle.std.proofs.lemmas.Bool.{and_parts, eqb-true}
use Rattle.std.proofs.lemmas.Str.{encodes-chars, encodes-append, scalars-chars, chars-encodes}
use Rattle.tdl_lexer.specs.declared.TokenKind.{TokenKind}
use Rattle.tdl_lexer.specs.declared.TokenKind.TheVariants.{Name}
use Rattle.tdl_lexer.specs.declared.Token.{Token}
use Rattle.tdl_lexer.specs.declared.Mode.{Mode}
use Rattle.tdl_lexer.specs.declared.LexFault.{LexFault}
use Rattle.tdl_lexer.specs.Characters.{is_name, width, AllPass, IsName}
use Rattle.tdl_lexer.specs.Pieces.{Mark, defined, below, added, and, avm_opens, avm_closes, list_opens, list_closes, diff_opens, diff_closes, comma, dot, dots, Piece, blank, line, block, docstring, text, name, symbol, coref, directive, letter_set, prefix, suffix, group, mark}
use Rattle.tdl_lexer.specs.Readings.{Reads, ends, passes, token, stuck, Tokens, spelled as lexed, not_utf8, unmarked, mark_width}
use Rattle.tdl_lexer.specs.Spelling.{value_of}
use Rattle.tdl_reader.specs.Toks.{Tok, value, tok_of, toks_of, IsKind}
use Rattle.mrs_lines.proofs.Names.{IsTdlName}

-- one or more name characters
pub record IsSpelled (cs : List ℕ) : Type 0 where
  pub filled : 0 < length cs
  pub signs : list_all is_name cs ≡ true
  pub are_scalars : scalars cs ≡ true

abbrev NameOf : Option TokenKind → List ℕ → List ℕ → Type 0
NameOf (Some Name) spelled rest = IsName spelled rest
NameOf _ spelled rest = Unit {0}

mark_named : (kind : TokenKind) (spelled rest : List ℕ) → Mark kind spelled → NameOf (Some kind) spelled rest
mark_named kind spelled rest defined = tt
mark_named kind spelled rest below = tt
mark_named kind spelled rest added = tt
mark_named kind spelled rest and = tt
mark_named kind spelled rest avm_opens = tt
mark_named kind spelled rest avm_closes = tt
mark_named kind spelled rest list_opens = tt
mark_named kind spelled rest list_closes = tt
mark_named kind spelled rest diff_opens = tt
mark_named kind spelled rest diff_closes = tt
mark_named kind spelled rest comma = tt
mark_named kind spelled rest dot = tt
mark_named kind spelled rest dots = tt

piece_named : (mode next : Mode) (spelled rest : List ℕ) (what : Option TokenKind) → Piece mode spelled rest what next → NameOf what spelled rest
piece_named mode next spelled rest what (blank _ c _ h) = tt
piece_named mode next spelled rest what (line _ body _ h) = tt
piece_named mode next spelled rest what (block _ body _ h) = tt
piece_named mode next spelled rest what (docstring _ body _ h) = tt
piece_named mode next spelled rest what (text _ body _ h k) = tt
piece_named mode next spelled rest what (name _ _ _ h) = h
piece_named mode next spelled rest what (symbol _ _ _ h) = tt
piece_named mode next spelled rest what (coref _ _ _ h) = tt
piece_named mode next spelled rest what (directive _ _ _ h k) = tt
piece_named mode next spelled rest what (letter_set _ _) = tt
piece_named mode next spelled rest what (prefix _ _) = tt
piece_named mode next spelled rest what (suffix _ _) = tt
piece_named mode next spelled rest what (group _ body _ h k) = tt
piece_named mode next spelled rest what (mark _ kind _ _ m h) = mark_named kind spelled rest m

passes_all : (cs : List ℕ) → AllPass is_name cs → list_all is_name cs ≡ true
passes_all [] h = refl
passes_all (c ∷ cs) h = rw (h.0, passes_all cs h.1) refl

abbrev GoodBy : TokenKind → List ℕ → Type 0
GoodBy Name cs = IsSpelled cs
GoodBy _ cs = Unit {0}

good_by : (kind : TokenKind) (cs rest : List ℕ) → scalars cs ≡ true → NameOf (Some kind) cs rest → GoodBy kind cs
good_by Name cs rest e h = record { filled = h.0; signs = passes_all cs h.1.0; are_scalars = e }
good_by kind cs rest e h = tt

abbrev pub Good : Tok → Type 0
Good t = GoodBy t.kind t.spelled

abbrev pub AllGood : List Tok → Type 0
AllGood [] = Unit {0}
AllGood (t ∷ ts) = Good t × AllGood ts

pub good_parts : (ts us : List Tok) → AllGood (ts ++ us) → AllGood ts × AllGood us
good_parts [] us h = (tt, h)
good_parts (t ∷ ts) us h = let p = good_parts ts us h.1 in ((h.0, p.0), p.1)

-- the value of a name
pub value_named : (t : Tok) → IsKind Name t → Good t → IsTdlName (value t)
value_named t k good =
    let s : IsSpelled t.spelled = subst (λ kind. GoodBy kind t.spelled) k good in
    record { word = t.spelled; filled = s.filled; signs = s.signs; are_scalars = s.are_scalars; is = ap (λ kind. encode_utf8_all (value_of kind t.spelled)) k }

scalars_right : (a b : List ℕ) → scalars (a ++ b) ≡ true → scalars b ≡ true
scalars_right [] b h = h
scalars_right (c ∷ a) b h = scalars_right a b (and_parts _ _ h).1

scalars_left : (a b : List ℕ) → scalars (a ++ b) ≡ true → scalars a ≡ true
scalars_left [] b h = refl
scalars_left (c ∷ a) b h = let p = and_parts (scalar c) (scalars (a ++ b)) h in rw (p.0, scalars_left a b p.1) refl

drop_front : (a b : List ℕ) → drop (length a) (a ++ b) ≡ b
drop_front [] b = refl
drop_front (x ∷ a) b = drop_front a b

take_front : (a b : List ℕ) → take (length a) (a ++ b) ≡ a
take_front [] b = refl
take_front (x ∷ a) b = ap (λ l. x ∷ l) (take_front a b)

width-append : (a b : List ℕ) → width (a ++ b) ≡ width a + width b
width-append a b = ap length (encodes-append a b) ∙ length-append (encode_utf8_all a) (encode_utf8_all b)

module _ (source : List ℕ) (utf8 : IsUtf8 source) where
  spells_back : (front spells rest : List ℕ) (at to : ℕ) → chars source ≡ front ++ (spells ++ rest) → at ≡ width front → to ≡ at + width spells → chars (take (to - at) (drop at source)) ≡ spells
  spells_back front spells rest at to e a t =
      let bytes : source ≡ encode_utf8_all front ++ (encode_utf8_all spells ++ encode_utf8_all rest)
      = sym (encodes-chars source utf8) ∙ ap encode_utf8_all e ∙ encodes-append front (spells ++ rest) ∙ ap (λ l. encode_utf8_all front ++ l) (encodes-append spells rest) in
      let after : drop at source ≡ encode_utf8_all spells ++ encode_utf8_all rest = (λ i. drop (a i) (bytes i)) ∙ drop_front (encode_utf8_all front) (encode_utf8_all spells ++ encode_utf8_all rest) in
      let size : to - at ≡ width spells = omega (arith, t) in
      let taken : take (to - at) (drop at source) ≡ encode_utf8_all spells = (λ i. take (size i) (after i)) ∙ take_front (encode_utf8_all spells) (encode_utf8_all rest) in
      let all : scalars (front ++ (spells ++ rest)) ≡ true = ap scalars (sym e) ∙ scalars-chars source utf8 in
      let own : scalars spells ≡ true = scalars_left spells rest (scalars_right front (spells ++ rest) all) in
      ap chars taken ∙ chars-encodes spells own

  own_scalars : (front spells rest : List ℕ) → chars source ≡ front ++ (spells ++ rest) → scalars spells ≡ true
  own_scalars front spells rest e = scalars_left spells rest (scalars_right front (spells ++ rest) (ap scalars (sym e) ∙ scalars-chars source utf8))

  reads_good : (mode : Mode) (at : ℕ) (cs : List ℕ) (ts : List Token) (end : Option LexFault) → Reads mode at cs ts end → (front : List ℕ) → chars source ≡ front ++ cs → at ≡ width front → AllGood (map (tok_of source) ts)
  reads_good mode at cs ts end (ends _ _) front e a = tt
  reads_good mode at cs ts end (passes _ next _ _ p rest _ _ s piece more) front e a =
      let there : chars source ≡ (front ++ p) ++ rest = e ∙ ap (λ l. front ++ l) s ∙ sym (append_assoc front p rest) in
      reads_good next (at + width p) rest ts end more (front ++ p) there (omega (arith, a, width-append front p))
  reads_good mode at cs _ end (token _ next _ _ p rest kind ts _ s piece more) front e a =
      let here : chars source ≡ front ++ (p ++ rest) = e ∙ ap (λ l. front ++ l) s in
      let there : chars source ≡ (front ++ p) ++ rest = here ∙ sym (append_assoc front p rest) in
      let same : chars (take ((at + width p) - at) (drop at source)) ≡ p = spells_back front p rest at (at + width p) here a refl in
      (subst (GoodBy kind) (sym same) (good_by kind p rest (own_scalars front p rest here) (piece_named mode next p rest (Some kind) piece)), reads_good next (at + width p) rest ts end more (front ++ p) there (omega (arith, a, width-append front p)))
  reads_good mode at cs ts end (stuck _ _ c ds none) front e a = tt

-- the characters before those that are read: a byte order mark or nothing
record Marked (cs : List ℕ) : Type 0 where
  pub front : List ℕ
  pub split : cs ≡ front ++ unmarked cs
  pub size : mark_width cs ≡ width front

marked_by : (c : ℕ) (cs : List ℕ) (b : Bool) → (c == 0xFEFF) ≡ b → (front : List ℕ) × (c ∷ cs ≡ front ++ (if b then cs else c ∷ cs)) × ((if b then 3 else 0) ≡ width front)
unfolding encode
marked_by c cs true e = (0xFEFF ∷ [], ap (λ d. d ∷ cs) (eqb-true c 0xFEFF e), refl)
marked_by c cs false e = ([], refl, refl)

marked : (cs : List ℕ) → Marked cs
marked [] = record { front = []; split = refl; size = refl }
marked (c ∷ cs) = let m = marked_by c cs (c == 0xFEFF) refl in record { front = m.0; split = m.1; size = m.2 }

-- all tokens of a text
pub tokens_good : (source : List ℕ) (ts : List Token) (end : Option LexFault) → Tokens source ts end → AllGood (toks_of source ts)
tokens_good source ts end (lexed _ _ utf8 reads) = let m = marked (chars source) in reads_good source utf8 _ _ _ ts end reads m.front m.split m.size
tokens_good source ts end (not_utf8 at wrong valid) = tt
