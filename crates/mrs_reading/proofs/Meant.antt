-- What the MRS of a whole text says.
use Rattle.std.proofs.Common.{◌≡◌, ℕ, ◌∙◌, Bool, false, List, [], ◌∷◌, None, Some, true, map, refl, ap, sym, subst}
use Rattle.std.specs.List.{AllZip, Contains}
use lib.Utf8.{scalars}
use Rattle.mrs_model.specs.Meanings.{Meaning}
use Rattle.mrs_model.specs.Valid.{IsValid}
use Rattle.mrs_spelling.specs.declared.tokens.Token.{Token}
use Rattle.mrs_spelling.specs.declared.kinds.Kind.{Kind}
use Rattle.mrs_spelling.specs.Conditions.{AllKeep}
use Rattle.mrs_spelling.specs.Grammar.{mrs}
use Rattle.mrs_spelling.specs.Reading.{Tok, Reads, done}
use Rattle.mrs_spelling.specs.Scanning.{IsTok, size, AreTokensOf}
use Rattle.mrs_reading.specs.Meaning.{Piece, piece_of, IsMark, is_top, is_index, IsMeaningOf}
use Rattle.mrs_reading.specs.Places.{IsText, Says, IsPlace, in_text, in_front, after_text}
use Rattle.mrs_reading.specs.Inner.Stages.{stage_after, begun, outside, kinds_in}
use Rattle.mrs_reading.specs.Inner.Built.{word_at}
use Rattle.mrs_reading.specs.Inner.Reading.{piece_at, IsMarked, unmarked, marked, IsNearly}
use Rattle.mrs_reading.proofs.Staging.{kinds_of, whole_stage, top_among, index_among}
use Rattle.mrs_reading.proofs.Texting.{texts}
use Rattle.mrs_reading.proofs.Validity.{IsFine, fine_pieces, valid}
use Rattle.mrs_reading.proofs.Renumbered.{numbers, renumbering}
use Rattle.mrs_reading.specs.Laws.{IsRenumbering}
use Rattle.mrs_spelling.specs.Faults.{Fault}
use Rattle.std.specs.Str.{IsUtf8, chars}
use Rattle.mrs_reading.proofs.Ending.{whole_spelled, words_same}

same_piece : (n : ℕ) (t : Token) (e : Tok) → IsTok n t e → piece_of e ≡ piece_at t
same_piece n t e h = rw (h.kind, h.text) refl

pieces_same : (n : ℕ) (ts : List Token) (es : List Tok) → AllZip (IsTok n) ts es → map piece_of es ≡ map piece_at ts
pieces_same n [] [] h = refl
pieces_same n [] (e ∷ es) h = absurd h
pieces_same n (t ∷ ts) [] h = absurd h
pieces_same n (t ∷ ts) (e ∷ es) h = let a = same_piece n t e h.0 in let b = pieces_same n ts es h.1 in cc

kinds_pieces : (es : List Tok) → kinds_in (map piece_of es) ≡ kinds_of es
kinds_pieces [] = refl
kinds_pieces (e ∷ es) = ap (λ (z : List Kind). e.kind ∷ z) (kinds_pieces es)

is_mark : (kind : Kind → Bool) (keys : List (List ℕ)) (ps : List Piece) (n : ℕ) → IsMarked kind keys ps n → (((q : Piece) → Contains ps q → kind q.kind ≡ false) → ⊥) → IsMark kind keys ps n
is_mark kind keys ps n (unmarked h) k = absurd (k h)
is_mark kind keys ps n (marked m) k = m

-- the MRS says what the characters say
pub says : (cs : List ℕ) (ts : List Token) (m : Meaning) → AreTokensOf cs ts None → AllKeep (map word_at ts) → IsNearly (map piece_at ts) m → Says m cs
says cs ts m h k n =
    let a : map piece_of h.toks ≡ map piece_at ts = pieces_same (size cs) ts h.toks h.same in
    let q : IsNearly (map piece_of h.toks) m = subst (λ (z : List Piece). IsNearly z m) (sym a) n in
    let r : Reads mrs [] cs h.toks done h.front h.rest = subst (λ o. Reads mrs [] cs h.toks o h.front h.rest) h.stop_is.0 h.reads in
    let s : stage_after (Some begun) (kinds_in (map piece_of h.toks)) ≡ Some outside = ap (stage_after (Some begun)) (kinds_pieces h.toks) ∙ whole_stage cs h.toks h.front h.rest r in record {
      toks = h.toks;
      spelled = whole_spelled cs ts h;
      keeps = subst AllKeep (sym (words_same (size cs) ts h.toks h.same)) k;
      meaning = record {
        keys = q.keys;
        distinct = q.distinct;
        all = q.all;
        even = q.even;
        vars = q.vars;
        top = is_mark is_top q.keys (map piece_of h.toks) m.top q.top (top_among (map piece_of h.toks) s);
        index = is_mark is_index q.keys (map piece_of h.toks) m.index q.index (index_among (map piece_of h.toks) begun refl s);
        eps = q.eps;
        hcons = q.hcons;
        icons = q.icons;
      };
    }

pub says_text : (m : Meaning) (cs : List ℕ) → Says m cs → IsText cs
says_text m cs h = record { toks = h.toks; spelled = h.spelled; keeps = h.keeps }

-- the stages and the names of its tokens
whole : (m : Meaning) (cs : List ℕ) (h : Says m cs) → stage_after (Some begun) (kinds_in (map piece_of h.toks)) ≡ Some outside
whole m cs h = ap (stage_after (Some begun)) (kinds_pieces h.toks) ∙ whole_stage cs h.toks cs [] h.spelled.reads

fine : (m : Meaning) (cs : List ℕ) → scalars cs ≡ true → (h : Says m cs) → (p : Piece) → Contains (map piece_of h.toks) p → IsFine p
fine m cs e h = fine_pieces h.toks (texts cs h.toks done cs [] h.spelled.reads e)

-- and it is valid
pub says_valid : (m : Meaning) (cs : List ℕ) → scalars cs ≡ true → Says m cs → IsValid m
says_valid m cs e h = valid (map piece_of h.toks) m h.meaning (whole m cs h) (fine m cs e h)

-- two MRSs of one text
pub one_text : (m k : Meaning) (cs : List ℕ) → scalars cs ≡ true → (h : Says m cs) (g : Says k cs) → h.toks ≡ g.toks → (to : List ℕ) × IsRenumbering m k to
one_text m k cs e h g f =
    let n : IsMeaningOf (map piece_of h.toks) k = subst (λ (z : List Tok). IsMeaningOf (map piece_of z) k) (sym f) g.meaning in
    (numbers h.meaning.keys n.keys, renumbering (map piece_of h.toks) m k h.meaning n (whole m cs h) (fine m cs e h))

-- no fault stands in a text
pub no_place : (line : List ℕ) (m : Meaning) (at : ℕ) → IsUtf8 line → ((front : List ℕ) → Fault (chars line) front → ⊥) → IsPlace line at → ⊥
no_place line m _ u f (in_text front v h) = f front h.stands
no_place line m _ u f (in_front n front v w h) = v u
no_place line m _ u f (after_text n v w h) = v u
