-- A text has one reading.
use Rattle.std.proofs.Common.{◌≡◌, ℕ, ◌+◌, List, [], ◌++◌, Option, Some, None, sym, ◌∙◌, refl, ap}
use Rattle.std.proofs.lemmas.List.{append_cancel_right}
use Rattle.std.proofs.lemmas.Option.{same_Some, none-some}
use Rattle.tdl_lexer.specs.declared.TokenKind.{TokenKind}
use Rattle.tdl_lexer.specs.declared.Token.{Token}
use Rattle.tdl_lexer.specs.declared.LexFault.{LexFault}
use Rattle.tdl_lexer.specs.declared.Mode.{Mode}
use Rattle.tdl_lexer.specs.declared.Mode.TheVariants.{Plain}
use Rattle.tdl_lexer.specs.Characters.{width}
use Rattle.tdl_lexer.specs.Pieces.{Piece}
use Rattle.tdl_lexer.specs.Readings.{Reads, ends, passes, token, stuck, Tokens, spelled, not_utf8}
use Rattle.tdl_lexer.specs.Scan.{Cut, piece_at}
use Rattle.tdl_lexer.proofs.Complete.{complete}
use Rattle.std.proofs.lemmas.Str.{utf8_valid_len-IsValidUpTo}
use Rattle.tdl_lexer.specs.declared.LexFault.TheVariants.{NotUtf8}

-- two pieces at the front of a text are one
record Same (p q : List ℕ) (c d : Cut) : Type 0 where
  spelled : p ≡ q
  cut : c ≡ d

one_piece : (mode m n : Mode) (cs p q r s : List ℕ) (v w : Option TokenKind) → cs ≡ p ++ r → Piece mode p r v m → cs ≡ q ++ s → Piece mode q s w n → Same p q (record { what = v; next = m; rest = r }) (record { what = w; next = n; rest = s })
one_piece mode m n cs p q r s v w e h f k =
    let a = ap (piece_at mode) e ∙ complete mode m p r v h in
    let b = ap (piece_at mode) f ∙ complete mode n q s w k in
    let same = same_Some _ _ (sym a ∙ b) in
    let rests : r ≡ s = ap (λ (c : Cut). c.rest) same in
    record { spelled = append_cancel_right p q s (ap (λ l. p ++ l) (sym rests) ∙ (sym e ∙ f)); cut = same }

no_piece : (mode m : Mode) (p r : List ℕ) (v : Option TokenKind) → [] ≡ p ++ r → Piece mode p r v m → ⊥
no_piece mode m p r v e h = none-some _ (ap (piece_at mode) e ∙ complete mode m p r v h)

-- what follows two pieces is one reading
follows : (m n : Mode) (at : ℕ) (p q r s : List ℕ) (v w : Option TokenKind) (us : List Token) (e : Option LexFault) → Same p q (record { what = v; next = m; rest = r }) (record { what = w; next = n; rest = s }) → Reads n (at + width q) s us e → Reads m (at + width p) r us e
follows m n at p q r s v w us e same h =
    let rests : r ≡ s = ap (λ (c : Cut). c.rest) same.cut in
    let nexts : m ≡ n = ap (λ (c : Cut). c.next) same.cut in
    rw (same.spelled, rests, nexts) h

pub one_reading : (mode : Mode) (at : ℕ) (cs : List ℕ) (ts us : List Token) (d e : Option LexFault) → Reads mode at cs ts d → Reads mode at cs us e → (ts ≡ us) × (d ≡ e)
one_reading mode at _ _ _ _ _ (ends _ _) (ends _ _) = (refl, refl)
one_reading mode at _ _ _ _ _ (ends _ _) (passes _ n _ _ p r us e x k y) = absurd (no_piece mode n p r None x k)
one_reading mode at _ _ _ _ _ (ends _ _) (token _ n _ _ p r kind us e x k y) = absurd (no_piece mode n p r (Some kind) x k)
one_reading mode at _ _ _ _ _ (passes _ n _ _ p r us e x k y) (ends _ _) = absurd (no_piece mode n p r None x k)
one_reading mode at _ _ _ _ _ (token _ n _ _ p r kind us e x k y) (ends _ _) = absurd (no_piece mode n p r (Some kind) x k)
one_reading mode at cs _ _ _ _ (passes _ m _ _ p r ts d x k y) (passes _ n _ _ q s us e z l w) = one_reading m (at + width p) r ts us d e y (follows m n at p q r s None None us e (one_piece mode m n cs p q r s None None x k z l) w)
one_reading mode at cs _ _ _ _ (passes _ m _ _ p r ts d x k y) (token _ n _ _ q s kind us e z l w) = absurd (none-some _ (ap (λ (c : Cut). c.what) (one_piece mode m n cs p q r s None (Some kind) x k z l).cut))
one_reading mode at cs _ _ _ _ (token _ m _ _ p r kind ts d x k y) (passes _ n _ _ q s us e z l w) = absurd (none-some _ (sym (ap (λ (c : Cut). c.what) (one_piece mode m n cs p q r s (Some kind) None x k z l).cut)))
one_reading mode at cs _ _ _ _ (token _ m _ _ p r i ts d x k y) (token _ n _ _ q s j us e z l w) =
    let same = one_piece mode m n cs p q r s (Some i) (Some j) x k z l in
    let next = one_reading m (at + width p) r ts us d e y (follows m n at p q r s (Some i) (Some j) us e same w) in
    let kinds : i ≡ j = same_Some i j (ap (λ (c : Cut). c.what) same.cut) in
    (rw (kinds, same.spelled, next.0) refl, next.1)
one_reading mode at _ _ _ _ _ (stuck _ _ c cs n) (stuck _ _ _ _ _) = (refl, refl)
one_reading mode at _ _ _ _ _ (stuck _ _ c cs n) (passes _ m _ _ q s us e z l w) = absurd (n q s None m z l)
one_reading mode at _ _ _ _ _ (stuck _ _ c cs n) (token _ m _ _ q s j us e z l w) = absurd (n q s (Some j) m z l)
one_reading mode at _ _ _ _ _ (passes _ m _ _ q s us e z l w) (stuck _ _ c cs n) = absurd (n q s None m z l)
one_reading mode at _ _ _ _ _ (token _ m _ _ q s j us e z l w) (stuck _ _ c cs n) = absurd (n q s (Some j) m z l)

pub one_lexing : (source : List ℕ) (ts us : List Token) (d e : Option LexFault) → Tokens source ts d → Tokens source us e → (ts ≡ us) × (d ≡ e)
one_lexing source _ _ _ _ (spelled ts d u x) (spelled us e v y) = one_reading Plain _ _ ts us d e x y
one_lexing source _ _ _ _ (spelled ts d u x) (not_utf8 n v y) = absurd (v u)
one_lexing source _ _ _ _ (not_utf8 m u x) (spelled us e v y) = absurd (u v)
one_lexing source _ _ _ _ (not_utf8 m u x) (not_utf8 n v y) = (refl, ap (λ at. Some (NotUtf8 at)) (sym (utf8_valid_len-IsValidUpTo source m x) ∙ utf8_valid_len-IsValidUpTo source n y))
