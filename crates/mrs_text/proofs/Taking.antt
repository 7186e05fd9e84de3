-- A form reads characters up to some that are left, whatever stands before them.
use Rattle.std.proofs.Common.{◌≡◌, ℕ, ◌∙◌, true, false, List, [], ◌∷◌, ◌++◌, map, refl, ap, sym, subst, append-nil}
use Rattle.std.specs.List.{All}
use Rattle.std.specs.Str.{encode_utf8_all}
use Rattle.std.proofs.lemmas.List.{append_cancel_right}
use Rattle.std.proofs.lemmas.List.Elements.{All-head, All-tail}
use Rattle.mrs_spelling.specs.declared.kinds.Kind.{Kind}
use Rattle.mrs_spelling.specs.Forms.{Class, has, Form, nothing, sign, seq, many, either, token}
use Rattle.mrs_spelling.specs.Grammar.{run}
use Rattle.mrs_spelling.specs.Reading.{Tok, done, head, passes, Reads, reads_nothing, sign_yes, seq_go, many_none, many_go, either_yes, either_no, token_yes}
use Rattle.mrs_spelling.proofs.Moving.{moved}
use Rattle.mrs_reading.specs.Meaning.{Piece, piece_of}

pub record Read (r : Form) (b cs rest : List ℕ) (ps : List Piece) : Type 0 where
  pub toks : List Tok
  pub front : List ℕ
  pub reads : Reads r b cs toks done front rest
  pub pieces : map piece_of toks ≡ ps

abbrev pub Takes : Form → List ℕ → List ℕ → List Piece → Type 0
Takes r cs rest ps = (b : List ℕ) → Read r b cs rest ps

pub map_join : {A B : Type 0} (f : A → B) (xs ys : List A) → map f (xs ++ ys) ≡ map f xs ++ map f ys
map_join f [] ys = refl
map_join f (x ∷ xs) ys = ap (λ l. f x ∷ l) (map_join f xs ys)

joined_pieces : (es fs : List Tok) (ps qs : List Piece) → map piece_of es ≡ ps → map piece_of fs ≡ qs → map piece_of (es ++ fs) ≡ ps ++ qs
joined_pieces es fs ps qs h k = map_join piece_of es fs ∙ ap (λ z. z ++ map piece_of fs) h ∙ ap (λ z. ps ++ z) k

pub take_nothing : (cs : List ℕ) → Takes nothing cs cs []
take_nothing cs = λ b. record { toks = []; front = b; reads = reads_nothing b cs; pieces = refl }

pub take_sign : (x : Class) (c : ℕ) (cs : List ℕ) → has x c ≡ true → Takes (sign x) (c ∷ cs) cs []
take_sign x c cs h = λ b. record { toks = []; front = b ++ c ∷ []; reads = sign_yes x b cs c h; pieces = refl }

pub take_seq : (p q : Form) (cs mid rest : List ℕ) (ps qs : List Piece) → Takes p cs mid ps → Takes q mid rest qs → Takes (seq p q) cs rest (ps ++ qs)
take_seq p q cs mid rest ps qs h k = λ b. (let u = h b in let v = k u.front in record {
  toks = u.toks ++ v.toks;
  front = v.front;
  reads = seq_go p q b cs u.front mid v.front rest u.toks v.toks done u.reads v.reads;
  pieces = joined_pieces u.toks v.toks ps qs u.pieces v.pieces;
})

-- where the second has no token
pub take_then : (p q : Form) (cs mid rest : List ℕ) (ps : List Piece) → Takes p cs mid ps → Takes q mid rest [] → Takes (seq p q) cs rest ps
take_then p q cs mid rest ps h k = subst (Takes (seq p q) cs rest) (append-nil ps) (take_seq p q cs mid rest ps [] h k)

pub take_none : (x : Class) (p : Form) (cs : List ℕ) → passes x (head cs) ≡ false → Takes (many x p) cs cs []
take_none x p cs h = λ b. record { toks = []; front = b; reads = many_none x p b cs h; pieces = refl }

pub take_more : (x : Class) (p : Form) (cs mid rest : List ℕ) (ps qs : List Piece) → passes x (head cs) ≡ true → Takes p cs mid ps → Takes (many x p) mid rest qs → Takes (many x p) cs rest (ps ++ qs)
take_more x p cs mid rest ps qs t h k = λ b. (let u = h b in let v = k u.front in record {
  toks = u.toks ++ v.toks;
  front = v.front;
  reads = many_go x p b cs u.front mid v.front rest u.toks v.toks done t u.reads v.reads;
  pieces = joined_pieces u.toks v.toks ps qs u.pieces v.pieces;
})

pub take_first : (x : Class) (p q : Form) (cs rest : List ℕ) (ps : List Piece) → passes x (head cs) ≡ true → Takes p cs rest ps → Takes (either x p q) cs rest ps
take_first x p q cs rest ps t h = λ b. (let u = h b in record { toks = u.toks; front = u.front; reads = either_yes x p q b cs u.front rest u.toks done t u.reads; pieces = u.pieces })

pub take_second : (x : Class) (p q : Form) (cs rest : List ℕ) (ps : List Piece) → passes x (head cs) ≡ false → Takes q cs rest ps → Takes (either x p q) cs rest ps
take_second x p q cs rest ps t h = λ b. (let u = h b in record { toks = u.toks; front = u.front; reads = either_no x p q b cs u.front rest u.toks done t u.reads; pieces = u.pieces })

pub take_token : (k : Kind) (p : Form) (s rest : List ℕ) → Takes p (s ++ rest) rest [] → Takes (token k p) (s ++ rest) rest (record { kind = k; text = encode_utf8_all s } ∷ [])
take_token k p s rest h = λ b. (let u = h b in
    let w = moved p b (s ++ rest) u.toks done u.front rest u.reads in
    let e : s ≡ w.read = append_cancel_right s w.read rest w.is in
    let f : u.front ≡ b ++ s = w.before ∙ ap (λ z. b ++ z) (sym e) in
    record {
      toks = u.toks ++ record { kind = k; text = s; at = b } ∷ [];
      front = b ++ s;
      reads = token_yes k p b (s ++ rest) s rest u.toks (subst (λ (z : List ℕ). Reads p b (s ++ rest) u.toks done z rest) f u.reads);
      pieces = joined_pieces u.toks (record { kind = k; text = s; at = b } ∷ []) [] (record { kind = k; text = encode_utf8_all s } ∷ []) u.pieces refl;
    })

-- as many characters of the class as there are
pub take_all : (x : Class) (s rest : List ℕ) → All (λ c. has x c ≡ true) s → passes x (head rest) ≡ false → Takes (many x (sign x)) (s ++ rest) rest []
take_all x [] rest h e = take_none x (sign x) rest e
take_all x (c ∷ s) rest h e =
    let t = All-head (λ c. has x c ≡ true) c s h in
    take_more x (sign x) (c ∷ (s ++ rest)) (s ++ rest) rest [] [] t (take_sign x c (s ++ rest) t) (take_all x s rest (All-tail (λ c. has x c ≡ true) c s h) e)

pub take_run : (x : Class) (c : ℕ) (s rest : List ℕ) → All (λ c. has x c ≡ true) (c ∷ s) → passes x (head rest) ≡ false → Takes (run x) (c ∷ (s ++ rest)) rest []
take_run x c s rest h e =
    take_seq (sign x) (many x (sign x)) (c ∷ (s ++ rest)) (s ++ rest) rest [] [] (take_sign x c (s ++ rest) (All-head (λ c. has x c ≡ true) c s h)) (take_all x s rest (All-tail (λ c. has x c ≡ true) c s h) e)
