-- What readers of forms find, put together.
use Rattle.std.proofs.Common.{◌≡◌, ℕ, ◌+◌, ◌-◌, ◌<◌, ◌≤◌, ◌≢◌, ◌==◌, slice_range, take, drop, drop-cons, add-one, get_or, ◌∙◌, List, [], ◌∷◌, ◌++◌, refl, ap, sym, subst, append_assoc, append-nil, length, length-append, arith, Bool, true, false}
use Rattle.std.specs.Prelude.{Option, Result, Ok, Err, IfErr, IsErrAnd}
use Rattle.std.specs.List.{AllZip}
use Rattle.std.specs.Str.{chars, encode_utf8_all, IsUtf8, IsCharBoundary}
use Rattle.std.proofs.lemmas.Str.{chars-encodes, chars-nil, chars-append, encodes-append, IsCharBoundary-at_seam}
use Rattle.std.proofs.lemmas.List.{append_cancel_right, nil_from_length}
use Rattle.std.proofs.Math.Seq.{take-append_seam}
use Rattle.std.proofs.Math.ListN.{drop_of_length-le}
use Rattle.mrs_spelling.specs.declared.kinds.Kind.{Kind}
use Rattle.mrs_spelling.specs.declared.tokens.Token.{Token}
use Rattle.std.proofs.lemmas.Bool.{eq-eqb, eqb-true}
use Rattle.mrs_spelling.specs.Grammar.{mrs, word}
use Rattle.mrs_spelling.specs.Forms.{only, Class, Form, has, sign, seq, many, token}
use Rattle.mrs_spelling.specs.Reading.{Tok, Outcome, done, stuck, Reads, head, passes, sign_yes, sign_no, seq_stop, seq_go, many_none, many_stop, many_go, token_yes}
use Rattle.mrs_spelling.specs.declared.tokens.Stop.{Stop}
use Rattle.mrs_spelling.specs.declared.tokens.Stop.TheVariants.{Left, NoMemory}
use Rattle.mrs_spelling.specs.Scanning.{size, IsTok, ReadAfter, HasRead, HasStopped, IsStop, AreTokensOf}
use Rattle.mrs_spelling.specs.Inner.Fitting.{Leads}
use Rattle.mrs_spelling.proofs.Moving.{moved}
use Rattle.mrs_spelling.proofs.Completing.{begun}

-- nothing was added
pub read_now : (r : Form) (o : Outcome) (cs rest : List ℕ) (old : List Token) → ((b : List ℕ) → (d : List ℕ) × Reads r b cs [] o d rest) → HasRead r o cs rest old old
read_now r o cs rest old h = record { more = []; grown = sym (append-nil old); after = λ b. record { toks = []; front = (h b).0; reads = (h b).1; same = tt } }

zip_append : (n : ℕ) (ts us : List Token) (es fs : List Tok) → AllZip (IsTok n) ts es → AllZip (IsTok n) us fs → AllZip (IsTok n) (ts ++ us) (es ++ fs)
zip_append n [] us [] fs h k = k
zip_append n (t ∷ ts) us (e ∷ es) fs h k = (h.0, zip_append n ts us es fs h.1 k)
zip_append n [] us (e ∷ es) fs h k = absurd h
zip_append n (t ∷ ts) us [] fs h k = absurd h

same_text : (b cs m mid read : List ℕ) → m ≡ b ++ read → cs ≡ read ++ mid → m ++ mid ≡ b ++ cs
same_text b cs m mid read e f = ap (λ l. l ++ mid) e ∙ append_assoc b read mid ∙ ap (λ l. b ++ l) (sym f)

both_after : (p q r : Form) (o : Outcome) (b cs mid rest : List ℕ) (ts us : List Token)
    → ((m d : List ℕ) (es fs : List Tok) → Reads p b cs es done m mid → Reads q m mid fs o d rest → Reads r b cs (es ++ fs) o d rest)
    → ReadAfter p b cs done mid ts → ((m : List ℕ) → ReadAfter q m mid o rest us) → ReadAfter r b cs o rest (ts ++ us)
both_after p q r o b cs mid rest ts us join u w =
    let v = w u.front in
    let k = moved p b cs u.toks done u.front mid u.reads in
    record {
      toks = u.toks ++ v.toks;
      front = v.front;
      reads = join u.front v.front u.toks v.toks u.reads v.reads;
      same = zip_append (size (b ++ cs)) ts us u.toks v.toks u.same (subst (λ (l : List ℕ). AllZip (IsTok (size l)) us v.toks) (same_text b cs u.front mid k.read k.before k.is) v.same);
    }

-- the one after the other, as a form of both
pub both_read : (p q r : Form) (o : Outcome) (cs mid rest : List ℕ) (old m new : List Token)
    → ((b m d : List ℕ) (es fs : List Tok) → Reads p b cs es done m mid → Reads q m mid fs o d rest → Reads r b cs (es ++ fs) o d rest)
    → HasRead p done cs mid old m → HasRead q o mid rest m new → HasRead r o cs rest old new
both_read p q r o cs mid rest old m new join u v = record {
  more = u.more ++ v.more;
  grown = v.grown ∙ ap (λ l. l ++ v.more) u.grown ∙ append_assoc old u.more v.more;
  after = λ b. both_after p q r o b cs mid rest u.more v.more (join b) (u.after b) v.after;
}

-- as another form
pub read_as : (p r : Form) (o : Outcome) (cs rest : List ℕ) (old new : List Token) → ((b d : List ℕ) (es : List Tok) → Reads p b cs es o d rest → Reads r b cs es o d rest) → HasRead p o cs rest old new → HasRead r o cs rest old new
read_as p r o cs rest old new give u = record { more = u.more; grown = u.grown; after = λ b. (let v = u.after b in record { toks = v.toks; front = v.front; reads = give b v.front v.toks v.reads; same = v.same }) }

pub seq_read : (p q : Form) (o : Outcome) (cs mid rest : List ℕ) (old m new : List Token) → HasRead p done cs mid old m → HasRead q o mid rest m new → HasRead (seq p q) o cs rest old new
seq_read p q o cs mid rest old m new u v = both_read p q (seq p q) o cs mid rest old m new (λ b n d es fs h k. seq_go p q b cs n mid d rest es fs o h k) u v

pub seq_stops : (p q : Form) (cs rest : List ℕ) (old new : List Token) → HasRead p stuck cs rest old new → HasRead (seq p q) stuck cs rest old new
seq_stops p q cs rest old new u = read_as p (seq p q) stuck cs rest old new (λ b d es h. seq_stop p q b cs d rest es h) u

pub at_exit : {A E : Type 0} (P : E → Type 0) (r : Result A E) (e : E) → IsErrAnd r (λ y. y ≡ e) → P e → IfErr r P
at_exit P (Ok x) e is h = tt
at_exit P (Err y) e is h = subst P (sym is) h

pub stops_as : (p r : Form) (cs : List ℕ) (old new : List Token) (e : Stop) → ((b d rest : List ℕ) (es : List Tok) → Reads p b cs es stuck d rest → Reads r b cs es stuck d rest) → HasStopped p cs old new e → HasStopped r cs old new e
stops_as p r cs old new (Left n) give h = (h.0, h.1, read_as p r stuck cs h.0 old new (λ b d es k. give b d h.0 es k) h.2)
stops_as p r cs old new NoMemory give h = tt

pub stops_after : (p q r : Form) (cs mid : List ℕ) (old m new : List Token) (e : Stop)
    → ((b n d rest : List ℕ) (es fs : List Tok) → Reads p b cs es done n mid → Reads q n mid fs stuck d rest → Reads r b cs (es ++ fs) stuck d rest)
    → HasRead p done cs mid old m → HasStopped q mid m new e → HasStopped r cs old new e
stops_after p q r cs mid old m new (Left n) join u h = (h.0, h.1, both_read p q r stuck cs mid h.0 old m new (λ b k d es fs. join b k d h.0 es fs) u h.2)
stops_after p q r cs mid old m new NoMemory join u h = tt

-- a text without its bytes
pub spelled_back : (bs : List ℕ) → IsUtf8 bs → encode_utf8_all (chars bs) ≡ bs
spelled_back bs h = let e : chars bs ≡ h.0 = ap chars (sym h.1.1) ∙ chars-encodes h.0 h.1.0 in ap encode_utf8_all e ∙ h.1.1

pub size_of_text : (bs : List ℕ) → IsUtf8 bs → length bs ≡ size (chars bs)
size_of_text bs h = ap length (sym (spelled_back bs h))

pub sign_read : (x : Class) (cs rest : List ℕ) (c : ℕ) (old : List Token) → cs ≡ c ∷ rest → has x c ≡ true → HasRead (sign x) done cs rest old old
sign_read x cs rest c old e h = read_now (sign x) done cs rest old (λ b. (b ++ c ∷ [], subst (λ (z : List ℕ). Reads (sign x) b z [] done (b ++ c ∷ []) rest) (sym e) (sign_yes x b rest c h)))

pub sign_stops : (x : Class) (text : List ℕ) (old : List Token) → IsUtf8 text → passes x (head (chars text)) ≡ false → HasStopped (sign x) (chars text) old old (Left (length text))
sign_stops x text old u h = (chars text, size_of_text text u, read_now (sign x) stuck (chars text) (chars text) old (λ b. (b, sign_no x b (chars text) h)))

pub not_at : (x : Class) (cs rest : List ℕ) (c : ℕ) → cs ≡ c ∷ rest → has x c ≡ false → passes x (head cs) ≡ false
not_at x cs rest c e h = ap (λ l. passes x (head l)) e ∙ h

pub not_at_end : (x : Class) (cs : List ℕ) → cs ≡ [] → passes x (head cs) ≡ false
not_at_end x cs e = ap (λ l. passes x (head l)) e

-- an item of a repetition, and then the others
pub many_reads : (x : Class) (p : Form) (o : Outcome) (cs mid rest : List ℕ) (old m new : List Token) → passes x (head cs) ≡ true → HasRead p done cs mid old m → HasRead (many x p) o mid rest m new → HasRead (many x p) o cs rest old new
many_reads x p o cs mid rest old m new t u v = both_read p (many x p) (many x p) o cs mid rest old m new (λ b n d es fs h k. many_go x p b cs n mid d rest es fs o t h k) u v

pub many_ends : (x : Class) (p : Form) (cs : List ℕ) (old : List Token) → passes x (head cs) ≡ false → HasRead (many x p) done cs cs old old
many_ends x p cs old h = read_now (many x p) done cs cs old (λ b. (b, many_none x p b cs h))

pub many_stops : (x : Class) (p : Form) (cs rest : List ℕ) (old new : List Token) → passes x (head cs) ≡ true → HasRead p stuck cs rest old new → HasRead (many x p) stuck cs rest old new
many_stops x p cs rest old new t u = read_as p (many x p) stuck cs rest old new (λ b d es h. many_stop x p b cs d rest es t h) u

-- an item of a repetition has characters
pub gets_on : (x : Class) (p : Form) (cs rest : List ℕ) (old new : List Token) → Leads x p → passes x (head cs) ≡ true → HasRead p done cs rest old new → length rest < length cs
gets_on x p cs rest old new l t u =
    let v = u.after [] in
    let w = begun p [] cs v.toks done v.front rest v.reads x l t in
    let m = moved p [] cs v.toks done v.front rest v.reads in
    let e = ap length m.is ∙ length-append m.read rest in
    let f = ap length (sym m.before ∙ w.is) in
    omega (arith, e, f)

pub stops_on : (r : Form) (cs cs' : List ℕ) (old m new : List Token) (e : Stop) → ((rest : List ℕ) → HasRead r stuck cs' rest m new → HasRead r stuck cs rest old new) → HasStopped r cs' m new e → HasStopped r cs old new e
stops_on r cs cs' old m new (Left n) on h = (h.0, h.1, on h.0 h.2)
stops_on r cs cs' old m new NoMemory on h = tt

place_of_token : (b cs : List ℕ) (left : ℕ) → size cs ≡ left → size (b ++ cs) ≡ size b + left
place_of_token b cs left e = ap length (encodes-append b cs) ∙ length-append (encode_utf8_all b) (encode_utf8_all cs) ∙ ap (λ n. size b + n) e

token_after : (k : Kind) (p : Form) (cs rest word : List ℕ) (ts : List Token) (t : Token) {b : List ℕ} → ReadAfter p b cs done rest ts → cs ≡ word ++ rest → k ≡ t.kind → encode_utf8_all word ≡ t.text.now → size cs ≡ t.left → ReadAfter (token k p) b cs done rest (ts ++ t ∷ [])
token_after k p cs rest word ts t {b} u e f w l =
    let m = moved p b cs u.toks done u.front rest u.reads in
    let i : u.front ≡ b ++ word = m.before ∙ ap (λ x. b ++ x) (append_cancel_right m.read word rest (sym m.is ∙ e)) in
    record {
      toks = u.toks ++ record { kind = k; text = word; at = b } ∷ [];
      front = b ++ word;
      reads = token_yes k p b cs word rest u.toks (subst (λ (x : List ℕ). Reads p b cs u.toks done x rest) i u.reads);
      same = zip_append (size (b ++ cs)) ts (t ∷ []) u.toks (record { kind = k; text = word; at = b } ∷ []) u.same (record { kind = f; text = w; place = place_of_token b cs t.left l }, tt);
    }

-- a token of the characters up to the rest
pub token_reads : (k : Kind) (p : Form) (cs rest word : List ℕ) (old m new : List Token) (t : Token) → HasRead p done cs rest old m → cs ≡ word ++ rest → k ≡ t.kind → encode_utf8_all word ≡ t.text.now → size cs ≡ t.left → new ≡ m ++ t ∷ []
    → HasRead (token k p) done cs rest old new
token_reads k p cs rest word old m new t u e f w l n = record {
  more = u.more ++ t ∷ [];
  grown = n ∙ ap (λ x. x ++ t ∷ []) u.grown ∙ append_assoc old u.more (t ∷ []);
  after = λ b. token_after k p cs rest word u.more t (u.after b) e f w l;
}

-- where a text was cut
pub record IsCutAt (text rest : List ℕ) : Type 0 where
  pub front : List ℕ
  pub is : text ≡ encode_utf8_all front ++ rest

pub cut_at : (p : Form) (text rest : List ℕ) (old new : List Token) → IsUtf8 text → IsUtf8 rest → HasRead p done (chars text) (chars rest) old new → IsCutAt text rest
cut_at p text rest old new u v h =
    let a = h.after [] in
    let m = moved p [] (chars text) a.toks done a.front (chars rest) a.reads in
    record { front = m.read; is = sym (spelled_back text u) ∙ ap encode_utf8_all m.is ∙ encodes-append m.read (chars rest) ∙ ap (λ l. encode_utf8_all m.read ++ l) (spelled_back rest v) }

pub cut_length : (text rest : List ℕ) → IsCutAt text rest → length rest ≤ length text
cut_length text rest w = let e = ap length w.is ∙ length-append (encode_utf8_all w.front) rest in omega (arith, e)

pub cut_boundary : (text rest : List ℕ) → IsUtf8 rest → IsCutAt text rest → IsCharBoundary text (length text - length rest)
cut_boundary text rest v w =
    let e = ap length w.is ∙ length-append (encode_utf8_all w.front) rest in
    let n : length (encode_utf8_all w.front) ≡ length text - length rest = omega (arith, e) in
    subst (λ (i : ℕ). IsCharBoundary text i) n (IsCharBoundary-at_seam text (encode_utf8_all w.front) rest w.is v)

seam : (xs ys : List ℕ) → slice_range (xs ++ ys) 0 (length xs) ≡ xs
seam xs ys = let n : length xs - 0 ≡ length xs = omega arith in ap (λ i. take i (xs ++ ys)) n ∙ take-append_seam xs ys

pub cut_front : (text rest cut : List ℕ) → IsCutAt text rest → IsUtf8 cut → cut ≡ slice_range text 0 (length text - length rest) → chars text ≡ chars cut ++ chars rest
cut_front text rest cut w u e =
    let l = ap length w.is ∙ length-append (encode_utf8_all w.front) rest in
    let n : length text - length rest ≡ length (encode_utf8_all w.front) = omega (arith, l) in
    let f : cut ≡ encode_utf8_all w.front = e ∙ ap (λ i. slice_range text 0 i) n ∙ ap (λ x. slice_range x 0 (length (encode_utf8_all w.front))) w.is ∙ seam (encode_utf8_all w.front) rest in
    ap chars (w.is ∙ ap (λ x. x ++ rest) (sym f)) ∙ chars-append cut rest u

-- a terminal, character by character
pub word_step : (ws cs mid : List ℕ) (i c : ℕ) (o : Outcome) (rest : List ℕ) (old new : List Token) → i < length ws → c ≡ get_or ws i 0 → cs ≡ c ∷ mid → HasRead (word (drop (i + 1) ws)) o mid rest old new → HasRead (word (drop i ws)) o cs rest old new
word_step ws cs mid i c o rest old new lt e f h =
    let d : drop i ws ≡ c ∷ drop (i + 1) ws = rw (add-one, e) (drop-cons ws i 0 lt) in
    subst (λ (z : List ℕ). HasRead (word z) o cs rest old new) (sym d)
    (seq_read (sign (only c)) (word (drop (i + 1) ws)) o cs mid rest old old new (sign_read (only c) cs mid c old f (eq-eqb c c refl)) h)

pub word_stuck : (ws text : List ℕ) (i c : ℕ) (old : List Token) → i < length ws → c ≡ get_or ws i 0 → passes (only c) (head (chars text)) ≡ false → HasRead (word (drop i ws)) stuck (chars text) (chars text) old old
word_stuck ws text i c old lt e h =
    let d : drop i ws ≡ c ∷ drop (i + 1) ws = rw (add-one, e) (drop-cons ws i 0 lt) in
    subst (λ (z : List ℕ). HasRead (word z) stuck (chars text) (chars text) old old) (sym d)
    (seq_stops (sign (only c)) (word (drop (i + 1) ws)) (chars text) (chars text) old old (read_now (sign (only c)) stuck (chars text) (chars text) old (λ b. (b, sign_no (only c) b (chars text) h))))

pub word_end : (ws : List ℕ) (i : ℕ) → length ws ≤ i → drop i ws ≡ []
word_end ws i le = drop_of_length-le ws le

pub word_read : (ws : List ℕ) (i : ℕ) (o : Outcome) (cs rest : List ℕ) (old new : List Token) → length ws ≤ i → HasRead (word []) o cs rest old new → HasRead (word (drop i ws)) o cs rest old new
word_read ws i o cs rest old new le h = subst (λ (z : List ℕ). HasRead (word z) o cs rest old new) (sym (word_end ws i le)) h

pub word_stops : (p r : Form) (cs cs' : List ℕ) (old new : List Token) (e : Stop) → ((rest : List ℕ) → HasRead p stuck cs rest old new → HasRead r stuck cs' rest old new) → HasStopped p cs old new e → HasStopped r cs' old new e
word_stops p r cs cs' old new (Left n) on h = (h.0, h.1, on h.0 h.2)
word_stops p r cs cs' old new NoMemory on h = tt

other_by : (b : Bool) (c d : ℕ) → (c == d) ≡ b → c ≢ d → b ≡ false
other_by true c d e ne = absurd (ne (eqb-true c d e))
other_by false c d e ne = refl

other_char : (c d : ℕ) → c ≢ d → has (only d) c ≡ false
other_char c d ne = other_by (c == d) c d refl ne

pub not_this : (cs rest : List ℕ) (c d : ℕ) → cs ≡ c ∷ rest → c ≢ d → passes (only d) (head cs) ≡ false
not_this cs rest c d e ne = ap (λ l. passes (only d) (head l)) e ∙ other_char c d ne

-- all tokens of a text
pub tokens_found : (cs rest : List ℕ) (o : Outcome) (old new : List Token) (stop : Option ℕ) → old ≡ [] → HasRead mrs o cs rest old new → IsStop o rest stop → AreTokensOf cs new stop
tokens_found cs rest o old new stop e h w =
    let a = h.after [] in
    let g : new ≡ h.more = h.grown ∙ ap (λ l. l ++ h.more) e in
    record { toks = a.toks; outcome = o; front = a.front; rest = rest; reads = a.reads; same = subst (λ (ts : List Token). AllZip (IsTok (size cs)) ts a.toks) (sym g) a.same; stop_is = w }

some_read : (cs : List ℕ) → 0 < size cs → 0 < length cs
some_read [] l = absurd (omega (arith, l))
some_read (c ∷ cs) l = omega arith

pub some_chars : (bs : List ℕ) → IsUtf8 bs → 0 < length bs → 0 < length (chars bs)
some_chars bs u l = let e = size_of_text bs u in some_read (chars bs) (omega (arith, e))

pub no_chars : (bs : List ℕ) → length bs ≡ 0 → chars bs ≡ []
no_chars bs e = ap chars (nil_from_length bs e) ∙ chars-nil

pub stopped_left : (r : Form) (cs : List ℕ) (old new : List Token) (e : Stop) (n : ℕ) → e ≡ Left n → HasStopped r cs old new e → (rest : List ℕ) × (n ≡ size rest) × HasRead r stuck cs rest old new
stopped_left r cs old new e n i h = let s = subst (λ (z : Stop). HasStopped r cs old new z) i h in s

-- one character more of a run
pub run_goes_on : (x : Class) (cs mid rest : List ℕ) (c : ℕ) (old : List Token) → cs ≡ c ∷ mid → has x c ≡ true → HasRead (many x (sign x)) done mid rest old old → HasRead (many x (sign x)) done cs rest old old
run_goes_on x cs mid rest c old e t h = many_reads x (sign x) done cs mid rest old old old (ap (λ l. passes x (head l)) e ∙ t) (sign_read x cs mid c old e t) h
