-- What leads from the characters that a form has read to the end of it.
use Rattle.std.proofs.Common.{◌≡◌, ℕ, length, length-append, true, false, ◌∙◌, List, [], ◌∷◌, ◌++◌, Option, refl, ap, sym, subst, append_assoc, append-nil, arith}
use Rattle.std.proofs.lemmas.Bool.{false≢true}
use Rattle.std.proofs.lemmas.List.{append_cancel_left}
use Rattle.mrs_spelling.specs.Inner.Fitting.{example, sample, first_of, Leads, Fits}
use Rattle.mrs_spelling.specs.Forms.{Class, has, Form, nothing, sign, seq, many, either, token}
use Rattle.mrs_spelling.specs.Reading.{Tok, Outcome, done, stuck, head, passes, Reads, reads_nothing, sign_yes, sign_no, seq_stop, seq_go, many_none, many_stop, many_go, either_yes, either_no, token_yes, token_no}
use Rattle.mrs_spelling.proofs.Moving.{Moved, moved, joined}

-- what a form reads of its sample
pub record Sampled (r : Form) (b : List ℕ) (next : Option ℕ) (rest : List ℕ) : Type 0 where
  pub toks : List Tok
  pub reads : Reads r b (sample r ++ rest) toks done (b ++ sample r) rest
  pub first : head (sample r ++ rest) ≡ first_of r next

pub sampled : (r : Form) (b : List ℕ) (next : Option ℕ) (rest : List ℕ) → Fits r next → head rest ≡ next → Sampled r b next rest
sampled nothing b next rest f h = record { toks = []; reads = rw (append-nil b) (reads_nothing b rest); first = h }
sampled (sign x) b next rest f h = record { toks = []; reads = sign_yes x b rest (example x) f; first = refl }
sampled (seq p q) b next rest f h =
    let v = sampled q (b ++ sample p) next rest f.1 h in
    let u = sampled p b (first_of q next) (sample q ++ rest) f.0 v.first in
    record {
      toks = u.toks ++ v.toks;
      reads = rw (append_assoc (sample p) (sample q) rest, ← append_assoc b (sample p) (sample q))
          (seq_go p q b (sample p ++ (sample q ++ rest)) (b ++ sample p) (sample q ++ rest) ((b ++ sample p) ++ sample q) rest u.toks v.toks done u.reads v.reads);
      first = rw (append_assoc (sample p) (sample q) rest) u.first;
    }
sampled (many x p) b next rest f h = record { toks = []; reads = rw (append-nil b) (many_none x p b rest (ap (passes x) h ∙ f.0)); first = h }
sampled (either x p q) b next rest f h =
    let u = sampled q b next rest f.3 h in
    record { toks = u.toks; reads = either_no x p q b (sample q ++ rest) (b ++ sample q) rest u.toks done (ap (passes x) u.first ∙ f.0) u.reads; first = u.first }
sampled (token k p) b next rest f h =
    let u = sampled p b next rest f h in
    record { toks = u.toks ++ record { kind = k; text = sample p; at = b } ∷ []; reads = token_yes k p b (sample p ++ rest) (sample p) rest u.toks u.reads; first = u.first }

never : (b s : List ℕ) (c : ℕ) → b ≡ b ++ c ∷ s → ⊥
never b s c e = let l = ap length e in let n = length-append b (c ∷ s) in omega (arith, l, n)

same_end : (b d s t : List ℕ) → d ≡ b ++ s → d ≡ b ++ t → s ≡ t
same_end b d s t e f = append_cancel_left b s t (sym e ∙ f)

-- what a form reads of other characters that begin alike
pub same_read : (r : Form) (b cs : List ℕ) (es : List Tok) (o : Outcome) (d rest s : List ℕ) → Reads r b cs es o d rest → d ≡ b ++ s → (other : List ℕ) → head other ≡ head rest → Reads r b (s ++ other) es o d other
same_read r b cs es o d rest s h e other g =
    let u = moved r b cs es o d rest h in
    subst (λ (z : List ℕ). Reads r b (z ++ other) es o d other) (same_end b d u.read s u.before e) (u.same other g)

-- a form that begins with a class reads a character of it
pub record Begun (b d : List ℕ) : Type 0 where
  pub first : ℕ
  pub others : List ℕ
  pub is : d ≡ b ++ first ∷ others

leads_no : (x y : Class) (cs : List ℕ) → ((c : ℕ) → has x c ≡ true → has y c ≡ true) → passes x (head cs) ≡ true → passes y (head cs) ≡ false → ⊥
leads_no x y [] l t h = false≢true t
leads_no x y (c ∷ cs) l t h = false≢true (sym h ∙ l c t)

pub begun : (r : Form) (b cs : List ℕ) (es : List Tok) (o : Outcome) (d rest : List ℕ) → Reads r b cs es o d rest → (x : Class) → Leads x r → passes x (head cs) ≡ true → Begun b d
begun _ _ _ _ _ _ _ (reads_nothing b cs) x l t = absurd l
begun _ _ _ _ _ _ _ (sign_yes y b cs c h) x l t = record { first = c; others = []; is = refl }
begun _ _ _ _ _ _ _ (sign_no y b cs h) x l t = absurd (leads_no x y cs l t h)
begun _ _ _ _ _ _ _ (seq_stop p q b cs d rest es h) x l t = begun p b cs es stuck d rest h x l t
begun _ _ _ _ _ _ _ (seq_go p q b cs m mid d rest es fs o h k) x l t =
    let u = begun p b cs es done m mid h x l t in
    let v = moved q m mid fs o d rest k in
    record { first = u.first; others = u.others ++ v.read; is = joined b m d (u.first ∷ u.others) v.read u.is v.before }
begun _ _ _ _ _ _ _ (many_none y p b cs h) x l t = absurd l
begun _ _ _ _ _ _ _ (many_stop y p b cs d rest es g h) x l t = absurd l
begun _ _ _ _ _ _ _ (many_go y p b cs m mid d rest es fs o g h k) x l t = absurd l
begun _ _ _ _ _ _ _ (either_yes y p q b cs d rest es o g h) x l t = begun p b cs es o d rest h y l.0 g
begun _ _ _ _ _ _ _ (either_no y p q b cs d rest es o g h) x l t = begun q b cs es o d rest h x l.1 t
begun _ _ _ _ _ _ _ (token_yes k p b cs text rest es h) x l t = begun p b cs es done (b ++ text) rest h x l t
begun _ _ _ _ _ _ _ (token_no k p b cs d rest es h) x l t = begun p b cs es stuck d rest h x l t

not_still : (b d : List ℕ) → Begun b d → d ≡ b → ⊥
not_still b d w e = never b w.others w.first (sym e ∙ w.is)

-- two parts that read nothing in all read nothing each
still : (b m d u v : List ℕ) → m ≡ b ++ u → d ≡ m ++ v → d ≡ b → (m ≡ b) × (d ≡ m)
still b m d [] v e f g = let x : m ≡ b = e ∙ append-nil b in (x, g ∙ sym x)
still b m d (c ∷ u) v e f g = absurd (never b (u ++ v) c (sym g ∙ joined b m d (c ∷ u) v e f))

-- where a form reads nothing, its sample is none
idle : (r : Form) (b cs : List ℕ) (es : List Tok) (d rest : List ℕ) → Reads r b cs es done d rest → d ≡ b → (next : Option ℕ) → Fits r next → first_of r next ≡ next
idle _ _ _ _ _ _ (reads_nothing b cs) e next f = refl
idle _ _ _ _ _ _ (sign_yes x b cs c h) e next f = absurd (never b [] c (sym e))
idle _ _ _ _ _ _ (seq_go p q b cs m mid d rest es fs _ h k) e next f =
    let u = moved p b cs es done m mid h in
    let v = moved q m mid fs done d rest k in
    let w = still b m d u.read v.read u.before v.before e in
    idle p b cs es m mid h w.0 (first_of q next) f.0 ∙ idle q m mid fs d rest k w.1 next f.1
idle _ _ _ _ _ _ (many_none x p b cs h) e next f = refl
idle _ _ _ _ _ _ (many_go x p b cs m mid d rest es fs _ t h k) e next f = refl
idle _ _ _ _ _ _ (either_yes x p q b cs d rest es _ t h) e next f = absurd (not_still b d (begun p b cs es done d rest h x f.1 t) e)
idle _ _ _ _ _ _ (either_no x p q b cs d rest es _ t h) e next f = idle q b cs es d rest h e next f.3
idle _ _ _ _ _ _ (token_yes k p b cs text rest es h) e next f = idle p b cs es (b ++ text) rest h e next f

two_ends : (p : Form) (b u v : List ℕ) (es : List Tok) (m mid rest tail : List ℕ) (next : Option ℕ) → ((other : List ℕ) → head other ≡ head mid → Reads p b (u ++ other) es done m other)
    → ((other : List ℕ) → head other ≡ next → Reads p b (u ++ other) es done m other) → mid ≡ v ++ rest → (v ≡ [] → head tail ≡ next) → Reads p b ((u ++ v) ++ tail) es done m (v ++ tail)
two_ends p b u [] es m mid rest tail next same ends e g = rw (append-nil u) (ends tail (g refl))
two_ends p b u (c ∷ v) es m mid rest tail next same ends e g = rw (append_assoc u (c ∷ v) tail) (same ((c ∷ v) ++ tail) (rw e refl))

not_moved : (d m v : List ℕ) → d ≡ m ++ v → v ≡ [] → d ≡ m
not_moved d m v e f = e ∙ ap (λ l. m ++ l) f ∙ append-nil m

head_begun : (b d cs s rest tail : List ℕ) → Begun b d → d ≡ b ++ s → cs ≡ s ++ rest → head (s ++ tail) ≡ head cs
head_begun b d cs [] rest tail w e f = absurd (not_still b d w (e ∙ append-nil b))
head_begun b d cs (c ∷ s) rest tail w e f = rw f refl

quiet_next : (x : Class) (s cs rest other : List ℕ) (next after : Option ℕ) → cs ≡ s ++ rest → head other ≡ next → (s ≡ [] → after ≡ next) → passes x (head cs) ≡ false → passes x after ≡ false → passes x (head (s ++ other)) ≡ false
quiet_next x [] cs rest other next after e g z h f = ap (passes x) (g ∙ sym (z refl)) ∙ f
quiet_next x (c ∷ s) cs rest other next after e g z h f = ap (passes x) (ap head (sym e)) ∙ h

read_is : (r : Form) (b cs : List ℕ) (es : List Tok) (o : Outcome) (d rest s : List ℕ) → Moved r b cs es o d rest → d ≡ b ++ s → cs ≡ s ++ rest
read_is r b cs es o d rest s u e = subst (λ (z : List ℕ). cs ≡ z ++ rest) (same_end b d u.read s u.before e) u.is

-- A form that was read whole is read so too where its end fits what follows.
pub settle : (r : Form) (b cs : List ℕ) (es : List Tok) (d rest : List ℕ) → Reads r b cs es done d rest → (s : List ℕ) → d ≡ b ++ s → (next : Option ℕ) → Fits r next → (other : List ℕ) → head other ≡ next → Reads r b (s ++ other) es done d other
settle _ _ _ _ _ _ (reads_nothing b cs) s e next f other g = let z : [] ≡ s = same_end b b [] s (sym (append-nil b)) e in subst (λ (l : List ℕ). Reads nothing b (l ++ other) [] done b other) z (reads_nothing b other)
settle _ _ _ _ _ _ (sign_yes x b cs c h) s e next f other g = let z : c ∷ [] ≡ s = append_cancel_left b (c ∷ []) s e in subst (λ (l : List ℕ). Reads (sign x) b (l ++ other) [] done (b ++ c ∷ []) other) z (sign_yes x b other c h)
settle _ _ _ _ _ _ (seq_go p q b cs m mid d rest es fs _ h k) s e next f other g =
    let u = moved p b cs es done m mid h in
    let v = moved q m mid fs done d rest k in
    let i = same_end b d (u.read ++ v.read) s (joined b m d u.read v.read u.before v.before) e in
    let ends = λ (o2 : List ℕ) (g2 : head o2 ≡ first_of q next). settle p b cs es m mid h u.read u.before (first_of q next) f.0 o2 g2 in
    let z = λ (n : v.read ≡ []). g ∙ sym (idle q m mid fs d rest k (not_moved d m v.read v.before n) next f.1) in
    subst (λ (l : List ℕ). Reads (seq p q) b (l ++ other) (es ++ fs) done d other) i
    (seq_go p q b ((u.read ++ v.read) ++ other) m (v.read ++ other) d other es fs done
    (two_ends p b u.read v.read es m mid rest other (first_of q next) u.same ends v.is z)
    (settle q m mid fs d rest k v.read v.before next f.1 other g))
settle _ _ _ _ _ _ (many_none x p b cs h) s e next f other g = let z : [] ≡ s = same_end b b [] s (sym (append-nil b)) e in subst (λ (l : List ℕ). Reads (many x p) b (l ++ other) [] done b other) z (many_none x p b other (ap (passes x) g ∙ f.0))
settle _ _ _ _ _ _ (many_go x p b cs m mid d rest es fs _ t h k) s e next f other g =
    let u = moved p b cs es done m mid h in
    let v = moved (many x p) m mid fs done d rest k in
    let i = same_end b d (u.read ++ v.read) s (joined b m d u.read v.read u.before v.before) e in
    let ends = λ (o2 : List ℕ) (g2 : head o2 ≡ next). settle p b cs es m mid h u.read u.before next f.2 o2 g2 in
    let w = begun p b cs es done m mid h x f.1 t in
    let t2 : passes x (head ((u.read ++ v.read) ++ other)) ≡ true = rw (append_assoc u.read v.read other) (ap (passes x) (head_begun b m cs u.read mid (v.read ++ other) w u.before u.is) ∙ t) in
    subst (λ (l : List ℕ). Reads (many x p) b (l ++ other) (es ++ fs) done d other) i
    (many_go x p b ((u.read ++ v.read) ++ other) m (v.read ++ other) d other es fs done t2
    (two_ends p b u.read v.read es m mid rest other next u.same ends v.is (λ n. g))
    (settle (many x p) m mid fs d rest k v.read v.before next f other g))
settle _ _ _ _ _ _ (either_yes x p q b cs d rest es _ t h) s e next f other g =
    let w = begun p b cs es done d rest h x f.1 t in
    let u = moved p b cs es done d rest h in
    let i = read_is p b cs es done d rest s u e in
    either_yes x p q b (s ++ other) d other es done (ap (passes x) (head_begun b d cs s rest other w e i) ∙ t) (settle p b cs es d rest h s e next f.2 other g)
settle _ _ _ _ _ _ (either_no x p q b cs d rest es _ t h) s e next f other g =
    let u = moved q b cs es done d rest h in
    let i = read_is q b cs es done d rest s u e in
    let z = λ (n : s ≡ []). idle q b cs es d rest h (not_moved d b s e n) next f.3 in
    either_no x p q b (s ++ other) d other es done (quiet_next x s cs rest other next (first_of q next) i g z t f.0) (settle q b cs es d rest h s e next f.3 other g)
settle _ _ _ _ _ _ (token_yes k p b cs text rest es h) s e next f other g = token_yes k p b (s ++ other) text other es (settle p b cs es (b ++ text) rest h s e next f other g)

-- what leads from where nothing goes on to the end of the form
pub record Finished (r : Form) (b s d : List ℕ) (next : Option ℕ) (more other : List ℕ) : Type 0 where
  pub toks : List Tok
  pub reads : Reads r b (s ++ (more ++ other)) toks done (d ++ more) other
  pub first : s ≡ [] → head (more ++ other) ≡ first_of r next

pub record Finishes (r : Form) (b s d : List ℕ) (next : Option ℕ) : Type 0 where
  pub more : List ℕ
  pub finished : (other : List ℕ) → head other ≡ next → Finished r b s d next more other

both_nil : (u v : List ℕ) → u ++ v ≡ [] → (u ≡ []) × (v ≡ [])
both_nil [] v e = (refl, e)
both_nil (c ∷ u) v e = absurd (cc)

then_sample : (p q : Form) (b s d : List ℕ) (next : Option ℕ) (more other : List ℕ) → Fits (seq p q) next → head other ≡ next → Finished p b s d (first_of q next) more (sample q ++ other) → Finished (seq p q) b s d next (more ++ sample q) other
then_sample p q b s d next more other f g w =
    let v = sampled q (d ++ more) next other f.1 g in
    record {
      toks = w.toks ++ v.toks;
      reads = rw (append_assoc more (sample q) other, ← append_assoc d more (sample q)) (seq_go p q b (s ++ (more ++ (sample q ++ other))) (d ++ more) (sample q ++ other) ((d ++ more) ++ sample q) other w.toks v.toks done w.reads v.reads);
      first = λ n. rw (append_assoc more (sample q) other) (w.first n);
    }

pub finish : (r : Form) (b cs : List ℕ) (es : List Tok) (d rest : List ℕ) → Reads r b cs es stuck d rest → (s : List ℕ) → d ≡ b ++ s → (next : Option ℕ) → Fits r next → Finishes r b s d next
finish _ _ _ _ _ _ (sign_no x b cs h) s e next f = record {
  more = example x ∷ [];
  finished = λ other g. (let z : [] ≡ s = same_end b b [] s (sym (append-nil b)) e in
      record { toks = []; reads = subst (λ (l : List ℕ). Reads (sign x) b (l ++ (example x ∷ other)) [] done (b ++ example x ∷ []) other) z (sign_yes x b other (example x) f); first = λ n. refl });
}
finish _ _ _ _ _ _ (seq_stop p q b cs d rest es h) s e next f =
    let w = finish p b cs es d rest h s e (first_of q next) f.0 in
    record { more = w.more ++ sample q; finished = λ other g. then_sample p q b s d next w.more other f g (w.finished (sample q ++ other) (sampled q (d ++ w.more) next other f.1 g).first) }
finish _ _ _ _ _ _ (seq_go p q b cs m mid d rest es fs _ h k) s e next f =
    let u = moved p b cs es done m mid h in
    let v = moved q m mid fs stuck d rest k in
    let w = finish q m mid fs d rest k v.read v.before next f.1 in
    let i = same_end b d (u.read ++ v.read) s (joined b m d u.read v.read u.before v.before) e in
    let ends = λ (o2 : List ℕ) (g2 : head o2 ≡ first_of q next). settle p b cs es m mid h u.read u.before (first_of q next) f.0 o2 g2 in
    record {
      more = w.more;
      finished = λ other g. (let y = w.finished other g in record {
        toks = es ++ y.toks;
        reads = subst (λ (l : List ℕ). Reads (seq p q) b (l ++ (w.more ++ other)) (es ++ y.toks) done (d ++ w.more) other) i
            (seq_go p q b ((u.read ++ v.read) ++ (w.more ++ other)) m (v.read ++ (w.more ++ other)) (d ++ w.more) other es y.toks done
            (two_ends p b u.read v.read es m mid rest (w.more ++ other) (first_of q next) u.same ends v.is y.first) y.reads);
        first = λ n. (let z = both_nil u.read v.read (i ∙ n) in y.first z.1 ∙ sym (idle p b cs es m mid h (not_moved m b u.read u.before z.0) (first_of q next) f.0));
      });
    }
finish _ _ _ _ _ _ (many_stop x p b cs d rest es t h) s e next f =
    let w = finish p b cs es d rest h s e next f.2 in
    let l = begun p b cs es stuck d rest h x f.1 t in
    let i = read_is p b cs es stuck d rest s (moved p b cs es stuck d rest h) e in
    record {
      more = w.more;
      finished = λ other g. (let y = w.finished other g in record {
        toks = y.toks ++ [];
        reads = many_go x p b (s ++ (w.more ++ other)) (d ++ w.more) other (d ++ w.more) other y.toks [] done (ap (passes x) (head_begun b d cs s rest (w.more ++ other) l e i) ∙ t) y.reads
            (many_none x p (d ++ w.more) other (ap (passes x) g ∙ f.0));
        first = λ n. absurd (not_still b d l (not_moved d b s e n));
      });
    }
finish _ _ _ _ _ _ (many_go x p b cs m mid d rest es fs _ t h k) s e next f =
    let u = moved p b cs es done m mid h in
    let v = moved (many x p) m mid fs stuck d rest k in
    let w = finish (many x p) m mid fs d rest k v.read v.before next f in
    let l = begun p b cs es done m mid h x f.1 t in
    let i = same_end b d (u.read ++ v.read) s (joined b m d u.read v.read u.before v.before) e in
    let ends = λ (o2 : List ℕ) (g2 : head o2 ≡ next). settle p b cs es m mid h u.read u.before next f.2 o2 g2 in
    record {
      more = w.more;
      finished = λ other g. (let y = w.finished other g in record {
        toks = es ++ y.toks;
        reads = subst (λ (l : List ℕ). Reads (many x p) b (l ++ (w.more ++ other)) (es ++ y.toks) done (d ++ w.more) other) i
            (many_go x p b ((u.read ++ v.read) ++ (w.more ++ other)) m (v.read ++ (w.more ++ other)) (d ++ w.more) other es y.toks done
            (rw (append_assoc u.read v.read (w.more ++ other)) (ap (passes x) (head_begun b m cs u.read mid (v.read ++ (w.more ++ other)) l u.before u.is) ∙ t))
            (two_ends p b u.read v.read es m mid rest (w.more ++ other) next u.same ends v.is y.first) y.reads);
        first = λ n. (let z = both_nil u.read v.read (i ∙ n) in absurd (not_still b m l (not_moved m b u.read u.before z.0)));
      });
    }
finish _ _ _ _ _ _ (either_yes x p q b cs d rest es _ t h) s e next f =
    let w = finish p b cs es d rest h s e next f.2 in
    let l = begun p b cs es stuck d rest h x f.1 t in
    let i = read_is p b cs es stuck d rest s (moved p b cs es stuck d rest h) e in
    record {
      more = w.more;
      finished = λ other g. (let y = w.finished other g in record {
        toks = y.toks;
        reads = either_yes x p q b (s ++ (w.more ++ other)) (d ++ w.more) other y.toks done (ap (passes x) (head_begun b d cs s rest (w.more ++ other) l e i) ∙ t) y.reads;
        first = λ n. absurd (not_still b d l (not_moved d b s e n));
      });
    }
finish _ _ _ _ _ _ (either_no x p q b cs d rest es _ t h) s e next f =
    let w = finish q b cs es d rest h s e next f.3 in
    let i = read_is q b cs es stuck d rest s (moved q b cs es stuck d rest h) e in
    record {
      more = w.more;
      finished = λ other g. (let y = w.finished other g in record {
        toks = y.toks;
        reads = either_no x p q b (s ++ (w.more ++ other)) (d ++ w.more) other y.toks done
            (quiet_next x s cs rest (w.more ++ other) (head (w.more ++ other)) (first_of q next) i refl (λ n. sym (y.first n)) t f.0) y.reads;
        first = y.first;
      });
    }
finish _ _ _ _ _ _ (token_no k p b cs d rest es h) s e next f =
    let w = finish p b cs es d rest h s e next f in
    let i : d ++ w.more ≡ b ++ (s ++ w.more) = ap (λ l. l ++ w.more) e ∙ append_assoc b s w.more in
    record {
      more = w.more;
      finished = λ other g. (let y = w.finished other g in record {
        toks = y.toks ++ record { kind = k; text = s ++ w.more; at = b } ∷ [];
        reads = subst (λ (l : List ℕ). Reads (token k p) b (s ++ (w.more ++ other)) (y.toks ++ record { kind = k; text = s ++ w.more; at = b } ∷ []) done l other) (sym i)
            (token_yes k p b (s ++ (w.more ++ other)) (s ++ w.more) other y.toks (subst (λ (l : List ℕ). Reads p b (s ++ (w.more ++ other)) y.toks done l other) i y.reads));
        first = y.first;
      });
    }
