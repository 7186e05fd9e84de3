-- What a form reads depends on the characters that it reads and on one more.
use Rattle.std.proofs.Common.{◌≡◌, ℕ, ◌∙◌, List, [], ◌∷◌, ◌++◌, refl, ap, sym, append_assoc, append-nil}
use Rattle.mrs_spelling.specs.Forms.{Form, many}
use Rattle.mrs_spelling.specs.Reading.{Tok, Outcome, done, stuck, head, passes, Reads, reads_nothing, sign_yes, sign_no, seq_stop, seq_go, many_none, many_stop, many_go, either_yes, either_no, token_yes, token_no}

-- It has read some characters, and reads the same where others follow that begin alike.
pub record Moved (r : Form) (b cs : List ℕ) (es : List Tok) (o : Outcome) (d rest : List ℕ) : Type 0 where
  pub read : List ℕ
  pub before : d ≡ b ++ read
  pub is : cs ≡ read ++ rest
  pub same : (other : List ℕ) → head other ≡ head rest → Reads r b (read ++ other) es o d other

pub head_after : (s rest other : List ℕ) → head other ≡ head rest → head (s ++ other) ≡ head (s ++ rest)
head_after [] rest other h = h
head_after (c ∷ s) rest other h = refl

pub joined : (b m d s t : List ℕ) → m ≡ b ++ s → d ≡ m ++ t → d ≡ b ++ (s ++ t)
joined b m d s t e f = f ∙ ap (λ l. l ++ t) e ∙ append_assoc b s t

pub split : (cs s mid t rest : List ℕ) → cs ≡ s ++ mid → mid ≡ t ++ rest → cs ≡ (s ++ t) ++ rest
split cs s mid t rest e f = e ∙ ap (λ l. s ++ l) f ∙ sym (append_assoc s t rest)

pub at_mid : (p : Form) (b cs m mid rest : List ℕ) (es : List Tok) (u : Moved p b cs es done m mid) (t : List ℕ) → mid ≡ t ++ rest → (other : List ℕ) → head other ≡ head rest
    → Reads p b ((u.read ++ t) ++ other) es done m (t ++ other)
at_mid p b cs m mid rest es u t e other h =
    let g : head (t ++ other) ≡ head mid = rw e (head_after t rest other h) in
    let q = u.same (t ++ other) g in
    rw (append_assoc u.read t other) q

pub moved : (r : Form) (b cs : List ℕ) (es : List Tok) (o : Outcome) (d rest : List ℕ) → Reads r b cs es o d rest → Moved r b cs es o d rest
moved _ _ _ _ _ _ _ (reads_nothing b cs) = record { read = []; before = sym (append-nil b); is = refl; same = λ other h. reads_nothing b other }
moved _ _ _ _ _ _ _ (sign_yes x b cs c h) = record { read = c ∷ []; before = refl; is = refl; same = λ other _. sign_yes x b other c h }
moved _ _ _ _ _ _ _ (sign_no x b cs h) = record { read = []; before = sym (append-nil b); is = refl; same = λ other g. sign_no x b other (ap (passes x) g ∙ h) }
moved _ _ _ _ _ _ _ (seq_stop p q b cs d rest es h) =
    let u = moved p b cs es stuck d rest h in
    record { read = u.read; before = u.before; is = u.is; same = λ other g. seq_stop p q b (u.read ++ other) d other es (u.same other g) }
moved _ _ _ _ _ _ _ (seq_go p q b cs m mid d rest es fs o h k) =
    let u = moved p b cs es done m mid h in
    let v = moved q m mid fs o d rest k in
    record {
      read = u.read ++ v.read;
      before = joined b m d u.read v.read u.before v.before;
      is = split cs u.read mid v.read rest u.is v.is;
      same = λ other g. seq_go p q b ((u.read ++ v.read) ++ other) m (v.read ++ other) d other es fs o (at_mid p b cs m mid rest es u v.read v.is other g) (v.same other g);
    }
moved _ _ _ _ _ _ _ (many_none x p b cs h) = record { read = []; before = sym (append-nil b); is = refl; same = λ other g. many_none x p b other (ap (passes x) g ∙ h) }
moved _ _ _ _ _ _ _ (many_stop x p b cs d rest es t h) =
    let u = moved p b cs es stuck d rest h in
    record {
      read = u.read;
      before = u.before;
      is = u.is;
      same = λ other g. many_stop x p b (u.read ++ other) d other es (ap (passes x) (head_after u.read rest other g ∙ ap head (sym u.is)) ∙ t) (u.same other g);
    }
moved _ _ _ _ _ _ _ (many_go x p b cs m mid d rest es fs o t h k) =
    let u = moved p b cs es done m mid h in
    let v = moved (many x p) m mid fs o d rest k in
    record {
      read = u.read ++ v.read;
      before = joined b m d u.read v.read u.before v.before;
      is = split cs u.read mid v.read rest u.is v.is;
      same = λ other g. many_go x p b ((u.read ++ v.read) ++ other) m (v.read ++ other) d other es fs o
          (ap (passes x) (head_after (u.read ++ v.read) rest other g ∙ ap head (sym (split cs u.read mid v.read rest u.is v.is))) ∙ t)
          (at_mid p b cs m mid rest es u v.read v.is other g) (v.same other g);
    }
moved _ _ _ _ _ _ _ (either_yes x p q b cs d rest es o t h) =
    let u = moved p b cs es o d rest h in
    record {
      read = u.read;
      before = u.before;
      is = u.is;
      same = λ other g. either_yes x p q b (u.read ++ other) d other es o (ap (passes x) (head_after u.read rest other g ∙ ap head (sym u.is)) ∙ t) (u.same other g);
    }
moved _ _ _ _ _ _ _ (either_no x p q b cs d rest es o t h) =
    let u = moved q b cs es o d rest h in
    record {
      read = u.read;
      before = u.before;
      is = u.is;
      same = λ other g. either_no x p q b (u.read ++ other) d other es o (ap (passes x) (head_after u.read rest other g ∙ ap head (sym u.is)) ∙ t) (u.same other g);
    }
moved _ _ _ _ _ _ _ (token_yes k p b cs text rest es h) =
    let u = moved p b cs es done (b ++ text) rest h in
    record { read = u.read; before = u.before; is = u.is; same = λ other g. token_yes k p b (u.read ++ other) text other es (u.same other g) }
moved _ _ _ _ _ _ _ (token_no k p b cs d rest es h) =
    let u = moved p b cs es stuck d rest h in
    record { read = u.read; before = u.before; is = u.is; same = λ other g. token_no k p b (u.read ++ other) d other es (u.same other g) }
