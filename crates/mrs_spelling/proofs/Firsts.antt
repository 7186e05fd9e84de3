-- The first fault of characters.
use Rattle.std.proofs.Common.{◌≡◌, ℕ, ◌<◌, ◌≤◌, ◌⊎◌, inl, inr, ◌∙◌, List, [], ◌∷◌, ◌++◌, None, refl, ap, sym, subst, append_assoc, append-nil, length, length-append, map, arith}
use Rattle.std.proofs.lemmas.List.{map-append}
use Rattle.std.proofs.lemmas.Bool.{cases_lt}
use Rattle.mrs_spelling.specs.Reading.{Tok, Outcome, done, stuck, Reads}
use Rattle.mrs_spelling.specs.Grammar.{mrs}
use Rattle.mrs_spelling.specs.Conditions.{Breaks, AllKeep, word_of}
use Rattle.mrs_spelling.specs.Faults.{Spells, Viable, Fault, unexpected, ends, breaks, FirstFault}
use Rattle.mrs_spelling.proofs.Moving.{moved}
use Rattle.mrs_spelling.proofs.Single.{one_reading}
use Rattle.mrs_spelling.proofs.Completing.{same_read, settle, finish}
use Rattle.mrs_spelling.proofs.Fitting.{mrs_fits}

-- no token of these breaks a condition
abbrev pub Keeps : List Tok → Type 0
Keeps es = (before after : List Tok) (e : Tok) → es ≡ before ++ e ∷ after → Breaks before e → ⊥

pub keeps_told : (es : List Tok) → AllKeep (map word_of es) → Keeps es
keeps_told es h = λ before after e i b. h (map word_of before) (map word_of after) (word_of e) (ap (map word_of) i ∙ map-append word_of before (e ∷ after)) b

-- a front of what leads to a text does so too
pub viable_front : (front more : List ℕ) → Viable (front ++ more) → Viable front
viable_front front more v = record { rest = more ++ v.rest; toks = v.toks; spelled = subst (λ (z : List ℕ). Spells z v.toks) (append_assoc front more v.rest) v.spelled }

-- what the grammar has read leads to a text
pub front_viable : (cs : List ℕ) (es : List Tok) (o : Outcome) (d rest : List ℕ) → Reads mrs [] cs es o d rest → Viable d
front_viable cs es done d rest h =
    let r = settle mrs [] cs es d rest h d refl None mrs_fits [] refl in
    record { rest = []; toks = es; spelled = record { reads = subst (λ (z : List ℕ). Reads mrs [] (d ++ []) es done z []) (sym (append-nil d)) r } }
front_viable cs es stuck d rest h =
    let w = finish mrs [] cs es d rest h d refl None mrs_fits in
    let y = w.finished [] refl in
    record { rest = w.more; toks = y.toks; spelled = record { reads = subst (λ (z : List ℕ). Reads mrs [] (d ++ z) y.toks done (d ++ w.more) []) (append-nil w.more) y.reads } }

pub text_is : (cs : List ℕ) (es : List Tok) (o : Outcome) (d rest : List ℕ) → Reads mrs [] cs es o d rest → cs ≡ d ++ rest
text_is cs es o d rest h = let m = moved mrs [] cs es o d rest h in m.is ∙ ap (λ l. l ++ rest) (sym m.before)

-- nothing goes on where the grammar stops
pub not_on : (cs : List ℕ) (es : List Tok) (o : Outcome) (d rest : List ℕ) (c : ℕ) → Reads mrs [] cs es o d (c ∷ rest) → Viable (d ++ c ∷ []) → ⊥
not_on cs es o d rest c h v =
    let k = same_read mrs [] cs es o d (c ∷ rest) d h refl (c ∷ v.rest) refl in
    let t = subst (λ (z : List ℕ). Spells z v.toks) (append_assoc d (c ∷ []) v.rest) v.spelled in
    let s = one_reading mrs [] (d ++ c ∷ v.rest) es o d (c ∷ v.rest) v.toks done (d ++ c ∷ v.rest) [] k t.reads in
    let e : c ∷ v.rest ≡ [] = s.left in
    cc

-- and what ends there is no text
pub not_ended : (cs : List ℕ) (es : List Tok) (d : List ℕ) → Reads mrs [] cs es stuck d [] → (fs : List Tok) → Spells cs fs → ⊥
not_ended cs es d h fs t = let s = one_reading mrs [] cs es stuck d [] fs done cs [] h t.reads in let e : stuck ≡ done = s.outcome in cc

-- the place where the grammar stops, or a text goes on after its end, is a fault
pub stop_fault : (cs : List ℕ) (es : List Tok) (o : Outcome) (d rest : List ℕ) → Reads mrs [] cs es o d rest → (o ≡ stuck) ⊎ (0 < length rest) → Fault cs d
stop_fault cs es o d (c ∷ rest) h _ = unexpected c rest (text_is cs es o d (c ∷ rest) h) (front_viable cs es o d (c ∷ rest) h) (not_on cs es o d rest c h)
stop_fault cs es o d [] h (inl e) =
    ends (text_is cs es o d [] h ∙ append-nil d) (front_viable cs es o d [] h) (not_ended cs es d (subst (λ (z : Outcome). Reads mrs [] cs es z d []) e h))
stop_fault cs es o d [] h (inr l) = absurd (omega (arith, l))

same_length : (front : List ℕ) (c : ℕ) (rest d more : List ℕ) → front ++ c ∷ rest ≡ d ++ more → length front < length d → (m : List ℕ) × (d ≡ front ++ c ∷ m)
same_length [] c rest [] more e l = absurd (omega (arith, l))
same_length [] c rest (a ∷ d) more e l = let i : c ≡ a = cc in (d, cc)
same_length (a ∷ front) c rest [] more e l = absurd (omega (arith, l))
same_length (a ∷ front) c rest (a' ∷ d) more e l =
    let i : a ≡ a' = cc in
    let j : front ++ c ∷ rest ≡ d ++ more = cc in
    let w = same_length front c rest d more j (omega (arith, l)) in
    (let q = w.1 in (w.0, cc))

-- where characters lead to a text, none of the places before is one where nothing goes on
pub no_earlier : (cs d more other : List ℕ) (c : ℕ) (rest : List ℕ) → cs ≡ d ++ more → Viable d → cs ≡ other ++ c ∷ rest → (Viable (other ++ c ∷ []) → ⊥) → length d ≤ length other
no_earlier cs d more other c rest e v f not = elim (cases_lt (length other) (length d)) [
  | inr l ↦ l
  | inl l ↦ absurd (let w = same_length other c rest d more (sym f ∙ e) l in
      not (viable_front (other ++ c ∷ []) w.0 (subst Viable (w.1 ∙ sym (append_assoc other (c ∷ []) w.0)) v)))
]

pub no_end_earlier : (cs d more other : List ℕ) → cs ≡ d ++ more → cs ≡ other → length d ≤ length other
no_end_earlier cs d more other e f = let a = ap length (sym f ∙ e) in let n = length-append d more in omega (arith, a, n)

-- the grammar's stop is the first fault, where no token breaks a condition
first_of_stop : (cs : List ℕ) (es : List Tok) (o : Outcome) (d rest other : List ℕ) → Reads mrs [] cs es o d rest → Keeps es → Fault cs other → length d ≤ length other
first_of_stop cs es o d rest other h keeps (unexpected c more e v not) = no_earlier cs d rest other c more (text_is cs es o d rest h) (front_viable cs es o d rest h) e not
first_of_stop cs es o d rest other h keeps (ends e v not) = no_end_earlier cs d rest other (text_is cs es o d rest h) e
first_of_stop cs es o d rest other h keeps (breaks before after t o2 d2 rest2 k b at) =
    absurd (keeps before after t (let s = one_reading mrs [] cs es o d rest (before ++ t ∷ after) o2 d2 rest2 h k in s.toks) b)

pub stop_first : (cs : List ℕ) (es : List Tok) (o : Outcome) (d rest : List ℕ) → Reads mrs [] cs es o d rest → Keeps es → (o ≡ stuck) ⊎ (0 < length rest) → FirstFault cs d
stop_first cs es o d rest h keeps w = record { stands = stop_fault cs es o d rest h w; first = λ other f. first_of_stop cs es o d rest other h keeps f }
