-- Notes on lines: what is told of them, and that it is the notes of the lines.
use Rattle.std.proofs.Common.{suc, ◌≡◌, ℕ, ◌+◌, ◌≤◌, ◌∙◌, sym, ap, refl, subst, List, [], ◌∷◌, ◌++◌, ◌||◌, length, map, Option, None, Some, Bool, true, false, Vec, Global, Result, Ok, Err, append_assoc, append-nil, arith, inl, inr}
use Rattle.lkb_io.specs.Outside.{HasRisen, Adds, AddsFront}
use Rattle.lkb_io.specs.Lines.{Kept}
use Rattle.lkb_io.specs.declared.lines.LineFault.{LineFault}
use Rattle.lkb_io.specs.declared.lines.LineFault.TheVariants.{Failed, TooLong as LineTooLong, NoMemory as LineNoMemory}
use Rattle.lkb_io.proofs.Told.{Adds-more, Adds-none}
use Rattle.side_by_side.specs.Works.{AreGiven, no_thing, a_thing}
use Rattle.endings.specs.declared.lines.Answer.{Answer}
use Rattle.endings.specs.declared.Stop.{Stop}
use Rattle.endings.specs.declared.Stop.TheVariants.{Read, TooLong, TooMany, Write, Gaps, NoMemory}
use Rattle.endings.specs.Stops.{stop_of}
use Rattle.endings.specs.Endings.{Tells}
use Rattle.endings.specs.Notes.{AreNotes, no_line_noted, a_line_noted, OrNone, AreAllNotes, NotesAt}
use Rattle.endings.specs.Inner.Batches.{IsTold, Gathered, ReadsSome, is_one_wanting, notes_of_all, IsNotedSoFar, TellsMore, EndNotes, ServedBatch, end_with}
use Rattle.endings.proofs.PieceLemmas.{AddsFront-first, AddsFront-second}

abbrev Notes : Type 1
Notes = ℕ → List ℕ → List ℕ → Type 0

abbrev items : Vec ℕ Global → List ℕ
items v = v.items

-- ---- the notes on lines

pub AreNotes-append : (notes : Notes) (n : ℕ) (lines : List (List ℕ)) (text : List ℕ) (m : ℕ) (after : List (List ℕ)) (own : List ℕ)
    → AreNotes notes n lines text → m ≡ n + length lines → AreNotes notes m after own → AreNotes notes n (lines ++ after) (text ++ own)
AreNotes-append notes _ _ _ m after own (no_line_noted n) e a =
    let same : m ≡ n = omega (arith, e) in
    subst (λ k. AreNotes notes k after own) same a
AreNotes-append notes _ _ _ m after own (a_line_noted n line lines first rest h k) e a =
    subst (AreNotes notes n (line ∷ (lines ++ after))) (sym (append_assoc first rest own))
    (a_line_noted n line (lines ++ after) first (rest ++ own) h (AreNotes-append notes (suc n) lines rest m after own k (omega (arith, e)) a))

AreNotes-map : (notes others : Notes) → ((n : ℕ) (line text : List ℕ) → notes n line text → others n line text) → (n : ℕ) (lines : List (List ℕ)) (text : List ℕ) → AreNotes notes n lines text → AreNotes others n lines text
AreNotes-map notes others f _ _ _ (no_line_noted n) = no_line_noted n
AreNotes-map notes others f _ _ _ (a_line_noted n line lines own rest h k) = a_line_noted n line lines own rest (f n line own h) (AreNotes-map notes others f (suc n) lines rest k)

or-none : (a b : Bool) → (a ≡ true → b ≡ true) → (notes : Notes) (n : ℕ) (line text : List ℕ) → OrNone a notes n line text → OrNone b notes n line text
or-none false false f notes n line text h = h
or-none false true f notes n line text h = inl h
or-none true true f notes n line text h = h
or-none true false f notes n line text h = let bad = f refl in cc

-- where memory may have been wanting for more
pub notes-raised : (a b : Bool) → (a ≡ true → b ≡ true) → (notes : Notes) (n : ℕ) (lines : List (List ℕ)) (text : List ℕ) → AreNotes (OrNone a notes) n lines text → AreNotes (OrNone b notes) n lines text
notes-raised a b f notes = AreNotes-map (OrNone a notes) (OrNone b notes) (or-none a b f notes)

-- the notes of what was given of lines
given-noted : (notes : Notes) (answers : ℕ → List ℕ → List (List ℕ) → Bool → Type 0) (number place n : ℕ) (lines : List (Vec ℕ Global)) (told : List (Option Answer)) → n ≡ number + place
    → AreGiven (λ k line a. IsTold answers notes (number + k) line.items a) place lines told → (w : Bool) → (is_one_wanting told ≡ true → w ≡ true) → AreNotes (OrNone w notes) n (map items lines) (notes_of_all told)
given-noted notes answers number _ n _ _ e (no_thing place) w f = no_line_noted n
given-noted notes answers number _ n _ _ e (a_thing place line lines (Some a) told h rest) w f =
    a_line_noted n line.items (map items lines) a.note.items (notes_of_all told)
    (or-none false w (λ x. cc) notes n line.items a.note.items (subst (λ k. notes k line.items a.note.items) (sym e) h.1))
    (given-noted notes answers number (suc place) (suc n) lines told (omega (arith, e)) rest w f)
given-noted notes answers number _ n _ _ e (a_thing place line lines None told h rest) w f =
    a_line_noted n line.items (map items lines) [] (notes_of_all told)
    (subst (λ b. OrNone b notes n line.items []) (sym (f refl)) (inr refl))
    (given-noted notes answers number (suc place) (suc n) lines told (omega (arith, e)) rest w (λ x. f refl))

pub notes-given : (notes : Notes) (answers : ℕ → List ℕ → List (List ℕ) → Bool → Type 0) (number : ℕ) (lines : List (Vec ℕ Global)) (told : List (Option Answer))
    → AreGiven (λ k line a. IsTold answers notes (number + k) line.items a) 0 lines told → (before w : Bool) → w ≡ (before || is_one_wanting told) → AreNotes (OrNone w notes) number (map items lines) (notes_of_all told)
notes-given notes answers number lines told given before w e = given-noted notes answers number 0 number lines told (omega arith) given w (λ h. e ∙ raised before (is_one_wanting told) h)
  where
    raised : (a b : Bool) → b ≡ true → (a || b) ≡ true
    raised true b h = refl
    raised false b h = h

-- where no line has a note there are none
pub quiet-notes : (notes : Notes) → ((n : ℕ) (line text : List ℕ) → notes n line text → text ≡ []) → (gaps : Bool) (n : ℕ) (lines : List (List ℕ)) (text : List ℕ) → AreNotes (OrNone gaps notes) n lines text → text ≡ []
quiet-notes notes quiet gaps _ _ _ (no_line_noted n) = refl
quiet-notes notes quiet gaps _ _ _ (a_line_noted n line lines own rest h k) = ap (λ t. t ++ rest) (own-none gaps h) ∙ quiet-notes notes quiet gaps (suc n) lines rest k
  where
    own-none : (b : Bool) → OrNone b notes n line own → own ≡ []
    own-none false e = quiet n line own e
    own-none true (inl e) = quiet n line own e
    own-none true (inr e) = e

-- ---- what was told so far

pub so-far-none : (old : Option (List ℕ)) (faults : ℕ) (failed : Bool) → failed ≡ false → IsNotedSoFar failed old old faults faults []
so-far-none old faults true e = cc
so-far-none old faults false e = (Adds-none old, omega arith)

-- nothing is told after a fault
pub muted : (failed : Bool) → failed ≡ true → (old new : Option (List ℕ)) (faults_old faults_new : ℕ) (before text : List ℕ) → IsNotedSoFar failed old new faults_old faults_new before → IsNotedSoFar failed old new faults_old faults_new (before ++ text)
muted true e old new faults_old faults_new before text h = (AddsFront-first old new before text h.0, h.1, h.2)
muted false e old new faults_old faults_new before text h = cc

-- a text more, or a front of it
pub told-whole : (failed : Bool) → failed ≡ false → (start old new : Option (List ℕ)) (faults faults_old faults_new : ℕ) (before text : List ℕ) → IsNotedSoFar failed start old faults faults_old before → Adds old new text → faults_old ≤ faults_new
    → IsNotedSoFar failed start new faults faults_new (before ++ text)
told-whole false e start old new faults faults_old faults_new before text h a le = (Adds-more start old new before text h.0 a, (let k = h.1 in omega (arith, k, le)))
told-whole true e start old new faults faults_old faults_new before text h a le = cc

pub told-in-part : (failed : Bool) → failed ≡ false → (start old new : Option (List ℕ)) (faults faults_old faults_new : ℕ) (before text : List ℕ) → IsNotedSoFar failed start old faults faults_old before → AddsFront old new text → faults_old ≤ faults_new → HasRisen faults_old faults_new
    → IsNotedSoFar true start new faults faults_new (before ++ text)
told-in-part false e start old new faults faults_old faults_new before text h a le risen = (AddsFront-second start old new before text h.0 a, (let k = h.1 in omega (arith, k, le)), (let k = h.1 in omega (arith, k, risen)))
told-in-part true e start old new faults faults_old faults_new before text h a le risen = cc

-- what was told so far is a text that is told
pub so-far-tells : (failed : Bool) (old new : Option (List ℕ)) (faults_old faults_new : ℕ) (text : List ℕ) → IsNotedSoFar failed old new faults_old faults_new text → (faults_old ≤ faults_new) × Tells old new faults_old faults_new text
so-far-tells false old new faults_old faults_new text h = (h.1, ((text, ([], append-nil text), h.0), λ calm. h.0))
so-far-tells true old new faults_old faults_new text h = (h.1, (h.0, λ calm. absurd (calm h.2)))

-- ---- the notes of a run, by how it ends

module _ (notes : Notes) (old new : Option (List ℕ)) (text : List ℕ) where
  kept-so : (end : Result Bool Stop) → EndNotes (AreNotes (OrNone false notes) 1) old new text end → NotesAt (AreAllNotes notes) old new text end
  kept-so (Ok refused) e = e
  kept-so (Err Read) e = e
  kept-so (Err TooLong) e = e
  kept-so (Err TooMany) e = e
  kept-so (Err Write) e = e
  kept-so (Err Gaps) e = absurd e
  kept-so (Err NoMemory) e = (e.0, e.1, e.2, notes-raised false true (λ x. refl) notes 1 e.0 text e.3)

  wanting-so : (end : Result Bool Stop) → EndNotes (AreNotes (OrNone true notes) 1) old new text end → NotesAt (AreAllNotes notes) old new text (end_with true end)
  wanting-so (Ok refused) e = e
  wanting-so (Err Read) e = (e.0, e.1, inl e.2, e.4)
  wanting-so (Err TooLong) e = (e.0, e.1, inl e.2, e.4)
  wanting-so (Err TooMany) e = (e.0, e.1, e.2, e.4)
  wanting-so (Err Write) e = e
  wanting-so (Err Gaps) e = absurd e
  wanting-so (Err NoMemory) e = e

  pub notes-with : (w : Bool) (end : Result Bool Stop) → EndNotes (AreNotes (OrNone w notes) 1) old new text end → NotesAt (AreAllNotes notes) old new text (end_with w end)
  notes-with false end e = kept-so end e
  notes-with true end e = wanting-so end e

-- the notes on a batch more
pub noted-more : (notes : Notes) (a b : Bool) → (a ≡ true → b ≡ true) → (start old new : Option (List ℕ)) (faults faults_old faults_new : ℕ) (failed fails : Bool) (lines : List (List ℕ)) (text : List ℕ) (n : ℕ) (batch : List (List ℕ)) (own : List ℕ)
    → AreNotes (OrNone a notes) 1 lines text → IsNotedSoFar failed start old faults faults_old text → AreNotes (OrNone b notes) n batch own → n ≡ 1 + length lines → TellsMore failed fails old new faults_old faults_new own
    → AreNotes (OrNone b notes) 1 (lines ++ batch) (text ++ own) × IsNotedSoFar fails start new faults faults_new (text ++ own)
noted-more notes a b f start old new faults faults_old faults_new failed fails lines text n batch own are told more e tells =
    (AreNotes-append (OrNone b notes) 1 lines text n batch own (notes-raised a b f notes 1 lines text are) e more, tells start faults text told)

-- a stop at what is told of a batch
pub stopped-noted : (notes : List (List ℕ) → List ℕ → Type 0) (answers : ℕ → List ℕ → List (List ℕ) → Bool → Type 0) (number : ℕ) (batch : List (List ℕ)) (written_old written_new : Option (List ℕ)) (faults_old faults_new : ℕ) (before later : Bool) (stop : Stop)
    → ServedBatch answers number batch written_old written_new faults_old faults_new before later (Err stop) → (old new : Option (List ℕ)) (lines : List (List ℕ)) (text : List ℕ) → ReadsSome old new lines → notes lines text → EndNotes notes old new text (Err stop)
stopped-noted notes answers number batch wo wn fo fn before later Read served old new lines text read are = absurd served.5
stopped-noted notes answers number batch wo wn fo fn before later TooLong served old new lines text read are = absurd served.5
stopped-noted notes answers number batch wo wn fo fn before later TooMany served old new lines text read are = absurd served.5
stopped-noted notes answers number batch wo wn fo fn before later Gaps served old new lines text read are = absurd served.5
stopped-noted notes answers number batch wo wn fo fn before later Write served old new lines text read are = (lines, read.0, read.1, are)
stopped-noted notes answers number batch wo wn fo fn before later NoMemory served old new lines text read are = (lines, read.0, read.1, are)

-- a fault of reading
pub fault-noted : (X : Type 0) (notes : List (List ℕ) → List ℕ → Type 0) (old new : Option (List ℕ)) (faults_old faults_new : ℕ) (held : Kept) (lines : List (List ℕ)) (text : List ℕ) (fault : LineFault)
    → Gathered {X = X} old new faults_old faults_new held lines (Err fault) → notes lines text → EndNotes notes old new text (Err (stop_of fault))
fault-noted X notes old new fo fn held lines text Failed h are = (lines, held.bytes, h.0, h.1, are)
fault-noted X notes old new fo fn held lines text LineTooLong h are = (lines, held.bytes, h.0, h.1, are)
fault-noted X notes old new fo fn held lines text LineNoMemory h are = (lines, h.0, h.1, are)
