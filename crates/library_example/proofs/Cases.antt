-- What comes of lines, from the clauses of `run`, where nothing but memory can fail.
use Rattle.std.proofs.Common.{◌≡◌, ◌∙◌, ◌⊎◌, ◌++◌, ◌<◌, ◌≤◌, ◌^◌, ◌-◌, min, inl, inr, sym, ap, refl, subst, List, [], ◌∷◌, ℕ, Bool, true, false, Option, Some, None, Ok, Result, arith}
use Rattle.std.specs.List.{concat}
use Rattle.lkb_io.specs.Outside.{HasRisen, Adds}
use Rattle.lkb_io.specs.Lines.{lines_of}
use Rattle.endings.specs.Meanings.{Meaning, Files, FileFault, Fails, Shelves}
use Rattle.endings.specs.Reports.{Streams}
use Rattle.endings.specs.Readings.{AreReadable}
use Rattle.endings.specs.Endings.{IsFaultless, IsWhole, Tells, is_items, status_of}
use Rattle.endings.specs.declared.Status.{Status}
use Rattle.endings.specs.declared.Status.TheVariants.{Done, Items, Usage, Grammar, ReadFault, WriteFault, Gaps, NoMemory}
use Rattle.command_line.specs.Words.{Form}
use Rattle.library_example.specs.Parsed.{Comes, IsReport, IsFirstFault}

-- a count that stands at 0 didn't rise
pub still : HasRisen 0 0 → ⊥
still risen = omega arith

some-same : (a b : List ℕ) → Some a ≡ Some b → a ≡ b
some-same a b e = cc

-- what was told, where the stream can't fail
pub told : (old new text : List ℕ) → Tells (Some old) (Some new) 0 0 text → new ≡ old ++ text
told old new text t = t.1 still

pub not-memory : ReadFault ≡ NoMemory → ⊥
not-memory e = cc

not-ended : (refused : Bool) → ReadFault ≡ status_of (Ok refused) → ⊥
not-ended true e = cc
not-ended false e = cc

-- the whole report wasn't written where a line couldn't be read
pub not-whole : (m : Meaning) (h : Shelves) (o : Streams) (bytes : List ℕ) (s : Status) → s ≡ ReadFault → IsWhole m h o bytes s → ⊥
not-whole m h o bytes s e (inl memory) = not-memory (sym e ∙ memory)
not-whole m h o bytes s e (inr (inl g)) = let bad : ReadFault ≡ Gaps = sym e ∙ g.0 in cc
not-whole m h o bytes s e (inr (inr w)) = not-ended w.1 (sym e ∙ w.4)

not-grammar-or-memory : (s : Status) → s ≡ ReadFault → (s ≡ Grammar) ⊎ (s ≡ NoMemory) → ⊥
not-grammar-or-memory s e (inl g) = let bad : ReadFault ≡ Grammar = sym e ∙ g in cc
not-grammar-or-memory s e (inr n) = not-memory (sym e ∙ n)

-- a line couldn't be read only where it is too long
pub unreadable : (m : Meaning) (h : Shelves) (o : Streams) (bytes : List ℕ) (s : Status) (loadable : Type 0)
    → ((loadable → ⊥) → (s ≡ Grammar) ⊎ (s ≡ NoMemory))
    → (loadable → AreReadable (lines_of bytes) → IsWhole m h o bytes s)
    → s ≡ ReadFault → AreReadable (lines_of bytes) → ⊥
unreadable m h o bytes s loadable without complete e can = not-grammar-or-memory s e (without (λ load. not-whole m h o bytes s e (complete load can)))

told-of : (old new : Option (List ℕ)) (fault text : List ℕ) → old ≡ Some [] → new ≡ Some fault → Tells old new 0 0 text → fault ≡ text
told-of old new fault text e d t = told [] fault text (subst (λ a. Tells a (Some fault) 0 0 text) e (subst (λ b. Tells old b 0 0 text) d t))

-- What comes of lines, from the clauses of a run by the words of one form. `left` is what the source had, `w0` and `w1` what the report's sink
-- tells before and after, `x0` and `x1` the other's.
pub comes : (K : Form → Type 0) (mean : Form → Meaning) (f : Form) (one : (k : Form) → K k → k ≡ f) (has : K f)
    (F : Files) (h : Shelves) (o : Streams) (left w0 w1 x0 x1 : Option (List ℕ)) (lines report fault : List ℕ) (through : Form → Type 0)
    → left ≡ Some lines → w0 ≡ Some [] → w1 ≡ Some report → x0 ≡ Some [] → x1 ≡ Some fault
    → (s : Status)
    → ((bytes before after : List ℕ) → (s ≡ Done) ⊎ (s ≡ Items) → left ≡ Some bytes → w0 ≡ Some before → w1 ≡ Some after
    → (form : Form) × (pieces : List (List ℕ)) × K form × (mean form).report F (lines_of bytes) pieces (is_items s) × (after ≡ before ++ concat pieces) × through form)
    → ((bytes : List ℕ) → (s ≡ Done) ⊎ (s ≡ Items) → left ≡ Some bytes → (form : Form) × (notes : List ℕ) × K form × (mean form).notes F false (lines_of bytes) notes × Tells x0 x1 0 0 notes)
    → ((texts : List (List ℕ)) (notes : List ℕ) → (mean f).notes F false texts notes → notes ≡ [])
    → (s ≡ Usage → (form : Form) → K form → ⊥)
    → (s ≡ Grammar → (form : Form) × (first : FileFault) × K form × (mean form).first F (λ name. false) first × Tells x0 x1 0 0 (first.text ++ first.details) × (w1 ≡ w0))
    → ((form : Form) → K form → ((mean form).loadable F → ⊥) → (s ≡ Grammar) ⊎ (s ≡ NoMemory))
    → (s ≡ WriteFault → ⊥)
    → ((form : Form) (bytes : List ℕ) → K form → left ≡ Some bytes → (mean form).loadable F → AreReadable (lines_of bytes) → IsWhole (mean form) h o bytes s)
    → Comes (mean f) F lines report fault s
comes K mean f one has F h o left w0 w1 x0 x1 lines report fault through il iw jw ix jx Done whole noted quiet usage grammar without write complete =
    let p = whole lines [] report (inl refl) il iw jw in
    let n = noted lines (inl refl) il in
    ((p.1, subst (λ m. (mean m).report F (lines_of lines) p.1 false) (one p.0 p.2) p.3, p.4), told-of x0 x1 fault n.1 ix jx n.4 ∙ quiet (lines_of lines) n.1 (subst (λ k. (mean k).notes F false (lines_of lines) n.1) (one n.0 n.2) n.3))
comes K mean f one has F h o left w0 w1 x0 x1 lines report fault through il iw jw ix jx Items whole noted quiet usage grammar without write complete =
    let p = whole lines [] report (inr refl) il iw jw in
    let n = noted lines (inr refl) il in
    ((p.1, subst (λ m. (mean m).report F (lines_of lines) p.1 true) (one p.0 p.2) p.3, p.4), told-of x0 x1 fault n.1 ix jx n.4 ∙ quiet (lines_of lines) n.1 (subst (λ k. (mean k).notes F false (lines_of lines) n.1) (one n.0 n.2) n.3))
comes K mean f one has F h o left w0 w1 x0 x1 lines report fault through il iw jw ix jx Grammar whole noted quiet usage grammar without write complete =
    let p = grammar refl in
    ((p.1, subst (λ m. (mean m).first F (λ name. false) p.1) (one p.0 p.2) p.3, told-of x0 x1 fault (p.1.text ++ p.1.details) ix jx p.4), some-same report [] (sym jw ∙ p.5 ∙ iw))
comes K mean f one has F h o left w0 w1 x0 x1 lines report fault through il iw jw ix jx ReadFault whole noted quiet usage grammar without write complete =
    unreadable (mean f) h o lines ReadFault ((mean f).loadable F) (without f has) (λ load can. complete f lines has il load can) refl
comes K mean f one has F h o left w0 w1 x0 x1 lines report fault through il iw jw ix jx Gaps whole noted quiet usage grammar without write complete = tt
comes K mean f one has F h o left w0 w1 x0 x1 lines report fault through il iw jw ix jx NoMemory whole noted quiet usage grammar without write complete = tt
comes K mean f one has F h o left w0 w1 x0 x1 lines report fault through il iw jw ix jx Usage whole noted quiet usage grammar without write complete = usage refl f has
comes K mean f one has F h o left w0 w1 x0 x1 lines report fault through il iw jw ix jx WriteFault whole noted quiet usage grammar without write complete = write refl
