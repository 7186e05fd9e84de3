-- What a batch of lines adds to a run.
use Rattle.std.proofs.Common.{zero, suc, map, take, drop, ◌<◌, ◌*◌, ◌/◌, ◌%◌, min, ⊎_elim, add-one, ◌≡◌, ℕ, ◌≤◌, ◌+◌, ◌∙◌, sym, ap, refl, List, [], ◌∷◌, ◌++◌, length, Option, None, Some, append_assoc, append-nil, arith, false, Bool, ◌||◌, inl, inr, Ok, Err, Result}
use native.Mathlib.Nat.{suc-mul, add-mul, one-mul}
use Rattle.std.specs.List.{concat}
use Rattle.std.proofs.lemmas.Bool.{cases_lt}
use Rattle.std.proofs.lemmas.Nat.{div-add-mod', mod_below}
use Rattle.std.proofs.lemmas.List.Folds.{concat-append}
use Rattle.lkb_io.specs.declared.lines.LineFault.{LineFault}
use Rattle.lkb_io.specs.declared.lines.LineFault.TheVariants.{Failed, TooLong, NoMemory}
use Rattle.lkb_io.specs.Outside.{HasRisen, Takes, Adds, AddsFront, IsAtEnd}
use Rattle.lkb_io.specs.Lines.{IsTooLong, HasNoEnd, Kept}
use Rattle.lkb_io.proofs.Told.{Adds-more}
use Rattle.endings.specs.declared.Stop.{Stop}
use Rattle.endings.specs.declared.Stop.TheVariants.{Read, TooLong as TooLongStop, TooMany, Write, Gaps, NoMemory as NoMemoryStop}
use Rattle.endings.specs.Stops.{stop_of}
use Rattle.endings.specs.Readings.{ReadsPart, ReadsAll, Reads}
use Rattle.endings.specs.Reports.{Streams, IsServedInPart}
use Rattle.endings.specs.Inner.Batches.{Gathered, ReadsSome, AreTold, ServedBatch, IsFlag, Ends, Told}
use Rattle.endings.proofs.Reading.{part-held, so_far-either}
use Rattle.endings.proofs.ToldLines.{AreTold-append}

rest-nil : (xs ys : List ℕ) → xs ++ ys ≡ [] → ys ≡ []
rest-nil [] ys e = e
rest-nil (x ∷ xs) ys e = let n = ap length e in absurd (omega (arith, n))

-- after the end no more comes
end-took : (mid new : Option (List ℕ)) (came : List ℕ) → IsAtEnd mid → Takes mid new came → IsAtEnd new
end-took None None came h k = tt
end-took None (Some new) came h k = absurd k
end-took (Some mid) None came h k = absurd k
end-took (Some mid) (Some new) came h k = rest-nil came new (sym k ∙ h)

all-took : (old mid new : Option (List ℕ)) (came : List ℕ) (lines : List (List ℕ)) → ReadsAll old mid lines → Takes mid new came → ReadsAll old new lines
all-took None mid new came lines h k = tt
all-took (Some old) mid new came lines h k = (h.0, h.1, end-took mid new came h.2 k)

took : (old mid new : Option (List ℕ)) (came part : List ℕ) (lines : List (List ℕ)) → Reads old mid lines part → Takes mid new came → ReadsSome old new lines
took old mid new came part lines (inl h) k = (part ++ came, inl (part-held old mid new part came (part ++ came) lines h k refl))
took old mid new came part lines (inr h) k = (part, inr (all-took old mid new came lines h k))

-- what was read before stands, whatever comes
pub some-took : (old mid new : Option (List ℕ)) (came : List ℕ) (lines : List (List ℕ)) → ReadsSome old mid lines → Takes mid new came → ReadsSome old new lines
some-took old mid new came lines h k = took old mid new came h.0 lines h.1 k

pub gathered-some : {X : Type 0} (old new : Option (List ℕ)) (faults_old faults_new : ℕ) (held : Kept) (lines : List (List ℕ)) (read : Result X LineFault) → Gathered old new faults_old faults_new held lines read → ReadsSome old new lines
gathered-some old new faults_old faults_new held lines (Ok x) h = (held.bytes, so_far-either old new held.bytes held.ended lines h)
gathered-some old new faults_old faults_new held lines (Err Failed) h = (held.bytes, inl h.0)
gathered-some old new faults_old faults_new held lines (Err TooLong) h = (held.bytes, inl h.0)
gathered-some old new faults_old faults_new held lines (Err NoMemory) h = h

-- a fault of read_line
pub fault-gathered : (X : Type 0) (old mid new : Option (List ℕ)) (faults_old faults_new : ℕ) (held came : List ℕ) (kept : Kept) (lines : List (List ℕ)) (fault : LineFault)
    → ReadsPart old mid lines held → Takes mid new came → kept.bytes ≡ held ++ came → (fault ≡ TooLong → IsTooLong kept.bytes) → (fault ≡ Failed → HasNoEnd kept.bytes) → (fault ≡ Failed → HasRisen faults_old faults_new)
    → Gathered {X = X} old new faults_old faults_new kept lines (Err fault)
fault-gathered X old mid new faults_old faults_new held came kept lines Failed h k e long no_end risen = (part-held old mid new held came kept.bytes lines h k e, no_end refl, risen refl)
fault-gathered X old mid new faults_old faults_new held came kept lines TooLong h k e long no_end risen = (part-held old mid new held came kept.bytes lines h k e, long refl)
fault-gathered X old mid new faults_old faults_new held came kept lines NoMemory h k e long no_end risen = (kept.bytes, inl (part-held old mid new held came kept.bytes lines h k e))

-- a fault that came earlier in the batch, and one that came where the source had been asked before
pub gathered-later : (X Y : Type 0) (old new : Option (List ℕ)) (faults_old mid faults_new : ℕ) (held : Kept) (lines : List (List ℕ)) (fault : LineFault) → faults_old ≤ mid
    → Gathered {X = X} old new mid faults_new held lines (Err fault) → Gathered {X = Y} old new faults_old faults_new held lines (Err fault)
gathered-later X Y old new faults_old mid faults_new held lines Failed le h = (h.0, h.1, (let r = h.2 in omega (arith, r, le)))
gathered-later X Y old new faults_old mid faults_new held lines TooLong le h = h
gathered-later X Y old new faults_old mid faults_new held lines NoMemory le h = h

-- the answers before a fault of reading were written
pub at-read : (X : Type 0) (reports : List (List ℕ) → List (List ℕ) → Bool → Type 0) (o : Streams) (mid_in : ℕ) (held : Kept) (fault : LineFault) (lines pieces : List (List ℕ)) (refused : Bool)
    → Gathered {X = X} o.left_old o.left_new mid_in o.in_new held lines (Err fault) → reports lines pieces refused → Adds o.written_old o.written_new (concat pieces) → o.in_old ≤ mid_in → Ends reports o (Err (stop_of fault))
at-read X reports o mid_in held Failed lines pieces refused h report w le =
    (record { lines = lines; part = held.bytes; pieces = pieces; refused = refused; reads = h.0; report = report; writes = w }, h.1, (let r = h.2 in omega (arith, r, le)))
at-read X reports o mid_in held TooLong lines pieces refused h report w le =
    (record { lines = lines; part = held.bytes; pieces = pieces; refused = refused; reads = h.0; report = report; writes = w }, h.1)
at-read X reports o mid_in held NoMemory lines pieces refused h report w le =
    record { lines = lines; part = h.0; pieces = pieces; refused = refused; reads = h.1; report = report; writes = (concat pieces, ([], append-nil _), w) }

-- a front of what is told of a batch was written, after what was told of the lines before
in-part : (answers : ℕ → List ℕ → List (List ℕ) → Bool → Type 0) (o : Streams) (mid : Option (List ℕ)) (batch lines pieces : List (List ℕ)) (refused wanting : Bool) (n : ℕ)
    → ReadsSome o.left_old o.left_new (lines ++ batch) → AreTold answers 1 lines pieces refused wanting → Adds o.written_old mid (concat pieces)
    → (own : List (List ℕ)) (later lacking : Bool) → AreTold answers n batch own later lacking → AddsFront mid o.written_new (concat own) → n ≡ 1 + length lines
    → IsServedInPart (Told answers (wanting || lacking)) o
in-part answers o mid batch lines pieces refused wanting n read report w own later lacking told front e = record {
  lines = lines ++ batch;
  part = read.0;
  pieces = pieces ++ own;
  refused = refused || later;
  reads = read.1;
  report = AreTold-append answers 1 lines pieces refused wanting n batch own later lacking report e told;
  writes = (concat pieces ++ front.0, (front.1.0, append_assoc (concat pieces) front.0 front.1.0 ∙ ap (λ t. concat pieces ++ t) front.1.1 ∙ sym (concat-append pieces own)), Adds-more o.written_old mid o.written_new (concat pieces) front.0 w front.2);
}

-- the answer to a batch stopped
pub at-batch : (answers : ℕ → List ℕ → List (List ℕ) → Bool → Type 0) (o : Streams) (mid : Option (List ℕ)) (mid_out : ℕ) (stop : Stop) (batch lines pieces : List (List ℕ)) (refused wanting before later : Bool) (n : ℕ)
    → ReadsSome o.left_old o.left_new (lines ++ batch) → AreTold answers 1 lines pieces refused wanting → before ≡ wanting → Adds o.written_old mid (concat pieces)
    → ServedBatch answers n batch mid o.written_new mid_out o.out_new before later (Err stop) → n ≡ 1 + length lines → o.out_old ≤ mid_out
    → (w : Bool) × IsFlag {X = Bool} (Err stop) false w later × Ends (Told answers w) o (Err stop)
at-batch answers o mid mid_out Read batch lines pieces refused wanting before later n read report was w served e le = absurd served.5
at-batch answers o mid mid_out TooLongStop batch lines pieces refused wanting before later n read report was w served e le = absurd served.5
at-batch answers o mid mid_out TooMany batch lines pieces refused wanting before later n read report was w served e le = absurd served.5
at-batch answers o mid mid_out Gaps batch lines pieces refused wanting before later n read report was w served e le = absurd served.5
at-batch answers o mid mid_out NoMemoryStop batch lines pieces refused wanting before later n read report was w served e le =
    (wanting || served.2, cc, in-part answers o mid batch lines pieces refused wanting n read report w served.0 served.1 served.2 served.3 served.5 e)
at-batch answers o mid mid_out Write batch lines pieces refused wanting before later n read report was w served e le =
    let front = served.5.0 in
    let risen = served.5.1 in (
      wanting || served.2,
      served.4 ∙ ap (λ b. b || served.2) was,
      (in-part answers o mid batch lines pieces refused wanting n read report w served.0 served.1 served.2 served.3 front e, omega (arith, risen, le)),
    )

-- the first of a list that are as many as it has, or more
pub take-whole : {X : Type 0} (f : X → List ℕ) (xs : List X) (i : ℕ) → length xs ≤ i → take i (map f xs) ≡ map f xs
take-whole f [] zero h = refl
take-whole f [] (suc i) h = refl
take-whole f (x ∷ xs) zero h = absurd (omega (arith, h))
take-whole f (x ∷ xs) (suc i) h = ap (λ t. f x ∷ t) (take-whole f xs i (omega (arith, h)))

take-mapped : {X : Type 0} (f : X → List ℕ) (s : ℕ) (xs : List X) → take s (map f xs) ≡ map f (take s xs)
take-mapped f zero xs = refl
take-mapped f (suc s) [] = refl
take-mapped f (suc s) (x ∷ xs) = ap (λ t. f x ∷ t) (take-mapped f s xs)

none-mapped : {X : Type 0} (f : X → List ℕ) (s : ℕ) → [] ≡ map f (take s [])
none-mapped f zero = refl
none-mapped f (suc s) = refl

-- a chunk more
pub take-chunk : {X : Type 0} (f : X → List ℕ) (a s : ℕ) (xs : List X) → take (a + s) (map f xs) ≡ take a (map f xs) ++ map f (take s (drop a xs))
take-chunk f zero s xs = let e : zero + s ≡ s = omega arith in ap (λ n. take n (map f xs)) e ∙ take-mapped f s xs
take-chunk f (suc a) s [] = let e : suc a + s ≡ suc (a + s) = omega arith in ap (λ n. take n (map f [])) e ∙ none-mapped f s
take-chunk f (suc a) s (x ∷ xs) = let e : suc a + s ≡ suc (a + s) = omega arith in ap (λ n. take n (f x ∷ map f xs)) e ∙ ap (λ t. f x ∷ t) (take-chunk f a s xs)

pub next-part : (k size : ℕ) → (k + 1) * size ≡ k * size + size
next-part k size = let e = ap (λ j. j * size) (add-one k) in let m = suc-mul k size in omega (arith, e, m)

-- so many chunks reach over the whole
pub spans : (count len size : ℕ) → 0 < size → count ≡ len / size + min 1 (len % size) → len ≤ count * size
spans count len size p is =
    let q = len / size in
    let r = len % size in
    let a : q * size + r ≡ len = div-add-mod' len size in
    let b : r < size = mod_below len size p in
    ⊎_elim
    (λ h. let e : count ≡ q + 1 = omega arith in let w = ap (λ n. n * size) e ∙ add-mul q 1 size in let o = one-mul size in omega arith)
    (λ h. let e : count ≡ q = omega arith in let w = ap (λ n. n * size) e in omega arith)
    (cases_lt 0 r)
