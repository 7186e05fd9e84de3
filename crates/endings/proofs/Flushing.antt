-- A flush after a stop adds nothing to what was written.
use Rattle.std.proofs.Common.{◌≡◌, ◌≤◌, ◌⊎◌, inl, inr, ℕ, List, [], Bool, Option, Err, subst, refl, append-nil, arith}
use Rattle.std.specs.List.{concat}
use Rattle.lkb_io.specs.Outside.{HasRisen, Adds, AddsFront}
use Rattle.lkb_io.proofs.Told.{Adds-more}
use Rattle.endings.specs.declared.Stop.{Stop}
use Rattle.endings.specs.declared.Stop.TheVariants.{Read, TooLong, TooMany, Write, Gaps, NoMemory}
use Rattle.endings.specs.Reports.{Streams, Output, output_of, IsFlushed, Stops, IsServedTo, IsServedInPart, Said, Exactly}

pub Adds-same : (old mid new : Option (List ℕ)) (piece : List ℕ) → Adds old mid piece → Adds mid new [] → Adds old new piece
Adds-same old mid new piece whole none = subst (Adds old new) (append-nil piece) (Adds-more old mid new piece [] whole none)

pub AddsFront-same : (old mid new : Option (List ℕ)) (piece : List ℕ) → AddsFront old mid piece → Adds mid new [] → AddsFront old new piece
AddsFront-same old mid new piece front none = (front.0, front.1, Adds-same old mid new front.0 front.2 none)

-- what the streams tell after the flush
abbrev pub later : Streams → Option (List ℕ) → Option (List ℕ) → ℕ → Streams
later o written flushed faults = record { left_old = o.left_old; left_new = o.left_new; in_old = o.in_old; in_new = o.in_new; written_old = o.written_old; written_new = written; flushed_new = flushed; out_old = o.out_old; out_new = faults }

module _ (reports gaps : List (List ℕ) → List (List ℕ) → Bool → Type 0) (o : Streams) (written flushed : Option (List ℕ)) (faults : ℕ) (none : Adds o.written_new written []) (le : o.out_new ≤ faults) where
  abbrev to : IsServedTo reports o → IsServedTo reports (later o written flushed faults)
  to r = record { lines = r.lines; part = r.part; pieces = r.pieces; refused = r.refused; reads = r.reads; report = r.report; writes = Adds-same o.written_old o.written_new written (concat r.pieces) r.writes none }

  abbrev in_part : (R : List (List ℕ) → List (List ℕ) → Bool → Type 0) → IsServedInPart R o → IsServedInPart R (later o written flushed faults)
  in_part R r = record { lines = r.lines; part = r.part; pieces = r.pieces; refused = r.refused; reads = r.reads; report = r.report; writes = AddsFront-same o.written_old o.written_new written (concat r.pieces) r.writes none }

  pub stops-later : (stop : Stop) → (stop ≡ Gaps → ⊥) → Stops reports gaps o stop → Stops reports gaps (later o written flushed faults) stop
  stops-later Read n s = (to s.0, s.1, s.2)
  stops-later TooLong n s = (to s.0, s.1)
  stops-later TooMany n r = record { lines = r.lines; part = r.part; pieces = r.pieces; refused = r.refused; reads = r.reads; report = r.report; writes = Adds-same o.written_old o.written_new written (concat r.pieces) r.writes none; many = r.many }
  stops-later Write n s = (in_part reports s.0, (let risen = s.1 in omega (arith, risen, le)))
  stops-later Gaps n s = absurd (n refl)
  stops-later NoMemory n s = in_part gaps s

-- then what was written was flushed, unless the sink failed
pub flushed-later : (o : Streams) (written flushed : Option (List ℕ)) (faults : ℕ) → o.out_old ≤ o.out_new → (flushed ≡ written) ⊎ HasRisen o.out_new faults → IsFlushed (output_of (later o written flushed faults))
flushed-later o written flushed faults le (inl e) = inl e
flushed-later o written flushed faults le (inr risen) = inr (omega (arith, risen, le))

-- all that a put that failed gives, after the flush too
pub said-front : (own : List (List ℕ)) (told : Bool) (p : Output) (mid_written : Option (List ℕ)) (mid : ℕ) → AddsFront p.written_old mid_written (concat own) → p.faults_old ≤ mid → HasRisen p.faults_old mid → Adds mid_written p.written_new [] → mid ≤ p.faults_new
    → (gaps : List (List ℕ) → List (List ℕ) → Bool → Type 0) → Said (Exactly own told) gaps p (Err Write)
said-front own told p mid_written mid front le risen none after gaps =
    let rose : HasRisen p.faults_old p.faults_new = omega (arith, risen, after) in
    ((record { pieces = own; refused = told; report = λ lines. (refl, refl); writes = AddsFront-same p.written_old mid_written p.written_new (concat own) front none }, rose), inr rose)
