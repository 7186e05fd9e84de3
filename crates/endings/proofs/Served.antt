-- How a run over lines ends, by what was told of them.
use Rattle.std.proofs.Common.{◌≡◌, ◌≤◌, ◌⊎◌, Option, ℕ, List, [], Bool, true, false, Result, Ok, Err, sym, subst, append-nil, inl}
use Rattle.std.specs.List.{concat}
use Rattle.endings.specs.declared.Stop.{Stop}
use Rattle.endings.specs.declared.Stop.TheVariants.{Read, TooLong, TooMany, Write, Gaps, NoMemory}
use Rattle.endings.specs.Reports.{AreAnswers, OrNoMemory, Streams, Stops, Served, IsServed, IsServedTo, IsServedInPart}
use Rattle.endings.specs.Inner.Batches.{Told, IsFlag, Ends, end_with}
use Rattle.lkb_io.specs.Outside.{Adds, HasRisen}
use Rattle.endings.proofs.Flushing.{later, stops-later, flushed-later}
use Rattle.endings.proofs.ToldLines.{Answers, told-report, told-gaps}

module _ (answers : Answers) (o : Streams) where
  abbrev Reports : List (List ℕ) → List (List ℕ) → Bool → Type 0
  Reports = AreAnswers answers 1

  abbrev Gapped : List (List ℕ) → List (List ℕ) → Bool → Type 0
  Gapped = AreAnswers (OrNoMemory answers) 1

  -- how a run ends, before it is flushed where it stops
  abbrev pub Near : Result Bool Stop → Type 0
  Near (Ok refused) = IsServed Reports o refused
  Near (Err stop) = Stops Reports Gapped o stop

  abbrev to : IsServedTo (Told answers false) o → IsServedTo Reports o
  to r = record { lines = r.lines; part = r.part; pieces = r.pieces; refused = r.refused; reads = r.reads; report = told-report answers 1 r.lines r.pieces r.refused r.report; writes = r.writes }

  abbrev part : IsServedInPart (Told answers false) o → IsServedInPart Reports o
  part r = record { lines = r.lines; part = r.part; pieces = r.pieces; refused = r.refused; reads = r.reads; report = told-report answers 1 r.lines r.pieces r.refused r.report; writes = r.writes }

  -- a stop that counts as want of memory
  abbrev gapped : (w : Bool) → IsServedInPart (Told answers w) o → IsServedInPart Gapped o
  gapped w r = record { lines = r.lines; part = r.part; pieces = r.pieces; refused = w; reads = r.reads; report = told-gaps answers 1 r.lines r.pieces r.refused w r.report; writes = r.writes }

  no-gap : (end : Result Bool Stop) → Ends (Told answers false) o end → Near end
  no-gap (Ok refused) r = record { lines = r.lines; pieces = r.pieces; reads = r.reads; report = told-report answers 1 r.lines r.pieces refused r.report; writes = r.writes; flushed = r.flushed; few = r.few }
  no-gap (Err Read) s = (to s.0, s.1, s.2)
  no-gap (Err TooLong) s = (to s.0, s.1)
  no-gap (Err TooMany) r = record { lines = r.lines; part = r.part; pieces = r.pieces; refused = r.refused; reads = r.reads; report = told-report answers 1 r.lines r.pieces r.refused r.report; writes = r.writes; many = r.many }
  no-gap (Err Write) s = (part s.0, s.1)
  no-gap (Err Gaps) s = absurd s
  no-gap (Err NoMemory) s = gapped false s

  abbrev wholly : (w : Bool) → IsServedTo (Told answers w) o → IsServedInPart Gapped o
  wholly w r = record { lines = r.lines; part = r.part; pieces = r.pieces; refused = w; reads = inl r.reads; report = told-gaps answers 1 r.lines r.pieces r.refused w r.report; writes = (concat r.pieces, ([], append-nil _), r.writes) }

  with-gaps : (end : Result Bool Stop) → Ends (Told answers true) o end → Near (end_with true end)
  with-gaps (Ok refused) r = record { lines = r.lines; pieces = r.pieces; reads = r.reads; report = told-gaps answers 1 r.lines r.pieces refused true r.report; writes = r.writes; flushed = r.flushed; few = r.few }
  with-gaps (Err Read) s = wholly true s.0
  with-gaps (Err TooLong) s = wholly true s.0
  with-gaps (Err TooMany) r = record { lines = r.lines; part = r.part; pieces = r.pieces; refused = true; reads = r.reads; report = told-gaps answers 1 r.lines r.pieces r.refused true r.report; writes = (concat r.pieces, ([], append-nil _), r.writes) }
  with-gaps (Err Write) s = gapped true s.0
  with-gaps (Err Gaps) s = absurd s
  with-gaps (Err NoMemory) s = gapped true s

  by-flag : (w : Bool) (end : Result Bool Stop) → Ends (Told answers w) o end → Near (end_with w end)
  by-flag false end s = no-gap end s
  by-flag true end s = with-gaps end s

  -- a stop for want of memory is one, whatever was wanting before
  memory : (w later : Bool) → IsServedInPart (Told answers w) o → Near (end_with later (Err NoMemory))
  memory w false s = gapped w s
  memory w true s = gapped w s

  pub served-with : (w later : Bool) (end : Result Bool Stop) → IsFlag end false w later → Ends (Told answers w) o end → Near (end_with later end)
  served-with w later (Ok refused) e s = subst (λ l. Near (end_with l (Ok refused))) (sym e) (by-flag w (Ok refused) s)
  served-with w later (Err Read) e s = subst (λ l. Near (end_with l (Err Read))) (sym e) (by-flag w (Err Read) s)
  served-with w later (Err TooLong) e s = subst (λ l. Near (end_with l (Err TooLong))) (sym e) (by-flag w (Err TooLong) s)
  served-with w later (Err TooMany) e s = subst (λ l. Near (end_with l (Err TooMany))) (sym e) (by-flag w (Err TooMany) s)
  served-with w later (Err Write) e s = subst (λ l. Near (end_with l (Err Write))) (sym e) (by-flag w (Err Write) s)
  served-with w later (Err Gaps) e s = absurd s
  served-with w later (Err NoMemory) e s = memory w later s

  -- a run that came to its end was flushed
  pub whole : (later refused : Bool) → Near (end_with later (Ok refused)) → Served Reports Gapped o (end_with later (Ok refused))
  whole false refused s = s
  whole true refused s = (s, inl s.flushed)

  -- the same of a stop, after a flush that adds nothing
  pub stopped-later : (w flag : Bool) (stop : Stop) (written flushed : Option (List ℕ)) (faults : ℕ) → Adds o.written_new written [] → o.out_new ≤ faults → o.out_old ≤ o.out_new
      → (flushed ≡ written) ⊎ HasRisen o.out_new faults → IsFlag {X = Bool} (Err stop) false w flag → Ends (Told answers w) o (Err stop)
      → Served Reports Gapped (later o written flushed faults) (end_with flag (Err stop))
  stopped-later w true stop written flushed faults none le low out f s = (stops-later Reports Gapped o written flushed faults none le NoMemory (λ e. cc) (served-with w true (Err stop) f s), flushed-later o written flushed faults low out)
  stopped-later w false Read written flushed faults none le low out f s = (stops-later Reports Gapped o written flushed faults none le Read (λ e. cc) (served-with w false (Err Read) f s), flushed-later o written flushed faults low out)
  stopped-later w false TooLong written flushed faults none le low out f s = (stops-later Reports Gapped o written flushed faults none le TooLong (λ e. cc) (served-with w false (Err TooLong) f s), flushed-later o written flushed faults low out)
  stopped-later w false TooMany written flushed faults none le low out f s = (stops-later Reports Gapped o written flushed faults none le TooMany (λ e. cc) (served-with w false (Err TooMany) f s), flushed-later o written flushed faults low out)
  stopped-later w false Write written flushed faults none le low out f s = (stops-later Reports Gapped o written flushed faults none le Write (λ e. cc) (served-with w false (Err Write) f s), flushed-later o written flushed faults low out)
  stopped-later w false Gaps written flushed faults none le low out f s = absurd s
  stopped-later w false NoMemory written flushed faults none le low out f s = (stops-later Reports Gapped o written flushed faults none le NoMemory (λ e. cc) (served-with w false (Err NoMemory) f s), flushed-later o written flushed faults low out)
