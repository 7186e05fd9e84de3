-- What a command's own code gives, as the end of its run.
use Rattle.std.proofs.Common.{◌≡◌, ℕ, List, Bool, true, false, Result, Ok, Err, inl, inr, subst, sym}
use Rattle.endings.specs.declared.Stop.{Stop}
use Rattle.endings.specs.declared.Stop.TheVariants.{Read, TooLong, TooMany, Write, Gaps, NoMemory}
use Rattle.endings.specs.declared.Fault.{Fault}
use Rattle.endings.specs.declared.Fault.TheVariants.{Usage, Files as FilesFault, Stopped}
use Rattle.endings.specs.Meanings.{Meaning, Shelves}
use Rattle.endings.specs.Reports.{Streams, Output, output_of, Served, IsServedTo, IsServedInPart, Said, IsSaidInPart, Exactly, NoReport}
use Rattle.endings.specs.Endings.{Runs, Ran, Ended, NotCome}

abbrev Reports : Type 1
Reports = List (List ℕ) → List (List ℕ) → Bool → Type 0

abbrev Includes : Reports → Reports → Type 0
Includes R T = (lines pieces : List (List ℕ)) (refused : Bool) → R lines pieces refused → T lines pieces refused

abbrev to : (R T : Reports) (o : Streams) → Includes R T → IsServedTo R o → IsServedTo T o
to R T o f r = record { lines = r.lines; part = r.part; pieces = r.pieces; refused = r.refused; reads = r.reads; report = f r.lines r.pieces r.refused r.report; writes = r.writes }

abbrev in_part : (R T : Reports) (o : Streams) → Includes R T → IsServedInPart R o → IsServedInPart T o
in_part R T o f r = record { lines = r.lines; part = r.part; pieces = r.pieces; refused = r.refused; reads = r.reads; report = f r.lines r.pieces r.refused r.report; writes = r.writes }

abbrev said_in_part : (R T : Reports) (p : Output) → Includes R T → IsSaidInPart R p → IsSaidInPart T p
said_in_part R T p f r = record { pieces = r.pieces; refused = r.refused; report = λ lines. f lines r.pieces r.refused (r.report lines); writes = r.writes }

-- a report of one kind is one of another, and so is one with gaps
module _ (R T G H : Reports) (f : Includes R T) (k : Includes G H) where
  served-map : (o : Streams) (end : Result Bool Stop) → Served R G o end → Served T H o end
  served-map o (Ok refused) r = record { lines = r.lines; pieces = r.pieces; reads = r.reads; report = f r.lines r.pieces refused r.report; writes = r.writes; flushed = r.flushed; few = r.few }
  served-map o (Err Read) s = ((to R T o f s.0.0, s.0.1, s.0.2), s.1)
  served-map o (Err TooLong) s = ((to R T o f s.0.0, s.0.1), s.1)
  served-map o (Err TooMany) s =
      let r = s.0 in
      (record { lines = r.lines; part = r.part; pieces = r.pieces; refused = r.refused; reads = r.reads; report = f r.lines r.pieces r.refused r.report; writes = r.writes; many = r.many }, s.1)
  served-map o (Err Write) s = ((in_part R T o f s.0.0, s.0.1), s.1)
  served-map o (Err Gaps) s =
      let r = s.0 in
      (record { lines = r.lines; pieces = r.pieces; reads = r.reads; report = k r.lines r.pieces true r.report; writes = r.writes; flushed = r.flushed; few = r.few }, s.1)
  served-map o (Err NoMemory) s = (in_part G H o k s.0, s.1)

  said-map : (p : Output) (end : Result Bool Stop) → Said R G p end → Said T H p end
  said-map p (Ok refused) r = record { pieces = r.pieces; report = λ lines. f lines r.pieces refused (r.report lines); writes = r.writes; flushed = r.flushed }
  said-map p (Err Read) s = s
  said-map p (Err TooLong) s = s
  said-map p (Err TooMany) s = s
  said-map p (Err Write) s = ((said_in_part R T p f s.0.0, s.0.1), s.1)
  said-map p (Err Gaps) s =
      let r = s.0 in
      (record { pieces = r.pieces; report = λ lines. k lines r.pieces true (r.report lines); writes = r.writes; flushed = r.flushed }, s.1)
  said-map p (Err NoMemory) s = (said_in_part G H p k s.0, s.1)

-- the one report that was made, where it is a report of the command
pub exactly : (T : Reports) (own : List (List ℕ)) (told : Bool) → ((lines : List (List ℕ)) → T lines own told) → Includes (Exactly own told) T
exactly T own told report lines pieces refused r = subst (λ p. T lines p refused) (sym r.0) (subst (T lines own) (sym r.1) (report lines))

-- there is none
pub none-gapped : (T : Reports) → Includes NoReport T
none-gapped T lines pieces refused r = absurd r

module _ (m : Meaning) (h : Shelves) (o : Streams) (idle untouched : Type 0) where
  ran-ended : (refused : Bool) → Ran m h o idle (Ok refused) → Ended m h o idle untouched (Ok refused)
  ran-ended refused s = s

  -- a stop of the run
  ran-stopped : (stop : Stop) → Ran m h o idle (Err stop) → Ended m h o idle untouched (Err (Stopped stop))
  ran-stopped Read s = s
  ran-stopped TooLong s = s
  ran-stopped TooMany s = s
  ran-stopped Write s = s
  ran-stopped Gaps s = s
  ran-stopped NoMemory s = inr s

  ran-lines : (R G : Reports) → m.reads ≡ true → Includes R (m.report h.files) → Includes G (m.with_gaps h.files) → (end : Result Bool Stop) → Served R G o end → Ran m h o idle end
  ran-lines R G is f k end s = subst (λ b. Runs b (m.report h.files) (m.with_gaps h.files) o idle end) (sym is) (served-map R (m.report h.files) G (m.with_gaps h.files) f k o end s)

  ran-whole : (R G : Reports) → m.reads ≡ false → Includes R (m.report h.files) → Includes G (m.with_gaps h.files) → idle → (end : Result Bool Stop) → Said R G (output_of o) end → Ran m h o idle end
  ran-whole R G is f k calm end s = subst (λ b. Runs b (m.report h.files) (m.with_gaps h.files) o idle end) (sym is) (said-map R (m.report h.files) G (m.with_gaps h.files) f k (output_of o) end s, calm)

  -- A command that reads lines: its answers to them, where they are its report, and those with gaps.
  pub lines-ended : (R G : Reports) → m.reads ≡ true → Includes R (m.report h.files) → Includes G (m.with_gaps h.files) → (refused : Bool) → Served R G o (Ok refused) → Ended m h o idle untouched (Ok refused)
  lines-ended R G is f k refused s = ran-ended refused (ran-lines R G is f k (Ok refused) s)

  pub lines-stopped : (R G : Reports) → m.reads ≡ true → Includes R (m.report h.files) → Includes G (m.with_gaps h.files) → (stop : Stop) → Served R G o (Err stop) → Ended m h o idle untouched (Err (Stopped stop))
  lines-stopped R G is f k stop s = ran-stopped stop (ran-lines R G is f k (Err stop) s)

  -- A command that makes its report at once and reads no lines.
  pub whole-ended : (R G : Reports) → m.reads ≡ false → Includes R (m.report h.files) → Includes G (m.with_gaps h.files) → idle → (refused : Bool) → Said R G (output_of o) (Ok refused) → Ended m h o idle untouched (Ok refused)
  whole-ended R G is f k calm refused s = ran-ended refused (ran-whole R G is f k calm (Ok refused) s)

  pub whole-stopped : (R G : Reports) → m.reads ≡ false → Includes R (m.report h.files) → Includes G (m.with_gaps h.files) → idle → (stop : Stop) → Said R G (output_of o) (Err stop) → Ended m h o idle untouched (Err (Stopped stop))
  whole-stopped R G is f k calm stop s = ran-stopped stop (ran-whole R G is f k calm (Err stop) s)

  -- a fault of the files, before anything was read or written
  pub not-come : (fault : Fault) → NotCome m h fault → untouched → Ended m h o idle untouched (Err fault)
  not-come (Usage text) c u = absurd c
  not-come (FilesFault text) c u = (c.0, c.1, c.2, u)
  not-come (Stopped NoMemory) c u = inl u
  not-come (Stopped Read) c u = absurd c
  not-come (Stopped TooLong) c u = absurd c
  not-come (Stopped TooMany) c u = absurd c
  not-come (Stopped Write) c u = absurd c
  not-come (Stopped Gaps) c u = absurd c
