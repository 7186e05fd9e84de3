use Rattle.std.proofs.Common.{◌≡◌, ◌++◌, take, drop}
use Rattle.profile_reports.specs.Profiles.{first_run, after_run}
use Rattle.profile_reports.proofs.heads.run_and_rest.Given as goal

abbrev pub invariant-loop-i : goal.invariant-loop-i
invariant-loop-i l = record {
  run : first_run l.letters ≡ take l.i l.letters ++ first_run (drop l.i l.letters);
  rest : after_run l.letters ≡ after_run (drop l.i l.letters);
}
