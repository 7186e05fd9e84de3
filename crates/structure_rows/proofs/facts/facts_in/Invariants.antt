use Rattle.std.proofs.Common.{All, take}
use Rattle.fs_graph.specs.Facts.{claim_of}
use Rattle.fs_closing.specs.Rules.{IsClaimIn}
use Rattle.structure_rows.proofs.facts.facts_in.Given as goal

abbrev pub invariant-loop-fact : goal.invariant-loop-fact
invariant-loop-fact l = All (λ x. IsClaimIn l.types l.feats (claim_of x)) (take l.fact-index l.facts)
