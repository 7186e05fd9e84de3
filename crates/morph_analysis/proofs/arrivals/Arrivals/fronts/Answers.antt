use Rattle.std.proofs.Common.{◌∙◌, map, string_bytes, sym, ap, subst}
use Rattle.morph_analysis.specs.LatticeViews.{step_of}
use denote.Ref.{Bor}
use Rattle.morph_analysis.specs.declared.lattice.Step.{Step}
use Rattle.std.specs.List.Sorted.{IsNonDecreasingBy}
use Rattle.morph_analysis.specs.Lattices.{AreFronts}
use Rattle.morph_analysis.proofs.arrivals.Arrivals.fronts.Goals as goal

pub fronts_of-requires : goal.fronts_of-requires
fronts_of-requires c = subst (λ l. IsNonDecreasingBy (λ (s : Bor Step). s.now.to) l) (sym c.deref.ensures.value) c.self.invariant

pub returns : goal.returns
returns c = subst (λ l. AreFronts l (map string_bytes c.args.words.now) c.args.node c.in_ok-froms.froms.items) (ap (map (λ (s : Bor Step). step_of s.now)) c.deref.ensures.value ∙ c.self.view_is) c.in_ok-froms.ensures
