use Rattle.std.proofs.Common.{ℕ, ◌≡◌, true, slice_index_or, arith, subst, sym}
use Rattle.type_hierarchy.specs.Table.{is_below}
use Rattle.fs_model.specs.Claims.{Has}
use Rattle.fs_closing.specs.Rules.{facts_in}
use Rattle.fs_closing.proofs.HasLemmas.{Has-at}
use Rattle.forced_types.specs.Inner.Closed.{AreHeld}
use Rattle.forced_types.proofs.SoundLemmas.{entry_count}
use Rattle.forced_types.proofs.TypeLemmas.{at_every, one_more}
use Rattle.forced_types.proofs.nodes.Nodes.holds_all.Goals as goal

pub holds_type-requires-clause-ty : goal.holds_type-requires-clause-ty
holds_type-requires-clause-ty c =
    let t = c.args.self.now in
    let x = slice_index_or c.types-types.result.now c.loop-k.k 0 in
    (c.requires.sound.entries.each c.args.n (omega (arith, entry_count t, c.requires.node))).type_in x
    (subst (Has x) c.types-types.ensures (Has-at c.types-types.result.now c.loop-k.k 0 (omega (arith, c.loop-k-test.true))))

pub loop-k-preserved : goal.loop-k-preserved
loop-k-preserved c =
    let types = c.args.given.system.now.types in
    one_more (λ j. (u : ℕ) → is_below types (slice_index_or c.types-types.result.now j 0) u ≡ true → AreHeld types c.args.self.now c.args.n c.args.left (facts_in c.args.given.system.now.rules u))
    c.loop-k.k c.loop-k.invariant (c.holds_type.ensures c.if-not-holds_type.false)

pub returns : goal.returns
returns c = λ _ u cov.
    let types = c.args.given.system.now.types in
    at_every c.types-types.result.now (λ x. (u : ℕ) → is_below types x u ≡ true → AreHeld types c.args.self.now c.args.n c.args.left (facts_in c.args.given.system.now.rules u)) 0
    (λ k i. c.loop-k.invariant k (omega (arith, c.loop-k-test.false))) cov.lower (subst (Has cov.lower) (sym c.types-types.ensures) cov.has) u cov.under
