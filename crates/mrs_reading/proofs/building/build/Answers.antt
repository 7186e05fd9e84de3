use Rattle.std.proofs.Common.{◌≡◌, [], true, false, arith, rules, map, take, vec_len}
use Rattle.std.proofs.lemmas.Bool.{OnTrue_at, OnFalse_at}
use Rattle.mrs_spelling.specs.declared.tokens.Token.{Token}
use Rattle.mrs_spelling.specs.declared.kinds.Kind.TheVariants.{Top}
use Rattle.mrs_reading.specs.Inner.Built.{word_at}
use Rattle.mrs_reading.proofs.Contexts.{keep_none}
use Rattle.mrs_reading.specs.Inner.Reading.{piece_at}
use Rattle.mrs_reading.proofs.Saying.{pieces_more, front_follows, nearly}
use Rattle.mrs_reading.proofs.Taking.{value_ready, breach_here, keeps_on, built_on, some_more, keeps_all}
use Rattle.mrs_reading.proofs.building.build.Goals as goal

abbrev at_default : Token
at_default = record { kind = Top; text = record { ref_ptr = (0, 0); now = [] }; left = 0 }

pub loop-token-init : goal.loop-token-init
loop-token-init c = (c.new-building.ensures.built, keep_none, λ l. absurd (omega arith), c.new-building.ensures.read)

pub take-requires : goal.take-requires
take-requires c = λ e. value_ready c.args.tokens.now c.loop-token.token-index at_default c.loop-token.building c.loop-token-test.true c.requires c.loop-token.invariant.0 c.loop-token.invariant.2 e

pub returns-then-not-branch-clause-breaks : goal.returns-then-not-branch-clause-breaks
returns-then-not-branch-clause-breaks c =
    let ts = c.args.tokens.now in
    let i = c.loop-token.token-index in
    let n : c.in_ok-take.field-0 ≡ false = search rules in
    breach_here ts i at_default c.loop-token-test.true c.loop-token.invariant.1 (OnFalse_at n c.in_ok-take.ensures.breaks (map word_at (take i ts)) c.loop-token.invariant.0)

pub loop-token-preserved : goal.loop-token-preserved
loop-token-preserved c =
    let ts = c.args.tokens.now in
    let i = c.loop-token.token-index in
    let ws = map word_at (take i ts) in
    let b = c.loop-token.invariant.0 in
    let y : c.in_ok-take.field-0 ≡ true = search rules in (
      built_on ts i at_default c.take.new.self c.loop-token-test.true (OnTrue_at y c.in_ok-take.ensures.built ws b),
      keeps_on ts i at_default c.loop-token-test.true c.loop-token.invariant.1 (OnTrue_at y c.in_ok-take.ensures.keeps ws b),
      λ _. some_more ts i at_default (vec_len c.loop-token.building.table.vars) (vec_len c.take.new.self.table.vars) c.loop-token-test.true c.requires c.loop-token.invariant.2 (OnTrue_at y c.in_ok-take.ensures.some ws b) (OnTrue_at y c.in_ok-take.ensures.more ws b),
      pieces_more ts i at_default c.take.new.self c.loop-token-test.true (OnTrue_at y c.in_ok-take.ensures.read ws (map piece_at (take i ts)) b c.loop-token.invariant.3 (front_follows ts i at_default c.loop-token-test.true c.requires)),
    )

pub returns-clause-keeps : goal.returns-clause-keeps
returns-clause-keeps c = keeps_all c.args.tokens.now c.loop-token.token-index c.loop-token-test.false c.loop-token.invariant.1

pub returns-clause-means : goal.returns-clause-means
returns-clause-means c = nearly c.args.tokens.now c.loop-token.token-index c.loop-token.building c.in_ok-finish.field-0 c.loop-token-test.false c.loop-token.invariant.0 c.loop-token.invariant.3 c.in_ok-finish.ensures
