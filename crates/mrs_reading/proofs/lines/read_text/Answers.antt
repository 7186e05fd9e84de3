use Rattle.std.proofs.Common.{◌-◌, sym, subst, arith, ℕ, List, map}
use Rattle.std.specs.Str.{chars}
use Rattle.std.proofs.lemmas.Str.{scalars-chars}
use Rattle.mrs_spelling.specs.declared.tokens.Token.{Token}
use Rattle.mrs_spelling.specs.Scanning.{AreTokensOf}
use Rattle.mrs_spelling.specs.Conditions.{AllKeep}
use Rattle.mrs_reading.specs.Inner.Stages.{Follow}
use Rattle.mrs_reading.specs.Inner.Built.{kinds, IsBreach, IsRefusal, word_at}
use Rattle.mrs_reading.specs.Inner.Placing.{IsFaultAt, IsFaultOf}
use Rattle.mrs_model.specs.Views.{meaning_of}
use Rattle.mrs_reading.specs.Inner.Reading.{IsNearly, piece_at}
use Rattle.mrs_reading.proofs.Meant.{says, says_valid}
use Rattle.mrs_reading.proofs.Ending.{tokens_follow, breach_fault, stop_fault, text_size, left_fits, stop_fits}
use Rattle.mrs_reading.proofs.lines.read_text.Goals as goal

pub build-requires : goal.build-requires
build-requires c = let t = c.in_ok-tokens.tokens in subst (λ (z : List Token). Follow (kinds z)) (sym c.deref.ensures.value) (tokens_follow (chars c.args.text.now) t.list.items t.stop c.in_ok-tokens.ensures)

pub fault_at-requires : goal.fault_at-requires
fault_at-requires c =
    let t = c.in_ok-tokens.tokens in
    let s = text_size c.args.text.now c.utf8.text in
    let b : IsBreach t.list.items c.in-Err-Breaks.left = subst (λ (z : List Token). IsBreach z c.in-Err-Breaks.left) c.deref.ensures.value (subst (IsRefusal c.deref.result.now) c.in-Err-Breaks.field-0-is c.in-Err-Breaks.ensures.breaks) in
    let f = left_fits (chars c.args.text.now) t.list.items t.stop c.in-Err-Breaks.left c.in_ok-tokens.ensures b in
    omega (arith, s, f)

pub returns-in-Err-Breaks-clause-fault : goal.returns-in-Err-Breaks-clause-fault
returns-in-Err-Breaks-clause-fault c =
    let t = c.in_ok-tokens.tokens in
    let s = text_size c.args.text.now c.utf8.text in
    let b : IsBreach t.list.items c.in-Err-Breaks.left = subst (λ (z : List Token). IsBreach z c.in-Err-Breaks.left) c.deref.ensures.value (subst (IsRefusal c.deref.result.now) c.in-Err-Breaks.field-0-is c.in-Err-Breaks.ensures.breaks) in
    subst (IsFaultOf (chars c.args.text.now)) (sym c.fault_at.ensures) (
    subst (λ (n : ℕ). IsFaultAt (chars c.args.text.now) (n - c.in-Err-Breaks.left)) s (breach_fault (chars c.args.text.now) t.list.items t.stop c.in-Err-Breaks.left c.in_ok-tokens.ensures b))

pub returns-in-None-clause-found : goal.returns-in-None-clause-found
returns-in-None-clause-found c =
    let t = c.in_ok-tokens.tokens in
    says (chars c.args.text.now) t.list.items (meaning_of c.in-Ok.mrs) (subst (AreTokensOf (chars c.args.text.now) t.list.items) c.in-None.is c.in_ok-tokens.ensures)
    (subst (λ (z : List Token). AllKeep (map word_at z)) c.deref.ensures.value c.in-Ok.ensures.keeps) (subst (λ (z : List Token). IsNearly (map piece_at z) (meaning_of c.in-Ok.mrs)) c.deref.ensures.value c.in-Ok.ensures.means)

pub returns-in-None-clause-valid : goal.returns-in-None-clause-valid
returns-in-None-clause-valid c =
    let t = c.in_ok-tokens.tokens in
    says_valid (meaning_of c.in-Ok.mrs) (chars c.args.text.now) (scalars-chars c.args.text.now c.utf8.text) (
    says (chars c.args.text.now) t.list.items (meaning_of c.in-Ok.mrs) (subst (AreTokensOf (chars c.args.text.now) t.list.items) c.in-None.is c.in_ok-tokens.ensures)
    (subst (λ (z : List Token). AllKeep (map word_at z)) c.deref.ensures.value c.in-Ok.ensures.keeps) (subst (λ (z : List Token). IsNearly (map piece_at z) (meaning_of c.in-Ok.mrs)) c.deref.ensures.value c.in-Ok.ensures.means))

pub fault_at-requires-in-Some : goal.fault_at-requires-in-Some
fault_at-requires-in-Some c =
    let t = c.in_ok-tokens.tokens in
    let s = text_size c.args.text.now c.utf8.text in
    let f = stop_fits (chars c.args.text.now) t.list.items c.in-Some.left (subst (AreTokensOf (chars c.args.text.now) t.list.items) c.in-Some.is c.in_ok-tokens.ensures) in
    omega (arith, s, f)

pub returns-clause-fault : goal.returns-clause-fault
returns-clause-fault c =
    let t = c.in_ok-tokens.tokens in
    let s = text_size c.args.text.now c.utf8.text in
    let f = stop_fault (chars c.args.text.now) t.list.items c.in-Some.left (subst (AreTokensOf (chars c.args.text.now) t.list.items) c.in-Some.is c.in_ok-tokens.ensures)
    (subst (λ (z : List Token). AllKeep (map word_at z)) c.deref.ensures.value c.in-Ok.ensures.keeps) in
    subst (IsFaultOf (chars c.args.text.now)) (sym c.fault_at-in-Some.ensures) (
    subst (λ (n : ℕ). IsFaultAt (chars c.args.text.now) (n - c.in-Some.left)) s f)
