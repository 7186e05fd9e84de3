use Rattle.std.proofs.Common.{◌≡◌, length, Some, None, inl, inr, refl, arith, rules, ◌<◌}
use Rattle.std.specs.Str.{chars}
use Rattle.std.proofs.lemmas.Bool.Decides.{nat_tests}
use Rattle.mrs_spelling.specs.Reading.{done, stuck}
use Rattle.mrs_spelling.proofs.Scanned.{tokens_found, some_chars, no_chars, size_of_text, stopped_left}
use Rattle.mrs_spelling.specs.Grammar.{mrs}
use Rattle.mrs_spelling.proofs.grammar.tokens_of.Goals as goal

pub returns-in-Ok : goal.returns-in-Ok
returns-in-Ok c =
    let rest = c.in-Ok.rest.now in
    let n : length rest ≡ 0 = search rules in
    tokens_found (chars c.args.text.now) (chars rest) done c.in_ok-list.list.items c.scan.new.tokens.items None c.in_ok-list.ensures.items c.in-Ok.ensures.read (refl, no_chars rest n)

pub returns-in-Ok-2 : goal.returns-in-Ok-2
returns-in-Ok-2 c =
    let rest = c.in-Ok.rest.now in
    let n : 0 < length rest = grind (arith, nat_tests) in
    tokens_found (chars c.args.text.now) (chars rest) done c.in_ok-list.list.items c.scan.new.tokens.items (Some (length rest)) c.in_ok-list.ensures.items c.in-Ok.ensures.read
    (size_of_text rest c.in-Ok.ensures.utf8, inr (some_chars rest c.in-Ok.ensures.utf8 n))

pub returns-in-Err-Left : goal.returns-in-Err-Left
returns-in-Err-Left c =
    let s = stopped_left mrs (chars c.args.text.now) c.in_ok-list.list.items c.scan.new.tokens.items c.in-Err-Left.field-0 c.in-Err-Left.left c.in-Err-Left.field-0-is c.in-Err-Left.ensures.stopped in
    tokens_found (chars c.args.text.now) s.0 stuck c.in_ok-list.list.items c.scan.new.tokens.items (Some c.in-Err-Left.left) c.in_ok-list.ensures.items s.2 (s.1, inl refl)
