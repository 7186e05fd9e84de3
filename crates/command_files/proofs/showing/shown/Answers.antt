use Rattle.std.proofs.Common.{◌≡◌, ◌∙◌, false, refl, sym, arith}
use Rattle.command_files.specs.FaultTexts.{has_place}
use Rattle.command_files.proofs.ShownLemmas.{shown_at, shown_whole, shown_shelf}
use Rattle.command_files.proofs.showing.shown.Goals as goal

pub returns-then-has_place-clause-shown : goal.returns-then-has_place-clause-shown
returns-then-has_place-clause-shown g c =
    shown_at (g.S.Shelf.files c.args.shelf.now) c.args.file.now c.args.at c.args.why.now c.why_shown.result (sym c.has_place.ensures ∙ c.if-has_place.true) c.why_shown.ensures.shown

pub returns-in-Shelf-clause-shown : goal.returns-in-Shelf-clause-shown
returns-in-Shelf-clause-shown g c =
    shown_shelf (g.S.Shelf.files c.args.shelf.now) c.args.file.now c.args.at c.args.why.now c.line_of.result c.shelf_cause.result.now c.cause.result c.shelf_cause.ensures c.in-Shelf.is c.line_of.ensures.line

pub returns-in_default : goal.returns-in_default
returns-in_default g c =
    let none : has_place c.args.why.now ≡ false = sym c.has_place.ensures ∙ c.if-has_place.false in
    record {
      shown =
          shown_whole (g.S.Shelf.files c.args.shelf.now) c.args.file.now c.args.at c.args.why.now c.line_of-in_default.result c.cause-in_default.result.now c.cause-in_default.ensures none
          c.in_default.not-Shelf c.line_of-in_default.ensures.line;
      read = λ e. absurd (c.line_of-in_default.ensures.read e);
      still = λ e. refl;
      same = refl;
      no_fall = omega arith;
    }
