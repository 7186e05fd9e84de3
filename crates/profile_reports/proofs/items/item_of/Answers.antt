use Rattle.std.proofs.Common.{◌≡◌, ◌∙◌, length, nat_lt, false, IfOk, ap, subst, arith}
use Rattle.std.specs.Str.{chars, skip_leading_whitespace}
use Rattle.lkb_io.specs.Lines.{lines_of}
use Rattle.profile_reports.specs.Profiles.{written, trees_before}
use Rattle.profile_reports.specs.ItemsViews.{item_kept}
use Rattle.profile_reports.proofs.LineKinds.{of_bytes, of_text}
use Rattle.profile_reports.proofs.items.item_of.Goals as goal

pub returns-in_default : goal.returns-in_default
returns-in_default c =
    let short : nat_lt 65535 (length c.args.line.now) ≡ false = grind (arith, c.if-line-gt65535.false) in
    of_bytes c.args.line.now (trees_before (lines_of c.args.after.now)) short c.in_default.ensures.cases.0

pub returns : goal.returns
returns c =
    let short : nat_lt 65535 (length c.args.line.now) ≡ false = grind (arith, c.if-line-gt65535.false) in
    let trees = trees_before (lines_of c.args.after.now) in
    let letters = c.after_blanks.ensures ∙ ap skip_leading_whitespace (c.deref.ensures.value ∙ c.in_ok-letters.ensures ∙ ap chars c.in-Ok.ensures.cases.0) in
    subst (λ t. IfOk c.written.result (λ i. item_kept i ≡ t)) (ap (λ cs. written cs trees) letters ∙ of_text c.args.line.now trees short c.in-Ok.ensures.cases.1) c.written.ensures
