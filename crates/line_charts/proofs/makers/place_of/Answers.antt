use Rattle.std.proofs.Common.{ℕ, Vec, Global, sym, ap, ◌∙◌}
use Rattle.std.specs.Option.{unwrap_or}
use Rattle.derivation.specs.Order.{outermost}
use Rattle.derivation.proofs.Orders.{outermost_is_last}
use Rattle.derivation.proofs.Rows.{derivation_of-Lexical}
use Rattle.line_charts.specs.Charts.{place_of}
use Rattle.derivation.specs.Views.{derivation_of}
use Rattle.line_charts.proofs.makers.place_of.Goals as goal

pub returns-in-Lexical : goal.returns-in-Lexical
returns-in-Lexical c =
    let a = c.in-Lexical in
    c.unwrap_or.ensures
    ∙ ap (λ o. unwrap_or o a.entry) (c.copied.ensures ∙ c.last.ensures.value)
    ∙ outermost_is_last a.entry c.deref-in-Lexical.result.now
    ∙ ap (outermost a.entry) (c.deref-in-Lexical.ensures.value ∙ ap (λ (ds : Vec ℕ Global). ds.items) c.deref.ensures)
    ∙ ap place_of (sym (derivation_of-Lexical a.entry a.rules a.words a.nodes) ∙ ap derivation_of (sym a.is))
