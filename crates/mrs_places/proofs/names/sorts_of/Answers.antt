use Rattle.std.proofs.Common.{◌≡◌, ◌≤◌, length, ap, arith}
use Rattle.grammar_settings.specs.SettingsViews.{sort_of}
use Rattle.mrs_places.specs.Settled.{sort_said}
use Rattle.mrs_places.proofs.Numbers.{gathered_all}
use Rattle.mrs_places.proofs.names.sorts_of.Goals as goal

pub returns : goal.returns
returns c =
    let xs = c.args.lines.now.items in
    let same : c.deref-line-items.result.now ≡ xs = c.deref-line-items.ensures.value in
    let past : length xs ≤ c.loop-line.line-index = omega (arith, ap length same) in
    gathered_all (sort_said c.args.types.now) sort_of xs c.loop-line.line-index _ past c.loop-line.invariant
