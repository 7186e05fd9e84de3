use Rattle.std.proofs.Common.{◌<◌, ◌≤◌, ◌∙◌, ◌||◌, length, map, string_bytes, ap, sym, arith}
use Rattle.std.specs.Str.{bytes_eq}
use Rattle.grammar_settings.specs.Forms.{is_among}
use Rattle.transfer_commands.specs.Inner.{has_name}
use Rattle.transfer_commands.proofs.SkipLemmas.{name-taken, all-taken}
use Rattle.transfer_commands.proofs.skipping.set_of.Goals as goal

pub loop-name-preserved : goal.loop-name-preserved
loop-name-preserved c = λ n.
    let names = c.args.names.now in
    let i = c.loop-name.name-index in
    let within : i < length names = omega arith in
    sym (name-taken names i c.name-item.result (has_name c.loop-name.set.keys n) _ n within c.name-item.is (c.in_ok-add_name.ensures n ∙ ap (λ t. has_name c.loop-name.set.keys n || bytes_eq t n) c.deref.ensures)) ∙ c.loop-name.invariant n

pub returns : goal.returns
returns c = λ n.
    let names = c.args.names.now in
    let past : length names ≤ c.loop-name.name-index = omega arith in
    all-taken names c.loop-name.name-index (has_name c.loop-name.set.keys n) (is_among (map string_bytes names) n) n past (c.loop-name.invariant n)
