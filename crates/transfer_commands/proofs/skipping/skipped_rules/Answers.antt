use Rattle.std.proofs.Common.{◌≡◌, ◌∙◌, map, string_bytes}
use Rattle.std.proofs.lemmas.Result.{IfOk-weaker}
use Rattle.transfer_commands.specs.Rewriters.{skipped_by}
use Rattle.transfer_commands.specs.Inner.{skipped_in}
use Rattle.transfer_commands.proofs.SkipLemmas.{skipped-same}
use Rattle.transfer_commands.proofs.skipping.skipped_rules.Goals as goal

pub returns : goal.returns
returns c =
    let names = map string_bytes c.args.names.now in
    let keys = c.in_ok-set.set.keys in
    let rules = c.args.rules.now in
    IfOk-weaker c.skipped_in.result (λ v. v.items ≡ skipped_in keys rules) (λ v. v.items ≡ skipped_by names rules) (λ v e. e ∙ skipped-same keys names c.in_ok-set.ensures rules) c.skipped_in.ensures
