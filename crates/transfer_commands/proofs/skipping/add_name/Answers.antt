use Rattle.transfer_commands.proofs.SkipLemmas.{name-added}
use Rattle.transfer_commands.proofs.skipping.add_name.Goals as goal

pub returns : goal.returns
returns c = λ n. name-added c.args.set.now.keys c.insert.new.self.keys c.in_ok-from_str.field-0 c.args.name.now n c.in_ok-insert.ensures.keys c.in_ok-from_str.ensures.ok
