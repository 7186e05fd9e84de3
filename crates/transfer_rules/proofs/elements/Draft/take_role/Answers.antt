use Rattle.std.proofs.Common.{refl, sym}
use Rattle.mrs_model.specs.Views.{argument_of}
use Rattle.transfer_rules.proofs.Taking.{on_ok, role_seen}
use Rattle.transfer_rules.proofs.elements.Draft.take_role.Goals as goal

pub returns-clause-some : goal.returns-clause-some
returns-clause-some c = on_ok c.add_role.result
    (λ a. record {
      argument = argument_of (record { name = c.in_ok-name.name; value = c.in_ok-value.value });
      is = record { name = sym c.in_ok-name.ensures.ok; filler = c.in_ok-value.ensures.some };
      added = role_seen c.args.self.now.roles.items (record { name = c.in_ok-name.name; value = c.in_ok-value.value }) c.add_role.new.roles.items a;
      pred = refl;
      label = refl;
    })
    c.add_role.ensures.some
