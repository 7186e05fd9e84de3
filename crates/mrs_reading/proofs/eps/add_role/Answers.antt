use Rattle.std.proofs.Common.{◌≡◌, refl, subst, ap, map}
use Rattle.std.specs.Str.{str_to_ascii_lowercase}
use Rattle.std.specs.String.{string_bytes}
use Rattle.std.proofs.lemmas.Result.{on_ok_weaker}
use Rattle.mrs_model.specs.declared.Role.{Role}
use Rattle.mrs_model.specs.Meanings.{Argument}
use Rattle.mrs_model.specs.Views.{argument_of, filler_of}
use Rattle.mrs_reading.specs.Inner.Tables.{IsAdded}
use Rattle.mrs_reading.proofs.Rising.{added_map}
use Rattle.mrs_reading.proofs.eps.add_role.Goals as goal

pub returns : goal.returns
returns c =
    let x : Role = record { name = c.in_ok-name.name; value = c.args.value } in
    let old = c.args.ep.now.roles.items in
    let new = c.add.new.list.items in
    let e : argument_of x ≡ record { role = str_to_ascii_lowercase c.args.role.now; filler = filler_of c.args.value } = ap (λ z. record { role = z; filler = filler_of c.args.value }) c.in_ok-name.ensures.ok in
    on_ok_weaker c.add.result (λ a. record {
      pred = refl;
      label = refl;
      span = refl;
      args = subst (λ (z : Argument). IsAdded (λ (b : Argument). b.role) (map argument_of old) z (map argument_of new)) e (added_map argument_of (λ (r : Role). string_bytes r.name) (λ (b : Argument). b.role) (λ r. refl) old x new a);
    }) c.add.ensures
