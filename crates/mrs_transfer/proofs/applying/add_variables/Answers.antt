use Rattle.std.proofs.Common.{ℕ, ◌≡◌, ◌+◌, ◌∙◌, List, [], length, ap, arith}
use Rattle.std.specs.Prelude.{map, string_bytes}
use Rattle.std.proofs.lemmas.List.{map_push, length_push}
use Rattle.mrs_model.specs.declared.Prop.{Prop}
use Rattle.mrs_model.specs.Meanings.{Property, Variable}
use Rattle.mrs_model.specs.Views.{property_of, variable_of}
use Rattle.transfer_model.specs.Applying.{new_variable}
use Rattle.mrs_transfer.proofs.Growing.{grown_more}
use Rattle.mrs_transfer.proofs.Shaped.{numbers_push}
use Rattle.mrs_transfer.proofs.applying.add_variables.Goals as goal

abbrev var_with : List ℕ → List Property → Variable
var_with t ps = record { sort = t; props = ps }

made_new : (t l : List ℕ) (ps : List Prop) → t ≡ l → ps ≡ [] → var_with t (map property_of ps) ≡ new_variable l
made_new t l ps e n = ap (λ (s : List ℕ). var_with s (map property_of ps)) e ∙ ap (λ (qs : List Prop). var_with l (map property_of qs)) n

pub loop-text-preserved : goal.loop-text-preserved
loop-text-preserved c =
    let n = ap length c.in_ok-push-2.ensures.items ∙ length_push c.loop-text.all.items _ in
    let q : c.in_ok-number_of.field-0 ≡ length c.args.all.now.items + c.loop-text.text-index = omega (arith, c.in_ok-number_of.ensures, c.len.ensures, c.loop-text.invariant.size, c.loop-text.all.ok.0) in
    record {
      size = omega (arith, n, c.loop-text.invariant.size);
      all = ap (map variable_of) c.in_ok-push-2.ensures.items
          ∙ (map_push variable_of c.loop-text.all.items _
          ∙ grown_more string_bytes new_variable (map variable_of c.args.all.now.items) (map variable_of c.loop-text.all.items) c.args.letters.now c.loop-text.text-index c.text-item.result _ (omega arith) c.text-item.is c.loop-text.invariant.all
          (made_new (string_bytes c.in_ok-sort.sort) (string_bytes c.text-item.result) c.new.result.items (c.in_ok-sort.ensures.ok ∙ c.as_str.ensures.value) c.new.ensures.items));
      vars = c.in_ok-push.ensures.items ∙ numbers_push c.args.vars.now.items c.loop-text.vars.items (length c.args.all.now.items) c.loop-text.text-index c.in_ok-number_of.field-0 c.loop-text.invariant.vars q;
    }
