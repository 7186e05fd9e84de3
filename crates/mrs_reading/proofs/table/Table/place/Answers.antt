use Rattle.std.proofs.Common.{◌≡◌, ◌∙◌, sym, subst, ap, map, false, refl, Some, ℕ, List, String, is_some}
use Rattle.std.specs.Global.{Global}
use Rattle.std.specs.List.{slice_get, list_any}
use Rattle.std.specs.Str.{str_to_ascii_lowercase, bytes_eq}
use Rattle.std.specs.String.{string_bytes}
use Rattle.std.proofs.lemmas.Slice.Eq.{bytes_eq-Decides}
use Rattle.mrs_model.specs.Views.{variable_of}
use Rattle.mrs_reading.specs.Inner.Tables.{keys_in, vars_in, letters_of, stays}
use Rattle.mrs_reading.proofs.Agreeing.{key_found, key_grown, inserted_new, pushed_variable}
use Rattle.mrs_reading.proofs.table.Table.place.Goals as goal

pub returns-in-Some-clause-grown : goal.returns-in-Some-clause-grown
returns-in-Some-clause-grown c = λ _.
    let low = str_to_ascii_lowercase c.args.text.now in
    let e : c.as_str.result.now ≡ low = c.as_str.ensures.value ∙ c.in_ok-lower_into.ensures in
    let k = key_found c.args.self.now.keys.keys c.as_str.result.now c.in-Some.at (sym c.get_index_of.ensures.index ∙ c.in-Some.is) in
    stays c.in-Some.at (subst (λ (z : List ℕ). slice_get (keys_in c.args.self.now) c.in-Some.at ≡ Some z) e k) refl refl

pub returns-clause-grown : goal.returns-clause-grown
returns-clause-grown c = λ _.
    let old = c.args.self.now in
    let low = str_to_ascii_lowercase c.args.text.now in
    let k = c.in_ok-from_str.field-0 in
    let e : c.as_str.result.now ≡ low = c.as_str.ensures.value ∙ c.in_ok-lower_into.ensures in
    let e2 : c.as_str-2.result.now ≡ low = c.as_str-2.ensures.value ∙ c.in_ok-lower_into.ensures in
    let e3 : string_bytes k ≡ low = c.in_ok-from_str.ensures.ok ∙ (c.as_str-3.ensures.value ∙ c.in_ok-lower_into.ensures) in
    let n : list_any (λ (z : String Global). bytes_eq c.as_str.result.now (string_bytes z)) old.keys.keys ≡ false = sym c.get_index_of.ensures.found ∙ ap is_some c.in_default.is in
    let n2 : list_any (λ (z : String Global). bytes_eq low (string_bytes z)) old.keys.keys ≡ false = subst (λ (b : List ℕ). list_any (λ (z : String Global). bytes_eq b (string_bytes z)) old.keys.keys ≡ false) e n in
    let g = inserted_new old.keys.keys c.insert_full.new.self.keys k low e3 n2 c.in_ok-at.ensures.keys in
    let s = c.in_ok-at.ensures.stored in
    let f : string_bytes s.0 ≡ low = sym ((bytes_eq-Decides (string_bytes k) (string_bytes s.0)).0 s.2) ∙ e3 in
    let v = pushed_variable old.vars.items c.push.new.self.items (record { sort = c.in_ok-sort.sort; props = c.new.result }) low (c.in_ok-sort.ensures ∙ ap letters_of e2) c.new.ensures.items c.in_ok-push.ensures.items in
    key_grown old.keys.keys c.insert_full.new.self.keys (vars_in old) (map variable_of c.push.new.self.items) k low c.in_ok-at.at s.0 e3 n2 g s.1 f v
