use Rattle.std.proofs.Common.{◌≡◌, ap, arith, true, false, refl, rules}
use Rattle.std.specs.Str.{str_to_ascii_lowercase}
use Rattle.std.specs.String.{string_bytes}
use Rattle.std.proofs.lemmas.List.{length-map}
use Rattle.std.proofs.lemmas.Result.{on_ok_weaker}
use Rattle.mrs_model.specs.Views.{variable_of}
use Rattle.mrs_reading.specs.Inner.Tables.{keys_in, vars_in, is_variable}
use Rattle.mrs_reading.specs.Inner.Reading.{piece_at}
use Rattle.mrs_reading.proofs.Saying.{grows_same, grows_from}
use Rattle.mrs_reading.proofs.Tabled.{named_table, kept_table, turned_table}
use Rattle.mrs_reading.proofs.Agreeing.{kept_ok, yes_weaker, value_kind, grown_even, name_same}
use Rattle.mrs_reading.proofs.table.Table.take.Goals as goal

pub returns-in_ok-lower_into-in-PropName-clause-table : goal.returns-in_ok-lower_into-in-PropName-clause-table
returns-in_ok-lower_into-in-PropName-clause-table c = λ d gs t.
    let s = c.args.self.now in
    named_table d gs (keys_in s) (vars_in s) s.last (string_bytes s.name) c.args.token.now.kind (str_to_ascii_lowercase c.args.token.now.text.now) (string_bytes c.lower_into.new.into) c.in-PropName.is c.in_ok-lower_into-in-PropName.ensures t

pub returns-in-PropValue-clause-table : goal.returns-in-PropValue-clause-table
returns-in-PropValue-clause-table c =
    let n = c.value.new.self in
    yes_weaker c.value.result (λ g d gs t. value_kind d gs c.args.token.now.kind (str_to_ascii_lowercase c.args.token.now.text.now) (keys_in n) (vars_in n) n.last (string_bytes n.name) c.in-PropValue.is (g d gs t)) c.value.ensures.given

pub returns-in_ok-self-in_default : goal.returns-in_ok-self-in_default
returns-in_ok-self-in_default c =
    let s = c.args.self.now in
    let n = c.place.new.self in
    let k = c.args.token.now.kind in
    let low = str_to_ascii_lowercase c.args.token.now.text.now in
    let at = c.in_ok-self-in_default.field-0 in
    let v : is_variable k ≡ true = search rules in
    let m = length-map s.vars.items variable_of in
    let m2 = length-map n.vars.items variable_of in
    let o = length-map s.keys.keys string_bytes in record {
      table = λ d gs t.
          let e = t.even in
          let g = c.in_ok-self-in_default.ensures.grown (omega (arith, e, m, o, s.vars.ok.0)) in
          name_same d gs k low (keys_in n) (vars_in n) at (string_bytes s.name) (string_bytes n.name) c.in_ok-self-in_default.ensures.name (turned_table d gs (keys_in s) (vars_in s) s.last (string_bytes s.name) k low (keys_in n) (vars_in n) at v g t);
      keeps = λ d gs t e b. absurd (c.in_default.not-PropValue e);
      breaks = tt;
      some = λ d gs t _.
          let e = t.even in
          let g = c.in_ok-self-in_default.ensures.grown (omega (arith, e, m, o, s.vars.ok.0)) in
          let w = grown_even (keys_in s) (vars_in s) low (keys_in n) (vars_in n) at e g in
          omega (arith, w.0, m2, n.vars.ok.0);
      grown = λ d gs t.
          let e = t.even in
          let g = c.in_ok-self-in_default.ensures.grown (omega (arith, e, m, o, s.vars.ok.0)) in
          grows_from (keys_in s) (vars_in s) (piece_at c.args.token.now) (keys_in n) (vars_in n) at v g;
      more = λ d gs t.
          let e = t.even in
          let g = c.in_ok-self-in_default.ensures.grown (omega (arith, e, m, o, s.vars.ok.0)) in
          let w = grown_even (keys_in s) (vars_in s) low (keys_in n) (vars_in n) at e g in
          omega (arith, w.1, m, m2, n.vars.ok.0, s.vars.ok.0);
    }

pub returns-else-is_variable : goal.returns-else-is_variable
returns-else-is_variable c =
    let s = c.args.self.now in
    let k = c.args.token.now.kind in
    let low = str_to_ascii_lowercase c.args.token.now.text.now in
    let v : is_variable k ≡ false = search rules in record {
      table = λ d gs t. kept_table d gs (keys_in s) (vars_in s) s.last (string_bytes s.name) k low v c.in_default.not-PropName c.in_default.not-PropValue t;
      keeps = λ d gs t e b. absurd (c.in_default.not-PropValue e);
      breaks = tt;
      some = λ d gs t e. absurd (cc);
      grown = λ d gs t. grows_same (keys_in s) (keys_in s) (piece_at c.args.token.now) s.last refl v;
      more = λ d gs t. omega arith;
    }

pub returns-in_ok-lower_into-in-PropName-clause-grown : goal.returns-in_ok-lower_into-in-PropName-clause-grown
returns-in_ok-lower_into-in-PropName-clause-grown c = λ d gs t. grows_same (keys_in c.args.self.now) (keys_in c.args.self.now) (piece_at c.args.token.now) c.args.self.now.last refl (ap is_variable c.in-PropName.is)

pub returns-in-PropValue-clause-grown : goal.returns-in-PropValue-clause-grown
returns-in-PropValue-clause-grown c =
    on_ok_weaker c.value.result (λ _ d gs t. grows_same (keys_in c.args.self.now) (keys_in c.value.new.self) (piece_at c.args.token.now) c.value.new.self.last c.value.ensures.keys (ap is_variable c.in-PropValue.is)) (kept_ok c.value.result)
