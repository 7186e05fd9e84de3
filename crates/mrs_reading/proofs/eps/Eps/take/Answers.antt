use Rattle.std.proofs.Common.{◌≡◌, ◌∙◌, List, ℕ, Bor, inl, inr, sym, subst, ap, map, codes, not, refl, Vec}
use Rattle.std.specs.List.{Contains}
use Rattle.std.specs.Global.{Global}
use Rattle.std.specs.Str.{str_to_ascii_lowercase}
use Rattle.std.specs.Option.{option_map}
use Rattle.std.proofs.lemmas.Bool.{OnTrue_from, OnFalse_from, false≢true}
use Rattle.mrs_model.specs.declared.Ep.{Ep}
use Rattle.mrs_model.specs.Meanings.{Predication}
use Rattle.mrs_model.specs.Views.{predication_of}
use Rattle.mrs_reading.specs.Meaning.{is_variable, plain, nothing_known, known_after, after_all}
use Rattle.mrs_reading.specs.Inner.Built.{roles_in}
use Rattle.mrs_reading.specs.Inner.Reading.{piece_at}
use Rattle.mrs_reading.specs.Inner.Predications.{opened, closed, IsNew}
use Rattle.mrs_reading.proofs.Agreeing.{yes_both, no_weaker}
use Rattle.mrs_reading.proofs.Naming.{breaks_at_role, breaks_at_end, breaks_at_text, not_false, never_breaks, may_break}
use Rattle.mrs_reading.proofs.Predicated.{token_more, end_more, read_pred, read_mark, read_role, read_quote, read_variable, read_text, read_other, same_roles, same_current, run_pred, text_pred, is_end, not_end, not_in_predications}
use Rattle.mrs_reading.proofs.eps.Eps.take.Goals as goal

abbrev named : List (Bor (List ℕ)) → List (List ℕ)
named rs = map (λ (r : Bor (List ℕ)). str_to_ascii_lowercase r.now) rs

abbrev listed : Vec Ep Global → List Predication
listed v = map predication_of v.items

pub returns-in-Role-clause-breaks : goal.returns-in-Role-clause-breaks
returns-in-Role-clause-breaks c =
    let low = str_to_ascii_lowercase c.args.token.now.text.now in
    no_weaker c.role.result (λ h d gs e. breaks_at_role d gs c.args.token.now.kind low c.in-Role.is (subst (λ (z : List (List ℕ)). Contains z low) (sym e) h)) c.role.ensures.twice

pub returns-in-OpensText-clause-breaks : goal.returns-in-OpensText-clause-breaks
returns-in-OpensText-clause-breaks c =
    let low = str_to_ascii_lowercase c.args.token.now.text.now in
    OnFalse_from (not c.ends_with_label.result) _ (λ f d gs e.
    let w = c.ends_with_label.ensures.yes (not_false c.ends_with_label.result f) in
    breaks_at_text d gs c.args.token.now.kind low c.in-OpensText.is w.0 (e ∙ ap (map (λ (r : Bor (List ℕ)). str_to_ascii_lowercase r.now)) (sym c.deref.ensures.value) ∙ w.1))

pub returns-in-EpEnd-clause-breaks : goal.returns-in-EpEnd-clause-breaks
returns-in-EpEnd-clause-breaks c =
    let low = str_to_ascii_lowercase c.args.token.now.text.now in
    no_weaker c.end.result (λ n d gs e. breaks_at_end d gs c.args.token.now.kind low c.in-EpEnd.is (λ h. n (subst (λ (z : List (List ℕ)). Contains z (codes "lbl")) e h))) c.end.ensures.no

pub returns-in_ok-begin-in-PredRun-clause-read : goal.returns-in_ok-begin-in-PredRun-clause-read
returns-in_ok-begin-in-PredRun-clause-read c = λ keys ps s t st v h.
    let p = piece_at c.args.token.now in
    let old = c.args.self.now in
    let new = c.begin.new.self in
    let k = c.in-PredRun.is in
    token_more keys ps p s t (closed old) (closed new) (opened old) (opened new) (roles_in old) (roles_in new) (not_end p.kind (ap is_end k)) c.in_ok-begin-in-PredRun.ensures.list
    (λ o. read_pred keys s t (after_all known_after nothing_known ps) p (opened new) (roles_in new) (str_to_ascii_lowercase p.text) (inl k) st c.in_ok-begin-in-PredRun.ensures.current (λ q n. run_pred p q k n) c.in_ok-begin-in-PredRun.ensures.roles) h

pub returns-in_ok-begin-in-PredText-clause-read : goal.returns-in_ok-begin-in-PredText-clause-read
returns-in_ok-begin-in-PredText-clause-read c = λ keys ps s t st v h.
    let p = piece_at c.args.token.now in
    let old = c.args.self.now in
    let new = c.begin-in-PredText.new.self in
    let k = c.in-PredText.is in
    let e : c.as_str.result.now ≡ plain p.text = c.as_str.ensures.value ∙ c.in_ok-pred-in-PredText.ensures in
    token_more keys ps p s t (closed old) (closed new) (opened old) (opened new) (roles_in old) (roles_in new) (not_end p.kind (ap is_end k)) c.in_ok-begin-in-PredText.ensures.list
    (λ o. read_pred keys s t (after_all known_after nothing_known ps) p (opened new) (roles_in new) (str_to_ascii_lowercase (plain p.text)) (inr k) st
    (subst (λ (z : List ℕ). IsNew (str_to_ascii_lowercase z) (opened new)) e c.in_ok-begin-in-PredText.ensures.current) (λ q n. text_pred p q k n) c.in_ok-begin-in-PredText.ensures.roles) h

pub returns-in-Link-clause-read : goal.returns-in-Link-clause-read
returns-in-Link-clause-read c = λ keys ps s t st v h.
    let p = piece_at c.args.token.now in
    let old = c.args.self.now in
    let new = c.mark.new.self in
    let k = c.in-Link.is in
    let n = after_all known_after nothing_known ps in
    token_more keys ps p s t (closed old) (closed new) (opened old) (opened new) (roles_in old) (roles_in new) (not_end p.kind (ap is_end k)) (ap listed c.mark.ensures.list)
    (λ o. same_roles keys t (known_after n p) (opened new) (roles_in old) (roles_in new) (ap named c.mark.ensures.roles) (read_mark keys s t n p (opened old) (opened new) (roles_in old) k st c.mark.ensures.current o)) h

pub returns-in-Role-clause-read : goal.returns-in-Role-clause-read
returns-in-Role-clause-read c =
    let p = piece_at c.args.token.now in
    let old = c.args.self.now in
    let new = c.role.new.self in
    let k = c.in-Role.is in
    yes_both c.role.result (λ a b keys ps s t st v h.
    let n = after_all known_after nothing_known ps in
    token_more keys ps p s t (closed old) (closed new) (opened old) (opened new) (roles_in old) (roles_in new) (not_end p.kind (ap is_end k)) (ap listed c.role.ensures.list)
    (λ o. same_current keys t (known_after n p) (opened old) (opened new) (roles_in new) (ap (option_map predication_of) c.role.ensures.current) (read_role keys s t n p (opened old) (roles_in old) (roles_in new) k st a b o)) h)
    c.role.ensures.ok c.role.ensures.keeps

pub returns-in_ok-variable-in-Filler-clause-read : goal.returns-in_ok-variable-in-Filler-clause-read
returns-in_ok-variable-in-Filler-clause-read c = λ keys ps s t st v h.
    let p = piece_at c.args.token.now in
    let old = c.args.self.now in
    let new = c.variable.new.self in
    let k = c.in-Filler.is in
    let n = after_all known_after nothing_known ps in
    token_more keys ps p s t (closed old) (closed new) (opened old) (opened new) (roles_in old) (roles_in new) (not_end p.kind (ap is_end k)) (ap listed c.variable.ensures.list)
    (λ o. same_roles keys t (known_after n p) (opened new) (roles_in old) (roles_in new) (ap named c.variable.ensures.roles)
    (read_variable keys s t n p c.args.last (opened old) (opened new) (roles_in old) k st (v (ap is_variable k)) c.in_ok-variable-in-Filler.ensures.current o)) h

pub returns-in-OpensText-clause-read : goal.returns-in-OpensText-clause-read
returns-in-OpensText-clause-read c =
    let p = piece_at c.args.token.now in
    let old = c.args.self.now in
    let k = c.in-OpensText.is in
    OnTrue_from (not c.ends_with_label.result) _ (λ y keys ps s t st v h.
    token_more keys ps p s t (closed old) (closed old) (opened old) (opened old) (roles_in old) (roles_in old) (not_end p.kind (ap is_end k)) refl
    (λ o. read_quote keys s t (after_all known_after nothing_known ps) p (opened old) (roles_in old) k st
    (λ before e. false≢true (sym (ap not (c.ends_with_label.ensures.other before (ap named c.deref.ensures.value ∙ e))) ∙ y)) o) h)

pub returns-in_ok-text-in-Text-clause-read : goal.returns-in_ok-text-in-Text-clause-read
returns-in_ok-text-in-Text-clause-read c = λ keys ps s t st v h.
    let p = piece_at c.args.token.now in
    let old = c.args.self.now in
    let new = c.text.new.self in
    let k = c.in-Text.is in
    let n = after_all known_after nothing_known ps in
    token_more keys ps p s t (closed old) (closed new) (opened old) (opened new) (roles_in old) (roles_in new) (not_end p.kind (ap is_end k)) (ap listed c.text.ensures.list)
    (λ o. same_roles keys t (known_after n p) (opened new) (roles_in old) (roles_in new) (ap named c.text.ensures.roles)
    (read_text keys s t n p (opened old) (opened new) (roles_in old) k st c.in_ok-text-in-Text.ensures.current o)) h

pub returns-in-EpEnd-clause-read : goal.returns-in-EpEnd-clause-read
returns-in-EpEnd-clause-read c =
    let p = piece_at c.args.token.now in
    let old = c.args.self.now in
    let new = c.end.new.self in
    yes_both c.end.result (λ l f keys ps s t st v h. end_more keys ps p s t (closed old) (closed new) (opened old) (opened new) (roles_in old) (roles_in new) c.in-EpEnd.is st l f h) c.end.ensures.yes c.end.ensures.list

pub returns-in_default-clause-read : goal.returns-in_default-clause-read
returns-in_default-clause-read c = λ keys ps s t st v h.
    let p = piece_at c.args.token.now in
    let old = c.args.self.now in
    let d = c.in_default in
    token_more keys ps p s t (closed old) (closed old) (opened old) (opened old) (roles_in old) (roles_in old) d.not-EpEnd refl
    (λ o. read_other keys s t (after_all known_after nothing_known ps) p (opened old) (roles_in old) (not_in_predications p.kind d.not-PredRun d.not-PredText d.not-Link d.not-Role d.not-Filler d.not-OpensText d.not-Text d.not-EpEnd) st o) h

pub returns-in_ok-begin-in-PredRun-clause-keeps : goal.returns-in_ok-begin-in-PredRun-clause-keeps
returns-in_ok-begin-in-PredRun-clause-keeps c = λ d gs e n b. never_breaks d gs c.args.token.now.kind (str_to_ascii_lowercase c.args.token.now.text.now) (ap may_break c.in-PredRun.is) b

pub returns-in_ok-begin-in-PredText-clause-keeps : goal.returns-in_ok-begin-in-PredText-clause-keeps
returns-in_ok-begin-in-PredText-clause-keeps c = λ d gs e n b. never_breaks d gs c.args.token.now.kind (str_to_ascii_lowercase c.args.token.now.text.now) (ap may_break c.in-PredText.is) b
