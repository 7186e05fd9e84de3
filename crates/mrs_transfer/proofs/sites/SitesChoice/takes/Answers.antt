use Rattle.std.proofs.Common.{◌≡◌, ◌∙◌, List, ap, sym, subst, refl, Some, Option}
use Rattle.std.specs.Prelude.{IfSome}
use Rattle.std.proofs.lemmas.Bool.{false≢true}
use Rattle.mrs_model.specs.Views.{meaning_of}
use Rattle.transfer_model.specs.Rules.{Element}
use Rattle.transfer_model.specs.Sites.{Site, IsMet, Applies}
use Rattle.transfer_model.specs.Views.{rule_of}
use Rattle.mrs_transfer.proofs.Choosing.{not_yes, not_no, site_as}
use Rattle.mrs_transfer.proofs.sites.SitesChoice.takes.Goals as goal

pub returns-then-not-is_allowed-clause-no : goal.returns-then-not-is_allowed-clause-no
returns-then-not-is_allowed-clause-no g c = λ allows a h.
    let s = site_as c.new-site.result c.in_ok-own_places.own_places.items c.in_ok-own_vars.own_vars.items c.args.places.now c.args.vars.now c.new-site.ensures c.in_ok-own_places.ensures.items c.in_ok-own_vars.ensures.items in
    false≢true (sym c.if-not-is_allowed.true ∙ (c.is_allowed.ensures allows a ∙ (ap (λ (y : Site). allows c.args.self.now.number y) s ∙ h.allowed)))

pub is_barred-requires-clause-site : goal.is_barred-requires-clause-site
is_barred-requires-clause-site g c = (record { places = c.args.places.now; vars = c.args.vars.now }, refl, c.requires.2)

pub returns-clause-yes : goal.returns-clause-yes
returns-clause-yes g c = λ allows a.
    let m = meaning_of c.args.self.now.mrs.now in
    let r = rule_of c.args.self.now.rule.now in
    let t : Site = record { places = c.args.places.now; vars = c.args.vars.now } in
    let s = site_as c.new-site.result c.in_ok-own_places.own_places.items c.in_ok-own_vars.own_vars.items c.args.places.now c.args.vars.now c.new-site.ensures c.in_ok-own_places.ensures.items c.in_ok-own_vars.ensures.items in
    not_yes ((s : Site) → s.vars ≡ c.args.vars.now → IfSome r.filter (λ xs. IsMet m r s xs → ⊥)) (Applies allows c.args.self.now.number r m t) c.in_ok-barred.barred
    (λ h. record {
      site = c.requires.2;
      allowed = sym (ap (λ (y : Site). allows c.args.self.now.number y) s) ∙ (sym (c.is_allowed.ensures allows a) ∙ c.if-not-is_allowed.false);
      unmet = h t refl;
    }) c.in_ok-barred.ensures.no

pub returns-clause-no : goal.returns-clause-no
returns-clause-no g c = λ allows a.
    let m = meaning_of c.args.self.now.mrs.now in
    let r = rule_of c.args.self.now.rule.now in
    let t : Site = record { places = c.args.places.now; vars = c.args.vars.now } in
    not_no ((xs : List Element) × (r.filter ≡ Some xs) × ((s : Site) → s.vars ≡ c.args.vars.now → IsMet m r s xs)) (Applies allows c.args.self.now.number r m t → ⊥) c.in_ok-barred.barred
    (λ h. λ p. (subst (λ (o : Option (List Element)). IfSome o (λ xs. IsMet m r t xs → ⊥)) h.1 p.unmet) (h.2 t refl)) c.in_ok-barred.ensures.yes
