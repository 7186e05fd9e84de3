use Rattle.std.proofs.Common.{◌≡◌, List, ap, sym, subst, Some, Option}
use Rattle.std.specs.Prelude.{IfSome, map}
use Rattle.std.specs.Option.{option_map}
use Rattle.mrs_model.specs.Views.{meaning_of}
use Rattle.transfer_model.specs.declared.Filter.{Filter}
use Rattle.transfer_model.specs.Rules.{Element}
use Rattle.transfer_model.specs.Sites.{Site, IsMet}
use Rattle.transfer_model.specs.Views.{rule_of, element_of}
use Rattle.mrs_transfer.proofs.Choosing.{ok_yes, ok_no, no_filter}
use Rattle.mrs_transfer.proofs.sites.Sites.is_barred.Goals as goal

pub returns-in-None-clause-no : goal.returns-in-None-clause-no
returns-in-None-clause-no g c = λ s e. no_filter c.args.self.now.rule.now.filter (λ xs. IsMet (meaning_of c.args.self.now.mrs.now) (rule_of c.args.self.now.rule.now) s xs → ⊥) c.in-None.is

pub returns-in-Some-clause-yes : goal.returns-in-Some-clause-yes
returns-in-Some-clause-yes g c =
    let m = meaning_of c.args.self.now.mrs.now in
    let r = rule_of c.args.self.now.rule.now in
    let is : (rule_of c.args.self.now.rule.now).filter ≡ Some (map element_of c.in-Some.filter.elements.items) = ap (option_map (λ (f : Filter). map element_of f.elements.items)) c.in-Some.is in
    ok_yes ((s : Site) → s.vars ≡ c.args.vars.now → IsMet m r s (map element_of c.in-Some.filter.elements.items))
    ((xs : List Element) × (r.filter ≡ Some xs) × ((s : Site) → s.vars ≡ c.args.vars.now → IsMet m r s xs)) c.is_met.result (λ h. (map element_of c.in-Some.filter.elements.items, is, h)) c.is_met.ensures.yes

pub returns-in-Some-clause-no : goal.returns-in-Some-clause-no
returns-in-Some-clause-no g c =
    let m = meaning_of c.args.self.now.mrs.now in
    let r = rule_of c.args.self.now.rule.now in
    let is : (rule_of c.args.self.now.rule.now).filter ≡ Some (map element_of c.in-Some.filter.elements.items) = ap (option_map (λ (f : Filter). map element_of f.elements.items)) c.in-Some.is in
    ok_no ((s : Site) → s.vars ≡ c.args.vars.now → IsMet m r s (map element_of c.in-Some.filter.elements.items) → ⊥)
    ((s : Site) → s.vars ≡ c.args.vars.now → IfSome r.filter (λ xs. IsMet m r s xs → ⊥)) c.is_met.result
    (λ h. λ s e. subst (λ (o : Option (List Element)). IfSome o (λ xs. IsMet m r s xs → ⊥)) (sym is) (h s e)) c.is_met.ensures.no
