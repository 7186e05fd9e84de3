use Rattle.std.proofs.Common.{Bor, ◌≡◌, ◌∙◌, ℕ, true, List, length, map, drop, ap, sym, subst}
use Rattle.std.proofs.lemmas.List.{length-map, take_rest}
use Rattle.mrs_model.specs.Views.{predication_of}
use Rattle.transfer_model.specs.Views.{element_of}
use Rattle.transfer_rules.specs.Forms.{IsOutputOf, letters_in}
use Rattle.transfer_rules.specs.Inner.Drafts.{AreSaid, names_seen}
use Rattle.transfer_rules.specs.Inner.Sides.{AreSides}
use Rattle.transfer_rules.specs.Inner.Views.{features_seen, parts_of}
use Rattle.transfer_rules.proofs.Joining.{letters_seen}
use Rattle.transfer_rules.proofs.Ruled.{IsRuled, ruled, letters_behind}
use Rattle.transfer_rules.proofs.building.Builder.rule.Goals as goal

whole : (c : goal.After-drop-names-2) → IsRuled (parts_of c.args.parts.now) (record { name = c.in_ok-from_str.field-0; elements = c.in_ok-sides.sides.elements; inputs = c.in_ok-sides.sides.inputs; filter = c.in_ok-filter.filter; output = c.in_ok-output.output; letters = c.in_ok-letters.letters; output_letters = c.in_ok-letters_of.field-0 })
whole c =
    let p = parts_of c.args.parts.now in
    let front = names_seen c.sides.new.names in
    let after = names_seen c.outputs.new.names in
    let same : names_seen c.filter.new.names ≡ front = c.in_ok-filter.ensures.names in
    let os = map predication_of c.in_ok-output.output.items in
    ruled p front after (record { name = c.in_ok-from_str.field-0; elements = c.in_ok-sides.sides.elements; inputs = c.in_ok-sides.sides.inputs; filter = c.in_ok-filter.filter; output = c.in_ok-output.output; letters = c.in_ok-letters.letters; output_letters = c.in_ok-letters_of.field-0 }) c.requires.few
    (subst (λ ns. AreSides ns front p (map element_of c.in_ok-sides.sides.elements.items) c.in_ok-sides.sides.inputs) (ap (map (λ (n : Bor (List ℕ)). n.now)) c.new-names.ensures.items) c.in_ok-sides.ensures.some)
    c.in_ok-filter.ensures.some
    (subst (λ xs. AreSaid IsOutputOf true front after (map features_seen xs) os) c.deref-2.ensures.value (subst (λ ns. AreSaid IsOutputOf true ns after (map features_seen c.deref-2.result.now) os) same c.in_ok-output.ensures.some))
    c.in_ok-from_str.ensures.ok
    (c.in_ok-letters.ensures.letters ∙ ap (map (λ (n : Bor (List ℕ)). letters_in n.now)) c.deref.ensures.value ∙ letters_seen c.filter.new.names.items ∙ ap (map letters_in) same)
    (c.in_ok-letters_of.ensures.letters ∙ ap (map (λ (n : Bor (List ℕ)). letters_in n.now)) (take_rest c.deref-3.result.now c.len-front.result)
    ∙ ap (λ (xs : List (Bor (List ℕ))). map (λ n. letters_in n.now) (drop c.len-front.result xs)) c.deref-3.ensures.value ∙ letters_behind c.len-front.result c.outputs.new.names.items
    ∙ ap (λ k. map letters_in (drop k after)) (c.len-front.ensures ∙ c.filter.new.names.ok.0 ∙ sym (length-map c.filter.new.names.items (λ (n : Bor (List ℕ)). n.now)) ∙ ap length same))

pub returns-clause-forms : goal.returns-clause-forms
returns-clause-forms c = (whole c).forms

pub returns-clause-some : goal.returns-clause-some
returns-clause-some c = (whole c).some

pub returns-clause-held : goal.returns-clause-held
returns-clause-held c = (whole c).held
