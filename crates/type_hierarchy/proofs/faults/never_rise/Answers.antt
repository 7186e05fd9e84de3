use Rattle.std.proofs.Common.{ℕ, [], length, inl, inr, subst, arith}
use Rattle.std.proofs.lemmas.Bool.{cases_lt}
use Rattle.std.proofs.lemmas.List.{length-map, get_or_past}
use Rattle.type_hierarchy.specs.Order.{Has}
use Rattle.type_hierarchy.specs.Inner.Reach.{lists}
use Rattle.type_hierarchy.proofs.faults.never_rise.Goals as goal

none : (p : ℕ) → Has p [] → ⊥
none p h = elim h [ ]

pub returns : goal.returns
returns c = λ _ t p h.
    elim (cases_lt t (length c.args.parents.now)) [
      | inl l ↦ c.loop-t.invariant t p (omega (arith, l)) h
      | inr l ↦ absurd (none p (subst (Has p) (get_or_past (lists c.args.parents.now) t [] (omega (arith, l, length-map c.args.parents.now (λ v. v.items)))) h))
    ]
