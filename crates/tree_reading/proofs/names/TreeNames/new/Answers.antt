use Rattle.std.proofs.Common.{◌≡◌, ◌↔◌, sym, subst, List, ℕ, String, Global, map, Bool, []}
use Rattle.std.specs.Bool.{IsTrue}
use Rattle.std.specs.String.{string_bytes}
use Rattle.tree_reading.specs.declared.Part.{Part}
use Rattle.tree_reading.specs.declared.uses.Uses.{Uses}
use Rattle.tree_reading.specs.Grammars.{IsNamedWell, IsNamedApart, HasEntry}
use Rattle.tree_reading.specs.Inner.Uses.{AreTabled}
use Rattle.tree_reading.proofs.names.TreeNames.new.Goals as goal

abbrev Known : List Part → List (String Global × Uses) → Bool → List (List ℕ) → Type 0
Known parts entries has names =
    IsNamedWell (record { names = names; parts = parts }) × IsNamedApart (record { names = names; parts = parts }) × AreTabled (record { names = names; parts = parts }) entries × (IsTrue has ↔ HasEntry (record { names = names; parts = parts }))

as_parts : (parts items : List Part) (entries : List (String Global × Uses)) (names : List (List ℕ)) → parts ≡ items → AreTabled (record { names = names; parts = parts }) entries → AreTabled (record { names = names; parts = items }) entries
as_parts parts items entries names e h = subst (λ (t : List Part). AreTabled (record { names = names; parts = t }) entries) e h

as_entry : (parts items : List Part) (names : List (List ℕ)) (has : Bool) → parts ≡ items → (IsTrue has ↔ HasEntry (record { names = []; parts = parts })) → (IsTrue has ↔ HasEntry (record { names = names; parts = items }))
as_entry parts items names has e h = subst (λ (t : List Part). IsTrue has ↔ HasEntry (record { names = names; parts = t })) e h

pub invariant_of-result : goal.invariant_of-result
invariant_of-result c =
    subst (Known c.args.parts.items c.in_ok-uses.uses.entries c.has_entry-has_entry.result) (sym c.in_ok-names.ensures) (c.requires.well, c.requires.apart, as_parts c.deref.result.now c.args.parts.items c.in_ok-uses.uses.entries (map string_bytes c.args.names.now) c.deref.ensures.value c.in_ok-uses.ensures, as_entry c.deref-2.result.now c.args.parts.items (map string_bytes c.args.names.now) c.has_entry-has_entry.result c.deref-2.ensures.value c.has_entry-has_entry.ensures)
