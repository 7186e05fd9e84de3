-- The faults of types, where they stand.
use Rattle.std.proofs.Common.{ℕ, ◌≡◌, List, map, Option, Some, None, MatchOption, option_map, String, sym, ◌∙◌, ap, subst}
use Rattle.std.specs.Global.{Global}
use Rattle.std.specs.Borrow.{Bor}
use Rattle.std.specs.List.{find}
use Rattle.std.specs.Str.{bytes_eq}
use Rattle.std.specs.String.{string_bytes}
use Rattle.grammar_files.specs.declared.placed.Placed.{Placed}
use Rattle.grammar_files.specs.Placings.{PlacedTree, placed_of}
use Rattle.type_hierarchy.specs.declared.decl.TypeFault.{TypeFault}
use Rattle.type_hierarchy.specs.declared.decl.TypeFault.TheVariants.{Duplicate}
use Rattle.type_hierarchy.specs.Faults.{IsFirst, IsFaultOf}
use Rattle.type_hierarchy.specs.Table.{TypeTable}
use Rattle.glb_completion.specs.Completion.{HasTooMany}
use Rattle.grammar_files.specs.declared.fault.LoadFault.{LoadFault}
use Rattle.grammar_files.specs.declared.fault.LoadFault.TheVariants.{NoMemory, Found}
use Rattle.grammar_files.specs.declared.fault.Why.TheVariants.{Typing, TooManyTypes}
use Rattle.grammar_files.specs.Faults.{FoundFault, IsFaultBy}
use Rattle.grammar_settings.specs.Forms.{Name}
use Rattle.grammar_types.specs.Typings.{statement_at, name_written, type_definitions, decls_in, IsNamed, StandsAt, IsRepeat, HasNoRepeat, IsWritten, file_name, fault_of, IsTypesFault, repeats, unsettled, too_many}
use Rattle.grammar_files.specs.Walks.{WalkedTree, fault_at}

weaker : (P Q : FoundFault → Type 0) → ((f : FoundFault) → P f → Q f) → (l : LoadFault) → IsFaultBy P l → IsFaultBy Q l
weaker P Q h NoMemory b = b
weaker P Q h (Found file at why) b = h (record { file = string_bytes file; at = at; why = why }) b

pub repeat_is : (w : WalkedTree) (p : PlacedTree) (k : ℕ) (name : String Global) (l : LoadFault) → statement_at w.statements k ≡ p → IsFirst (IsRepeat w.statements) k →
    string_bytes name ≡ name_written p.statement → IsFaultBy (λ f. f ≡ fault_of w p (Typing (Duplicate name))) l → IsFaultBy (IsTypesFault w) l
repeat_is w p k name l here first named b =
    weaker (λ f. f ≡ fault_of w p (Typing (Duplicate name))) (IsTypesFault w)
    (λ f e. subst (IsTypesFault w) (sym (e ∙ ap (λ q. fault_of w q (Typing (Duplicate name))) (sym here))) (repeats k name first (named ∙ ap (λ q. name_written q.statement) (sym here)))) l b

pub too_many_is : (w : WalkedTree) (h : TypeTable) (file : Name) (l : LoadFault) → IsWritten w h → HasTooMany h → file ≡ file_name w 0 →
    IsFaultBy (λ f. f ≡ fault_at file 0 TooManyTypes) l → IsFaultBy (IsTypesFault w) l
too_many_is w h file l is many named b =
    weaker (λ f. f ≡ fault_at file 0 TooManyTypes) (IsTypesFault w)
    (λ f e. subst (IsTypesFault w) (sym (e ∙ ap (λ n. fault_at n 0 TooManyTypes) named)) (too_many h is many)) l b

pub typing_is : (w : WalkedTree) (p : PlacedTree) (fault : TypeFault) (l : LoadFault) → HasNoRepeat w.statements →
    IsFaultOf w.settings.top_type w.settings.string_type (decls_in w.statements) fault → StandsAt (type_definitions w.statements) fault p →
    IsFaultBy (λ f. f ≡ fault_of w p (Typing fault)) l → IsFaultBy (IsTypesFault w) l
typing_is w p fault l once is stands b =
    weaker (λ f. f ≡ fault_of w p (Typing fault)) (IsTypesFault w) (λ f e. subst (IsTypesFault w) (sym e) (unsettled fault p once is stands)) l b

-- the definition of a name, or none
pub named_with : (ds : List PlacedTree) (n m : Name) (o : Option (Bor Placed)) → m ≡ n →
    option_map (λ p. placed_of p.now) o ≡ find (λ d. bytes_eq m (name_written d.statement)) ds →
    MatchOption o ((p : PlacedTree) → IsNamed ds n p → ⊥) (λ p. IsNamed ds n (placed_of p.now))
named_with ds n m None e f = λ p r. differ p (f ∙ ap (λ z. find (λ d. bytes_eq z (name_written d.statement)) ds) e ∙ r)
  where
    differ : (p : PlacedTree) → ◌≡◌ {A = Option PlacedTree} None (Some p) → ⊥
    differ p k = cc
named_with ds n m (Some b) e f = sym (f ∙ ap (λ z. find (λ d. bytes_eq z (name_written d.statement)) ds) e)
