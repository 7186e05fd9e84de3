-- What is known of a full structure is known of each that stands for the same.
use Rattle.std.specs.Prelude.{◌≡◌, ℕ, Option, None, Some, option_map}
use Rattle.std.proofs.Common.{sym, subst}
use Rattle.tree_model.specs.Structures.{Structure}
use Rattle.tree_model.specs.Signs.{Signs}
use Rattle.tree_model.specs.Lexical.{IsEntry, IsUnderRule}
use Rattle.lexical_items.specs.Known.{IsOfEntry, IsUnder}

module _ {T : Type 0} (g : Signs) (value : T → Structure) (place : ℕ) where
  same_value : {x y : T} → option_map value (Some x) ≡ option_map value (Some y) → value x ≡ value y
  same_value h = cc

  entry_again : (o p : Option T) → option_map value p ≡ option_map value o → IsOfEntry g value place o → IsOfEntry g value place p
  entry_again None None e h = h
  entry_again None (Some y) e h = absurd (cc)
  entry_again (Some x) None e h = absurd (cc)
  entry_again (Some x) (Some y) e h = subst (IsEntry g place) (same_value (sym e)) h

  under_again : (d : Structure) (o p : Option T) → option_map value p ≡ option_map value o → IsUnder g value place d o → IsUnder g value place d p
  under_again d None None e h = h
  under_again d None (Some y) e h = absurd (cc)
  under_again d (Some x) None e h = absurd (cc)
  under_again d (Some x) (Some y) e h = subst (IsUnderRule g place d) (same_value (sym e)) h

module _ {L T : Type 0} (signs : L → Signs) (value : L → T → Structure) (place : ℕ) where
  -- what is known by one name of an object is known of a copy by another
  pub entry_known : (a b c : L) (o p : Option T) → a ≡ b → b ≡ c → option_map (value b) p ≡ option_map (value b) o → IsOfEntry (signs a) (value a) place o → IsOfEntry (signs c) (value c) place p
  entry_known a b c o p e f same h =
      subst (λ l. IsOfEntry (signs l) (value l) place p) f
      (entry_again (signs b) (value b) place o p same (subst (λ l. IsOfEntry (signs l) (value l) place o) e h))

  pub under_known : (a b c : L) (full key : T) (o p : Option T) → a ≡ b → b ≡ c → value b key ≡ value b full → option_map (value b) p ≡ option_map (value b) o
      → IsUnder (signs a) (value a) place (value a full) o → IsUnder (signs c) (value c) place (value c key) p
  under_known a b c full key o p e f one same h =
      subst (λ l. IsUnder (signs l) (value l) place (value l key) p) f
      (subst (λ d. IsUnder (signs b) (value b) place d p) (sym one)
      (under_again (signs b) (value b) place (value b full) o p same (subst (λ l. IsUnder (signs l) (value l) place (value l full) o) e h)))
