-- What a name stands for is there.
use Rattle.std.proofs.Common.{ℕ, ◌≡◌, ◌<◌, ◌⊎◌, inl, inr, List, [], length, take, Option, None, Some, option_map, refl, sym, ◌∙◌, subst, arith, length-take}
use Rattle.std.specs.Option.{option_or}
use Rattle.std.specs.Str.{bytes_eq}
use Rattle.std.proofs.lemmas.List.Quantifiers.{position-Some}
use Rattle.tdl_reader.specs.declared.Status.{Status}
use Rattle.tdl_reader.specs.declared.Status.TheVariants.{Entry, LexRule, Rule, Root}
use Rattle.type_hierarchy.specs.Decls.{Name}
use Rattle.type_hierarchy.specs.Named.{type_named}
use Rattle.type_hierarchy.specs.Table.{TypeTable, completed_count}
use Rattle.grammar_commands.specs.Expansions.{Sense, a_type, an_instance, Called, is_called, instance_named, instance_of_name, sense_of}
use Rattle.grammar_commands.proofs.Members.{position-in}

either : {A : Type 0} (o p : Option A) (x : A) → option_or o p ≡ Some x → (o ≡ Some x) ⊎ (p ≡ Some x)
either None p x e = inr e
either (Some y) p x e = inl e

pub type-there : (types : TypeTable) (name : Name) (t : ℕ) → type_named types name ≡ Some t → t < completed_count types
type-there types name t e =
    let r = position-Some (bytes_eq name) (take (completed_count types) types.names) t [] e in
    omega (arith, r.0, length-take (completed_count types) types.names)

named-there : (instances : List Called) (name : Name) (status : Status) (k : ℕ) → instance_named instances name status ≡ Some k → k < length instances
named-there instances name status k e = let r = position-in (is_called name status) 0 k instances e in omega (arith, r.1)

pub instance-there : (instances : List Called) (name : Name) (k : ℕ) → instance_of_name instances name ≡ Some k → k < length instances
instance-there instances name k e = first (either (instance_named instances name Entry) _ k e)
  where
    third : (instance_named instances name Rule ≡ Some k) ⊎ (instance_named instances name Root ≡ Some k) → k < length instances
    third (inl f) = named-there instances name Rule k f
    third (inr f) = named-there instances name Root k f

    second : (instance_named instances name LexRule ≡ Some k) ⊎ (option_or (instance_named instances name Rule) (instance_named instances name Root) ≡ Some k) → k < length instances
    second (inl f) = named-there instances name LexRule k f
    second (inr f) = third (either (instance_named instances name Rule) (instance_named instances name Root) k f)

    first : (instance_named instances name Entry ≡ Some k) ⊎ (option_or (instance_named instances name LexRule) (option_or (instance_named instances name Rule) (instance_named instances name Root)) ≡ Some k) → k < length instances
    first (inl f) = named-there instances name Entry k f
    first (inr f) = second (either (instance_named instances name LexRule) (option_or (instance_named instances name Rule) (instance_named instances name Root)) k f)
