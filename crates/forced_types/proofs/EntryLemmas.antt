-- Nodes in plain terms.
use Rattle.std.proofs.Common.{ℕ, ◌≡◌, ◌<◌, ◌⊎◌, inl, inr, List, [], ◌∷◌, ◌++◌, length, slice_index_or, slice_set, sym, ◌∙◌, ap, subst, arith}
use Rattle.std.proofs.lemmas.List.{get_or-map, get_or-set_same, get_or-set_other, length-set, length-map, map-set}
use Rattle.fs_model.specs.Claims.{Has}
use Rattle.fs_closing.proofs.HasLemmas.{Has-either, Has-one}
use Rattle.forced_types.specs.declared.nodes.Node.{Node}
use Rattle.forced_types.specs.Inner.Entries.{Entry, no_entry, entry_of, entries_of, entry_at, Alters}

-- a node that is read
pub entry_read : (nodes : List Node) (n : ℕ) (x : Node) → n < length nodes → x ≡ slice_index_or nodes n x → entry_of x ≡ entry_at (entries_of nodes) n
entry_read nodes n x h e = ap entry_of e ∙ sym (get_or-map entry_of nodes n x no_entry h)

-- a node that is written
pub altered : (nodes : List Node) (n : ℕ) (old new : Node) (changes : Entry → Entry → Type 0) → n < length nodes → old ≡ slice_index_or nodes n old →
    changes (entry_of old) (entry_of new) → Alters (entries_of nodes) (entries_of (slice_set nodes n new)) n changes
altered nodes n old new changes h e is =
    let inside : n < length (entries_of nodes) = omega (arith, length-map nodes entry_of) in
    let moved : entries_of (slice_set nodes n new) ≡ slice_set (entries_of nodes) n (entry_of new) = map-set entry_of nodes n new in
    record {
      size = ap length moved ∙ length-set (entries_of nodes) n (entry_of new);
      others = λ k apart. ap (λ l. entry_at l k) moved ∙ get_or-set_other (entries_of nodes) n k (entry_of new) no_entry apart;
      here =
          let now : entry_at (entries_of (slice_set nodes n new)) n ≡ entry_of new = ap (λ l. entry_at l n) moved ∙ get_or-set_same (entries_of nodes) n (entry_of new) no_entry inside in
          subst (λ x. changes x (entry_at (entries_of (slice_set nodes n new)) n)) (entry_read nodes n old h e) (subst (changes (entry_of old)) (sym now) is);
    }

pub pushed : {X : Type 0} (xs xs' : List X) (y : X) → xs' ≡ xs ++ y ∷ [] → (x : X) → Has x xs' → Has x xs ⊎ (x ≡ y)
pushed xs xs' y is x h = go (Has-either x xs (y ∷ []) (subst (Has x) is h))
  where
    go : Has x xs ⊎ Has x (y ∷ []) → Has x xs ⊎ (x ≡ y)
    go (inl a) = inl a
    go (inr a) = inr (Has-one x y a)
