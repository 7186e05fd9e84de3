-- Nodes stay sound.
use Rattle.std.proofs.Common.{ℕ, zero, suc, ◌≡◌, ◌≢◌, ◌<◌, ◌≤◌, ◌+◌, ◌^◌, ◌⊎◌, inl, inr, Option, Some, None, List, [], ◌∷◌, ◌++◌, length, refl, sym, ◌∙◌, ap, subst, arith, length-append}
use Rattle.std.proofs.lemmas.List.{length-map}
use Rattle.std.proofs.lemmas.Bool.{cases_lt}
use Rattle.std.proofs.Math.ListN.{get_or-append}
use Rattle.std.proofs.Math.Seq.{get_or-append_seam}
use Rattle.type_hierarchy.specs.Table.{count_of}
use Rattle.fs_model.specs.Claims.{Path, exists_at, same, below, Has}
use Rattle.fs_model.proofs.StepLemmas.{same_or_other}
use Rattle.fs_graph.specs.declared.graph.GraphArc.{GraphArc}
use Rattle.fs_graph.specs.GraphMap.{arc_to}
use Rattle.fs_closing.proofs.HasLemmas.{Has-one}
use Rattle.forced_types.specs.declared.given.Given.{Given}
use Rattle.forced_types.specs.declared.nodes.Image.{Image}
use Rattle.forced_types.specs.declared.nodes.Nodes.{Nodes}
use Rattle.forced_types.specs.declared.nodes.Pair.{Pair}
use Rattle.forced_types.specs.Forced.{same_refl, topped}
use Rattle.forced_types.specs.Views.{ArePartsIn, AreFactsIn}
use Rattle.forced_types.specs.Inner.Entries.{Entry, AreFeatsApart, no_entry, entry_of, entry_at, entries_of, Alters, Adds, fresh, IsTyped, IsArced, IsRaised}
use Rattle.forced_types.specs.Inner.Sound.{Forces, IsImage, IsSoundAt, AreEntriesSound, IsPairSound, AreSound, KeepPaths, paths_in, size_of, entry_in, path_in}
use Rattle.forced_types.proofs.ArcLemmas.{none_apart, apart_more}
use Rattle.forced_types.proofs.EntryLemmas.{pushed}

pub entry_count : (t : Nodes) → length (entries_of t.list.items) ≡ size_of t
entry_count t = length-map t.list.items entry_of

sound_kept : (g : Given) (size size' : ℕ) (path path' : ℕ → Path) (e : Entry) → IsSoundAt g size path e → size ≤ size' →
    ((k : ℕ) → k < size → path' k ≡ path k) → IsSoundAt g size' path' e
sound_kept g size size' path path' e h more keeps = record {
  there = h.there;
  up_in = omega (arith, h.up_in);
  up_same = subst (λ x. Forces g (same e.path x)) (sym (keeps e.up h.up_in)) h.up_same;
  type_in = h.type_in;
  type_forced = h.type_forced;
  arc_in = λ a m. (let b = (h.arc_in a m).0 in omega (arith, b), (h.arc_in a m).1);
  arc_forced = λ a m. subst (λ x. Forces g (same (e.path ++ a.feat.0 ∷ []) x)) (sym (keeps a.to.0 (h.arc_in a m).0)) (h.arc_forced a m);
  arcs_apart = h.arcs_apart;
  image = h.image;
}

pair_kept : (g : Given) (es es' : List Entry) (x : Pair) → IsPairSound g es x → length es ≤ length es' →
    ((k : ℕ) → k < length es → paths_in es' k ≡ paths_in es k) → IsPairSound g es' x
pair_kept g es es' x h more keeps = record {
  a_in = omega (arith, h.a_in);
  b_in = omega (arith, h.b_in);
  equal =
      subst (λ y. Forces g (same y (paths_in es' x.b))) (sym (keeps x.a h.a_in))
      (subst (λ y. Forces g (same (paths_in es x.a) y)) (sym (keeps x.b h.b_in)) h.equal);
}

altered_paths : (es es' : List Entry) (n : ℕ) (R : Entry → Entry → Type 0) → Alters es es' n R → paths_in es' n ≡ paths_in es n → (k : ℕ) → paths_in es' k ≡ paths_in es k
altered_paths es es' n R a e k = go (same_or_other k n)
  where
    go : (k ≡ n) ⊎ (k ≢ n) → paths_in es' k ≡ paths_in es k
    go (inl is) = ap (paths_in es') is ∙ e ∙ ap (paths_in es) (sym is)
    go (inr apart) = ap (λ (x : Entry). x.path) (a.others k apart)

entries_changed : (g : Given) (es es' : List Entry) (n : ℕ) (R : Entry → Entry → Type 0) → AreEntriesSound g es → Alters es es' n R →
    paths_in es' n ≡ paths_in es n → IsSoundAt g (length es) (paths_in es) (entry_at es' n) → AreEntriesSound g es'
entries_changed g es es' n R h a e here' = record {
  filled = omega (arith, a.size, h.filled);
  small = omega (arith, a.size, h.small);
  root = altered_paths es es' n R a e 0 ∙ h.root;
  each = λ k i. sound_kept g (length es) (length es') (paths_in es) (paths_in es') (entry_at es' k) (at_k k (omega (arith, a.size, i)) (same_or_other k n)) (omega (arith, a.size))
      (λ j _. altered_paths es es' n R a e j);
}
  where
    at_k : (k : ℕ) → k < length es → (k ≡ n) ⊎ (k ≢ n) → IsSoundAt g (length es) (paths_in es) (entry_at es' k)
    at_k k i (inl is) = subst (λ x. IsSoundAt g (length es) (paths_in es) (entry_at es' x)) (sym is) here'
    at_k k i (inr apart) = subst (IsSoundAt g (length es) (paths_in es)) (sym (a.others k apart)) (h.each k i)

-- a node that changes stays sound, and so do the others
pub changed_sound : (g : Given) (t t' : Nodes) (n : ℕ) (R : Entry → Entry → Type 0) → AreSound g t → Alters (entries_of t.list.items) (entries_of t'.list.items) n R →
    t'.pairs.items ≡ t.pairs.items → path_in t' n ≡ path_in t n → IsSoundAt g (length (entries_of t.list.items)) (path_in t) (entry_in t' n) → AreSound g t'
changed_sound g t t' n R h a pairs e here' =
    let es = entries_of t.list.items in
    let es' = entries_of t'.list.items in
    record {
      within = h.within;
      facts_in = h.facts_in;
      entries = entries_changed g es es' n R h.entries a e here';
      pairs = λ x m. pair_kept g es es' x (h.pairs x (subst (Has x) pairs m)) (omega (arith, a.size)) (λ k _. altered_paths es es' n R a e k);
    }

pub changed_keeps : (t t' : Nodes) (n : ℕ) (R : Entry → Entry → Type 0) → Alters (entries_of t.list.items) (entries_of t'.list.items) n R → path_in t' n ≡ path_in t n → KeepPaths t t'
changed_keeps t t' n R a e = record {
  more = omega (arith, a.size, entry_count t, entry_count t');
  same_at = λ k _. altered_paths (entries_of t.list.items) (entries_of t'.list.items) n R a e k;
}

pub same_keeps : (t t' : Nodes) → t'.list.items ≡ t.list.items → KeepPaths t t'
same_keeps t t' e = record { more = omega (arith, ap length e); same_at = λ k _. ap (λ l. (entry_at (entries_of l) k).path) e }

pub typed : (g : Given) (size : ℕ) (path : ℕ → Path) (e e' : Entry) (ty : ℕ) → IsSoundAt g size path e → IsTyped e e' ty → ty < count_of g.system.now.types →
    Forces g (below e.path ty) → IsSoundAt g size path e'
typed g size path e e' ty h a ty_in f = record {
  there = subst (λ x. Forces g (exists_at x)) (sym a.path) h.there;
  up_in = omega (arith, h.up_in, a.up);
  up_same = subst (λ x. Forces g (same x (path e'.up))) (sym a.path) (subst (λ x. Forces g (same e.path (path x))) (sym a.up) h.up_same);
  type_in = λ t m. in_range t (a.types t m);
  type_forced = λ t m. subst (λ x. Forces g (below x t)) (sym a.path) (forced t (a.types t m));
  arc_in = λ x m. h.arc_in x (subst (Has x) a.arcs m);
  arc_forced = λ x m. subst (λ y. Forces g (same (y ++ x.feat.0 ∷ []) (path x.to.0))) (sym a.path) (h.arc_forced x (subst (Has x) a.arcs m));
  arcs_apart = subst AreFeatsApart (sym a.arcs) h.arcs_apart;
  image = λ im m. subst (λ y. IsImage g.parts.now y im) (sym a.path) (h.image im (sym a.image ∙ m));
}
  where
    in_range : (t : ℕ) → Has t e.types ⊎ (t ≡ ty) → t < count_of g.system.now.types
    in_range t (inl m) = h.type_in t m
    in_range t (inr is) = omega arith

    forced : (t : ℕ) → Has t e.types ⊎ (t ≡ ty) → Forces g (below e.path t)
    forced t (inl m) = h.type_forced t m
    forced t (inr is) = subst (λ x. Forces g (below e.path x)) (sym is) f

pub arced : (g : Given) (size : ℕ) (path : ℕ → Path) (e e' : Entry) (arc : GraphArc) → IsSoundAt g size path e → IsArced e e' arc → arc.to.0 < size →
    arc.feat.0 < length g.system.now.introducers → arc_to e.arcs arc.feat.0 ≡ None → Forces g (same (e.path ++ arc.feat.0 ∷ []) (path arc.to.0)) → IsSoundAt g size path e'
arced g size path e e' arc h a to_in feat_in lacks f = record {
  there = subst (λ x. Forces g (exists_at x)) (sym a.path) h.there;
  up_in = omega (arith, h.up_in, a.up);
  up_same = subst (λ x. Forces g (same x (path e'.up))) (sym a.path) (subst (λ x. Forces g (same e.path (path x))) (sym a.up) h.up_same);
  type_in = λ t m. h.type_in t (subst (Has t) a.types m);
  type_forced = λ t m. subst (λ x. Forces g (below x t)) (sym a.path) (h.type_forced t (subst (Has t) a.types m));
  arc_in = λ x m. in_range x (either a.arcs x m);
  arc_forced = λ x m. subst (λ y. Forces g (same (y ++ x.feat.0 ∷ []) (path x.to.0))) (sym a.path) (forced x (either a.arcs x m));
  arcs_apart = apart a.arcs;
  image = λ im m. subst (λ y. IsImage g.parts.now y im) (sym a.path) (h.image im (sym a.image ∙ m));
}
  where
    either : (e'.arcs ≡ e.arcs) ⊎ (e'.arcs ≡ e.arcs ++ arc ∷ []) → (x : GraphArc) → Has x e'.arcs → Has x e.arcs ⊎ (x ≡ arc)
    either (inl is) x m = inl (subst (Has x) is m)
    either (inr is) x m = pushed e.arcs e'.arcs arc is x m

    apart : (e'.arcs ≡ e.arcs) ⊎ (e'.arcs ≡ e.arcs ++ arc ∷ []) → AreFeatsApart e'.arcs
    apart (inl is) = subst AreFeatsApart (sym is) h.arcs_apart
    apart (inr is) = subst AreFeatsApart (sym is) (apart_more e.arcs arc h.arcs_apart lacks)

    in_range : (x : GraphArc) → Has x e.arcs ⊎ (x ≡ arc) → (x.to.0 < size) × (x.feat.0 < length g.system.now.introducers)
    in_range x (inl m) = h.arc_in x m
    in_range x (inr is) = subst (λ (y : GraphArc). (y.to.0 < size) × (y.feat.0 < length g.system.now.introducers)) (sym is) (to_in, feat_in)

    forced : (x : GraphArc) → Has x e.arcs ⊎ (x ≡ arc) → Forces g (same (e.path ++ x.feat.0 ∷ []) (path x.to.0))
    forced x (inl m) = h.arc_forced x m
    forced x (inr is) = subst (λ (y : GraphArc). Forces g (same (e.path ++ y.feat.0 ∷ []) (path y.to.0))) (sym is) f

pub raised_up : (g : Given) (size : ℕ) (path : ℕ → Path) (e e' : Entry) (up : ℕ) → IsSoundAt g size path e → IsRaised e e' up → up < size →
    Forces g (same e.path (path up)) → IsSoundAt g size path e'
raised_up g size path e e' up h a up_in f = record {
  there = subst (λ x. Forces g (exists_at x)) (sym a.path) h.there;
  up_in = omega (arith, up_in, a.up_is);
  up_same = subst (λ x. Forces g (same x (path e'.up))) (sym a.path) (subst (λ x. Forces g (same e.path (path x))) (sym a.up_is) f);
  type_in = λ t m. h.type_in t (subst (Has t) a.types m);
  type_forced = λ t m. subst (λ x. Forces g (below x t)) (sym a.path) (h.type_forced t (subst (Has t) a.types m));
  arc_in = λ x m. h.arc_in x (subst (Has x) a.arcs m);
  arc_forced = λ x m. subst (λ y. Forces g (same (y ++ x.feat.0 ∷ []) (path x.to.0))) (sym a.path) (h.arc_forced x (subst (Has x) a.arcs m));
  arcs_apart = subst AreFeatsApart (sym a.arcs) h.arcs_apart;
  image = λ im m. subst (λ y. IsImage g.parts.now y im) (sym a.path) (h.image im (sym a.image ∙ m));
}

added_old : (es : List Entry) (x : Entry) (k : ℕ) → k < length es → entry_at (es ++ x ∷ []) k ≡ entry_at es k
added_old es x k h = get_or-append es (x ∷ []) no_entry k h

added_new : (es : List Entry) (x : Entry) → entry_at (es ++ x ∷ []) (length es) ≡ x
added_new es x = get_or-append_seam es x [] no_entry

-- a new node is sound, and the others stay so
module _ (g : Given) (t t' : Nodes) (path : Path) (image : Option Image) (is : Adds (entries_of t.list.items) (entries_of t'.list.items) path image) where
  abbrev es : List Entry
  es = entries_of t.list.items

  abbrev es' : List Entry
  es' = entries_of t'.list.items

  more : length es' ≡ length es + 1
  more = ap length is ∙ length-append es (fresh (length es) path image ∷ [])

  pub added_path : path_in t' (size_of t) ≡ path
  added_path =
      ap (λ k. (entry_at es' k).path) (sym (entry_count t)) ∙ ap (λ l. (entry_at l (length es)).path) is
      ∙ ap (λ (x : Entry). x.path) (added_new es (fresh (length es) path image))

  old_path : (k : ℕ) → k < length es → paths_in es' k ≡ paths_in es k
  old_path k h = ap (λ l. (entry_at l k).path) is ∙ ap (λ (x : Entry). x.path) (added_old es (fresh (length es) path image) k h)

  pub added_keeps : KeepPaths t t'
  added_keeps = record {
    more = omega (arith, more, entry_count t, entry_count t');
    same_at = λ k h. old_path k (omega (arith, entry_count t, h));
  }

  pub added_others : (k : ℕ) → k < size_of t → entry_in t' k ≡ entry_in t k
  added_others k h = ap (λ l. entry_at l k) is ∙ added_old es (fresh (length es) path image) k (omega (arith, entry_count t, h))

  pub added_sound : AreSound g t → 0 < count_of g.system.now.types → size_of t' < 2 ^ 32 → Forces g (exists_at path) → ((im : Image) → image ≡ Some im → IsImage g.parts.now path im) → t'.pairs.items ≡ t.pairs.items → AreSound g t'
  added_sound h some small forced im pairs = record {
    within = h.within;
    facts_in = h.facts_in;
    entries = record {
      filled = omega (arith, more);
      small = omega (arith, small, entry_count t');
      root = old_path 0 h.entries.filled ∙ h.entries.root;
      each = λ k i. at_k k i (cases_lt k (length es));
    };
    pairs = λ x m. pair_kept g es es' x (h.pairs x (subst (Has x) pairs m)) (omega (arith, more)) old_path;
  }
    where
      new_path : paths_in es' (length es) ≡ path
      new_path = ap (λ l. (entry_at l (length es)).path) is ∙ ap (λ (x : Entry). x.path) (added_new es (fresh (length es) path image))

      here' : IsSoundAt g (length es') (paths_in es') (fresh (length es) path image)
      here' = record {
        there = forced;
        up_in = omega (arith, more);
        up_same = subst (λ x. Forces g (same path x)) (sym new_path) (same_refl path forced);
        type_in = λ y m. subst (λ z. z < count_of g.system.now.types) (sym (Has-one y 0 m)) some;
        type_forced = λ y m. subst (λ z. Forces g (below path z)) (sym (Has-one y 0 m)) (topped path forced);
        arc_in = λ a m. elim m [ ];
        arc_forced = λ a m. elim m [ ];
        arcs_apart = none_apart;
        image = im;
      }

      at_k : (k : ℕ) → k < length es' → (k < length es) ⊎ (length es ≤ k) → IsSoundAt g (length es') (paths_in es') (entry_at es' k)
      at_k k i (inl b) =
          subst (IsSoundAt g (length es') (paths_in es')) (sym (ap (λ l. entry_at l k) is ∙ added_old es (fresh (length es) path image) k b))
          (sound_kept g (length es) (length es') (paths_in es) (paths_in es') (entry_at es k) (h.entries.each k b) (omega (arith, more)) old_path)
      at_k k i (inr b) =
          let e : k ≡ length es = omega (arith, more) in
          subst (IsSoundAt g (length es') (paths_in es'))
          (sym (ap (λ l. entry_at l k) is ∙ ap (entry_at (es ++ fresh (length es) path image ∷ [])) e ∙ added_new es (fresh (length es) path image))) here'

-- the same nodes and pairs
pub same_sound : (g : Given) (t t' : Nodes) → entries_of t'.list.items ≡ entries_of t.list.items → ((x : Pair) → Has x t'.pairs.items → IsPairSound g (entries_of t.list.items) x) →
    AreSound g t → AreSound g t'
same_sound g t t' e pairs h = record {
  within = h.within;
  facts_in = h.facts_in;
  entries = subst (AreEntriesSound g) (sym e) h.entries;
  pairs = λ x m. subst (λ es. IsPairSound g es x) (sym e) (pairs x m);
}

-- the root alone is sound
pub begun_sound : (g : Given) (t : Nodes) → ArePartsIn g.system.now g.parts.now → AreFactsIn g.system.now g.facts.now → 0 < count_of g.system.now.types → Forces g (exists_at []) →
    entries_of t.list.items ≡ fresh 0 [] None ∷ [] → t.pairs.items ≡ [] → AreSound g t
begun_sound g t within facts some forced is none = record {
  within = within;
  facts_in = facts;
  entries = subst (AreEntriesSound g) (sym is) (record {
    filled = omega arith;
    small = omega arith;
    root = refl;
    each = at_k;
  });
  pairs = λ x m. nothing x (subst (Has x) none m);
}
  where
    nothing : (x : Pair) → Has x [] → IsPairSound g (entries_of t.list.items) x
    nothing x m = elim m [ ]

    no_image : (im : Image) → None ≡ Some im → IsImage g.parts.now [] im
    no_image im e = absurd cc

    at_k : (k : ℕ) → k < length (fresh 0 [] None ∷ []) → IsSoundAt g (length (fresh 0 [] None ∷ [])) (paths_in (fresh 0 [] None ∷ [])) (entry_at (fresh 0 [] None ∷ []) k)
    at_k zero i = record {
      there = forced;
      up_in = omega arith;
      up_same = same_refl [] forced;
      type_in = λ y m. subst (λ z. z < count_of g.system.now.types) (sym (Has-one y 0 m)) some;
      type_forced = λ y m. subst (λ z. Forces g (below [] z)) (sym (Has-one y 0 m)) (topped [] forced);
      arc_in = λ a m. elim m [ ];
      arc_forced = λ a m. elim m [ ];
      arcs_apart = none_apart;
      image = no_image;
    }
    at_k (suc k) i = absurd (omega arith)
