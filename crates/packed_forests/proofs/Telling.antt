-- The classes of the first rows, as rows come.
use Rattle.std.specs.Prelude.{◌≡◌, ℕ, ◌+◌, ◌<◌, ◌≤◌, Option, Some, None, List, [], ◌∷◌, ◌++◌, length, refl}
use Rattle.std.proofs.Common.{ap, subst, sym, ◌∙◌, arith, inl, inr}
use Rattle.std.proofs.lemmas.Bool.{cases_lt}
use Rattle.std.proofs.lemmas.List.{map-append}
use Rattle.chart_model.specs.Calculus.{Calculus}
use Rattle.chart_model.specs.At.{At, at_append, at_below, at_last, at_snoc, Snoc, old, new, from_get, to_get}
use Rattle.chart_model.specs.Chart as model
use Rattle.chart_model.specs.Classes.{Class, IsHost}
use Rattle.chart_model.proofs.Gather.{free_at, at_free}
use Rattle.chart_core.proofs.Found.{at_mapped}
use Rattle.packed_forests.specs.declared.ClassRows.{ClassRows}
use Rattle.packed_forests.specs.Rows.{AreRising, AreMakerRows, AreClassRows, hosts_of, makers_of}
use Rattle.packed_forests.specs.Inner.Told.{IsLive, IsClassAt, AreTold}

rising_more : (ns : List ℕ) (v : ℕ) → AreRising ns → ((i m : ℕ) → At ns i m → m < v) → AreRising (ns ++ v ∷ [])
rising_more ns v rising below i j m n l a b = by (at_snoc ns v i m a) (at_snoc ns v j n b)
  where
    by : Snoc ns v i m → Snoc ns v j n → m < n
    by (old x) (old y) = rising i j m n l x y
    by (old x) (new e same) = subst (λ w. m < w) same (below i m x)
    by (new e same) (old y) = absurd (let z = at_below y in omega (arith, z, e, l))
    by (new e same) (new f also) = absurd (omega (arith, e, f, l))

module _ {M C : Type 0} (k : Calculus M C) (ch : model.Chart M C) where
  pub none_told : AreTold k ch 0 []
  none_told = record { each = λ i c a. elim a [ ]; all = λ h l live. absurd (omega (arith, l)); rising = λ i j m n l a b. elim a [ ] }

  -- a row that is no live host
  next_none : (n : ℕ) (cs : List ClassRows) → AreTold k ch n cs → (IsLive k ch n → ⊥) → AreTold k ch (n + 1) cs
  next_none n cs told never =
      record {
        each = λ i c a. (let t = told.each i c a in (omega (arith, t.0), t.1, t.2));
        all = λ h l live. elim (cases_lt h n) [ inl q ↦ told.all h q live | inr q ↦ absurd (let e : h ≡ n = omega (arith, q, l) in never (subst (IsLive k ch) e live)) ];
        rising = told.rising;
      }

  module _ (n : ℕ) (cs : List ClassRows) (told : AreTold k ch n cs) (c : ClassRows) (host : c.host.0 ≡ n) (live : IsLive k ch n) (makers : AreMakerRows k ch n (makers_of c)) where
    hosts : hosts_of (cs ++ c ∷ []) ≡ hosts_of cs ++ n ∷ []
    hosts = map-append (λ (d : ClassRows). d.host.0) cs (c ∷ []) ∙ ap (λ v. hosts_of cs ++ v ∷ []) host

    abbrev Tells : ClassRows → Type 0
    Tells d = (d.host.0 < n + 1) × IsLive k ch d.host.0 × AreMakerRows k ch d.host.0 (makers_of d)

    each_one : (i : ℕ) (d : ClassRows) → Snoc cs c i d → Tells d
    each_one i d (old b) = let t = told.each i d b in (omega (arith, t.0), t.1, t.2)
    each_one i d (new e same) = subst Tells same (omega (arith, host), subst (IsLive k ch) (sym host) live, subst (λ h. AreMakerRows k ch h (makers_of c)) (sym host) makers)

    all_old : (h : ℕ) → (i : ℕ) × At (hosts_of cs) i h → (i : ℕ) × At (hosts_of (cs ++ c ∷ [])) i h
    all_old h r = (r.0, subst (λ xs. At xs r.0 h) (sym hosts) (at_append (n ∷ []) r.1))

    all_new : (h : ℕ) → n ≡ h → (i : ℕ) × At (hosts_of (cs ++ c ∷ [])) i h
    all_new h e = (length (hosts_of cs), subst (λ xs. At xs (length (hosts_of cs)) h) (sym hosts) (subst (At (hosts_of cs ++ n ∷ []) (length (hosts_of cs))) e (at_last (hosts_of cs) n)))

    below : (i m : ℕ) → At (hosts_of cs) i m → m < n
    below i m a = let w = at_mapped (λ (d : ClassRows). d.host.0) cs i m a in subst (λ v. v < n) w.2 (told.each i w.0 w.1).0

    next_some : AreTold k ch (n + 1) (cs ++ c ∷ [])
    next_some =
        record {
          each = λ i d a. each_one i d (at_snoc cs c i d a);
          all = λ h l is. elim (cases_lt h n) [ inl q ↦ all_old h (told.all h q is) | inr q ↦ all_new h (omega (arith, q, l)) ];
          rising = subst AreRising (sym hosts) (rising_more (hosts_of cs) n told.rising below);
        }

  -- what is told of one more row
  pub told_none : (n : ℕ) (cs : List ClassRows) (o : Option ClassRows) → AreTold k ch n cs → IsClassAt k ch n o → o ≡ None → AreTold k ch (n + 1) cs
  told_none n cs None told is e = next_none n cs told is
  told_none n cs (Some c) told is e = absurd (cc)

  pub told_some : (n : ℕ) (cs : List ClassRows) (o : Option ClassRows) (c : ClassRows) (more : List ClassRows) → AreTold k ch n cs → IsClassAt k ch n o → o ≡ Some c → more ≡ cs ++ c ∷ [] → AreTold k ch (n + 1) more
  told_some n cs None c more told is e f = absurd (cc)
  told_some n cs (Some d) c more told is e f = let z : d ≡ c = cc in subst (AreTold k ch (n + 1)) (sym (f ∙ ap (λ x. cs ++ x ∷ []) (sym z))) (next_some n cs told d is.0 is.1 is.2)

  -- all rows
  pub all_told : (limits : model.Limits) (leaves : List (model.Leaf M C)) (n : ℕ) (cs : List ClassRows) → AreTold k ch n cs → length ch.rows ≤ n → AreClassRows k limits leaves ch cs
  all_told limits leaves n cs told over =
      record {
        each = λ i r a. class_of r.host.0 (told.each i r a).1;
        all = λ c h is. told.all h (below_all c h is) (live_of c h is);
        rising = told.rising;
        makers = λ i r a. (told.each i r a).2;
      }
    where
      class_of : (h : ℕ) → IsLive k ch h → (c : Class M C) × IsHost k limits leaves ch c h
      class_of h live = (record { cover = live.row.cover; level = live.row.level; shape = live.shape }, record { row = live.row; at = to_get live.at; free = at_free ch.into h live.free; shape = live.shape_is; cover = refl; level = refl })

      live_of : (c : Class M C) (h : ℕ) → IsHost k limits leaves ch c h → IsLive k ch h
      live_of c h is = record { row = is.row; at = from_get ch.rows h is.row is.at; free = free_at ch.into h is.free; shape = c.shape; shape_is = is.shape }

      below_all : (c : Class M C) (h : ℕ) → IsHost k limits leaves ch c h → h < n
      below_all c h is = let l = at_below (from_get ch.rows h is.row is.at) in omega (arith, l, over)
