-- What the tests of nodes show.
use Rattle.std.proofs.Common.{ℕ, ◌≡◌, ◌≤◌, ◌⊎◌, inl, inr, Some, [], ◌∷◌, ◌++◌, take, drop, length, sym, ◌∙◌, ap, subst, arith, length-append, append-nil}
use Rattle.std.proofs.lemmas.List.{take-append-drop, length-take-le}
use Rattle.fs_model.specs.Claims.{Path, exists_at, same, below}
use Rattle.fs_model.proofs.TableLemmas.{walk-prefix}
use Rattle.type_hierarchy.specs.Table.{TypeTable}
use Rattle.forced_types.specs.declared.nodes.Nodes.{Nodes}
use Rattle.forced_types.specs.Forced.{IsWithin}
use Rattle.forced_types.specs.Inner.Closed.{table_in, walk_in, HasFront, HoldsAt, SaysFrom}
use Rattle.forced_types.proofs.ClosedLemmas.{one_path}

-- a path that is there
pub front_whole : (t : Nodes) (n left k : ℕ) (path : Path) → walk_in t n path ≡ Some k → HasFront t n left path
front_whole t n left k path e q r is h = walk-prefix (table_in t) n k q r (subst (λ x. walk_in t n x ≡ Some k) (sym is) e)

-- a path that is there as far as so many features
pub front : (t : Nodes) (n left k : ℕ) (path : Path) → left ≤ length path → walk_in t n (take left path) ≡ Some k → HasFront t n left path
front t n left k path more e q r is h =
    go (one_path (take left path) (drop left path) q r (is ∙ sym (take-append-drop left path)))
  where
    long : length (take left path) ≡ left
    long = length-take-le left path more

    nothing : (s : Path) → length s ≤ 0 → q ≡ take left path ++ s → (m : ℕ) × (walk_in t n q ≡ Some m)
    nothing [] z same' = (k, ap (walk_in t n) (same' ∙ append-nil (take left path)) ∙ e)
    nothing (x ∷ s) z same' = absurd (omega arith)

    go : ((s : Path) × (take left path ≡ q ++ s)) ⊎ ((s : Path) × (q ≡ take left path ++ s) × (s ++ r ≡ drop left path)) → (m : ℕ) × (walk_in t n q ≡ Some m)
    go (inl a) = walk-prefix (table_in t) n k q a.0 (subst (λ x. walk_in t n x ≡ Some k) a.1 e)
    go (inr a) = nothing a.0 (omega (arith, long, ap length a.1, length-append (take left path) a.0, h)) a.1

module _ (types : TypeTable) (t : Nodes) (n left : ℕ) where
  pub holds_exists : (p : Path) → HasFront t n left p → HoldsAt types t n left (exists_at p)
  holds_exists p f = record {
    fronts = λ q r i l. f q r (sym i) l;
    claim = λ w. f p [] (append-nil p) w;
  }

  pub holds_same : (p q : Path) → HasFront t n left p → HasFront t n left q → (IsWithin left (same p q) → SaysFrom types t n (same p q)) → HoldsAt types t n left (same p q)
  holds_same p q f g both = record {
    fronts = λ x r i l. which x r i l;
    claim = both;
  }
    where
      which : (x r : Path) → (p ≡ x ++ r) ⊎ (q ≡ x ++ r) → length x ≤ left → (m : ℕ) × (walk_in t n x ≡ Some m)
      which x r (inl e) l = f x r (sym e) l
      which x r (inr e) l = g x r (sym e) l

  pub holds_below : (p : Path) (u : ℕ) → HasFront t n left p → (IsWithin left (below p u) → SaysFrom types t n (below p u)) → HoldsAt types t n left (below p u)
  holds_below p u f under = record {
    fronts = λ q r i l. f q r (sym i) l;
    claim = under;
  }
