-- The limits' answer and the number of classes look at the covers of rules alone that there are.
use Rattle.std.specs.Prelude.{ℕ, ◌≡◌, ◌<◌, Option, List}
use Rattle.std.proofs.Common.{sym, ◌∙◌, inl, inr}
use Rattle.chart_model.specs.Calculus.{Calculus}
use Rattle.chart_model.specs.Chart.{Leaf, Limits}
use Rattle.chart_model.specs.Classes.{Class, Member, of_leaf, of_rule, Members, no_members, more_members, IsPacked}
use Rattle.chart_model.specs.Limits.{LimitAnswer, UnaryChain, Edges, Within, HasChain, IsLowClass, HasEdges, IsBroken, IsLeastBroken, IsLimitAnswer, IsClassCount}

-- the same but for the covers of rules
abbrev pub covering : {M C : Type 0} → Calculus M C → (ℕ → List C → Option C) → Calculus M C
covering k covers =
    record {
      rules = k.rules;
      arity = k.arity;
      over = k.over;
      applies = k.applies;
      mother = k.mother;
      covers = covers;
      same = k.same;
      join = k.join;
      size = k.size;
      proper = k.proper;
    }

-- two ways of covering are the same for the rules that there are
abbrev pub Covering : {M C : Type 0} → Calculus M C → (ℕ → List C → Option C) → (ℕ → List C → Option C) → Type 0
Covering {M} {C} k c d = (rule : ℕ) (cs : List C) → rule < k.rules → c rule cs ≡ d rule cs

pub turned : {M C : Type 0} (k : Calculus M C) (c d : ℕ → List C → Option C) → Covering k c d → Covering k d c
turned k c d h rule cs l = sym (h rule cs l)

module _ {M C : Type 0} (k : Calculus M C) (c d : ℕ → List C → Option C) (h : Covering k c d) (limits : Limits) (leaves : List (Leaf M C)) where
  mutual
    member : {x : Class M C} → Member (covering k c) limits leaves x → Member (covering k d) limits leaves x
    member (of_leaf l leaf at) = of_leaf l leaf at
    member (of_rule rule ds z m below arity all covers mother) = of_rule rule ds z m below arity (members all) (sym (h rule _ below) ∙ covers) mother

    members : {xs : List (Class M C)} → Members (covering k c) limits leaves xs → Members (covering k d) limits leaves xs
    members (no_members) = no_members
    members (more_members x xs m l all) = more_members x xs (member m) l (members all)

module _ {M C : Type 0} (k : Calculus M C) (limits : Limits) (leaves : List (Leaf M C)) where
  packed : (c d : ℕ → List C → Option C) → Covering k c d → {x : Class M C} → IsPacked (covering k c) limits leaves x → IsPacked (covering k d) limits leaves x
  packed c d h p = record { member = member k c d h limits leaves p.member; least = λ m n o. p.least m (member k d c (turned k c d h) limits leaves n) o }

  low : (c d : ℕ → List C → Option C) → Covering k c d → {x : Class M C} → IsLowClass (covering k c) limits leaves x → IsLowClass (covering k d) limits leaves x
  low c d h p = record { packed = packed c d h p.packed; level = p.level }

  chain : (c d : ℕ → List C → Option C) → Covering k c d → (n : ℕ) → HasChain (covering k c) limits leaves n → HasChain (covering k d) limits leaves n
  chain c d h n x = record { top = x.top; member = member k c d h limits leaves x.member; level = x.level; size = x.size }

  edges : (c d : ℕ → List C → Option C) → Covering k c d → (n : ℕ) → HasEdges (covering k c) limits leaves n → HasEdges (covering k d) limits leaves n
  edges c d h n x = record { classes = x.classes; none_twice = x.none_twice; each = λ i y at. let z = x.each i y at in (low c d h z.0, z.1); more = x.more }

  broken : (c d : ℕ → List C → Option C) → Covering k c d → (n : ℕ) → IsBroken (covering k c) limits leaves n → IsBroken (covering k d) limits leaves n
  broken c d h n (inl x) = inl (chain c d h n x)
  broken c d h n (inr x) = inr (edges c d h n x)

  least : (c d : ℕ → List C → Option C) → Covering k c d → (n : ℕ) → IsLeastBroken (covering k c) limits leaves n → IsLeastBroken (covering k d) limits leaves n
  least c d h n x = record { broken = broken c d h n x.broken; least = λ m l b. x.least m l (broken d c (turned k c d h) m b) }

  pub limit_answer : (c d : ℕ → List C → Option C) → Covering k c d → (a : LimitAnswer) → IsLimitAnswer (covering k c) limits leaves a → IsLimitAnswer (covering k d) limits leaves a
  limit_answer c d h (UnaryChain n) x = (least c d h n x.0, chain c d h n x.1)
  limit_answer c d h (Edges n) x = (least c d h n x.0, λ y. x.1 (chain d c (turned k c d h) n y))
  limit_answer c d h Within x = λ n b. x n (broken d c (turned k c d h) n b)

  pub class_count : (c d : ℕ → List C → Option C) → Covering k c d → (n : ℕ) → IsClassCount (covering k c) limits leaves n → IsClassCount (covering k d) limits leaves n
  class_count c d h n x = record { classes = x.classes; none_twice = x.none_twice; each = λ i y at. low c d h (x.each i y at); all = λ y l. x.all y (low d c (turned k c d h) l); counted = x.counted }
