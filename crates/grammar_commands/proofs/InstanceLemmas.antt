-- The place of an instance, one by one.
use Rattle.std.proofs.Common.{ℕ, zero, suc, ◌≡◌, ◌+◌, ◌<◌, ◌≤◌, ◌∙◌, ap, refl, List, [], ◌∷◌, length, drop, map, get_or, arith, Bool, true, false, cond, Option, None, Some, string_bytes, String, sym}
use Rattle.std.specs.Global.{Global}
use Rattle.std.specs.List.{position_from}
use Rattle.std.proofs.lemmas.List.{drop_all, length-map}
use Rattle.constraint_expand.specs.declared.books.Instance.{Instance}
use Rattle.constraint_expand.specs.Books.{instance_of}
use Rattle.grammar_commands.specs.Expansions.{Called, called_of}

abbrev pub called : Instance → String Global → Called
called i n = record { status = i.status; name = string_bytes n }

abbrev pub all_of : List Instance → List (String Global) → List Called
all_of is ns = called_of (map instance_of is) (map string_bytes ns)

-- the instance at a place, and those after it
drop-at : (is : List Instance) (ns : List (String Global)) (k : ℕ) (i : Instance) (n : String Global) → length ns ≡ length is → k < length is → get_or is k i ≡ i → get_or ns k n ≡ n
    → drop k (all_of is ns) ≡ called i n ∷ drop (suc k) (all_of is ns)
drop-at [] ns k i n long h e d = absurd (omega (arith, h))
drop-at (x ∷ is) [] k i n long h e d = cc
drop-at (x ∷ is) (y ∷ ns) zero i n long h e d = ap (λ z. called z y ∷ all_of is ns) e ∙ ap (λ z. called i z ∷ all_of is ns) d
drop-at (x ∷ is) (y ∷ ns) (suc k) i n long h e d = drop-at is ns k i n (omega (arith, long)) (omega (arith, h)) e d

met : (b : Bool) (n : ℕ) (o : Option ℕ) → b ≡ true → cond b (Some n) o ≡ Some n
met true n o e = refl
met false n o e = cc

passed : (b : Bool) (n : ℕ) (o : Option ℕ) → b ≡ false → cond b (Some n) o ≡ o
passed false n o e = refl
passed true n o e = cc

module _ (f : Called → Bool) (is : List Instance) (ns : List (String Global)) (k : ℕ) (i : Instance) (n : String Global) (long : length ns ≡ length is) (h : k < length is) (e : get_or is k i ≡ i) (d : get_or ns k n ≡ n) where
  pub found-here : f (called i n) ≡ true → position_from f k (drop k (all_of is ns)) ≡ Some k
  found-here is_met = ap (position_from f k) (drop-at is ns k i n long h e d) ∙ met (f (called i n)) k (position_from f (k + 1) (drop (suc k) (all_of is ns))) is_met

  pub found-on : f (called i n) ≡ false → position_from f k (drop k (all_of is ns)) ≡ position_from f (k + 1) (drop (suc k) (all_of is ns))
  found-on is_not = ap (position_from f k) (drop-at is ns k i n long h e d) ∙ passed (f (called i n)) k (position_from f (k + 1) (drop (suc k) (all_of is ns))) is_not

called-short : (is : List Instance) (ns : List (String Global)) → length (all_of is ns) ≤ length is
called-short [] ns = omega arith
called-short (x ∷ is) [] = omega arith
called-short (x ∷ is) (y ∷ ns) = omega (arith, called-short is ns)

pub found-nowhere : (f : Called → Bool) (is : List Instance) (ns : List (String Global)) (k : ℕ) → length is ≤ k → position_from f k (drop k (all_of is ns)) ≡ None
found-nowhere f is ns k h = ap (position_from f k) (drop_all k (all_of is ns) (omega (arith, h, called-short is ns)))
