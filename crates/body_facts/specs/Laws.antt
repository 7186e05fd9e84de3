-- What follows from the facts of bodies.
use Rattle.type_hierarchy.specs.Decls.{Name}
use Rattle.fs_model.specs.Claims.{Path, System, Has, same}
use Rattle.fs_model.specs.Closure.{Closure}
use Rattle.tdl_reader.specs.Trees.{BodyTree}
use Rattle.body_facts.specs.Claimed.{WordTable, sayings_of, claims_said}
use Rattle.body_facts.specs.Sayings.{carries}

-- in the closure of a body's facts, all paths that carry one coreference are equal
abbrev pub CarriersAreEqual : Type 0
CarriersAreEqual =
    (s : System) (w : WordTable) (body : BodyTree) (name : Name) (p q : Path) →
    Has (carries p name) (sayings_of w body) → Has (carries q name) (sayings_of w body) →
    Closure s (λ c. Has c (claims_said w body)) (same p q)
