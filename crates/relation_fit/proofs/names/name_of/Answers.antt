use Rattle.std.proofs.Common.{◌≡◌, ◌∙◌, length, vec_len, arith, rules}
use Rattle.mrs_places.specs.Paths.{paths_of}
use Rattle.mrs_extract.proofs.Named.{number_in, named_at, name_next}
use Rattle.relation_fit.proofs.names.name_of.Goals as goal
use lib.Utf8.{encode}

pub index-requires-in-loop-k : goal.index-requires-in-loop-k
index-requires-in-loop-k c =
    let n : vec_len c.args.paths.now.feats ≡ length c.args.paths.now.feats.items = search rules in
    let f = number_in (length c.args.paths.now.feats.items) c.args.path.now c.loop-k.k (record { 0 = 0 }) c.requires.inside c.loop-k-test.true in
    omega (arith, n, f)

pub loop-k-preserved : goal.loop-k-preserved
unfolding encode
loop-k-preserved c =
    let f = number_in (length c.args.paths.now.feats.items) c.args.path.now c.loop-k.k (record { 0 = 0 }) c.requires.inside c.loop-k-test.true in
    name_next (paths_of c.args.paths.now) c.args.path.now c.loop-k.k (record { 0 = 0 }) _ _ _ _ c.loop-k.auto.k c.loop-k-test.true c.loop-k.invariant c.in_ok-push.ensures.bytes c.in_ok-push_str.ensures.bytes
    (c.deref.ensures ∙ named_at c.args.paths.now.feats.items _ _ f c.index-in-loop-k.ensures)
