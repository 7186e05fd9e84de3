use Rattle.std.proofs.Common.{All, sym, subst, refl}
use Rattle.std.proofs.lemmas.Option.{slice_get_read}
use Rattle.side_by_side.specs.Inner.Posts.{IsDone}
use Rattle.side_by_side.proofs.Drawing.{all_more}
use Rattle.side_by_side.proofs.posts.do_at.Goals as goal

pub returns-clause-done : goal.returns-clause-done
returns-clause-done g c =
    let P = IsDone (g.K.Work.Gives c.args.work.now) c.args.things.now in
    all_more P c.reserve.new.self.items c.push_reserved.new.self.items (record { place = c.args.place; out = c.in_ok-out.out }) c.push_reserved.ensures.items
    (subst (λ l. All P l) (sym c.reserve.ensures.items) c.requires.done)
    (c.index-things-place.result, slice_get_read c.args.things.now _ c.args.place c.index-things-place.result refl c.requires.place c.index-things-place.is, c.in_ok-out.ensures)
