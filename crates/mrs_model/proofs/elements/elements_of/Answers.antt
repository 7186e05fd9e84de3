use Rattle.mrs_model.proofs.Listing.{listed}
use Rattle.mrs_model.proofs.elements.elements_of.Goals as goal

pub returns : goal.returns
returns c =
    listed c.args.mrs.now _ _ _ _ _ _ _ c.deref.ensures.value c.deref-2.ensures.value c.deref-3.ensures.value c.new-into.ensures.items
    c.in_ok-push_eps.ensures c.in_ok-push_hcons.ensures c.in_ok-push_icons.ensures
