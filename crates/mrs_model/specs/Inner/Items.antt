-- What the items of the search stand for.
use Rattle.mrs_model.specs.declared.items.Item.{Item}
use Rattle.mrs_model.specs.declared.items.Item.TheVariants.{Ep, Hcon, Icon}
use Rattle.mrs_model.specs.declared.Ep.{Ep as EpOfCode}
use Rattle.mrs_model.specs.declared.Hcon.{Hcon as HconOfCode}
use Rattle.mrs_model.specs.declared.Icon.{Icon as IconOfCode}
use Rattle.mrs_model.specs.Views.{predication_of, hcon_of, icon_of}
use Rattle.mrs_model.specs.Renaming.{unspanned}
use Rattle.mrs_model.specs.Inner.Elements.{Element, an_ep, an_hcon, an_icon}

abbrev pub of_ep : EpOfCode → Element
of_ep e = an_ep (unspanned (predication_of e))

abbrev pub of_hcon : HconOfCode → Element
of_hcon h = an_hcon (hcon_of h)

abbrev pub of_icon : IconOfCode → Element
of_icon i = an_icon (icon_of i)

abbrev pub of_item : Item → Element
of_item (Ep e) = of_ep e.now
of_item (Hcon h) = of_hcon h.now
of_item (Icon i) = of_icon i.now
