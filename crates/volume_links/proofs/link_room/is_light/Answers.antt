use Rattle.std.proofs.Common.{sym, subst}
use Rattle.std.proofs.lemmas.Bool.{le-leb, leb-true}
use Rattle.volume_base.specs.declared.weighing.Weight.{Weight}
use Rattle.volume_links.specs.Links.{IsLight}
use Rattle.volume_links.proofs.link_room.is_light.Goals as goal

pub returns-in-Load-clause-light : goal.returns-in-Load-clause-light
returns-in-Load-clause-light c true_ = subst (λ (w : Weight). IsLight w c.args.spare) (sym c.in-Load.is) (leb-true c.in-Load.sectors c.args.spare true_)

pub returns-in-Load-clause-sure : goal.returns-in-Load-clause-sure
returns-in-Load-clause-sure c light = le-leb c.in-Load.sectors c.args.spare (subst (λ (w : Weight). IsLight w c.args.spare) c.in-Load.is light)
