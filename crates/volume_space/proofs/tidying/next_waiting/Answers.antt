use Rattle.volume_space.proofs.ToDrop.{none_found, waiting_told}
use Rattle.volume_base.proofs.Looked.{looked_none}
use Rattle.volume_space.proofs.tidying.next_waiting.Goals as goal

pub returns-in-Some-clause-found : goal.returns-in-Some-clause-found
returns-in-Some-clause-found g c tells =
    waiting_told c.args.volume.now (g.P.SectorView.space c.args.space.now).content (c.requires.serves.settled tells) c.in-Some.private c.in-Some.is c.waiting_in.result (c.waiting_in.ensures.found tells)

pub returns-in-None-clause-found : goal.returns-in-None-clause-found
returns-in-None-clause-found g c tells = none_found c.args.volume.now (g.P.SectorView.space c.args.space.now).content (c.requires.serves.settled tells) c.in-None.is

pub returns-in-None-clause-looked : goal.returns-in-None-clause-looked
returns-in-None-clause-looked g c = looked_none g.met.P.SectorView.follows_refl c.requires.serves.stands
