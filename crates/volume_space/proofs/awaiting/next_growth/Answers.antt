use Rattle.volume_base.proofs.Looked.{looked_none}
use Rattle.volume_space.proofs.awaiting.next_growth.Goals as goal

pub returns-then-not-may_want-clause-looked : goal.returns-then-not-may_want-clause-looked
returns-then-not-may_want-clause-looked g c = looked_none g.met.P.SectorView.follows_refl c.requires.serves.stands
