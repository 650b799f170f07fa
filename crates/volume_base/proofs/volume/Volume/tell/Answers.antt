use Rattle.volume_base.proofs.Looked.{looked_none}
use Rattle.volume_base.proofs.volume.Volume.tell.Goals as goal

pub returns-in-Df-clause-looked : goal.returns-in-Df-clause-looked
returns-in-Df-clause-looked g c = looked_none g.met.P.SectorView.follows_refl c.requires.serves.stands

pub returns-in-Sync-clause-looked : goal.returns-in-Sync-clause-looked
returns-in-Sync-clause-looked g c = looked_none g.met.P.SectorView.follows_refl c.requires.serves.stands

pub returns-in-Mkdir-clause-looked : goal.returns-in-Mkdir-clause-looked
returns-in-Mkdir-clause-looked g c = looked_none g.met.P.SectorView.follows_refl c.requires.serves.stands
