use Rattle.std.proofs.Common.{◌∙◌}
use Rattle.volume_base.specs.Keeping.{shrunk_of}
use Rattle.volume_base.specs.Room.{capacity_of}
use Rattle.volume_space.proofs.Awaits.{awaited_behind}
use Rattle.volume_base.proofs.Framed.{looked_both}
use Rattle.volume_space.proofs.awaiting.unshrunk_wants.Goals as goal

pub returns-in-Some-clause-awaits : goal.returns-in-Some-clause-awaits
returns-in-Some-clause-awaits g c tells =
    awaited_behind (g.P.SectorView.space c.args.space.now).content (g.P.SectorView.space c.next_waiting.new.space).content (c.next_waiting.ensures.looked.reads.looks.content tells) (capacity_of c.args.volume.now) (capacity_of c.next_waiting.new.volume) c.next_waiting.ensures.looked.reads.keeps.capacity
    (shrunk_of c.args.volume.now) (shrunk_of c.next_waiting.new.volume) c.next_waiting.ensures.looked.reads.keeps.shrunk c.waiting_wants.result (c.waiting_wants.ensures.awaits (c.next_waiting.ensures.looked.reads.looks.same.tells ∙ tells))

pub returns-in-Some-clause-looked : goal.returns-in-Some-clause-looked
returns-in-Some-clause-looked g c = looked_both g.met.P.SectorView.follows_trans c.next_waiting.ensures.looked c.waiting_wants.ensures.looked
