use Rattle.std.proofs.Common.{◌∙◌, subst}
use Rattle.std.specs.Prelude.{IfSome, Option}
use Rattle.volume_base.specs.Keeping.{shrunk_of}
use Rattle.volume_base.specs.Room.{capacity_of}
use Rattle.volume_base.specs.declared.entries.Entry.{Entry}
use Rattle.volume_space.specs.Orphans.{IsToDrop}
use Rattle.volume_space.proofs.Awaits.{awaited_behind, drop_next}
use Rattle.volume_base.proofs.Framed.{looked_both}
use Rattle.volume_space.proofs.awaiting.waiting_wants.Goals as goal

pub returns-in-Some-clause-awaits : goal.returns-in-Some-clause-awaits
returns-in-Some-clause-awaits g c tells =
    let waits : IsToDrop (shrunk_of c.args.volume.now) (g.P.SectorView.space c.args.space.now).content c.in-Some._entry = subst (λ (o : Option Entry). IfSome o (IsToDrop (shrunk_of c.args.volume.now) (g.P.SectorView.space c.args.space.now).content)) c.in-Some.is (c.in_ok-found.ensures.found tells (shrunk_of c.args.volume.now) (c.requires.kept tells)) in
    drop_next (g.P.SectorView.space c.args.space.now).content (g.P.SectorView.space c.bare_waiting.new.space).content (c.bare_waiting.ensures.looked.reads.looks.content tells) (capacity_of c.args.volume.now) (capacity_of c.bare_waiting.new.volume) c.bare_waiting.ensures.looked.reads.keeps.capacity (shrunk_of c.args.volume.now) waits.id waits.next
    c.drop_wants.result (c.drop_wants.ensures (c.bare_waiting.ensures.looked.reads.looks.same.tells ∙ tells))

pub returns-clause-awaits : goal.returns-clause-awaits
returns-clause-awaits g c tells =
    awaited_behind (g.P.SectorView.space c.args.space.now).content (g.P.SectorView.space c.bare_waiting.new.space).content (c.bare_waiting.ensures.looked.reads.looks.content tells) (capacity_of c.args.volume.now) (capacity_of c.bare_waiting.new.volume) c.bare_waiting.ensures.looked.reads.keeps.capacity
    (shrunk_of c.args.volume.now) (shrunk_of c.bare_waiting.new.volume) c.bare_waiting.ensures.looked.reads.keeps.shrunk c.owner_wants.result (c.owner_wants.ensures.awaits (c.bare_waiting.ensures.looked.reads.looks.same.tells ∙ tells))

pub returns-clause-looked : goal.returns-clause-looked
returns-clause-looked g c = looked_both g.met.P.SectorView.follows_trans c.bare_waiting.ensures.looked c.owner_wants.ensures.looked
