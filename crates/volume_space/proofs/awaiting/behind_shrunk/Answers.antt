use Rattle.std.proofs.Common.{sym, ◌∙◌, ap}
use Rattle.hfs_volume.specs.Content.{VolumeState, volume_of}
use Rattle.hfs_volume.specs.Reclaim.{has_surplus_left}
use Rattle.volume_base.specs.Keeping.{shrunk_of}
use Rattle.volume_base.specs.Lists.{lists_of}
use Rattle.volume_base.specs.Room.{capacity_of}
use Rattle.volume_base.proofs.Still.{lists_still}
use Rattle.catalog.specs.Pairs.{value_at}
use Rattle.volume_base.proofs.FoundEntry.{settled_spelled}
use Rattle.volume_space.proofs.Awaits.{awaited_behind}
use Rattle.volume_space.proofs.NextCut.{none_rests, there_by}
use Rattle.volume_base.proofs.Framed.{looked_both, serves_still}
use Rattle.volume_space.proofs.awaiting.behind_shrunk.Goals as goal

pub entry-requires-clause-spelled : goal.entry-requires-clause-spelled
entry-requires-clause-spelled g c tells = settled_spelled c.args.volume.now (g.P.SectorView.space c.args.space.now).content (c.requires.serves.settled tells)

pub shrunk_wants-requires-clause-serves : goal.shrunk_wants-requires-clause-serves
shrunk_wants-requires-clause-serves g c = serves_still c.entry.ensures.looked c.requires.serves

pub shrunk_wants-requires-clause-there : goal.shrunk_wants-requires-clause-there
shrunk_wants-requires-clause-there g c tells =
    let before = sym c.entry.ensures.looked.reads.looks.same.tells ∙ tells in
    ap (λ (l : VolumeState). value_at l.catalog_pairs c.in-Some.entry.parent c.in-Some.entry.name) (lists_still c.args.volume.now c.entry.new.self (g.P.SectorView.space c.args.space.now) (g.P.SectorView.space c.entry.new.space) c.entry.ensures.looked.reads before)
    ∙ there_by (lists_of c.args.volume.now (g.P.SectorView.space c.args.space.now).content).catalog_pairs c.args.id c.in-Some.entry (sym c.in-Some.is ∙ c.in_ok-entry.ensures.found before)

pub unshrunk_wants-requires-clause-serves : goal.unshrunk_wants-requires-clause-serves
unshrunk_wants-requires-clause-serves g c = serves_still c.entry.ensures.looked c.requires.serves

pub unshrunk_wants-requires-clause-kept : goal.unshrunk_wants-requires-clause-kept
unshrunk_wants-requires-clause-kept g c tells =
    let before = sym c.entry.ensures.looked.reads.looks.same.tells ∙ tells in
    (λ i. has_surplus_left (volume_of (c.entry.ensures.looked.reads.looks.content before i)) (c.entry.ensures.looked.reads.keeps.shrunk i))
    ∙ none_rests c.args.volume.now (g.P.SectorView.space c.args.space.now).content (c.requires.serves.settled before) (c.requires.serves.stands.stands before).trees c.args.id (shrunk_of c.args.volume.now) c.requires.shrunk (sym c.in-None.is ∙ c.in_ok-entry.ensures.found before)

pub returns-in_err-entry-clause-serves : goal.returns-in_err-entry-clause-serves
returns-in_err-entry-clause-serves g c = serves_still c.entry.ensures.looked c.requires.serves

pub returns-in-Some-clause-awaits : goal.returns-in-Some-clause-awaits
returns-in-Some-clause-awaits g c tells =
    awaited_behind (g.P.SectorView.space c.args.space.now).content (g.P.SectorView.space c.entry.new.space).content (c.entry.ensures.looked.reads.looks.content tells) (capacity_of c.args.volume.now) (capacity_of c.entry.new.self) c.entry.ensures.looked.reads.keeps.capacity
    (shrunk_of c.args.volume.now) (shrunk_of c.entry.new.self) c.entry.ensures.looked.reads.keeps.shrunk c.shrunk_wants.result (c.shrunk_wants.ensures.awaits (c.entry.ensures.looked.reads.looks.same.tells ∙ tells))

pub returns-in-Some-clause-looked : goal.returns-in-Some-clause-looked
returns-in-Some-clause-looked g c = looked_both g.met.P.SectorView.follows_trans c.entry.ensures.looked c.shrunk_wants.ensures.looked

pub returns-in-None-clause-awaits : goal.returns-in-None-clause-awaits
returns-in-None-clause-awaits g c tells =
    awaited_behind (g.P.SectorView.space c.args.space.now).content (g.P.SectorView.space c.entry.new.space).content (c.entry.ensures.looked.reads.looks.content tells) (capacity_of c.args.volume.now) (capacity_of c.entry.new.self) c.entry.ensures.looked.reads.keeps.capacity
    (shrunk_of c.args.volume.now) (shrunk_of c.entry.new.self) c.entry.ensures.looked.reads.keeps.shrunk c.unshrunk_wants.result (c.unshrunk_wants.ensures.awaits (c.entry.ensures.looked.reads.looks.same.tells ∙ tells))

pub returns-in-None-clause-looked : goal.returns-in-None-clause-looked
returns-in-None-clause-looked g c = looked_both g.met.P.SectorView.follows_trans c.entry.ensures.looked c.unshrunk_wants.ensures.looked
