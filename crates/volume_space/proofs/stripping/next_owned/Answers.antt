use Rattle.std.proofs.Common.{sym, ◌∙◌}
use Rattle.volume_base.proofs.FoundEntry.{settled_spelled}
use Rattle.volume_base.proofs.Still.{lists_still}
use Rattle.volume_space.proofs.ToDrop.{found_to_bare}
use Rattle.volume_base.proofs.Framed.{looked_both, serves_still}
use Rattle.volume_space.proofs.stripping.next_owned.Goals as goal

pub entry-requires-clause-spelled : goal.entry-requires-clause-spelled
entry-requires-clause-spelled g c tells = settled_spelled c.args.volume.now (g.P.SectorView.space c.args.space.now).content (c.requires.serves.settled tells)

pub first_owned-requires : goal.first_owned-requires
first_owned-requires g c = record { serves = serves_still c.entry.ensures.looked c.requires.serves }

pub returns-in-Some-clause-found : goal.returns-in-Some-clause-found
returns-in-Some-clause-found g c tells shrunk unshrunk =
    let lists = lists_still c.args.volume.now c.entry.new.self (g.P.SectorView.space c.args.space.now) (g.P.SectorView.space c.entry.new.space) c.entry.ensures.looked.reads tells in
    found_to_bare c.args.volume.now (g.P.SectorView.space c.args.space.now).content (c.requires.serves.stands.stands tells).trees (c.requires.serves.settled tells) c.args.id (c.requires.lowest tells) c.reclaim_drops_entries_of_bare_orphans.ensures shrunk unshrunk c.in-Some.entry
    (sym c.in-Some.is ∙ c.in_ok-entry.ensures.found tells) c.entry.new.self (g.P.SectorView.space c.entry.new.space).content lists c.first_owned.result (c.first_owned.ensures.first (c.entry.ensures.looked.reads.looks.same.tells ∙ tells))

pub returns-in_err-entry-clause-serves : goal.returns-in_err-entry-clause-serves
returns-in_err-entry-clause-serves g c = serves_still c.entry.ensures.looked c.requires.serves

pub returns-in-None-clause-serves : goal.returns-in-None-clause-serves
returns-in-None-clause-serves g c = serves_still c.entry.ensures.looked c.requires.serves

pub returns-in-Some-clause-looked : goal.returns-in-Some-clause-looked
returns-in-Some-clause-looked g c = looked_both g.met.P.SectorView.follows_trans c.entry.ensures.looked c.first_owned.ensures.looked
