use Rattle.std.proofs.Common.{◌≤◌, length, sym, ◌∙◌, subst}
use Rattle.std.specs.Prelude.{IfSome, Option}
use Rattle.volume_base.specs.declared.entries.Entry.{Entry}
use Rattle.volume_base.proofs.FoundEntry.{settled_spelled}
use Rattle.volume_base.proofs.Still.{lists_still}
use Rattle.volume_space.proofs.ToDrop.{found_to_drop, named_as}
use Rattle.volume_base.proofs.Framed.{looked_both, serves_still}
use Rattle.volume_space.proofs.tidying.bare_waiting.Goals as goal

pub entry-requires-clause-spelled : goal.entry-requires-clause-spelled
entry-requires-clause-spelled g c tells = settled_spelled c.args.volume.now (g.P.SectorView.space c.args.space.now).content (c.requires.serves.settled tells)

pub bare_entry-requires : goal.bare_entry-requires
bare_entry-requires g c = record { serves = serves_still c.entry.ensures.looked c.requires.serves }

pub returns-in-Some-clause-found : goal.returns-in-Some-clause-found
returns-in-Some-clause-found g c tells shrunk unshrunk =
    let lists = lists_still c.args.volume.now c.entry.new.self (g.P.SectorView.space c.args.space.now) (g.P.SectorView.space c.entry.new.space) c.entry.ensures.looked.reads tells in
    found_to_drop c.args.volume.now (g.P.SectorView.space c.args.space.now).content (c.requires.serves.stands.stands tells).trees (c.requires.serves.settled tells) c.args.id (c.requires.lowest tells) c.reclaim_drops_entries_of_bare_orphans.ensures shrunk unshrunk c.in-Some.entry
    (sym c.in-Some.is ∙ c.in_ok-entry.ensures.found tells) c.bare_entry.new.volume c.entry.new.self (g.P.SectorView.space c.entry.new.space).content lists c.bare_entry.result (c.bare_entry.ensures.bare (c.entry.ensures.looked.reads.looks.same.tells ∙ tells))

pub returns-in-Some-clause-name : goal.returns-in-Some-clause-name
returns-in-Some-clause-name g c = named_as c.in-Some.entry (subst (λ (o : Option Entry). IfSome o (λ entry. length entry.name ≤ 255)) c.in-Some.is c.in_ok-entry.ensures.name) c.bare_entry.result c.bare_entry.ensures.same

pub returns-in_err-entry-clause-serves : goal.returns-in_err-entry-clause-serves
returns-in_err-entry-clause-serves g c = serves_still c.entry.ensures.looked c.requires.serves

pub returns-in-None-clause-serves : goal.returns-in-None-clause-serves
returns-in-None-clause-serves g c = serves_still c.entry.ensures.looked c.requires.serves

pub returns-in-Some-clause-looked : goal.returns-in-Some-clause-looked
returns-in-Some-clause-looked g c = looked_both g.met.P.SectorView.follows_trans c.entry.ensures.looked c.bare_entry.ensures.looked
