use Rattle.std.proofs.Common.{◌≡◌, ◌+◌, ◌≤◌, false, ℕ, length, sym, ◌∙◌, subst, arith}
use Rattle.std.specs.Prelude.{Option, IfSome}
use Rattle.cat_records.specs.Fits.{FitsRecord}
use Rattle.hfs_volume.specs.Records.{id_in, is_thread}
use Rattle.volume_names.specs.Unlinking.{SaysLinks, links_in}
use Rattle.volume_base.specs.declared.entries.Entry.{Entry}
use Rattle.volume_base.proofs.FoundEntry.{ok_so, node_still}
use Rattle.volume_base.proofs.UpdateRoom.{room_less, updates_still}
use Rattle.volume_names.proofs.Unlinked.{shared_not_none, shared_there}
use Rattle.volume_names.proofs.Shared.{says_read}
use Rattle.volume_base.proofs.Framed.{edits_spent, found_ready}
use Rattle.volume_base.proofs.Joined.{edits_both}
use Rattle.volume_names.proofs.sharing.say_two.Goals as goal

pub entry-requires-clause-spelled : goal.entry-requires-clause-spelled
entry-requires-clause-spelled g c tells = (c.requires.threads tells).spelled

pub put_links-requires-clause-ready : goal.put_links-requires-clause-ready
put_links-requires-clause-ready g c =
    found_ready c.entry.ensures.looked (λ tells. (c.requires.threads tells).spelled)
    (subst (λ (o : Option Entry). IfSome o (λ entry. length entry.name ≤ 255)) c.in-Some.is c.in_ok-entry.ensures.name)
    (λ tells. let it = shared_there c.args.volume.now (g.P.SectorView.space c.args.space.now).content (c.requires.stands.stands tells).trees (c.requires.threads tells) c.args.id (c.requires.there tells) c.in-Some.entry (sym c.in-Some.is ∙ c.in_ok-entry.ensures.found tells) in it.value) c.requires.room

pub put_links-requires-clause-fits : goal.put_links-requires-clause-fits
put_links-requires-clause-fits g c = subst (λ (o : Option Entry). IfSome o (λ entry. is_thread entry.rec ≡ false → FitsRecord entry.rec)) c.in-Some.is c.in_ok-entry.ensures.fits

pub returns-in-Some-clause-says : goal.returns-in-Some-clause-says
returns-in-Some-clause-says g c tells =
    let it = shared_there c.args.volume.now (g.P.SectorView.space c.args.space.now).content (c.requires.stands.stands tells).trees (c.requires.threads tells) c.args.id (c.requires.there tells) c.in-Some.entry (sym c.in-Some.is ∙ c.in_ok-entry.ensures.found tells) in
    ok_so (SaysLinks (id_in c.in-Some.entry.rec) 2 (links_in c.in-Some.entry.rec) c.entry.new.self c.put_links.new.volume (g.P.SectorView.space c.entry.new.space).content (g.P.SectorView.space c.put_links.new.space).content)
    ((had : ℕ) × SaysLinks c.args.id 2 had c.args.volume.now c.put_links.new.volume (g.P.SectorView.space c.args.space.now).content (g.P.SectorView.space c.put_links.new.space).content)
    c.put_links.result (c.put_links.ensures.counts (c.entry.ensures.looked.reads.looks.same.tells ∙ tells) it.file it.plain)
    (λ t. (
      links_in c.in-Some.entry.rec,
      says_read c.args.volume.now c.entry.new.self (g.P.SectorView.space c.args.space.now) (g.P.SectorView.space c.entry.new.space) c.entry.ensures.looked.reads tells c.entry.ensures.rest c.args.id 2 (links_in c.in-Some.entry.rec) c.put_links.new.volume (g.P.SectorView.space c.put_links.new.space).content
          (subst (λ id. SaysLinks id 2 (links_in c.in-Some.entry.rec) c.entry.new.self c.put_links.new.volume (g.P.SectorView.space c.entry.new.space).content (g.P.SectorView.space c.put_links.new.space).content) it.number t),
    ))

pub returns-in-Some-clause-edits : goal.returns-in-Some-clause-edits
returns-in-Some-clause-edits g c =
    edits_spent (edits_both g.met.P.SectorView.follows_trans c.entry.ensures.looked.edits c.put_links.ensures.edits) (λ tells. omega (arith, c.entry.ensures.looked.reads.looks.spare, c.put_links.ensures.edits.ran.spent (c.entry.ensures.looked.reads.looks.same.tells ∙ tells), node_still c.args.volume.now c.entry.new.self (g.P.SectorView.space c.args.space.now) (g.P.SectorView.space c.entry.new.space) c.entry.ensures.looked.reads))

pub returns-in-None-clause-says : goal.returns-in-None-clause-says
returns-in-None-clause-says g c tells =
    absurd (shared_not_none c.args.volume.now (g.P.SectorView.space c.args.space.now).content (c.requires.stands.stands tells).trees (c.requires.threads tells) c.args.id (c.requires.there tells) (sym c.in-None.is ∙ c.in_ok-entry.ensures.found tells))

pub returns-in-Some-clause-room : goal.returns-in-Some-clause-room
returns-in-Some-clause-room g c many room = c.put_links.ensures.room many (updates_still (many + 1) c.args.volume.now c.entry.new.self (g.P.SectorView.space c.args.space.now) (g.P.SectorView.space c.entry.new.space) c.entry.ensures.looked.reads room)

pub returns-in-None-clause-room : goal.returns-in-None-clause-room
returns-in-None-clause-room g c many room = room_less many c.entry.new.self (g.P.SectorView.space c.entry.new.space) (updates_still (many + 1) c.args.volume.now c.entry.new.self (g.P.SectorView.space c.args.space.now) (g.P.SectorView.space c.entry.new.space) c.entry.ensures.looked.reads room)
