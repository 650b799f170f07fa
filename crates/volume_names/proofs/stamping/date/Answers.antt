use Rattle.std.proofs.Common.{◌≡◌, ◌≤◌, ◌+◌, false, length, sym, ◌∙◌, subst, arith}
use Rattle.std.specs.Prelude.{Option, IfSome}
use Rattle.cat_records.specs.Fits.{FitsRecord}
use Rattle.hfs_volume.specs.Records.{id_in, is_thread}
use Rattle.volume_names.specs.Changing.{DatesEntry}
use Rattle.volume_base.specs.declared.entries.Entry.{Entry}
use Rattle.volume_base.proofs.FoundEntry.{node_still, ok_so}
use Rattle.volume_names.proofs.Redating.{one_there, one_not_none, dates_read}
use Rattle.volume_base.proofs.UpdateRoom.{room_less, updates_still}
use Rattle.volume_base.proofs.Framed.{edits_spent, found_ready}
use Rattle.volume_base.proofs.Joined.{edits_both}
use Rattle.volume_names.proofs.stamping.date.Goals as goal

pub entry-requires-clause-spelled : goal.entry-requires-clause-spelled
entry-requires-clause-spelled g c tells = (c.requires.threads tells).spelled

pub put_dated-requires-clause-ready : goal.put_dated-requires-clause-ready
put_dated-requires-clause-ready g c =
    found_ready c.entry.ensures.looked (λ tells. (c.requires.threads tells).spelled)
    (subst (λ (o : Option Entry). IfSome o (λ entry. length entry.name ≤ 255)) c.in-Some.is c.in_ok-entry.ensures.name)
    (λ tells. let it = one_there c.args.volume.now (g.P.SectorView.space c.args.space.now).content (c.requires.stands.stands tells).trees (c.requires.threads tells) c.args.id (c.requires.there tells) c.in-Some.entry (sym c.in-Some.is ∙ c.in_ok-entry.ensures.found tells) in it.value) c.requires.room

pub put_dated-requires-clause-fits : goal.put_dated-requires-clause-fits
put_dated-requires-clause-fits g c = subst (λ (o : Option Entry). IfSome o (λ entry. is_thread entry.rec ≡ false → FitsRecord entry.rec)) c.in-Some.is c.in_ok-entry.ensures.fits

pub returns-in-Some-clause-dates : goal.returns-in-Some-clause-dates
returns-in-Some-clause-dates g c tells =
    let it = one_there c.args.volume.now (g.P.SectorView.space c.args.space.now).content (c.requires.stands.stands tells).trees (c.requires.threads tells) c.args.id (c.requires.there tells) c.in-Some.entry (sym c.in-Some.is ∙ c.in_ok-entry.ensures.found tells) in
    ok_so (DatesEntry (id_in c.in-Some.entry.rec) c.entry.new.self c.put_dated.new.volume (g.P.SectorView.space c.entry.new.space).content (g.P.SectorView.space c.put_dated.new.space).content)
    (DatesEntry c.args.id c.args.volume.now c.put_dated.new.volume (g.P.SectorView.space c.args.space.now).content (g.P.SectorView.space c.put_dated.new.space).content)
    c.put_dated.result (c.put_dated.ensures.dates (c.entry.ensures.looked.reads.looks.same.tells ∙ tells) it.kind)
    (λ t. dates_read c.args.volume.now c.entry.new.self (g.P.SectorView.space c.args.space.now) (g.P.SectorView.space c.entry.new.space) c.entry.ensures.looked.reads tells c.entry.ensures.rest c.args.id c.put_dated.new.volume (g.P.SectorView.space c.put_dated.new.space).content
    (subst (λ id. DatesEntry id c.entry.new.self c.put_dated.new.volume (g.P.SectorView.space c.entry.new.space).content (g.P.SectorView.space c.put_dated.new.space).content) it.number t))

pub returns-in-Some-clause-edits : goal.returns-in-Some-clause-edits
returns-in-Some-clause-edits g c =
    edits_spent (edits_both g.met.P.SectorView.follows_trans c.entry.ensures.looked.edits c.put_dated.ensures.edits) (λ tells. omega (arith, c.entry.ensures.looked.reads.looks.spare, c.put_dated.ensures.edits.ran.spent (c.entry.ensures.looked.reads.looks.same.tells ∙ tells), node_still c.args.volume.now c.entry.new.self (g.P.SectorView.space c.args.space.now) (g.P.SectorView.space c.entry.new.space) c.entry.ensures.looked.reads))

pub returns-in-None-clause-dates : goal.returns-in-None-clause-dates
returns-in-None-clause-dates g c tells =
    absurd (one_not_none c.args.volume.now (g.P.SectorView.space c.args.space.now).content (c.requires.stands.stands tells).trees (c.requires.threads tells) c.args.id (c.requires.there tells) (sym c.in-None.is ∙ c.in_ok-entry.ensures.found tells))

pub returns-in-Some-clause-room : goal.returns-in-Some-clause-room
returns-in-Some-clause-room g c many room = c.put_dated.ensures.room many (updates_still (many + 1) c.args.volume.now c.entry.new.self (g.P.SectorView.space c.args.space.now) (g.P.SectorView.space c.entry.new.space) c.entry.ensures.looked.reads room)

pub returns-in-None-clause-room : goal.returns-in-None-clause-room
returns-in-None-clause-room g c many room = room_less many c.entry.new.self (g.P.SectorView.space c.entry.new.space) (updates_still (many + 1) c.args.volume.now c.entry.new.self (g.P.SectorView.space c.args.space.now) (g.P.SectorView.space c.entry.new.space) c.entry.ensures.looked.reads room)
