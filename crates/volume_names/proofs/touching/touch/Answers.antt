use Rattle.std.proofs.Common.{◌≡◌, ◌≤◌, ◌+◌, [], false, length, sym, ◌∙◌, ap, subst}
use Rattle.std.specs.Prelude.{Option, IfSome}
use Rattle.cat_records.specs.Fits.{FitsRecord}
use Rattle.hfs_volume.specs.Records.{id_in, is_thread}
use Rattle.volume_base.specs.Changing.{TouchesFolder}
use Rattle.volume_base.specs.declared.entries.Entry.{Entry}
use Rattle.volume_base.proofs.FoundEntry.{ok_so, node_still}
use Rattle.volume_base.proofs.Recounting.{folder_there, folder_not_none, touches_read}
use Rattle.volume_base.proofs.UpdateRoom.{room_less, updates_still}
use Rattle.volume_base.proofs.Framed.{looked_then, node_looked, found_ready}
use Rattle.btree_file.specs.State.{state_of}
use Rattle.catalog.specs.Rooms.{TakesUpdates}
use Rattle.volume_base.proofs.Replaced.{node_large}
use Rattle.volume_names.specs.EditsLeft.{LeavesBeside}
use Rattle.volume_names.proofs.EditsLeft.{left_as, left_less, left_still, left_updated}
use Rattle.volume_names.proofs.touching.touch.Goals as goal

pub entry-requires-clause-spelled : goal.entry-requires-clause-spelled
entry-requires-clause-spelled g c tells = (c.requires.threads tells).spelled

pub put_touched-requires-clause-ready : goal.put_touched-requires-clause-ready
put_touched-requires-clause-ready g c =
    found_ready c.entry.ensures.looked (λ tells. (c.requires.threads tells).spelled)
    (subst (λ (o : Option Entry). IfSome o (λ entry. length entry.name ≤ 255)) c.in-Some.is c.in_ok-entry.ensures.name)
    (λ tells. let it = folder_there c.args.volume.now (g.P.SectorView.space c.args.space.now).content (c.requires.stands.stands tells).trees (c.requires.threads tells) c.args.id c.args.up (c.requires.there tells) c.in-Some.entry (sym c.in-Some.is ∙ c.in_ok-entry.ensures.found tells) in it.value) c.requires.room

pub put_touched-requires-clause-fits : goal.put_touched-requires-clause-fits
put_touched-requires-clause-fits g c = subst (λ (o : Option Entry). IfSome o (λ entry. is_thread entry.rec ≡ false → FitsRecord entry.rec)) c.in-Some.is c.in_ok-entry.ensures.fits

pub returns-in-Some-clause-counts : goal.returns-in-Some-clause-counts
returns-in-Some-clause-counts g c tells =
    let it = folder_there c.args.volume.now (g.P.SectorView.space c.args.space.now).content (c.requires.stands.stands tells).trees (c.requires.threads tells) c.args.id c.args.up (c.requires.there tells) c.in-Some.entry (sym c.in-Some.is ∙ c.in_ok-entry.ensures.found tells) in
    ok_so (TouchesFolder (id_in c.in-Some.entry.rec) c.args.up c.args.down c.entry.new.self c.put_touched.new.self (g.P.SectorView.space c.entry.new.space).content (g.P.SectorView.space c.put_touched.new.space).content)
    (TouchesFolder c.args.id c.args.up c.args.down c.args.volume.now c.put_touched.new.self (g.P.SectorView.space c.args.space.now).content (g.P.SectorView.space c.put_touched.new.space).content)
    c.put_touched.result (c.put_touched.ensures.counts (c.entry.ensures.looked.reads.looks.same.tells ∙ tells) it.kind it.fits)
    (λ t. touches_read c.args.volume.now c.entry.new.self (g.P.SectorView.space c.args.space.now) (g.P.SectorView.space c.entry.new.space) c.entry.ensures.looked.reads tells c.entry.ensures.rest c.args.id c.args.up c.args.down c.put_touched.new.self (g.P.SectorView.space c.put_touched.new.space).content
    (subst (λ id. TouchesFolder id c.args.up c.args.down c.entry.new.self c.put_touched.new.self (g.P.SectorView.space c.entry.new.space).content (g.P.SectorView.space c.put_touched.new.space).content) it.number t))

pub returns-in-None-clause-counts : goal.returns-in-None-clause-counts
returns-in-None-clause-counts g c tells =
    absurd (folder_not_none c.args.volume.now (g.P.SectorView.space c.args.space.now).content (c.requires.stands.stands tells).trees (c.requires.threads tells) c.args.id c.args.up (c.requires.there tells) (sym c.in-None.is ∙ c.in_ok-entry.ensures.found tells))

pub returns-in-Some-clause-room : goal.returns-in-Some-clause-room
returns-in-Some-clause-room g c many room = c.put_touched.ensures.room many (updates_still (many + 1) c.args.volume.now c.entry.new.self (g.P.SectorView.space c.args.space.now) (g.P.SectorView.space c.entry.new.space) c.entry.ensures.looked.reads room)

pub returns-in-None-clause-room : goal.returns-in-None-clause-room
returns-in-None-clause-room g c many room = room_less many c.entry.new.self (g.P.SectorView.space c.entry.new.space) (updates_still (many + 1) c.args.volume.now c.entry.new.self (g.P.SectorView.space c.args.space.now) (g.P.SectorView.space c.entry.new.space) c.entry.ensures.looked.reads room)

pub returns-in-Some-clause-size : goal.returns-in-Some-clause-size
returns-in-Some-clause-size g c = c.put_touched.ensures.size ∙ c.entry.ensures.looked.reads.keeps.catalog.file.file.node_size

pub returns-in-None-clause-size : goal.returns-in-None-clause-size
returns-in-None-clause-size g c = c.entry.ensures.looked.reads.keeps.catalog.file.file.node_size

pub returns-in_err-entry-clause-size : goal.returns-in_err-entry-clause-size
returns-in_err-entry-clause-size g c = c.entry.ensures.looked.reads.keeps.catalog.file.file.node_size

pub returns-in-Some-clause-edits : goal.returns-in-Some-clause-edits
returns-in-Some-clause-edits g c = looked_then g.met.P.SectorView.follows_trans c.entry.ensures.looked c.put_touched.ensures.edits (node_looked c.entry.ensures.looked)

pub returns-in-Some-clause-left : goal.returns-in-Some-clause-left
returns-in-Some-clause-left g c =
    let v = c.args.volume.now in
    let w = c.entry.new.self in
    let old = g.P.SectorView.space c.args.space.now in
    let read = g.P.SectorView.space c.entry.new.space in
    let new = g.P.SectorView.space c.put_touched.new.space in
    let reads = c.entry.ensures.looked.reads in
    ok_so (TakesUpdates 0 1 516 (state_of [] w.catalog.file read) (state_of [] c.put_touched.new.self.catalog.file new)) (LeavesBeside v old c.put_touched.new.self new) c.put_touched.result (c.put_touched.ensures.updates [])
    (λ takes edits beside had. left_updated w c.put_touched.new.self read new edits beside (λ tells. node_large w read c.entry.ensures.looked.stands tells) (c.put_touched.ensures.edits.ran.touches read.content).same.tells takes
    (left_as w read edits _ _ (λ tells. ap (λ n. n + beside) (sym (node_still v w old read reads))) (left_still v w old read edits _ (λ tells. node_large v old c.requires.stands tells) reads had)))

pub returns-in-None-clause-left : goal.returns-in-None-clause-left
returns-in-None-clause-left g c edits beside had =
    let v = c.args.volume.now in
    let old = g.P.SectorView.space c.args.space.now in
    left_still v c.entry.new.self old (g.P.SectorView.space c.entry.new.space) edits beside (λ tells. node_large v old c.requires.stands tells) c.entry.ensures.looked.reads (left_less v old edits beside (λ tells. node_large v old c.requires.stands tells) had)
