use Rattle.std.proofs.Common.{◌≡◌, ◌+◌, ◌≤◌, false, length, sym, ◌∙◌, ap, subst, arith}
use Rattle.std.specs.Prelude.{Option, IfSome}
use Rattle.cat_records.specs.Fits.{FitsRecord}
use Rattle.hfs_volume.specs.Records.{id_in, is_thread}
use Rattle.volume_names.specs.PrivateFolder.{RecountsFolder}
use Rattle.volume_base.specs.declared.entries.Entry.{Entry}
use Rattle.volume_base.proofs.FoundEntry.{node_still, ok_so}
use Rattle.volume_names.proofs.PrivateRecount.{recounts_read}
use Rattle.volume_base.proofs.Recounting.{folder_there, folder_not_none}
use Rattle.volume_base.proofs.Replaced.{node_large}
use Rattle.volume_names.proofs.EditsLeft.{left_as, left_less, left_still}
use Rattle.volume_base.proofs.Framed.{edits_spent, found_ready}
use Rattle.volume_base.proofs.Joined.{edits_both}
use Rattle.volume_names.proofs.private_folder.recount.Goals as goal

pub entry-requires-clause-spelled : goal.entry-requires-clause-spelled
entry-requires-clause-spelled g c tells = (c.requires.threads tells).spelled

pub put_recounted-requires-clause-ready : goal.put_recounted-requires-clause-ready
put_recounted-requires-clause-ready g c =
    found_ready c.entry.ensures.looked (λ tells. (c.requires.threads tells).spelled)
    (subst (λ (o : Option Entry). IfSome o (λ entry. length entry.name ≤ 255)) c.in-Some.is c.in_ok-entry.ensures.name)
    (λ tells. let it = folder_there c.args.volume.now (g.P.SectorView.space c.args.space.now).content (c.requires.stands.stands tells).trees (c.requires.threads tells) c.args.id c.args.up (c.requires.there tells) c.in-Some.entry (sym c.in-Some.is ∙ c.in_ok-entry.ensures.found tells) in it.value) c.requires.room

pub put_recounted-requires-clause-fits : goal.put_recounted-requires-clause-fits
put_recounted-requires-clause-fits g c = subst (λ (o : Option Entry). IfSome o (λ entry. is_thread entry.rec ≡ false → FitsRecord entry.rec)) c.in-Some.is c.in_ok-entry.ensures.fits

pub returns-in-Some-clause-counts : goal.returns-in-Some-clause-counts
returns-in-Some-clause-counts g c tells =
    let it = folder_there c.args.volume.now (g.P.SectorView.space c.args.space.now).content (c.requires.stands.stands tells).trees (c.requires.threads tells) c.args.id c.args.up (c.requires.there tells) c.in-Some.entry (sym c.in-Some.is ∙ c.in_ok-entry.ensures.found tells) in
    ok_so (RecountsFolder (id_in c.in-Some.entry.rec) c.args.up c.entry.new.self c.put_recounted.new.volume (g.P.SectorView.space c.entry.new.space).content (g.P.SectorView.space c.put_recounted.new.space).content)
    (RecountsFolder c.args.id c.args.up c.args.volume.now c.put_recounted.new.volume (g.P.SectorView.space c.args.space.now).content (g.P.SectorView.space c.put_recounted.new.space).content)
    c.put_recounted.result (c.put_recounted.ensures.counts (c.entry.ensures.looked.reads.looks.same.tells ∙ tells) it.kind it.fits)
    (λ t. recounts_read c.args.volume.now c.entry.new.self (g.P.SectorView.space c.args.space.now) (g.P.SectorView.space c.entry.new.space) c.entry.ensures.looked.reads tells c.entry.ensures.rest c.args.id c.args.up c.put_recounted.new.volume (g.P.SectorView.space c.put_recounted.new.space).content
    (subst (λ id. RecountsFolder id c.args.up c.entry.new.self c.put_recounted.new.volume (g.P.SectorView.space c.entry.new.space).content (g.P.SectorView.space c.put_recounted.new.space).content) it.number t))

pub returns-in-Some-clause-edits : goal.returns-in-Some-clause-edits
returns-in-Some-clause-edits g c =
    edits_spent (edits_both g.met.P.SectorView.follows_trans c.entry.ensures.looked.edits c.put_recounted.ensures.edits) (λ tells. omega (arith, c.entry.ensures.looked.reads.looks.spare, c.put_recounted.ensures.edits.ran.spent (c.entry.ensures.looked.reads.looks.same.tells ∙ tells), node_still c.args.volume.now c.entry.new.self (g.P.SectorView.space c.args.space.now) (g.P.SectorView.space c.entry.new.space) c.entry.ensures.looked.reads))

pub returns-in-None-clause-counts : goal.returns-in-None-clause-counts
returns-in-None-clause-counts g c tells =
    absurd (folder_not_none c.args.volume.now (g.P.SectorView.space c.args.space.now).content (c.requires.stands.stands tells).trees (c.requires.threads tells) c.args.id c.args.up (c.requires.there tells) (sym c.in-None.is ∙ c.in_ok-entry.ensures.found tells))

pub returns-in-Some-clause-left : goal.returns-in-Some-clause-left
returns-in-Some-clause-left g c edits beside had =
    c.put_recounted.ensures.left edits beside
    (left_as c.entry.new.self (g.P.SectorView.space c.entry.new.space) edits _ _ (λ tells. ap (λ n. n + beside) (sym (node_still c.args.volume.now c.entry.new.self (g.P.SectorView.space c.args.space.now) (g.P.SectorView.space c.entry.new.space) c.entry.ensures.looked.reads)))
    (left_still c.args.volume.now c.entry.new.self (g.P.SectorView.space c.args.space.now) (g.P.SectorView.space c.entry.new.space) edits _ (λ tells. node_large c.args.volume.now (g.P.SectorView.space c.args.space.now) c.requires.stands tells) c.entry.ensures.looked.reads had))

pub returns-in-None-clause-left : goal.returns-in-None-clause-left
returns-in-None-clause-left g c edits beside had =
    left_still c.args.volume.now c.entry.new.self (g.P.SectorView.space c.args.space.now) (g.P.SectorView.space c.entry.new.space) edits beside (λ tells. node_large c.args.volume.now (g.P.SectorView.space c.args.space.now) c.requires.stands tells) c.entry.ensures.looked.reads
    (left_less c.args.volume.now (g.P.SectorView.space c.args.space.now) edits beside (λ tells. node_large c.args.volume.now (g.P.SectorView.space c.args.space.now) c.requires.stands tells) had)
