use Rattle.std.proofs.Common.{◌≡◌, ◌≤◌, false, length, sym, ◌∙◌, subst, arith}
use Rattle.std.specs.Prelude.{Option, IfSome}
use Rattle.cat_records.specs.Fits.{FitsRecord}
use Rattle.hfs_volume.specs.Records.{id_in, is_thread}
use Rattle.volume_names.specs.Linking.{CountsUp}
use Rattle.volume_base.specs.declared.entries.Entry.{Entry}
use Rattle.volume_base.proofs.FoundEntry.{ok_so, node_still}
use Rattle.volume_names.proofs.Unlinked.{counts_up_read, shared_not_none, shared_there}
use Rattle.volume_base.proofs.Framed.{edits_spent, found_ready}
use Rattle.volume_base.proofs.Joined.{edits_both}
use Rattle.volume_names.proofs.linking.count_up.Goals as goal

pub entry-requires-clause-spelled : goal.entry-requires-clause-spelled
entry-requires-clause-spelled g c tells = (c.requires.threads tells).spelled

pub put_link_more-requires-clause-ready : goal.put_link_more-requires-clause-ready
put_link_more-requires-clause-ready g c =
    found_ready c.entry.ensures.looked (λ tells. (c.requires.threads tells).spelled)
    (subst (λ (o : Option Entry). IfSome o (λ entry. length entry.name ≤ 255)) c.in-Some.is c.in_ok-entry.ensures.name)
    (λ tells. let it = shared_there c.args.volume.now (g.P.SectorView.space c.args.space.now).content (c.requires.stands.stands tells).trees (c.requires.threads tells) c.args.id (c.requires.there tells) c.in-Some.entry (sym c.in-Some.is ∙ c.in_ok-entry.ensures.found tells) in it.value) c.requires.room

pub put_link_more-requires-clause-fits : goal.put_link_more-requires-clause-fits
put_link_more-requires-clause-fits g c = subst (λ (o : Option Entry). IfSome o (λ entry. is_thread entry.rec ≡ false → FitsRecord entry.rec)) c.in-Some.is c.in_ok-entry.ensures.fits

pub returns-in-Some-clause-counts : goal.returns-in-Some-clause-counts
returns-in-Some-clause-counts g c tells =
    let it = shared_there c.args.volume.now (g.P.SectorView.space c.args.space.now).content (c.requires.stands.stands tells).trees (c.requires.threads tells) c.args.id (c.requires.there tells) c.in-Some.entry (sym c.in-Some.is ∙ c.in_ok-entry.ensures.found tells) in
    ok_so (CountsUp (id_in c.in-Some.entry.rec) c.entry.new.self c.put_link_more.new.volume (g.P.SectorView.space c.entry.new.space).content (g.P.SectorView.space c.put_link_more.new.space).content)
    (CountsUp c.args.id c.args.volume.now c.put_link_more.new.volume (g.P.SectorView.space c.args.space.now).content (g.P.SectorView.space c.put_link_more.new.space).content)
    c.put_link_more.result (c.put_link_more.ensures.counts (c.entry.ensures.looked.reads.looks.same.tells ∙ tells) it.file it.plain)
    (λ t. counts_up_read c.args.volume.now c.entry.new.self (g.P.SectorView.space c.args.space.now) (g.P.SectorView.space c.entry.new.space) c.entry.ensures.looked.reads tells c.entry.ensures.rest c.args.id c.put_link_more.new.volume (g.P.SectorView.space c.put_link_more.new.space).content
    (subst (λ id. CountsUp id c.entry.new.self c.put_link_more.new.volume (g.P.SectorView.space c.entry.new.space).content (g.P.SectorView.space c.put_link_more.new.space).content) it.number t))

pub returns-in-Some-clause-edits : goal.returns-in-Some-clause-edits
returns-in-Some-clause-edits g c =
    edits_spent (edits_both g.met.P.SectorView.follows_trans c.entry.ensures.looked.edits c.put_link_more.ensures.edits) (λ tells. omega (arith, c.entry.ensures.looked.reads.looks.spare, c.put_link_more.ensures.edits.ran.spent (c.entry.ensures.looked.reads.looks.same.tells ∙ tells), node_still c.args.volume.now c.entry.new.self (g.P.SectorView.space c.args.space.now) (g.P.SectorView.space c.entry.new.space) c.entry.ensures.looked.reads))

pub returns-in-None-clause-counts : goal.returns-in-None-clause-counts
returns-in-None-clause-counts g c tells =
    absurd (shared_not_none c.args.volume.now (g.P.SectorView.space c.args.space.now).content (c.requires.stands.stands tells).trees (c.requires.threads tells) c.args.id (c.requires.there tells) (sym c.in-None.is ∙ c.in_ok-entry.ensures.found tells))
