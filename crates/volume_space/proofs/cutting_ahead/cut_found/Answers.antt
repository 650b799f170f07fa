use Rattle.std.proofs.Common.{◌≡◌, ◌≤◌, false, length, refl, sym, ◌∙◌, ap, subst, arith}
use Rattle.std.specs.Prelude.{IfSome, Option}
use Rattle.cat_records.specs.Fits.{FitsRecord}
use Rattle.catalog.specs.Pairs.{value_at}
use Rattle.hfs_volume.specs.Content.{VolumeState}
use Rattle.hfs_volume.specs.Records.{is_thread}
use Rattle.volume_base.specs.Cutting.{fork_at, kind_of}
use Rattle.volume_base.specs.Lists.{lists_of}
use Rattle.volume_base.specs.Room.{capacity_of}
use Rattle.volume_base.specs.declared.entries.Entry.{Entry}
use Rattle.volume_base.proofs.FoundEntry.{entry_there, settled_spelled}
use Rattle.volume_space.proofs.StepSpent.{cut_behind}
use Rattle.volume_space.proofs.CutShort.{short_behind}
use Rattle.volume_space.proofs.NextCut.{there_by}
use Rattle.volume_space.proofs.PastSizes.{cuts_node, node_behind}
use Rattle.volume_base.proofs.ForkKinds.{kind_is}
use Rattle.volume_space.proofs.PutFile.{entry_is, its, long_is, number_is}
use Rattle.volume_base.proofs.Still.{lists_still}
use Rattle.volume_base.proofs.Freed.{frees_behind, frees_err, frees_looked, frees_short}
use Rattle.volume_base.proofs.Framed.{serves_still}
use Rattle.volume_space.proofs.cutting_ahead.cut_found.Goals as goal

pub entry-requires-clause-spelled : goal.entry-requires-clause-spelled
entry-requires-clause-spelled g c tells = settled_spelled c.args.volume.now (g.P.SectorView.space c.args.space.now).content (c.requires.serves.settled tells)

pub cut_entry-requires-clause-name : goal.cut_entry-requires-clause-name
cut_entry-requires-clause-name g c = subst (λ (o : Option Entry). IfSome o (λ entry. length entry.name ≤ 255)) c.in-Some.is c.in_ok-entry.ensures.name

pub cut_entry-requires-clause-there : goal.cut_entry-requires-clause-there
cut_entry-requires-clause-there g c tells =
    let before = sym c.entry.ensures.looked.reads.looks.same.tells ∙ tells in
    ap (λ (l : VolumeState). value_at l.catalog_pairs c.in-Some.entry.parent c.in-Some.entry.name) (lists_still c.args.volume.now c.entry.new.self (g.P.SectorView.space c.args.space.now) (g.P.SectorView.space c.entry.new.space) c.entry.ensures.looked.reads before)
    ∙ there_by (lists_of c.args.volume.now (g.P.SectorView.space c.args.space.now).content).catalog_pairs c.args.id c.in-Some.entry (sym c.in-Some.is ∙ c.in_ok-entry.ensures.found before)

pub cut_entry-requires-clause-fits : goal.cut_entry-requires-clause-fits
cut_entry-requires-clause-fits g c = subst (λ (o : Option Entry). IfSome o (λ entry. is_thread entry.rec ≡ false → FitsRecord entry.rec)) c.in-Some.is c.in_ok-entry.ensures.fits

pub returns-in-Some-clause-came : goal.returns-in-Some-clause-came
returns-in-Some-clause-came g c tells node has number kind =
    let a = g.P.SectorView.space c.args.space.now in
    let settled = c.requires.serves.settled tells in
    let stands = c.requires.serves.stands in
    let found = its (kind_of c.args.kind) (kind_is c.args.kind) c.args.volume.now a stands tells settled node has kind in
    let there = entry_there c.args.volume.now a.content (stands.stands tells).trees settled c.args.id node has number c.in-Some.entry (sym c.in-Some.is ∙ c.in_ok-entry.ensures.found tells) in
    let is = entry_is (kind_of c.args.kind) (kind_is c.args.kind) c.args.volume.now a stands tells settled node has kind c.args.id c.in-Some.entry number there in
    let after = (g.P.SectorView.space c.cut_entry.new.space).content in
    node_behind c.cut_entry.result (kind_of c.args.kind) c.args.end node (capacity_of c.entry.new.self) (capacity_of c.args.volume.now) (g.P.SectorView.space c.entry.new.space).content a.content after (c.entry.ensures.looked.reads.looks.content tells) c.entry.ensures.looked.reads.keeps.capacity
    (cuts_node c.cut_entry.result (capacity_of c.entry.new.self) (kind_of c.args.kind) found.file.fields.id (fork_at (kind_of c.args.kind) found.file).logical_size c.args.end node (g.P.SectorView.space c.entry.new.space).content after
    (number_is (kind_of c.args.kind) (kind_is c.args.kind) c.args.volume.now a stands tells settled node has kind found.file refl)
    (sym (long_is (kind_of c.args.kind) (kind_is c.args.kind) c.args.volume.now a stands tells settled node has kind found.file refl))
    (c.cut_entry.ensures.came (c.entry.ensures.looked.reads.looks.same.tells ∙ tells) found.file is))

pub returns-in-Some-clause-short : goal.returns-in-Some-clause-short
returns-in-Some-clause-short g c tells =
    short_behind c.cut_entry.result (capacity_of c.entry.new.self) (capacity_of c.args.volume.now) (g.P.SectorView.space c.entry.new.space).spare (g.P.SectorView.space c.args.space.now).spare (g.P.SectorView.space c.entry.new.space).content (g.P.SectorView.space c.args.space.now).content
    (c.entry.ensures.looked.reads.looks.content tells) c.entry.ensures.looked.reads.keeps.capacity c.entry.ensures.looked.reads.looks.spare (c.cut_entry.ensures.short (c.entry.ensures.looked.reads.looks.same.tells ∙ tells))

-- ---- what it puts

pub returns-in-Some-clause-spent : goal.returns-in-Some-clause-spent
returns-in-Some-clause-spent g c tells =
    cut_behind (g.P.SectorView.space c.args.space.now).content (g.P.SectorView.space c.entry.new.space).content (c.entry.ensures.looked.reads.looks.content tells) (capacity_of c.args.volume.now) (capacity_of c.entry.new.self) c.entry.ensures.looked.reads.keeps.capacity (g.P.SectorView.space c.args.space.now).spare (g.P.SectorView.space c.entry.new.space).spare c.entry.ensures.looked.reads.looks.spare
    (g.P.SectorView.space c.cut_entry.new.space).spare (c.cut_entry.ensures.spent (c.entry.ensures.looked.reads.looks.same.tells ∙ tells))

pub returns-in-None-clause-spent : goal.returns-in-None-clause-spent
returns-in-None-clause-spent g c tells = omega (arith, c.entry.ensures.looked.reads.looks.spare)

pub returns-in_err-entry-clause-spent : goal.returns-in_err-entry-clause-spent
returns-in_err-entry-clause-spent g c tells = omega (arith, c.entry.ensures.looked.reads.looks.spare)

pub cut_entry-requires-clause-serves : goal.cut_entry-requires-clause-serves
cut_entry-requires-clause-serves g c = serves_still c.entry.ensures.looked c.requires.serves

pub returns-in-Some-clause-frees : goal.returns-in-Some-clause-frees
returns-in-Some-clause-frees g c = frees_behind g.met.P.SectorView.follows_trans c.entry.ensures.looked c.cut_entry.ensures.frees

pub returns-in-None-clause-frees : goal.returns-in-None-clause-frees
returns-in-None-clause-frees g c = frees_short c.entry.ensures.looked

pub returns-in_err-entry-clause-frees : goal.returns-in_err-entry-clause-frees
returns-in_err-entry-clause-frees g c = frees_err c.from_residual.ensures.1 (frees_looked c.in_err-entry.ensures.looked)
