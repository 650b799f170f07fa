use Rattle.std.proofs.Common.{◌≡◌, ◌≤◌, ℕ, false, length, inl, arith, sym, ◌∙◌, ap, subst, refl}
use Rattle.std.specs.Prelude.{Option, IfSome}
use Rattle.sector_disk.specs.Lists.{Content}
use Rattle.alloc_bitmap.specs.Map.{BlockMap, free_of}
use Rattle.cat_records.specs.Fits.{FitsRecord}
use Rattle.catalog.specs.Pairs.{value_at}
use Rattle.hfs_volume.specs.Content.{VolumeState}
use Rattle.hfs_volume.specs.Records.{id_in, is_thread}
use Rattle.volume_space.specs.Cutting.{IsNextCut, blocks_left}
use Rattle.volume_base.specs.Cutting.{kind_of}
use Rattle.volume_base.specs.Keeping.{shrunk_of}
use Rattle.volume_base.specs.Lists.{lists_of}
use Rattle.volume_base.specs.Room.{capacity_of}
use Rattle.volume_base.specs.declared.entries.Entry.{Entry}
use Rattle.volume_space.proofs.StepSpent.{next_behind}
use Rattle.volume_space.proofs.Affording.{tidied_behind}
use Rattle.volume_base.proofs.FoundEntry.{settled_spelled}
use Rattle.volume_space.proofs.NextCut.{left_next, there_by}
use Rattle.volume_base.proofs.Still.{lists_still}
use Rattle.volume_base.proofs.Freed.{frees_behind, frees_err, frees_looked, frees_short}
use Rattle.volume_base.proofs.Framed.{serves_still}
use Rattle.volume_space.proofs.trimming.tidy_blocks.Goals as goal

pub entry-requires-clause-spelled : goal.entry-requires-clause-spelled
entry-requires-clause-spelled g c tells = settled_spelled c.args.volume.now (g.P.SectorView.space c.args.space.now).content (c.requires.serves.settled tells)

pub tidy_left-requires-clause-name : goal.tidy_left-requires-clause-name
tidy_left-requires-clause-name g c = subst (λ (o : Option Entry). IfSome o (λ entry. length entry.name ≤ 255)) c.in-Some.is c.in_ok-entry.ensures.name

pub tidy_left-requires-clause-there : goal.tidy_left-requires-clause-there
tidy_left-requires-clause-there g c tells =
    let before = sym c.entry.ensures.looked.reads.looks.same.tells ∙ tells in
    ap (λ (l : VolumeState). value_at l.catalog_pairs c.in-Some.entry.parent c.in-Some.entry.name) (lists_still c.args.volume.now c.entry.new.self (g.P.SectorView.space c.args.space.now) (g.P.SectorView.space c.entry.new.space) c.entry.ensures.looked.reads before)
    ∙ there_by (lists_of c.args.volume.now (g.P.SectorView.space c.args.space.now).content).catalog_pairs c.args.id c.in-Some.entry (sym c.in-Some.is ∙ c.in_ok-entry.ensures.found before)

pub tidy_left-requires-clause-fits : goal.tidy_left-requires-clause-fits
tidy_left-requires-clause-fits g c = subst (λ (o : Option Entry). IfSome o (λ entry. is_thread entry.rec ≡ false → FitsRecord entry.rec)) c.in-Some.is c.in_ok-entry.ensures.fits

pub tidy_left-requires-clause-next : goal.tidy_left-requires-clause-next
tidy_left-requires-clause-next g c tells =
    let before = sym c.entry.ensures.looked.reads.looks.same.tells ∙ tells in
    subst (λ (k : Option ℕ × Content). IfSome (blocks_left c.in-Some.entry.rec) (λ surplus. IsNextCut k.0 k.1 (id_in c.in-Some.entry.rec) (kind_of surplus.kind) surplus.keep))
    {x = (shrunk_of c.args.volume.now, (g.P.SectorView.space c.args.space.now).content)} {y = (shrunk_of c.entry.new.self, (g.P.SectorView.space c.entry.new.space).content)} (λ i. (sym c.entry.ensures.looked.reads.keeps.shrunk i, sym (c.entry.ensures.looked.reads.looks.content before) i))
    (left_next c.args.volume.now (g.P.SectorView.space c.args.space.now).content (c.requires.serves.settled before) (c.requires.serves.stands.stands before).trees c.args.id (c.requires.lowest before) (shrunk_of c.args.volume.now) (c.requires.kept before) c.in-Some.entry c.in-Some.entry.rec refl (sym c.in-Some.is ∙ c.in_ok-entry.ensures.found before))

pub returns-in-Some-clause-tidied : goal.returns-in-Some-clause-tidied
returns-in-Some-clause-tidied g c tells =
    tidied_behind (g.P.SectorView.space c.args.space.now).content (g.P.SectorView.space c.entry.new.space).content (g.P.SectorView.space c.tidy_left.new.space).content (c.entry.ensures.looked.reads.looks.content tells) (capacity_of c.args.volume.now) (capacity_of c.entry.new.self) c.entry.ensures.looked.reads.keeps.capacity (shrunk_of c.args.volume.now) (shrunk_of c.entry.new.self) c.entry.ensures.looked.reads.keeps.shrunk (free_of c.args.volume.now.map) (free_of c.entry.new.self.map) (ap (λ (m : BlockMap). free_of m) c.entry.ensures.looked.reads.keeps.map) (g.P.SectorView.space c.args.space.now).spare (g.P.SectorView.space c.entry.new.space).spare c.entry.ensures.looked.reads.looks.spare c.tidy_left.result
    (c.tidy_left.ensures.tidied (c.entry.ensures.looked.reads.looks.same.tells ∙ tells))

-- ---- what it puts

pub returns-in-Some-clause-spent : goal.returns-in-Some-clause-spent
returns-in-Some-clause-spent g c tells =
    next_behind (g.P.SectorView.space c.args.space.now).content (g.P.SectorView.space c.entry.new.space).content (c.entry.ensures.looked.reads.looks.content tells) (capacity_of c.args.volume.now) (capacity_of c.entry.new.self) c.entry.ensures.looked.reads.keeps.capacity (shrunk_of c.args.volume.now) (shrunk_of c.entry.new.self) c.entry.ensures.looked.reads.keeps.shrunk (g.P.SectorView.space c.args.space.now).spare (g.P.SectorView.space c.entry.new.space).spare c.entry.ensures.looked.reads.looks.spare (g.P.SectorView.space c.tidy_left.new.space).spare
    (c.tidy_left.ensures.spent (c.entry.ensures.looked.reads.looks.same.tells ∙ tells))

pub returns-in-None-clause-spent : goal.returns-in-None-clause-spent
returns-in-None-clause-spent g c tells = inl (omega (arith, c.entry.ensures.looked.reads.looks.spare))

pub returns-in_err-entry-clause-spent : goal.returns-in_err-entry-clause-spent
returns-in_err-entry-clause-spent g c tells = inl (omega (arith, c.entry.ensures.looked.reads.looks.spare))

pub tidy_left-requires-clause-serves : goal.tidy_left-requires-clause-serves
tidy_left-requires-clause-serves g c = serves_still c.entry.ensures.looked c.requires.serves

pub returns-in-Some-clause-frees : goal.returns-in-Some-clause-frees
returns-in-Some-clause-frees g c = frees_behind g.met.P.SectorView.follows_trans c.entry.ensures.looked c.tidy_left.ensures.frees

pub returns-in-None-clause-frees : goal.returns-in-None-clause-frees
returns-in-None-clause-frees g c = frees_short c.entry.ensures.looked

pub returns-in_err-entry-clause-frees : goal.returns-in_err-entry-clause-frees
returns-in_err-entry-clause-frees g c = frees_err c.from_residual.ensures.1 (frees_looked c.in_err-entry.ensures.looked)
