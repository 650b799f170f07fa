use Rattle.std.proofs.Common.{◌≡◌, ◌≤◌, false, length, inl, arith, sym, ◌∙◌, ap, subst}
use Rattle.std.specs.Prelude.{Option, IfSome}
use Rattle.alloc_bitmap.specs.Map.{BlockMap, free_of}
use Rattle.cat_records.specs.Fits.{FitsRecord}
use Rattle.catalog.specs.Pairs.{value_at}
use Rattle.hfs_volume.specs.Content.{VolumeState, volume_of}
use Rattle.hfs_volume.specs.Records.{is_thread}
use Rattle.hfs_volume.specs.Reclaim.{has_surplus_left}
use Rattle.volume_base.specs.Keeping.{shrunk_of}
use Rattle.volume_base.specs.Lists.{lists_of}
use Rattle.volume_base.specs.Room.{capacity_of}
use Rattle.volume_base.specs.declared.entries.Entry.{Entry}
use Rattle.volume_space.proofs.StepSpent.{next_behind}
use Rattle.volume_space.proofs.Affording.{tidied_behind}
use Rattle.volume_base.proofs.FoundEntry.{settled_spelled}
use Rattle.volume_space.proofs.NextCut.{none_rests, there_by}
use Rattle.volume_base.proofs.Still.{lists_still}
use Rattle.volume_base.proofs.Freed.{frees_behind, frees_err, frees_looked}
use Rattle.volume_base.proofs.Framed.{serves_still}
use Rattle.volume_space.proofs.trimming.tidy_surplus.Goals as goal

pub entry-requires-clause-spelled : goal.entry-requires-clause-spelled
entry-requires-clause-spelled g c tells = settled_spelled c.args.volume.now (g.P.SectorView.space c.args.space.now).content (c.requires.serves.settled tells)

pub tidy_shrunk-requires-clause-name : goal.tidy_shrunk-requires-clause-name
tidy_shrunk-requires-clause-name g c = subst (λ (o : Option Entry). IfSome o (λ entry. length entry.name ≤ 255)) c.in-Some.is c.in_ok-entry.ensures.name

pub tidy_shrunk-requires-clause-there : goal.tidy_shrunk-requires-clause-there
tidy_shrunk-requires-clause-there g c tells =
    let before = sym c.entry.ensures.looked.reads.looks.same.tells ∙ tells in
    ap (λ (l : VolumeState). value_at l.catalog_pairs c.in-Some.entry.parent c.in-Some.entry.name) (lists_still c.args.volume.now c.entry.new.self (g.P.SectorView.space c.args.space.now) (g.P.SectorView.space c.entry.new.space) c.entry.ensures.looked.reads before)
    ∙ there_by (lists_of c.args.volume.now (g.P.SectorView.space c.args.space.now).content).catalog_pairs c.args.id c.in-Some.entry (sym c.in-Some.is ∙ c.in_ok-entry.ensures.found before)

pub tidy_shrunk-requires-clause-fits : goal.tidy_shrunk-requires-clause-fits
tidy_shrunk-requires-clause-fits g c = subst (λ (o : Option Entry). IfSome o (λ entry. is_thread entry.rec ≡ false → FitsRecord entry.rec)) c.in-Some.is c.in_ok-entry.ensures.fits

pub tidy_shrunk-requires-clause-shrunk : goal.tidy_shrunk-requires-clause-shrunk
tidy_shrunk-requires-clause-shrunk g c = c.entry.ensures.looked.reads.keeps.shrunk ∙ c.requires.shrunk

pub returns-in-Some-clause-tidied : goal.returns-in-Some-clause-tidied
returns-in-Some-clause-tidied g c tells =
    tidied_behind (g.P.SectorView.space c.args.space.now).content (g.P.SectorView.space c.entry.new.space).content (g.P.SectorView.space c.tidy_shrunk.new.space).content (c.entry.ensures.looked.reads.looks.content tells) (capacity_of c.args.volume.now) (capacity_of c.entry.new.self) c.entry.ensures.looked.reads.keeps.capacity (shrunk_of c.args.volume.now) (shrunk_of c.entry.new.self) c.entry.ensures.looked.reads.keeps.shrunk (free_of c.args.volume.now.map) (free_of c.entry.new.self.map) (ap (λ (m : BlockMap). free_of m) c.entry.ensures.looked.reads.keeps.map) (g.P.SectorView.space c.args.space.now).spare (g.P.SectorView.space c.entry.new.space).spare c.entry.ensures.looked.reads.looks.spare c.tidy_shrunk.result
    (c.tidy_shrunk.ensures.tidied (c.entry.ensures.looked.reads.looks.same.tells ∙ tells))

pub tidy_unshrunk-requires-clause-kept : goal.tidy_unshrunk-requires-clause-kept
tidy_unshrunk-requires-clause-kept g c tells =
    let before = sym c.entry.ensures.looked.reads.looks.same.tells ∙ tells in
    (λ i. has_surplus_left (volume_of (c.entry.ensures.looked.reads.looks.content before i)) (c.entry.ensures.looked.reads.keeps.shrunk i))
    ∙ none_rests c.args.volume.now (g.P.SectorView.space c.args.space.now).content (c.requires.serves.settled before) (c.requires.serves.stands.stands before).trees c.args.id (shrunk_of c.args.volume.now) c.requires.shrunk (sym c.in-None.is ∙ c.in_ok-entry.ensures.found before)

pub returns-in-None-clause-tidied : goal.returns-in-None-clause-tidied
returns-in-None-clause-tidied g c tells =
    tidied_behind (g.P.SectorView.space c.args.space.now).content (g.P.SectorView.space c.entry.new.space).content (g.P.SectorView.space c.tidy_unshrunk.new.space).content (c.entry.ensures.looked.reads.looks.content tells) (capacity_of c.args.volume.now) (capacity_of c.entry.new.self) c.entry.ensures.looked.reads.keeps.capacity (shrunk_of c.args.volume.now) (shrunk_of c.entry.new.self) c.entry.ensures.looked.reads.keeps.shrunk (free_of c.args.volume.now.map) (free_of c.entry.new.self.map) (ap (λ (m : BlockMap). free_of m) c.entry.ensures.looked.reads.keeps.map) (g.P.SectorView.space c.args.space.now).spare (g.P.SectorView.space c.entry.new.space).spare c.entry.ensures.looked.reads.looks.spare c.tidy_unshrunk.result
    (c.tidy_unshrunk.ensures.tidied (c.entry.ensures.looked.reads.looks.same.tells ∙ tells))

-- ---- what it puts

pub returns-in-Some-clause-spent : goal.returns-in-Some-clause-spent
returns-in-Some-clause-spent g c tells =
    next_behind (g.P.SectorView.space c.args.space.now).content (g.P.SectorView.space c.entry.new.space).content (c.entry.ensures.looked.reads.looks.content tells) (capacity_of c.args.volume.now) (capacity_of c.entry.new.self) c.entry.ensures.looked.reads.keeps.capacity (shrunk_of c.args.volume.now) (shrunk_of c.entry.new.self) c.entry.ensures.looked.reads.keeps.shrunk (g.P.SectorView.space c.args.space.now).spare (g.P.SectorView.space c.entry.new.space).spare c.entry.ensures.looked.reads.looks.spare (g.P.SectorView.space c.tidy_shrunk.new.space).spare
    (c.tidy_shrunk.ensures.spent (c.entry.ensures.looked.reads.looks.same.tells ∙ tells))

pub returns-in-None-clause-spent : goal.returns-in-None-clause-spent
returns-in-None-clause-spent g c tells =
    next_behind (g.P.SectorView.space c.args.space.now).content (g.P.SectorView.space c.entry.new.space).content (c.entry.ensures.looked.reads.looks.content tells) (capacity_of c.args.volume.now) (capacity_of c.entry.new.self) c.entry.ensures.looked.reads.keeps.capacity (shrunk_of c.args.volume.now) (shrunk_of c.entry.new.self) c.entry.ensures.looked.reads.keeps.shrunk (g.P.SectorView.space c.args.space.now).spare (g.P.SectorView.space c.entry.new.space).spare c.entry.ensures.looked.reads.looks.spare (g.P.SectorView.space c.tidy_unshrunk.new.space).spare
    (c.tidy_unshrunk.ensures.spent (c.entry.ensures.looked.reads.looks.same.tells ∙ tells))

pub returns-in_err-entry-clause-spent : goal.returns-in_err-entry-clause-spent
returns-in_err-entry-clause-spent g c tells = inl (omega (arith, c.entry.ensures.looked.reads.looks.spare))

pub tidy_shrunk-requires-clause-serves : goal.tidy_shrunk-requires-clause-serves
tidy_shrunk-requires-clause-serves g c = serves_still c.entry.ensures.looked c.requires.serves

pub tidy_unshrunk-requires-clause-serves : goal.tidy_unshrunk-requires-clause-serves
tidy_unshrunk-requires-clause-serves g c = serves_still c.entry.ensures.looked c.requires.serves

pub returns-in-Some-clause-frees : goal.returns-in-Some-clause-frees
returns-in-Some-clause-frees g c = frees_behind g.met.P.SectorView.follows_trans c.entry.ensures.looked c.tidy_shrunk.ensures.frees

pub returns-in-None-clause-frees : goal.returns-in-None-clause-frees
returns-in-None-clause-frees g c = frees_behind g.met.P.SectorView.follows_trans c.entry.ensures.looked c.tidy_unshrunk.ensures.frees

pub returns-in_err-entry-clause-frees : goal.returns-in_err-entry-clause-frees
returns-in_err-entry-clause-frees g c = frees_err c.from_residual.ensures.1 (frees_looked c.in_err-entry.ensures.looked)
