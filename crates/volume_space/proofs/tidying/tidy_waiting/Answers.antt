use Rattle.std.proofs.Common.{◌≤◌, ℕ, length, arith, sym, ◌∙◌, ap, subst, inl}
use Rattle.std.specs.Prelude.{Option, IfSome}
use Rattle.sector_disk.specs.Lists.{Content}
use Rattle.alloc_bitmap.specs.Map.{BlockMap, free_of}
use Rattle.hfs_volume.specs.Content.{records_of, volume_of}
use Rattle.hfs_volume.specs.Links.{orphans_of}
use Rattle.hfs_volume.specs.Reclaim.{has_surplus_left, least}
use Rattle.volume_base.specs.Keeping.{shrunk_of}
use Rattle.volume_space.specs.Orphans.{IsToDrop}
use Rattle.volume_base.specs.Room.{capacity_of}
use Rattle.volume_base.specs.declared.entries.Entry.{Entry}
use Rattle.volume_space.proofs.StepSpent.{next_behind}
use Rattle.volume_space.proofs.Affording.{tidied_behind}
use Rattle.volume_base.proofs.Freed.{frees_behind, frees_edits, frees_err, frees_looked}
use Rattle.volume_space.proofs.tidying.tidy_waiting.Goals as goal

pub tidy_entry-requires-clause-name : goal.tidy_entry-requires-clause-name
tidy_entry-requires-clause-name g c = subst (λ (o : Option Entry). IfSome o (λ entry. length entry.name ≤ 255)) c.in-Some.is c.in_ok-entry.ensures.name

pub tidy_entry-requires-clause-waits : goal.tidy_entry-requires-clause-waits
tidy_entry-requires-clause-waits g c tells =
    let before = sym c.bare_waiting.ensures.looked.reads.looks.same.tells ∙ tells in
    let waits = subst (λ (o : Option Entry). IfSome o (IsToDrop (shrunk_of c.args.volume.now) (g.P.SectorView.space c.args.space.now).content)) c.in-Some.is (c.in_ok-entry.ensures.found before (shrunk_of c.args.volume.now) (c.requires.kept before)) in
    subst (λ (k : Option ℕ × Content). IsToDrop k.0 k.1 c.in-Some.entry) {x = (shrunk_of c.args.volume.now, (g.P.SectorView.space c.args.space.now).content)} {y = (shrunk_of c.bare_waiting.new.volume, (g.P.SectorView.space c.bare_waiting.new.space).content)}
    (λ i. (sym c.bare_waiting.ensures.looked.reads.keeps.shrunk i, sym (c.bare_waiting.ensures.looked.reads.looks.content before) i)) waits

pub returns-in-Some-clause-tidied : goal.returns-in-Some-clause-tidied
returns-in-Some-clause-tidied g c tells =
    tidied_behind (g.P.SectorView.space c.args.space.now).content (g.P.SectorView.space c.bare_waiting.new.space).content (g.P.SectorView.space c.tidy_entry.new.space).content (c.bare_waiting.ensures.looked.reads.looks.content tells) (capacity_of c.args.volume.now) (capacity_of c.bare_waiting.new.volume) c.bare_waiting.ensures.looked.reads.keeps.capacity (shrunk_of c.args.volume.now) (shrunk_of c.bare_waiting.new.volume) c.bare_waiting.ensures.looked.reads.keeps.shrunk (free_of c.args.volume.now.map) (free_of c.bare_waiting.new.volume.map) (ap (λ (m : BlockMap). free_of m) c.bare_waiting.ensures.looked.reads.keeps.map) (g.P.SectorView.space c.args.space.now).spare (g.P.SectorView.space c.bare_waiting.new.space).spare c.bare_waiting.ensures.looked.reads.looks.spare c.tidy_entry.result
    (c.tidy_entry.ensures.tidied (c.bare_waiting.ensures.looked.reads.looks.same.tells ∙ tells))

pub returns-in-None-clause-tidied : goal.returns-in-None-clause-tidied
returns-in-None-clause-tidied g c tells =
    tidied_behind (g.P.SectorView.space c.args.space.now).content (g.P.SectorView.space c.bare_waiting.new.space).content (g.P.SectorView.space c.tidy_owner.new.space).content (c.bare_waiting.ensures.looked.reads.looks.content tells) (capacity_of c.args.volume.now) (capacity_of c.bare_waiting.new.volume) c.bare_waiting.ensures.looked.reads.keeps.capacity (shrunk_of c.args.volume.now) (shrunk_of c.bare_waiting.new.volume) c.bare_waiting.ensures.looked.reads.keeps.shrunk (free_of c.args.volume.now.map) (free_of c.bare_waiting.new.volume.map) (ap (λ (m : BlockMap). free_of m) c.bare_waiting.ensures.looked.reads.keeps.map) (g.P.SectorView.space c.args.space.now).spare (g.P.SectorView.space c.bare_waiting.new.space).spare c.bare_waiting.ensures.looked.reads.looks.spare c.tidy_owner.result
    (c.tidy_owner.ensures.tidied (c.bare_waiting.ensures.looked.reads.looks.same.tells ∙ tells))

pub tidy_owner-requires-clause-lowest : goal.tidy_owner-requires-clause-lowest
tidy_owner-requires-clause-lowest g c tells =
    let before = sym c.bare_waiting.ensures.looked.reads.looks.same.tells ∙ tells in
    ap (λ (k : Content). least (orphans_of (records_of (volume_of k)))) (c.bare_waiting.ensures.looked.reads.looks.content before) ∙ c.requires.lowest before

pub tidy_owner-requires-clause-kept : goal.tidy_owner-requires-clause-kept
tidy_owner-requires-clause-kept g c tells =
    let before = sym c.bare_waiting.ensures.looked.reads.looks.same.tells ∙ tells in
    (λ i. has_surplus_left (volume_of (c.bare_waiting.ensures.looked.reads.looks.content before i)) (c.bare_waiting.ensures.looked.reads.keeps.shrunk i)) ∙ c.requires.kept before

-- ---- what it puts

pub returns-in-Some-clause-spent : goal.returns-in-Some-clause-spent
returns-in-Some-clause-spent g c tells =
    next_behind (g.P.SectorView.space c.args.space.now).content (g.P.SectorView.space c.bare_waiting.new.space).content (c.bare_waiting.ensures.looked.reads.looks.content tells) (capacity_of c.args.volume.now) (capacity_of c.bare_waiting.new.volume) c.bare_waiting.ensures.looked.reads.keeps.capacity (shrunk_of c.args.volume.now) (shrunk_of c.bare_waiting.new.volume) c.bare_waiting.ensures.looked.reads.keeps.shrunk (g.P.SectorView.space c.args.space.now).spare (g.P.SectorView.space c.bare_waiting.new.space).spare c.bare_waiting.ensures.looked.reads.looks.spare (g.P.SectorView.space c.tidy_entry.new.space).spare
    (c.tidy_entry.ensures.spent (c.bare_waiting.ensures.looked.reads.looks.same.tells ∙ tells))

pub returns-in-None-clause-spent : goal.returns-in-None-clause-spent
returns-in-None-clause-spent g c tells =
    next_behind (g.P.SectorView.space c.args.space.now).content (g.P.SectorView.space c.bare_waiting.new.space).content (c.bare_waiting.ensures.looked.reads.looks.content tells) (capacity_of c.args.volume.now) (capacity_of c.bare_waiting.new.volume) c.bare_waiting.ensures.looked.reads.keeps.capacity (shrunk_of c.args.volume.now) (shrunk_of c.bare_waiting.new.volume) c.bare_waiting.ensures.looked.reads.keeps.shrunk (g.P.SectorView.space c.args.space.now).spare (g.P.SectorView.space c.bare_waiting.new.space).spare c.bare_waiting.ensures.looked.reads.looks.spare (g.P.SectorView.space c.tidy_owner.new.space).spare
    (c.tidy_owner.ensures.spent (c.bare_waiting.ensures.looked.reads.looks.same.tells ∙ tells))

pub returns-in_err-entry-clause-spent : goal.returns-in_err-entry-clause-spent
returns-in_err-entry-clause-spent g c tells = inl (omega (arith, c.bare_waiting.ensures.looked.reads.looks.spare))

pub returns-in-Some-clause-frees : goal.returns-in-Some-clause-frees
returns-in-Some-clause-frees g c = frees_behind g.met.P.SectorView.follows_trans c.bare_waiting.ensures.looked (frees_edits c.tidy_entry.ensures.edits)

pub returns-in-None-clause-frees : goal.returns-in-None-clause-frees
returns-in-None-clause-frees g c = frees_behind g.met.P.SectorView.follows_trans c.bare_waiting.ensures.looked c.tidy_owner.ensures.frees

pub returns-in_err-entry-clause-frees : goal.returns-in_err-entry-clause-frees
returns-in_err-entry-clause-frees g c = frees_err c.from_residual.ensures.1 (frees_looked c.in_err-entry.ensures.looked)
