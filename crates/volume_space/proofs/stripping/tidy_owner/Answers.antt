use Rattle.std.proofs.Common.{◌≡◌, ℕ, List, arith, sym, ◌∙◌, ap, subst, inl}
use Rattle.std.specs.Prelude.{Option, IfSome, Some}
use Rattle.sector_disk.specs.Lists.{Content}
use Rattle.alloc_bitmap.specs.Map.{BlockMap, free_of}
use Rattle.hfs_volume.specs.Content.{records_of, volume_of}
use Rattle.hfs_volume.specs.Links.{orphans_of}
use Rattle.hfs_volume.specs.Reclaim.{DropAttribute, has_surplus_left, least, next_reclaim}
use Rattle.volume_base.specs.Keeping.{shrunk_of}
use Rattle.volume_base.specs.Room.{capacity_of}
use Rattle.volume_space.proofs.StepSpent.{next_behind}
use Rattle.volume_space.proofs.Affording.{tidied_behind}
use Rattle.volume_base.proofs.Freed.{frees_behind, frees_err, frees_looked}
use Rattle.volume_space.proofs.stripping.tidy_owner.Goals as goal

pub tidy_attribute-requires-clause-waits : goal.tidy_attribute-requires-clause-waits
tidy_attribute-requires-clause-waits g c tells =
    let before = sym c.next_owned.ensures.looked.reads.looks.same.tells ∙ tells in
    let waits = subst (λ (o : Option (List ℕ)). IfSome o (λ name. next_reclaim (volume_of (g.P.SectorView.space c.args.space.now).content) (shrunk_of c.args.volume.now) ≡ Some (DropAttribute c.args.id name))) c.in-Some.is (c.in_ok-name.ensures.found before (shrunk_of c.args.volume.now) (c.requires.kept before)) in
    (λ i. next_reclaim (volume_of (c.next_owned.ensures.looked.reads.looks.content before i)) (c.next_owned.ensures.looked.reads.keeps.shrunk i)) ∙ waits

pub returns-in-Some-clause-tidied : goal.returns-in-Some-clause-tidied
returns-in-Some-clause-tidied g c tells =
    tidied_behind (g.P.SectorView.space c.args.space.now).content (g.P.SectorView.space c.next_owned.new.space).content (g.P.SectorView.space c.tidy_attribute.new.space).content (c.next_owned.ensures.looked.reads.looks.content tells) (capacity_of c.args.volume.now) (capacity_of c.next_owned.new.volume) c.next_owned.ensures.looked.reads.keeps.capacity (shrunk_of c.args.volume.now) (shrunk_of c.next_owned.new.volume) c.next_owned.ensures.looked.reads.keeps.shrunk (free_of c.args.volume.now.map) (free_of c.next_owned.new.volume.map) (ap (λ (m : BlockMap). free_of m) c.next_owned.ensures.looked.reads.keeps.map) (g.P.SectorView.space c.args.space.now).spare (g.P.SectorView.space c.next_owned.new.space).spare c.next_owned.ensures.looked.reads.looks.spare c.tidy_attribute.result
    (c.tidy_attribute.ensures.tidied (c.next_owned.ensures.looked.reads.looks.same.tells ∙ tells))

pub returns-in-None-clause-tidied : goal.returns-in-None-clause-tidied
returns-in-None-clause-tidied g c tells =
    tidied_behind (g.P.SectorView.space c.args.space.now).content (g.P.SectorView.space c.next_owned.new.space).content (g.P.SectorView.space c.tidy_blocks.new.space).content (c.next_owned.ensures.looked.reads.looks.content tells) (capacity_of c.args.volume.now) (capacity_of c.next_owned.new.volume) c.next_owned.ensures.looked.reads.keeps.capacity (shrunk_of c.args.volume.now) (shrunk_of c.next_owned.new.volume) c.next_owned.ensures.looked.reads.keeps.shrunk (free_of c.args.volume.now.map) (free_of c.next_owned.new.volume.map) (ap (λ (m : BlockMap). free_of m) c.next_owned.ensures.looked.reads.keeps.map) (g.P.SectorView.space c.args.space.now).spare (g.P.SectorView.space c.next_owned.new.space).spare c.next_owned.ensures.looked.reads.looks.spare c.tidy_blocks.result
    (c.tidy_blocks.ensures.tidied (c.next_owned.ensures.looked.reads.looks.same.tells ∙ tells))

pub tidy_blocks-requires-clause-lowest : goal.tidy_blocks-requires-clause-lowest
tidy_blocks-requires-clause-lowest g c tells =
    let before = sym c.next_owned.ensures.looked.reads.looks.same.tells ∙ tells in
    ap (λ (k : Content). least (orphans_of (records_of (volume_of k)))) (c.next_owned.ensures.looked.reads.looks.content before) ∙ c.requires.lowest before

pub tidy_blocks-requires-clause-kept : goal.tidy_blocks-requires-clause-kept
tidy_blocks-requires-clause-kept g c tells =
    let before = sym c.next_owned.ensures.looked.reads.looks.same.tells ∙ tells in
    (λ i. has_surplus_left (volume_of (c.next_owned.ensures.looked.reads.looks.content before i)) (c.next_owned.ensures.looked.reads.keeps.shrunk i)) ∙ c.requires.kept before

-- ---- what it puts

pub returns-in-Some-clause-spent : goal.returns-in-Some-clause-spent
returns-in-Some-clause-spent g c tells =
    next_behind (g.P.SectorView.space c.args.space.now).content (g.P.SectorView.space c.next_owned.new.space).content (c.next_owned.ensures.looked.reads.looks.content tells) (capacity_of c.args.volume.now) (capacity_of c.next_owned.new.volume) c.next_owned.ensures.looked.reads.keeps.capacity (shrunk_of c.args.volume.now) (shrunk_of c.next_owned.new.volume) c.next_owned.ensures.looked.reads.keeps.shrunk (g.P.SectorView.space c.args.space.now).spare (g.P.SectorView.space c.next_owned.new.space).spare c.next_owned.ensures.looked.reads.looks.spare (g.P.SectorView.space c.tidy_attribute.new.space).spare
    (c.tidy_attribute.ensures.spent (c.next_owned.ensures.looked.reads.looks.same.tells ∙ tells))

pub returns-in-None-clause-spent : goal.returns-in-None-clause-spent
returns-in-None-clause-spent g c tells =
    next_behind (g.P.SectorView.space c.args.space.now).content (g.P.SectorView.space c.next_owned.new.space).content (c.next_owned.ensures.looked.reads.looks.content tells) (capacity_of c.args.volume.now) (capacity_of c.next_owned.new.volume) c.next_owned.ensures.looked.reads.keeps.capacity (shrunk_of c.args.volume.now) (shrunk_of c.next_owned.new.volume) c.next_owned.ensures.looked.reads.keeps.shrunk (g.P.SectorView.space c.args.space.now).spare (g.P.SectorView.space c.next_owned.new.space).spare c.next_owned.ensures.looked.reads.looks.spare (g.P.SectorView.space c.tidy_blocks.new.space).spare
    (c.tidy_blocks.ensures.spent (c.next_owned.ensures.looked.reads.looks.same.tells ∙ tells))

pub returns-in_err-name-clause-spent : goal.returns-in_err-name-clause-spent
returns-in_err-name-clause-spent g c tells = inl (omega (arith, c.next_owned.ensures.looked.reads.looks.spare))

pub returns-in-Some-clause-frees : goal.returns-in-Some-clause-frees
returns-in-Some-clause-frees g c = frees_behind g.met.P.SectorView.follows_trans c.next_owned.ensures.looked c.tidy_attribute.ensures.frees

pub returns-in-None-clause-frees : goal.returns-in-None-clause-frees
returns-in-None-clause-frees g c = frees_behind g.met.P.SectorView.follows_trans c.next_owned.ensures.looked c.tidy_blocks.ensures.frees

pub returns-in_err-name-clause-frees : goal.returns-in_err-name-clause-frees
returns-in_err-name-clause-frees g c = frees_err c.from_residual.ensures.1 (frees_looked c.in_err-name.ensures.looked)
