use Rattle.std.proofs.Common.{sym, ◌∙◌, ap, inl, arith}
use Rattle.sector_disk.specs.Lists.{Content}
use Rattle.alloc_bitmap.specs.Map.{BlockMap, free_of}
use Rattle.hfs_volume.specs.Content.{records_of, volume_of}
use Rattle.hfs_volume.specs.Links.{orphans_of}
use Rattle.hfs_volume.specs.Reclaim.{has_surplus_left, least}
use Rattle.volume_base.specs.Keeping.{shrunk_of}
use Rattle.volume_base.specs.Room.{capacity_of}
use Rattle.volume_space.proofs.StepSpent.{next_behind}
use Rattle.volume_space.proofs.Affording.{tidied_behind}
use Rattle.volume_space.proofs.HeldUp.{rests_none}
use Rattle.volume_base.proofs.Freed.{frees_behind, frees_err, frees_looked}
use Rattle.volume_base.proofs.Looked.{looked_again}
use Rattle.volume_space.proofs.tidying.tidy_unshrunk.Goals as goal

pub tidy_waiting-requires-clause-kept : goal.tidy_waiting-requires-clause-kept
tidy_waiting-requires-clause-kept g c tells =
    let before = sym c.next_waiting.ensures.looked.reads.looks.same.tells ∙ tells in
    (λ i. has_surplus_left (volume_of (c.next_waiting.ensures.looked.reads.looks.content before i)) (c.next_waiting.ensures.looked.reads.keeps.shrunk i)) ∙ c.requires.kept before

pub tidy_waiting-requires-clause-lowest : goal.tidy_waiting-requires-clause-lowest
tidy_waiting-requires-clause-lowest g c tells =
    let before = sym c.next_waiting.ensures.looked.reads.looks.same.tells ∙ tells in
    ap (λ (k : Content). least (orphans_of (records_of (volume_of k)))) (c.next_waiting.ensures.looked.reads.looks.content before)
    ∙ sym (c.in_ok-id.ensures.found before) ∙ c.in-Some.is

pub returns-in-Some-clause-tidied : goal.returns-in-Some-clause-tidied
returns-in-Some-clause-tidied g c tells =
    tidied_behind (g.P.SectorView.space c.args.space.now).content (g.P.SectorView.space c.next_waiting.new.space).content (g.P.SectorView.space c.tidy_waiting.new.space).content (c.next_waiting.ensures.looked.reads.looks.content tells) (capacity_of c.args.volume.now) (capacity_of c.next_waiting.new.volume) c.next_waiting.ensures.looked.reads.keeps.capacity (shrunk_of c.args.volume.now) (shrunk_of c.next_waiting.new.volume) c.next_waiting.ensures.looked.reads.keeps.shrunk (free_of c.args.volume.now.map) (free_of c.next_waiting.new.volume.map) (ap (λ (m : BlockMap). free_of m) c.next_waiting.ensures.looked.reads.keeps.map) (g.P.SectorView.space c.args.space.now).spare (g.P.SectorView.space c.next_waiting.new.space).spare c.next_waiting.ensures.looked.reads.looks.spare c.tidy_waiting.result
    (c.tidy_waiting.ensures.tidied (c.next_waiting.ensures.looked.reads.looks.same.tells ∙ tells))

pub returns-in-None-clause-tidied : goal.returns-in-None-clause-tidied
returns-in-None-clause-tidied g c tells =
    (c.next_waiting.ensures.looked.reads.looks.content tells, rests_none (capacity_of c.args.volume.now) (shrunk_of c.args.volume.now) (volume_of (g.P.SectorView.space c.args.space.now).content) (c.requires.kept tells) (sym (c.in_ok-id.ensures.found tells) ∙ c.in-None.is))

-- ---- what it puts

pub returns-in-Some-clause-spent : goal.returns-in-Some-clause-spent
returns-in-Some-clause-spent g c tells =
    next_behind (g.P.SectorView.space c.args.space.now).content (g.P.SectorView.space c.next_waiting.new.space).content (c.next_waiting.ensures.looked.reads.looks.content tells) (capacity_of c.args.volume.now) (capacity_of c.next_waiting.new.volume) c.next_waiting.ensures.looked.reads.keeps.capacity (shrunk_of c.args.volume.now) (shrunk_of c.next_waiting.new.volume) c.next_waiting.ensures.looked.reads.keeps.shrunk (g.P.SectorView.space c.args.space.now).spare (g.P.SectorView.space c.next_waiting.new.space).spare c.next_waiting.ensures.looked.reads.looks.spare (g.P.SectorView.space c.tidy_waiting.new.space).spare
    (c.tidy_waiting.ensures.spent (c.next_waiting.ensures.looked.reads.looks.same.tells ∙ tells))

pub returns-in-None-clause-spent : goal.returns-in-None-clause-spent
returns-in-None-clause-spent g c tells = inl (omega (arith, c.next_waiting.ensures.looked.reads.looks.spare))

pub returns-in_err-id-clause-spent : goal.returns-in_err-id-clause-spent
returns-in_err-id-clause-spent g c tells = inl (omega (arith, c.next_waiting.ensures.looked.reads.looks.spare))

pub returns-in-Some-clause-frees : goal.returns-in-Some-clause-frees
returns-in-Some-clause-frees g c = frees_behind g.met.P.SectorView.follows_trans c.next_waiting.ensures.looked c.tidy_waiting.ensures.frees

pub returns-in-None-clause-frees : goal.returns-in-None-clause-frees
returns-in-None-clause-frees g c = frees_looked (looked_again c.next_waiting.ensures.looked)

pub returns-in_err-id-clause-frees : goal.returns-in_err-id-clause-frees
returns-in_err-id-clause-frees g c = frees_err c.from_residual.ensures.1 (frees_looked c.in_err-id.ensures.looked)
