use Rattle.std.proofs.Common.{ℕ, false, arith, sym, ◌∙◌, ap, subst}
use Rattle.std.specs.Prelude.{◌&&◌}
use Rattle.std.proofs.lemmas.Bool.{true≢false, eq-eqb}
use Rattle.sector_disk.specs.Lists.{Content}
use Rattle.catalog.specs.Pairs.{value_at}
use Rattle.hfs_volume.specs.Content.{VolumeState}
use Rattle.hfs_volume.specs.Records.{id_in}
use Rattle.volume_space.specs.Cutting.{IsForkOf, MayCut}
use Rattle.volume_base.specs.Cutting.{kind_of}
use Rattle.volume_base.specs.Room.{capacity_of}
use Rattle.volume_space.proofs.StepSpent.{cut_behind}
use Rattle.volume_space.proofs.CutNext.{cuts_to_behind}
use Rattle.volume_space.proofs.SpreadFile.{has_file}
use Rattle.volume_base.proofs.Still.{lists_still}
use Rattle.volume_base.proofs.Freed.{frees_behind, frees_err, frees_looked, frees_wanting}
use Rattle.volume_space.proofs.trimming.tidy_fork.Goals as goal

pub fork_extents-requires-clause-there : goal.fork_extents-requires-clause-there
fork_extents-requires-clause-there g c tells = has_file c.args.volume.now (g.P.SectorView.space c.args.space.now).content (c.requires.serves.settled tells) c.args.entry.now c.args.file.now (c.requires.there tells) c.requires.is

pub tidy_extents-requires-clause-no_link : goal.tidy_extents-requires-clause-no_link
tidy_extents-requires-clause-no_link g c = sym c.is_link.ensures ∙ c.if-is_link.false

pub tidy_extents-requires-clause-user : goal.tidy_extents-requires-clause-user
tidy_extents-requires-clause-user g c = λ both. true≢false (sym (λ i. eq-eqb c.args.entry.now.parent 2 both.0 i && both.1 i) ∙ sym c.is_own.ensures ∙ c.if-is_own.false)

pub tidy_extents-requires-clause-number : goal.tidy_extents-requires-clause-number
tidy_extents-requires-clause-number g c = c.is_user_id.ensures c.if-not-is_user_id.false

pub tidy_extents-requires-clause-there : goal.tidy_extents-requires-clause-there
tidy_extents-requires-clause-there g c tells =
    let before = sym c.fork_extents.ensures.looked.reads.looks.same.tells ∙ tells in
    ap (λ (l : VolumeState). value_at l.catalog_pairs c.args.entry.now.parent c.args.entry.now.name) (lists_still c.args.volume.now c.fork_extents.new.volume (g.P.SectorView.space c.args.space.now) (g.P.SectorView.space c.fork_extents.new.space) c.fork_extents.ensures.looked.reads before) ∙ c.requires.there before

pub tidy_extents-requires-clause-list : goal.tidy_extents-requires-clause-list
tidy_extents-requires-clause-list g c tells =
    let before = sym c.fork_extents.ensures.looked.reads.looks.same.tells ∙ tells in
    subst (λ (l : Content). IsForkOf c.in_ok-list.list (kind_of c.args.surplus.kind) c.args.file.now l) (sym (c.fork_extents.ensures.looked.reads.looks.content before)) (c.in_ok-list.ensures.found before)

pub tidy_extents-requires-clause-may : goal.tidy_extents-requires-clause-may
tidy_extents-requires-clause-may g c tells =
    let before = sym c.fork_extents.ensures.looked.reads.looks.same.tells ∙ tells in
    subst (λ (k : Content). MayCut k (id_in c.args.entry.now.rec) (kind_of c.args.surplus.kind) c.args.surplus.keep) (sym (c.fork_extents.ensures.looked.reads.looks.content before)) (c.requires.may before)

pub returns-clause-came : goal.returns-clause-came
returns-clause-came g c tells =
    cuts_to_behind (g.P.SectorView.space c.args.space.now).content (g.P.SectorView.space c.fork_extents.new.space).content (g.P.SectorView.space c.tidy_extents.new.space).content (c.fork_extents.ensures.looked.reads.looks.content tells) (capacity_of c.args.volume.now) (capacity_of c.fork_extents.new.volume) c.fork_extents.ensures.looked.reads.keeps.capacity (g.P.SectorView.space c.args.space.now).spare (g.P.SectorView.space c.fork_extents.new.space).spare c.fork_extents.ensures.looked.reads.looks.spare
    (id_in c.args.entry.now.rec) (kind_of c.args.surplus.kind) c.args.surplus.keep c.tidy_extents.result (c.tidy_extents.ensures.came (c.fork_extents.ensures.looked.reads.looks.same.tells ∙ tells))

-- ---- what it puts

pub returns-then-is_link-clause-spent : goal.returns-then-is_link-clause-spent
returns-then-is_link-clause-spent g c tells = omega arith

pub returns-then-is_own-clause-spent : goal.returns-then-is_own-clause-spent
returns-then-is_own-clause-spent g c tells = omega arith

pub returns-then-not-is_user_id-clause-spent : goal.returns-then-not-is_user_id-clause-spent
returns-then-not-is_user_id-clause-spent g c tells = omega arith

pub returns-in_err-list-clause-spent : goal.returns-in_err-list-clause-spent
returns-in_err-list-clause-spent g c tells = omega (arith, c.fork_extents.ensures.looked.reads.looks.spare)

pub returns-clause-spent : goal.returns-clause-spent
returns-clause-spent g c tells =
    cut_behind (g.P.SectorView.space c.args.space.now).content (g.P.SectorView.space c.fork_extents.new.space).content (c.fork_extents.ensures.looked.reads.looks.content tells) (capacity_of c.args.volume.now) (capacity_of c.fork_extents.new.volume) c.fork_extents.ensures.looked.reads.keeps.capacity (g.P.SectorView.space c.args.space.now).spare (g.P.SectorView.space c.fork_extents.new.space).spare c.fork_extents.ensures.looked.reads.looks.spare
    (g.P.SectorView.space c.tidy_extents.new.space).spare (c.tidy_extents.ensures.spent (c.fork_extents.ensures.looked.reads.looks.same.tells ∙ tells))

pub returns-then-is_link-clause-frees : goal.returns-then-is_link-clause-frees
returns-then-is_link-clause-frees g c = frees_wanting g.met.P.SectorView.follows_refl c.requires.serves.stands

pub returns-then-is_own-clause-frees : goal.returns-then-is_own-clause-frees
returns-then-is_own-clause-frees g c = frees_wanting g.met.P.SectorView.follows_refl c.requires.serves.stands

pub returns-then-not-is_user_id-clause-frees : goal.returns-then-not-is_user_id-clause-frees
returns-then-not-is_user_id-clause-frees g c = frees_wanting g.met.P.SectorView.follows_refl c.requires.serves.stands

pub returns-clause-frees : goal.returns-clause-frees
returns-clause-frees g c = frees_behind g.met.P.SectorView.follows_trans c.fork_extents.ensures.looked c.tidy_extents.ensures.frees

pub returns-in_err-list-clause-frees : goal.returns-in_err-list-clause-frees
returns-in_err-list-clause-frees g c = frees_err c.from_residual.ensures.1 (frees_looked c.in_err-list.ensures.looked)
