use Rattle.std.proofs.Common.{◌≡◌, ◌≤◌, inl, sym, ◌∙◌, ap, subst, arith}
use Rattle.std.specs.Prelude.{IsTrue}
use Rattle.alloc_bitmap.specs.Map.{BlockMap, free_of}
use Rattle.btree_node.specs.declared.store.TreeShape.{TreeShape}
use Rattle.hfs_volume.specs.Content.{has_attributes, volume_of}
use Rattle.hfs_volume.specs.Reclaim.{next_reclaim}
use Rattle.hfs_volume.specs.Weight.{value_change}
use Rattle.sector_disk.specs.Lists.{Content}
use Rattle.volume_header.specs.declared.header.VolumeHeader.{VolumeHeader}
use Rattle.volume_base.specs.Keeping.{shrunk_of}
use Rattle.volume_base.specs.Room.{capacity_of}
use Rattle.volume_base.specs.Weighing.{AreUsual}
use Rattle.volume_base.proofs.Freed.{frees_behind, frees_err, frees_looked, frees_wanting}
use Rattle.volume_base.proofs.Still.{has_them}
use Rattle.volume_space.proofs.Affording.{tidied_behind}
use Rattle.volume_space.proofs.StepSpent.{next_behind}
use Rattle.volume_space.proofs.stripping.tidy_attribute.Goals as goal

pub strip_now-requires-clause-has : goal.strip_now-requires-clause-has
strip_now-requires-clause-has g c = subst (λ (h : VolumeHeader). IsTrue (has_attributes h)) (sym c.value_change.ensures.looked.reads.keeps.header) (has_them c.args.volume.now.header c.if-volume-eq0.false)

pub strip_now-requires-clause-size : goal.strip_now-requires-clause-size
strip_now-requires-clause-size g c = omega (arith, c.if-shape-lt4096.false, ap (λ (s : TreeShape). s.node_size) c.shape.ensures, ap (λ (s : TreeShape). s.node_size) c.value_change.ensures.looked.reads.keeps.attributes.file.shape)

pub strip_now-requires-clause-waits : goal.strip_now-requires-clause-waits
strip_now-requires-clause-waits g c later =
    let tells = sym c.value_change.ensures.looked.reads.looks.same.tells ∙ later in
    (λ i. next_reclaim (volume_of (c.value_change.ensures.looked.reads.looks.content tells i)) (c.value_change.ensures.looked.reads.keeps.shrunk i)) ∙ c.requires.waits tells

pub strip_now-requires-clause-change : goal.strip_now-requires-clause-change
strip_now-requires-clause-change g c later =
    let tells = sym c.value_change.ensures.looked.reads.looks.same.tells ∙ later in
    c.in_ok-change.ensures.change tells ∙ ap (λ (k : Content). value_change (volume_of k) c.args.id c.args.name.now 0) (sym (c.value_change.ensures.looked.reads.looks.content tells))

pub strip_now-requires-clause-usual : goal.strip_now-requires-clause-usual
strip_now-requires-clause-usual g c =
    let usual : AreUsual 2 c.in_ok-change.change = c.in_ok-change.ensures.usual in
    record { records = omega (arith, usual.records); blocks = usual.blocks; freed = usual.freed }

pub returns-clause-tidied : goal.returns-clause-tidied
returns-clause-tidied g c tells =
    tidied_behind (g.P.SectorView.space c.args.space.now).content (g.P.SectorView.space c.value_change.new.space).content (g.P.SectorView.space c.strip_now.new.space).content (c.value_change.ensures.looked.reads.looks.content tells) (capacity_of c.args.volume.now) (capacity_of c.value_change.new.self) c.value_change.ensures.looked.reads.keeps.capacity (shrunk_of c.args.volume.now) (shrunk_of c.value_change.new.self) c.value_change.ensures.looked.reads.keeps.shrunk (free_of c.args.volume.now.map) (free_of c.value_change.new.self.map) (ap (λ (m : BlockMap). free_of m) c.value_change.ensures.looked.reads.keeps.map) (g.P.SectorView.space c.args.space.now).spare (g.P.SectorView.space c.value_change.new.space).spare c.value_change.ensures.looked.reads.looks.spare c.strip_now.result
    (c.strip_now.ensures.tidied (c.value_change.ensures.looked.reads.looks.same.tells ∙ tells))

pub returns-clause-spent : goal.returns-clause-spent
returns-clause-spent g c tells =
    next_behind (g.P.SectorView.space c.args.space.now).content (g.P.SectorView.space c.value_change.new.space).content (c.value_change.ensures.looked.reads.looks.content tells) (capacity_of c.args.volume.now) (capacity_of c.value_change.new.self) c.value_change.ensures.looked.reads.keeps.capacity (shrunk_of c.args.volume.now) (shrunk_of c.value_change.new.self) c.value_change.ensures.looked.reads.keeps.shrunk (g.P.SectorView.space c.args.space.now).spare (g.P.SectorView.space c.value_change.new.space).spare c.value_change.ensures.looked.reads.looks.spare (g.P.SectorView.space c.strip_now.new.space).spare
    (c.strip_now.ensures.spent (c.value_change.ensures.looked.reads.looks.same.tells ∙ tells))

pub returns-clause-frees : goal.returns-clause-frees
returns-clause-frees g c = frees_behind g.met.P.SectorView.follows_trans c.value_change.ensures.looked c.strip_now.ensures.frees

pub returns-in_err-change-clause-spent : goal.returns-in_err-change-clause-spent
returns-in_err-change-clause-spent g c tells = inl (omega (arith, c.value_change.ensures.looked.reads.looks.spare))

pub returns-in_err-change-clause-frees : goal.returns-in_err-change-clause-frees
returns-in_err-change-clause-frees g c = frees_err c.from_residual.ensures.1 (frees_looked c.in_err-change.ensures.looked)

pub returns-then-len-gt127-clause-spent : goal.returns-then-len-gt127-clause-spent
returns-then-len-gt127-clause-spent g c tells = inl (omega arith)

pub returns-then-len-gt127-clause-frees : goal.returns-then-len-gt127-clause-frees
returns-then-len-gt127-clause-frees g c = frees_wanting g.met.P.SectorView.follows_refl c.requires.serves.stands

pub returns-then-volume-eq0-clause-spent : goal.returns-then-volume-eq0-clause-spent
returns-then-volume-eq0-clause-spent g c tells = inl (omega arith)

pub returns-then-volume-eq0-clause-frees : goal.returns-then-volume-eq0-clause-frees
returns-then-volume-eq0-clause-frees g c = frees_wanting g.met.P.SectorView.follows_refl c.requires.serves.stands

pub returns-then-shape-lt4096-clause-spent : goal.returns-then-shape-lt4096-clause-spent
returns-then-shape-lt4096-clause-spent g c tells = inl (omega arith)

pub returns-then-shape-lt4096-clause-frees : goal.returns-then-shape-lt4096-clause-frees
returns-then-shape-lt4096-clause-frees g c = frees_wanting g.met.P.SectorView.follows_refl c.requires.serves.stands
