use Rattle.std.proofs.Common.{◌≡◌, ℕ, true, List, length, sym, ◌∙◌, ap, subst}
use Rattle.std.specs.Prelude.{IfSome, Some, min}
use Rattle.hx_bytes.specs.declared.extents.Extent.{Extent}
use Rattle.hx_bytes.specs.declared.extents.ForkRecord.{ForkRecord}
use Rattle.sector_disk.specs.Lists.{Content}
use Rattle.alloc_bitmap.specs.Map.{BlockMap}
use Rattle.hfs_volume.specs.Content.{volume_of}
use Rattle.hfs_volume.specs.Weight.{file_blocks, file_extents, needs_cut_in}
use Rattle.volume_base.specs.Cutting.{kind_of}
use Rattle.volume_base.specs.DataWeighing.{data_as, data_weighed_in}
use Rattle.volume_base.specs.Room.{free_in}
use Rattle.volume_base.specs.declared.room.FreeBlocks.TheVariants as blocks
use Rattle.volume_weights.proofs.DataFork.{extents_at}
use Rattle.volume_weights.proofs.data_cost.weigh_file.Goals as goal

pub load_fork-requires-clause-there : goal.load_fork-requires-clause-there
load_fork-requires-clause-there g c tells = (c.requires.there tells).has

pub weigh_fork-requires-clause-old : goal.weigh_fork-requires-clause-old
weigh_fork-requires-clause-old g c told = (c.requires.there (sym c.load_fork.ensures.looked.reads.looks.same.tells ∙ told)).small

pub weigh_fork-requires-clause-extents : goal.weigh_fork-requires-clause-extents
weigh_fork-requires-clause-extents g c told =
    let tells = sym c.load_fork.ensures.looked.reads.looks.same.tells ∙ told in
    c.count_extents-extents.ensures
    ∙ ap (λ (l : List Extent). min (length l) 4294967295) (c.in_ok-list.ensures.list tells ∙ sym (extents_at (kind_of c.args.kind) (volume_of (g.P.SectorView.space c.args.space.now).content) c.args.file.now c.args.put (c.requires.there tells)))
    ∙ ap (λ (k : Content). min (length (file_extents (volume_of k) c.args.put.id (kind_of c.args.kind))) 4294967295) (sym (c.load_fork.ensures.looked.reads.looks.content tells))

pub weigh_fork-requires-clause-held : goal.weigh_fork-requires-clause-held
weigh_fork-requires-clause-held g c told =
    let tells = sym c.load_fork.ensures.looked.reads.looks.same.tells ∙ told in
    ap (λ (f : ForkRecord). f.total_blocks) c.fork_of.ensures ∙ sym (c.requires.there tells).blocks ∙ ap (λ (k : Content). length (file_blocks (volume_of k) c.args.put.id (kind_of c.args.kind))) (sym (c.load_fork.ensures.looked.reads.looks.content tells))

pub returns-clause-answer : goal.returns-clause-answer
returns-clause-answer g c tells =
    subst (λ (k : ℕ × BlockMap × Content). IfSome c.weigh_fork.result (λ weighs. weighs ≡ data_weighed_in (kind_of c.args.kind) k.0 (free_in blocks.Takable k.1) (volume_of k.2) (data_as c.args.put)))
    {x = (c.load_fork.new.volume.capacity, c.load_fork.new.volume.map, (g.P.SectorView.space c.load_fork.new.space).content)} {y = (c.args.volume.now.capacity, c.args.volume.now.map, (g.P.SectorView.space c.args.space.now).content)}
    (λ i. (c.load_fork.ensures.looked.reads.keeps.capacity i, c.load_fork.ensures.looked.reads.keeps.map i, c.load_fork.ensures.looked.reads.looks.content tells i))
    (c.weigh_fork.ensures.answer (c.load_fork.ensures.looked.reads.looks.same.tells ∙ tells))

pub returns-clause-no_cut : goal.returns-clause-no_cut
returns-clause-no_cut g c tells some =
    ap (λ (k : Content). needs_cut_in (kind_of c.args.kind) (volume_of k) (Some (data_as c.args.put))) (sym (c.load_fork.ensures.looked.reads.looks.content tells)) ∙ c.weigh_fork.ensures.no_cut (c.load_fork.ensures.looked.reads.looks.same.tells ∙ tells) some

pub returns-clause-waits : goal.returns-clause-waits
returns-clause-waits g c tells none =
    subst (λ (k : Content). needs_cut_in (kind_of c.args.kind) (volume_of k) (Some (data_as c.args.put)) ≡ true) (c.load_fork.ensures.looked.reads.looks.content tells) (c.weigh_fork.ensures.waits (c.load_fork.ensures.looked.reads.looks.same.tells ∙ tells) none)
