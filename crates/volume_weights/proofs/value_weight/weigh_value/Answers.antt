use Rattle.std.proofs.Common.{◌≡◌, sym, ◌∙◌, ap, subst, arith}
use Rattle.std.specs.Prelude.{IsTrue}
use Rattle.hfs_volume.specs.Content.{has_attributes, volume_of}
use Rattle.volume_header.specs.declared.header.VolumeHeader.{VolumeHeader}
use Rattle.volume_base.specs.Room.{free_in}
use Rattle.volume_base.specs.Weighing.{AreUsual, values_weighed}
use Rattle.volume_base.specs.declared.room.FreeBlocks.TheVariants as blocks
use Rattle.volume_base.proofs.Looked.{looked_again}
use Rattle.volume_weights.proofs.value_weight.weigh_value.Goals as goal

pub weigh_values-requires-clause-tree : goal.weigh_values-requires-clause-tree
weigh_values-requires-clause-tree g c tells = subst (λ (h : VolumeHeader). IsTrue (has_attributes h)) (sym c.value_change.ensures.looked.reads.keeps.header) c.requires.has

pub weigh_values-requires-clause-small : goal.weigh_values-requires-clause-small
weigh_values-requires-clause-small g c tells =
    let usual : AreUsual 2 c.in_ok-change.change = c.in_ok-change.ensures.usual in
    record { records = omega (arith, usual.records, c.requires.few); blocks = usual.blocks; freed = usual.freed }

pub returns-clause-exact : goal.returns-clause-exact
returns-clause-exact g c tells =
    let reads = c.value_change.ensures.looked.reads in
    c.weigh_values.ensures.exact (reads.looks.same.tells ∙ tells)
    ∙ (λ i. values_weighed (reads.keeps.capacity i) (free_in blocks.Takable (reads.keeps.map i)) (volume_of (reads.looks.content tells i)) (record { ids = 0; catalog = 0; attributes = c.args.attributes; updates = 1 }) (c.in_ok-change.ensures.change tells i))
