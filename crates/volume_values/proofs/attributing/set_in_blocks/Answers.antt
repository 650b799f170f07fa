use Rattle.std.proofs.Common.{◌≡◌, ◌≤◌, List, sym, subst}
use Rattle.std.specs.Prelude.{IfOk}
use Rattle.attributes.specs.Values.{extents_at, records_at}
use Rattle.btree_node.specs.Levels.{Pair}
use Rattle.hfs_volume.specs.Changes.{SetsFork}
use Rattle.hfs_volume.specs.Forks.{in_use}
use Rattle.volume_base.proofs.AttributesEdited.{pairs_where, attributes_changed}
use Rattle.volume_base.proofs.TreeEdited.{attributes_edits}
use Rattle.volume_base.proofs.AttributesThrough.{attributes_ready}
use Rattle.volume_values.proofs.attributing.set_in_blocks.Goals as goal

pub set_value_in_blocks-requires-clause-ready : goal.set_value_in_blocks-requires-clause-ready
set_value_in_blocks-requires-clause-ready g c = attributes_ready c.requires.stands c.requires.has c.requires.size c.requires.values

pub set_value_in_blocks-requires-clause-few : goal.set_value_in_blocks-requires-clause-few
set_value_in_blocks-requires-clause-few g c tells = subst (λ (l : List Pair). records_at l c.args.id c.args.name.now ≤ c.args.most) (pairs_where c.args.volume.now (g.P.SectorView.space c.args.space.now).content c.requires.has) (c.requires.few tells)

pub returns-clause-blocks : goal.returns-clause-blocks
returns-clause-blocks g c tells =
    subst (λ (l : List Pair). IfOk c.set_value_in_blocks.result (λ blocks. blocks ≡ extents_at l c.args.id c.args.name.now)) (sym (pairs_where c.args.volume.now (g.P.SectorView.space c.args.space.now).content c.requires.has)) (c.set_value_in_blocks.ensures.blocks tells)

pub returns-clause-sets : goal.returns-clause-sets
returns-clause-sets g c tells =
    attributes_changed c.args.volume.now (g.P.SectorView.space c.args.space.now) (g.P.SectorView.space c.set_value_in_blocks.new.space) (record { file = c.set_value_in_blocks.new.tree; desk = c.set_value_in_blocks.new.desk }) c.requires.has (c.requires.stands.stands tells) tells c.set_value_in_blocks.ensures.edits.frame
    (SetsFork c.args.id c.args.name.now c.args.size (in_use c.args.fork.now)) c.set_value_in_blocks.result (c.set_value_in_blocks.ensures.edits.holds tells) (c.set_value_in_blocks.ensures.edits.sorted tells) (c.set_value_in_blocks.ensures.set tells)

pub returns-clause-edits : goal.returns-clause-edits
returns-clause-edits g c = attributes_edits c.requires.has c.set_value_in_blocks.ensures.edits.below c.set_value_in_blocks.ensures.edits.cause c.requires.stands c.set_value_in_blocks.ensures.edits.frame c.set_value_in_blocks.ensures.edits.desk c.set_value_in_blocks.ensures.edits.holds
