use Rattle.std.proofs.Common.{◌≡◌, ◌≤◌, List, sym, subst}
use Rattle.std.specs.Prelude.{IfOk}
use Rattle.attributes.specs.Owned.{count_of, extents_owned}
use Rattle.btree_node.specs.Levels.{Pair}
use Rattle.hfs_volume.specs.Commands.{DropsAttributes}
use Rattle.volume_base.proofs.AttributesEdited.{attributes_changed, pairs_where}
use Rattle.volume_base.proofs.TreeEdited.{attributes_edits}
use Rattle.volume_base.proofs.AttributesThrough.{attributes_ready}
use Rattle.volume_names.proofs.baring.bare.Goals as goal

pub drop_owned-requires-clause-ready : goal.drop_owned-requires-clause-ready
drop_owned-requires-clause-ready g c = attributes_ready c.requires.stands c.requires.has c.requires.size c.requires.values

pub drop_owned-requires-clause-few : goal.drop_owned-requires-clause-few
drop_owned-requires-clause-few g c tells = subst (λ (l : List Pair). count_of c.args.id l ≤ c.args.most) (pairs_where c.args.volume.now (g.P.SectorView.space c.args.space.now).content c.requires.has) (c.requires.few tells)

pub returns-clause-blocks : goal.returns-clause-blocks
returns-clause-blocks g c tells =
    subst (λ (l : List Pair). IfOk c.drop_owned.result (λ blocks. blocks ≡ extents_owned l c.args.id)) (sym (pairs_where c.args.volume.now (g.P.SectorView.space c.args.space.now).content c.requires.has)) (c.drop_owned.ensures.blocks tells)

pub returns-clause-bares : goal.returns-clause-bares
returns-clause-bares g c tells =
    attributes_changed c.args.volume.now (g.P.SectorView.space c.args.space.now) (g.P.SectorView.space c.drop_owned.new.space) (record { file = c.drop_owned.new.tree; desk = c.drop_owned.new.desk }) c.requires.has (c.requires.stands.stands tells) tells c.drop_owned.ensures.edits.frame
    (DropsAttributes c.args.id) c.drop_owned.result (c.drop_owned.ensures.edits.holds tells) (c.drop_owned.ensures.edits.sorted tells) (c.drop_owned.ensures.dropped tells)

pub returns-clause-edits : goal.returns-clause-edits
returns-clause-edits g c = attributes_edits c.requires.has c.drop_owned.ensures.edits.below c.drop_owned.ensures.edits.cause c.requires.stands c.drop_owned.ensures.edits.frame c.drop_owned.ensures.edits.desk c.drop_owned.ensures.edits.holds
