use Rattle.std.proofs.Common.{List, sym, ◌∙◌, ap, subst}
use Rattle.std.specs.Prelude.{Ok}
use Rattle.attributes.specs.Values.{AnswersDelete, AreValued, extents_at, value_at}
use Rattle.attributes.specs.declared.value.Deleted.{Deleted}
use Rattle.btree_file.specs.Standing.{pairs_in}
use Rattle.btree_file.specs.State.{sectors_of_tree}
use Rattle.btree_node.specs.Levels.{Pair}
use Rattle.hfs_volume.specs.Changes.{DropsAttribute}
use Rattle.volume_base.proofs.AttributesEdited.{pairs_where, attributes_changed}
use Rattle.volume_base.proofs.Framed.{edits_err, edits_ok}
use Rattle.volume_base.proofs.NoValue.{none_extents}
use Rattle.volume_base.proofs.Rising.{held_sorted}
use Rattle.volume_base.proofs.TreeEdited.{attributes_edits}
use Rattle.volume_base.proofs.AttributesThrough.{attributes_ready}
use Rattle.volume_base.proofs.volume.Volume.delete.Goals as goal

pub delete_value-requires-clause-ready : goal.delete_value-requires-clause-ready
delete_value-requires-clause-ready g c = attributes_ready c.requires.stands c.requires.has c.requires.size c.requires.values

pub returns-in-Done-clause-deletes : goal.returns-in-Done-clause-deletes
returns-in-Done-clause-deletes g c tells =
    attributes_changed c.args.self.now (g.P.SectorView.space c.args.space.now) (g.P.SectorView.space c.delete_value.new.space) (record { file = c.delete_value.new.tree; desk = c.delete_value.new.desk }) c.requires.has (c.requires.stands.stands tells) tells c.in_ok-answer.ensures.edits.frame
    (DropsAttribute c.args.id c.args.name.now) (Ok c.in_ok-answer.answer) (c.in_ok-answer.ensures.edits.holds tells) (c.in_ok-answer.ensures.edits.sorted tells) (c.in_ok-answer.ensures.deleted tells)

pub returns-in-Done-clause-edits : goal.returns-in-Done-clause-edits
returns-in-Done-clause-edits g c = edits_ok (attributes_edits {r = Ok c.in_ok-answer.answer} c.requires.has c.in_ok-answer.ensures.edits.below c.in_ok-answer.ensures.edits.cause c.requires.stands c.in_ok-answer.ensures.edits.frame c.in_ok-answer.ensures.edits.desk c.in_ok-answer.ensures.edits.holds)

pub returns-in-NoAttribute-clause-deletes : goal.returns-in-NoAttribute-clause-deletes
returns-in-NoAttribute-clause-deletes g c tells =
    attributes_changed c.args.self.now (g.P.SectorView.space c.args.space.now) (g.P.SectorView.space c.delete_value.new.space) (record { file = c.delete_value.new.tree; desk = c.delete_value.new.desk }) c.requires.has (c.requires.stands.stands tells) tells c.in_ok-answer.ensures.edits.frame
    (DropsAttribute c.args.id c.args.name.now) (Ok c.in_ok-answer.answer) (c.in_ok-answer.ensures.edits.holds tells) (c.in_ok-answer.ensures.edits.sorted tells) (c.in_ok-answer.ensures.deleted tells)

pub returns-in-NoAttribute-clause-edits : goal.returns-in-NoAttribute-clause-edits
returns-in-NoAttribute-clause-edits g c = edits_ok (attributes_edits {r = Ok c.in_ok-answer.answer} c.requires.has c.in_ok-answer.ensures.edits.below c.in_ok-answer.ensures.edits.cause c.requires.stands c.in_ok-answer.ensures.edits.frame c.in_ok-answer.ensures.edits.desk c.in_ok-answer.ensures.edits.holds)

pub returns-in-Done-clause-blocks : goal.returns-in-Done-clause-blocks
returns-in-Done-clause-blocks g c tells =
    let it = subst (λ (answer : Deleted). AnswersDelete (value_at (pairs_in (sectors_of_tree c.args.self.now.attributes.file) (g.P.SectorView.space c.args.space.now).content) c.args.id c.args.name.now) (extents_at (pairs_in (sectors_of_tree c.args.self.now.attributes.file) (g.P.SectorView.space c.args.space.now).content) c.args.id c.args.name.now) answer) c.in-Done.is (c.in_ok-answer.ensures.answer tells) in
    it.1 ∙ ap (λ (l : List Pair). extents_at l c.args.id c.args.name.now) (sym (pairs_where c.args.self.now (g.P.SectorView.space c.args.space.now).content c.requires.has))

pub returns-in-NoAttribute-clause-blocks : goal.returns-in-NoAttribute-clause-blocks
returns-in-NoAttribute-clause-blocks g c tells =
    let it = subst (λ (answer : Deleted). AnswersDelete (value_at (pairs_in (sectors_of_tree c.args.self.now.attributes.file) (g.P.SectorView.space c.args.space.now).content) c.args.id c.args.name.now) (extents_at (pairs_in (sectors_of_tree c.args.self.now.attributes.file) (g.P.SectorView.space c.args.space.now).content) c.args.id c.args.name.now) answer) c.in-NoAttribute.is (c.in_ok-answer.ensures.answer tells) in
    c.new.ensures
    ∙ sym (none_extents (pairs_in (sectors_of_tree c.args.self.now.attributes.file) (g.P.SectorView.space c.args.space.now).content) (held_sorted c.args.self.now (g.P.SectorView.space c.args.space.now).content (c.requires.stands.stands tells).trees c.requires.has) (subst AreValued (pairs_where c.args.self.now (g.P.SectorView.space c.args.space.now).content c.requires.has) (c.requires.values tells)) c.args.id c.args.name.now it)
    ∙ ap (λ (l : List Pair). extents_at l c.args.id c.args.name.now) (sym (pairs_where c.args.self.now (g.P.SectorView.space c.args.space.now).content c.requires.has))

pub returns-in_err-answer-clause-edits : goal.returns-in_err-answer-clause-edits
returns-in_err-answer-clause-edits g c =
    edits_err c.from_residual.ensures.1 (attributes_edits c.requires.has c.in_err-answer.ensures.edits.below c.in_err-answer.ensures.edits.cause c.requires.stands c.in_err-answer.ensures.edits.frame c.in_err-answer.ensures.edits.desk c.in_err-answer.ensures.edits.holds)
