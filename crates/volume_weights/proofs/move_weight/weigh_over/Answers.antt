use Rattle.std.proofs.Common.{ℕ, ◌+◌, sym, ◌∙◌, ap}
use Rattle.std.specs.Prelude.{Option, if◌then◌else◌}
use Rattle.hfs_volume.specs.Content.{volume_of}
use Rattle.volume_base.specs.Losing.{lose_edits}
use Rattle.volume_base.specs.Room.{free_in}
use Rattle.volume_base.specs.Weighing.{edits_weighed}
use Rattle.volume_base.specs.declared.room.FreeBlocks.TheVariants as blocks
use Rattle.volume_base.specs.declared.weighing.Edits.{Edits}
use Rattle.volume_base.proofs.Framed.{looked_both}
use Rattle.volume_base.proofs.Looked.{looked_again, looked_fault}
use Rattle.volume_weights.specs.Losing.{link_edits}
use Rattle.volume_weights.proofs.OverWeight.{no_file, no_goal_file, onto_itself, over_another}
use Rattle.volume_weights.proofs.move_weight.weigh_over.Goals as goal

pub returns-in_default-clause-answer : goal.returns-in_default-clause-answer
returns-in_default-clause-answer g c tells =
    no_file c.sound_has_plain_tree.ensures c.args.volume.now (g.P.SectorView.space c.args.space.now).content (c.requires.serves.stands.stands tells).trees (c.requires.serves.settled tells) c.args.from.now c.args.to.now c.requires.not_own c.requires.goal_not_own c.requires.from_fits c.requires.to_fits (c.requires.taken tells) (free_in blocks.Takable c.args.volume.now.map) c.in_ok-first.first (c.in_ok-first.ensures.found tells)
    (sym c.file_in.ensures ∙ c.in_default.is)

pub returns-in_default-file_in-clause-answer : goal.returns-in_default-file_in-clause-answer
returns-in_default-file_in-clause-answer g c tells =
    no_goal_file c.sound_has_plain_tree.ensures c.args.volume.now (g.P.SectorView.space c.args.space.now).content (c.requires.serves.stands.stands tells).trees (c.requires.serves.settled tells) c.args.from.now c.args.to.now c.requires.not_own c.requires.goal_not_own c.requires.from_fits c.requires.to_fits (c.requires.taken tells) (free_in blocks.Takable c.args.volume.now.map) c.in_ok-first.first (c.in_ok-first.ensures.found tells)
    c.node.new.volume (g.P.SectorView.space c.node.new.space).content (c.node.ensures.looked.stands.stands (c.node.ensures.looked.reads.looks.same.tells ∙ tells)).trees (c.node.ensures.serves.settled (c.node.ensures.looked.reads.looks.same.tells ∙ tells)) (c.node.ensures.looked.reads.looks.content tells) c.in_ok-second.second (c.in_ok-second.ensures.found (c.node.ensures.looked.reads.looks.same.tells ∙ tells))
    (sym c.file_in-2.ensures ∙ c.in_default-file_in.is)

pub returns-then-other-moved-clause-answer : goal.returns-then-other-moved-clause-answer
returns-then-other-moved-clause-answer g c tells =
    onto_itself c.sound_has_plain_tree.ensures c.args.volume.now (g.P.SectorView.space c.args.space.now).content (c.requires.serves.stands.stands tells).trees (c.requires.serves.settled tells) c.args.from.now c.args.to.now c.requires.not_own c.requires.goal_not_own c.requires.from_fits c.requires.to_fits (c.requires.taken tells) (free_in blocks.Takable c.args.volume.now.map) c.in_ok-first.first (c.in_ok-first.ensures.found tells)
    c.node.new.volume (g.P.SectorView.space c.node.new.space).content (c.node.ensures.looked.stands.stands (c.node.ensures.looked.reads.looks.same.tells ∙ tells)).trees (c.node.ensures.serves.settled (c.node.ensures.looked.reads.looks.same.tells ∙ tells)) (c.node.ensures.looked.reads.looks.content tells) c.in_ok-second.second (c.in_ok-second.ensures.found (c.node.ensures.looked.reads.looks.same.tells ∙ tells))
    c.in-Some.moved c.in-Some-file_in.other (sym c.file_in.ensures ∙ c.in-Some.is) (sym c.file_in-2.ensures ∙ c.in-Some-file_in.is) c.if-other-moved.true

pub returns-clause-answer : goal.returns-clause-answer
returns-clause-answer g c tells =
    let both = looked_both g.met.P.SectorView.follows_trans c.node.ensures.looked c.node-2.ensures.looked in
    let private = c.node-2.ensures.looked.reads.keeps.private in
    let loss = c.loss_edits-loss.ensures.same ∙ ap (λ (p : Option ℕ). if c.in-Some-file_in.other.1 then link_edits c.in-Some-file_in.other.0.fields.special else lose_edits p) private in
    let asked = c.over_edits.ensures.same ∙ ap (λ (l : Edits). record { ids = l.ids; catalog = l.catalog + 3; attributes = 0; updates = 6 }) loss in
    c.weigh_edits.ensures.exact (both.reads.looks.same.tells ∙ tells)
    ∙ (λ i. edits_weighed (both.reads.keeps.capacity i) (free_in blocks.Takable (both.reads.keeps.map i)) (volume_of (both.reads.looks.content tells i)) (asked i))
    ∙ over_another c.sound_has_plain_tree.ensures c.args.volume.now (g.P.SectorView.space c.args.space.now).content (c.requires.serves.stands.stands tells).trees (c.requires.serves.settled tells) c.args.from.now c.args.to.now c.requires.not_own c.requires.goal_not_own c.requires.from_fits c.requires.to_fits (c.requires.taken tells) (free_in blocks.Takable c.args.volume.now.map) c.in_ok-first.first (c.in_ok-first.ensures.found tells)
    c.node.new.volume (g.P.SectorView.space c.node.new.space).content (c.node.ensures.looked.stands.stands (c.node.ensures.looked.reads.looks.same.tells ∙ tells)).trees (c.node.ensures.serves.settled (c.node.ensures.looked.reads.looks.same.tells ∙ tells)) (c.node.ensures.looked.reads.looks.content tells) c.in_ok-second.second (c.in_ok-second.ensures.found (c.node.ensures.looked.reads.looks.same.tells ∙ tells))
    c.in-Some.moved c.in-Some-file_in.other (sym c.file_in.ensures ∙ c.in-Some.is) (sym c.file_in-2.ensures ∙ c.in-Some-file_in.is) c.if-other-moved.false

pub returns-in_err-second-clause-looked : goal.returns-in_err-second-clause-looked
returns-in_err-second-clause-looked g c = looked_fault c.from_residual-in_err-second.ensures.1 (looked_both g.met.P.SectorView.follows_trans c.node.ensures.looked c.in_err-second.ensures.looked)

pub returns-in_default-file_in-clause-looked : goal.returns-in_default-file_in-clause-looked
returns-in_default-file_in-clause-looked g c = looked_again (looked_both g.met.P.SectorView.follows_trans c.node.ensures.looked c.node-2.ensures.looked)

pub returns-then-other-moved-clause-looked : goal.returns-then-other-moved-clause-looked
returns-then-other-moved-clause-looked g c = looked_again (looked_both g.met.P.SectorView.follows_trans c.node.ensures.looked c.node-2.ensures.looked)

pub returns-clause-looked : goal.returns-clause-looked
returns-clause-looked g c = looked_again (looked_both g.met.P.SectorView.follows_trans c.node.ensures.looked c.node-2.ensures.looked)
