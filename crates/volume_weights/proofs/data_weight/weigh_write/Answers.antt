use Rattle.std.proofs.Common.{◌≡◌, ℕ, false, sym, ◌∙◌, ap, subst}
use Rattle.std.specs.Prelude.{is_some, IfOk, IfSome, Option, Ok, Err}
use Rattle.sector_disk.specs.Lists.{Content}
use Rattle.alloc_bitmap.specs.Map.{BlockMap}
use Rattle.hfs_model.specs.Step.{step_line}
use Rattle.volume_weights.specs.DataWeighing.{WaitsForCut}
use Rattle.volume_base.specs.declared.weighing.Weight.{Weight}
use Rattle.volume_base.specs.Refusing.{facts_or}
use Rattle.volume_base.specs.Weighing.{weighed}
use Rattle.hfs_language.specs.declared.command.Command.TheVariants as command
use Rattle.hfs_volume.specs.Content.{volume_of}
use Rattle.hfs_volume.specs.TreeOf.{tree_of}
use Rattle.volume_base.specs.Room.{free_in}
use Rattle.volume_base.specs.declared.room.FreeBlocks.TheVariants as blocks
use Rattle.volume_base.proofs.Refused.{told_refused, write_refusal}
use Rattle.volume_base.proofs.Rising.{settled_is_plain}
use Rattle.volume_weights.proofs.CutsAhead.{refused_waits}
use Rattle.volume_base.proofs.Framed.{looked_both}
use Rattle.volume_weights.proofs.data_weight.weigh_write.Goals as goal

pub returns-in-Err-clause-answer : goal.returns-in-Err-clause-answer
returns-in-Err-clause-answer g c tells =
    told_refused c.args.volume.now.capacity (free_in blocks.Takable c.args.volume.now.map) (volume_of (g.P.SectorView.space c.args.space.now).content) (tree_of (g.P.SectorView.space c.args.space.now).content) (command.Write c.args.path.now c.args.from c.args.value.now) c.in-Err.why
    (write_refusal (tree_of (g.P.SectorView.space c.args.space.now).content) (settled_is_plain c.sound_has_plain_tree.ensures c.args.volume.now (g.P.SectorView.space c.args.space.now).content (c.requires.serves.stands.stands tells).trees (c.requires.serves.settled tells)) c.args.path.now c.args.from c.args.value.now (Err c.in-Err.why) (sym c.in-Err.is ∙ c.in_ok-told.ensures.told tells))

pub returns-in-Ok-clause-answer : goal.returns-in-Ok-clause-answer
returns-in-Ok-clause-answer g c tells =
    subst (λ (k : ℕ × BlockMap × Content). IfOk c.weigh_value.result (λ (said : Option Weight). IfSome said (λ weighs. weighs ≡ weighed k.0 (free_in blocks.Takable k.1) (volume_of k.2) (tree_of k.2) (command.Write c.args.path.now c.args.from c.args.value.now))))
    {x = (c.facts.new.self.capacity, c.facts.new.self.map, (g.P.SectorView.space c.facts.new.space).content)} {y = (c.args.volume.now.capacity, c.args.volume.now.map, (g.P.SectorView.space c.args.space.now).content)}
    (λ i. (c.facts.ensures.looked.reads.keeps.capacity i, c.facts.ensures.looked.reads.keeps.map i, c.facts.ensures.looked.reads.looks.content tells i))
    (c.weigh_value.ensures.answer (c.facts.ensures.looked.reads.looks.same.tells ∙ tells))

pub returns-in-Ok-clause-waits : goal.returns-in-Ok-clause-waits
returns-in-Ok-clause-waits g c tells =
    subst (λ (k : Content). IfOk c.weigh_value.result (λ (said : Option Weight). is_some said ≡ false → WaitsForCut k (command.Write c.args.path.now c.args.from c.args.value.now))) (c.facts.ensures.looked.reads.looks.content tells) (c.weigh_value.ensures.waits (c.facts.ensures.looked.reads.looks.same.tells ∙ tells))

pub returns-in-Ok-clause-looked : goal.returns-in-Ok-clause-looked
returns-in-Ok-clause-looked g c = looked_both g.met.P.SectorView.follows_trans c.facts.ensures.looked c.weigh_value.ensures.looked

pub weigh_value-requires-clause-told : goal.weigh_value-requires-clause-told
weigh_value-requires-clause-told g c tells =
    let before = (sym c.facts.ensures.looked.reads.looks.same.tells ∙ tells) in
    sym c.in-Ok.is ∙ c.in_ok-told.ensures.told before ∙ ap (λ (k : Content). facts_or (step_line (tree_of k) (Ok (command.Stat c.args.path.now))).0) (sym (c.facts.ensures.looked.reads.looks.content before))

pub returns-in-Err-clause-cuts : goal.returns-in-Err-clause-cuts
returns-in-Err-clause-cuts g c tells waits =
    absurd (refused_waits (g.P.SectorView.space c.args.space.now).content (command.Write c.args.path.now c.args.from c.args.value.now) c.in-Err.why (write_refusal (tree_of (g.P.SectorView.space c.args.space.now).content) (settled_is_plain c.sound_has_plain_tree.ensures c.args.volume.now (g.P.SectorView.space c.args.space.now).content (c.requires.serves.stands.stands tells).trees (c.requires.serves.settled tells)) c.args.path.now c.args.from c.args.value.now (Err c.in-Err.why) (sym c.in-Err.is ∙ c.in_ok-told.ensures.told tells)) waits)

pub returns-in-Ok-clause-cuts : goal.returns-in-Ok-clause-cuts
returns-in-Ok-clause-cuts g c tells waits =
    c.weigh_value.ensures.cuts (c.facts.ensures.looked.reads.looks.same.tells ∙ tells) (subst (λ (k : Content). WaitsForCut k (command.Write c.args.path.now c.args.from c.args.value.now)) (sym (c.facts.ensures.looked.reads.looks.content tells)) waits)
