use Rattle.std.proofs.Common.{◌≡◌, ℕ, Bool, List, sym, ◌∙◌, ap, subst}
use Rattle.std.specs.Prelude.{IfOk, Ok}
use Rattle.sector_disk.specs.Lists.{Content}
use Rattle.hfs_language.specs.declared.command.Command.TheVariants as command
use Rattle.hfs_model.specs.Step.{step_line}
use Rattle.hfs_volume.specs.Content.{volume_of}
use Rattle.hfs_volume.specs.TreeOf.{tree_of}
use Rattle.volume_base.specs.Refusing.{refusal_in}
use Rattle.volume_base.specs.Room.{free_in}
use Rattle.volume_base.specs.Weighing.{weighed}
use Rattle.volume_base.specs.declared.room.FreeBlocks.TheVariants as blocks
use Rattle.volume_base.proofs.Refused.{told_refused}
use Rattle.volume_base.proofs.Framed.{looked_both}
use Rattle.volume_weights.proofs.link_weight.weigh_ln.Goals as goal

pub weigh_ln_fine-requires-clause-fine : goal.weigh_ln_fine-requires-clause-fine
weigh_ln_fine-requires-clause-fine g c tells =
    let before = sym c.refused_ln.ensures.looked.reads.looks.same.tells ∙ tells in
    sym c.in-None.is ∙ c.in_ok-why.ensures.told before ∙ ap (λ (k : Content). refusal_in (step_line (tree_of k) (Ok (command.Ln c.args.from.now c.args.to.now))).0) (sym (c.refused_ln.ensures.looked.reads.looks.content before))

pub returns-in-None-clause-answer : goal.returns-in-None-clause-answer
returns-in-None-clause-answer g c tells =
    subst (λ (k : ℕ × List Bool × Content). IfOk c.weigh_ln_fine.result (λ weighs. weighs ≡ weighed k.0 k.1 (volume_of k.2) (tree_of k.2) (command.Ln c.args.from.now c.args.to.now)))
    {x = (c.refused_ln.new.self.capacity, free_in blocks.Takable c.refused_ln.new.self.map, (g.P.SectorView.space c.refused_ln.new.space).content)} {y = (c.args.volume.now.capacity, free_in blocks.Takable c.args.volume.now.map, (g.P.SectorView.space c.args.space.now).content)}
    (λ i. (c.refused_ln.ensures.looked.reads.keeps.capacity i, free_in blocks.Takable (c.refused_ln.ensures.looked.reads.keeps.map i), c.refused_ln.ensures.looked.reads.looks.content tells i)) (c.weigh_ln_fine.ensures.answer (c.refused_ln.ensures.looked.reads.looks.same.tells ∙ tells))

pub returns-in-None-clause-looked : goal.returns-in-None-clause-looked
returns-in-None-clause-looked g c = looked_both g.met.P.SectorView.follows_trans c.refused_ln.ensures.looked c.weigh_ln_fine.ensures.looked

pub returns-in-Some-clause-answer : goal.returns-in-Some-clause-answer
returns-in-Some-clause-answer g c tells = told_refused c.args.volume.now.capacity (free_in blocks.Takable c.args.volume.now.map) (volume_of (g.P.SectorView.space c.args.space.now).content) (tree_of (g.P.SectorView.space c.args.space.now).content) (command.Ln c.args.from.now c.args.to.now) c.in-Some.why (sym c.in-Some.is ∙ c.in_ok-why.ensures.told tells)
