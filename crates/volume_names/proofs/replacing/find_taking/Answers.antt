use Rattle.std.proofs.Common.{sym, ◌∙◌, ap, subst}
use Rattle.std.specs.Prelude.{Ok}
use Rattle.sector_disk.specs.Lists.{Content}
use Rattle.hfs_language.specs.declared.command.Command.TheVariants as command
use Rattle.hfs_model.specs.Step.{is_below, step_line}
use Rattle.hfs_volume.specs.TreeOf.{tree_of}
use Rattle.volume_base.specs.Refusing.{facts_or}
use Rattle.volume_base.proofs.Framed.{looked_both}
use Rattle.volume_base.proofs.Looked.{looked_again, looked_fault}
use Rattle.volume_base.proofs.Rising.{settled_is_plain}
use Rattle.volume_names.specs.Moving.{ComesTo}
use Rattle.volume_names.specs.declared.replacing.Taking.{Taking}
use Rattle.volume_names.proofs.Taken.{comes_to, is_taken}
use Rattle.volume_names.proofs.replacing.find_taking.Goals as goal

pub returns-clause-tells : goal.returns-clause-tells
returns-clause-tells g c tells =
    let v = c.args.volume.now in
    let old = g.P.SectorView.space c.args.space.now in
    let later = c.facts.ensures.looked.reads.looks.same.tells ∙ tells in
    let tree = tree_of old.content in
    let plain = settled_is_plain c.sound_has_plain_tree.ensures v old.content (c.requires.serves.stands.stands tells).trees (c.requires.serves.settled tells) in
    subst (λ (t : Taking). ComesTo t tree c.args.from.now c.args.to.now) (sym c.taking_of.ensures)
    (comes_to tree plain c.args.from.now c.args.to.now c.requires.not_own c.requires.goal_not_own (is_taken tree c.args.from.now c.args.to.now (c.requires.taken tells)) _ _ _ (c.in_ok-moved.ensures.told tells)
    (c.in_ok-other.ensures.told later ∙ ap (λ (k : Content). facts_or (step_line (tree_of k) (Ok (command.Stat c.args.to.now))).0) (c.facts.ensures.looked.reads.looks.content tells))
    (c.is_below-below.ensures ∙ (λ i. is_below (c.as_slice.ensures i) (c.as_slice-2.ensures i))))

pub returns-clause-looked : goal.returns-clause-looked
returns-clause-looked g c = looked_again (looked_both g.met.P.SectorView.follows_trans c.facts.ensures.looked c.facts-2.ensures.looked)

pub returns-in_err-other-clause-looked : goal.returns-in_err-other-clause-looked
returns-in_err-other-clause-looked g c = looked_fault c.from_residual-in_err-other.ensures.1 (looked_both g.met.P.SectorView.follows_trans c.facts.ensures.looked c.in_err-other.ensures.looked)
