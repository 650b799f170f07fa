use Rattle.std.proofs.Common.{ℕ, List, ◌∙◌, ap, subst}
use Rattle.hfs_language.specs.Written.{FitsPath}
use Rattle.volume_base.specs.Lists.{lists_of}
use Rattle.volume_base.specs.Watching.{standing_in}
use Rattle.volume_base.proofs.MovedOver.{moved_is, other_is, told_move, told_nothing}
use Rattle.volume_base.proofs.Sited.{fits_above}
use Rattle.volume_base.proofs.Framed.{looked_both}
use Rattle.volume_base.proofs.Looked.{looked_again, looked_fault, looked_short}
use Rattle.volume_base.proofs.volume.Volume.change_over.Goals as goal

pub standing-requires-clause-above_fits : goal.standing-requires-clause-above_fits
standing-requires-clause-above_fits g c = fits_above c.args.under.now c.args.name.now (subst FitsPath c.requires.goal_split c.requires.to_fits)

pub returns-in_default-clause-told : goal.returns-in_default-clause-told
returns-in_default-clause-told g c tells not_own goal_not_own pair is =
    let it = moved_is c.sound_has_plain_tree.ensures c.args.self.now (g.P.SectorView.space c.args.space.now).content (c.requires.serves.stands.stands tells).trees (c.requires.serves.settled tells) c.args.from.now c.args.to.now c.args.under.now c.args.name.now c.requires.goal_split not_own goal_not_own c.requires.to_fits (c.requires.taken tells not_own goal_not_own) pair is c.in_ok-moved.field-0 (c.in_ok-moved.ensures.told tells) in
    absurd (c.in_default.not-Ok it.0 it.1)

pub returns-in_default-2-clause-told : goal.returns-in_default-2-clause-told
returns-in_default-2-clause-told g c tells not_own goal_not_own pair is =
    let it = other_is c.sound_has_plain_tree.ensures c.args.self.now (g.P.SectorView.space c.args.space.now).content (c.requires.serves.stands.stands tells).trees (c.requires.serves.settled tells) c.args.from.now c.args.to.now c.args.under.now c.args.name.now c.requires.goal_split not_own goal_not_own c.requires.to_fits (c.requires.taken tells not_own goal_not_own) pair is c.in_ok-moved.field-0 (c.in_ok-moved.ensures.told tells)
    c.facts.new.self (g.P.SectorView.space c.facts.new.space).content (c.facts.ensures.looked.stands.stands (c.facts.ensures.looked.reads.looks.same.tells ∙ tells)).trees (c.facts.ensures.serves.settled (c.facts.ensures.looked.reads.looks.same.tells ∙ tells)) (c.facts.ensures.looked.reads.looks.content tells) c.in_ok-other.field-0
    (c.in_ok-other.ensures.found (c.facts.ensures.looked.reads.looks.same.tells ∙ tells) ∙ ap (λ (p : List (List ℕ)). standing_in (lists_of c.facts.new.self (g.P.SectorView.space c.facts.new.space).content).catalog_pairs c.facts.new.self.private p c.args.under.now) c.as_slice.ensures) in
    absurd (c.in_default-2.not-Ok _ it.0)

pub returns-then-other-moved-clause-told : goal.returns-then-other-moved-clause-told
returns-then-other-moved-clause-told g c tells not_own goal_not_own pair is =
    c.new-then-other-moved.ensures
    ∙ told_nothing c.sound_has_plain_tree.ensures c.args.self.now (g.P.SectorView.space c.args.space.now).content (c.requires.serves.stands.stands tells).trees (c.requires.serves.settled tells) c.args.from.now c.args.to.now c.args.under.now c.args.name.now c.requires.goal_split not_own goal_not_own c.requires.to_fits (c.requires.taken tells not_own goal_not_own) pair is c.in_ok-moved.field-0 (c.in_ok-moved.ensures.told tells)
    c.facts.new.self (g.P.SectorView.space c.facts.new.space).content (c.facts.ensures.looked.stands.stands (c.facts.ensures.looked.reads.looks.same.tells ∙ tells)).trees (c.facts.ensures.serves.settled (c.facts.ensures.looked.reads.looks.same.tells ∙ tells)) (c.facts.ensures.looked.reads.looks.content tells) c.in_ok-other.field-0
    (c.in_ok-other.ensures.found (c.facts.ensures.looked.reads.looks.same.tells ∙ tells) ∙ ap (λ (p : List (List ℕ)). standing_in (lists_of c.facts.new.self (g.P.SectorView.space c.facts.new.space).content).catalog_pairs c.facts.new.self.private p c.args.under.now) c.as_slice.ensures)
    c.args.line c.in-Ok.moved c.in-Ok.is c.in-Ok-2.other c.in-Ok-2.is c.if-other-moved.true

pub returns-clause-told : goal.returns-clause-told
returns-clause-told g c tells not_own goal_not_own pair is =
    c.in_ok-one_change.ensures
    ∙ told_move c.sound_has_plain_tree.ensures c.args.self.now (g.P.SectorView.space c.args.space.now).content (c.requires.serves.stands.stands tells).trees (c.requires.serves.settled tells) c.args.from.now c.args.to.now c.args.under.now c.args.name.now c.requires.goal_split not_own goal_not_own c.requires.to_fits (c.requires.taken tells not_own goal_not_own) pair is c.in_ok-moved.field-0 (c.in_ok-moved.ensures.told tells)
    c.facts.new.self (g.P.SectorView.space c.facts.new.space).content (c.facts.ensures.looked.stands.stands (c.facts.ensures.looked.reads.looks.same.tells ∙ tells)).trees (c.facts.ensures.serves.settled (c.facts.ensures.looked.reads.looks.same.tells ∙ tells)) (c.facts.ensures.looked.reads.looks.content tells) c.in_ok-other.field-0
    (c.in_ok-other.ensures.found (c.facts.ensures.looked.reads.looks.same.tells ∙ tells) ∙ ap (λ (p : List (List ℕ)). standing_in (lists_of c.facts.new.self (g.P.SectorView.space c.facts.new.space).content).catalog_pairs c.facts.new.self.private p c.args.under.now) c.as_slice.ensures)
    c.args.line c.in-Ok.moved c.in-Ok.is c.in-Ok-2.other c.in-Ok-2.is c.if-other-moved.false

pub returns-in_err-other-clause-looked : goal.returns-in_err-other-clause-looked
returns-in_err-other-clause-looked g c = looked_fault c.from_residual-in_err-other.ensures.1 (looked_both g.met.P.SectorView.follows_trans c.facts.ensures.looked c.in_err-other.ensures.looked)

pub returns-in_default-2-clause-looked : goal.returns-in_default-2-clause-looked
returns-in_default-2-clause-looked g c = looked_again (looked_both g.met.P.SectorView.follows_trans c.facts.ensures.looked c.standing.ensures.looked)

pub returns-then-other-moved-clause-looked : goal.returns-then-other-moved-clause-looked
returns-then-other-moved-clause-looked g c = looked_again (looked_both g.met.P.SectorView.follows_trans c.facts.ensures.looked c.standing.ensures.looked)

pub returns-in_err-one_change-clause-looked : goal.returns-in_err-one_change-clause-looked
returns-in_err-one_change-clause-looked g c = looked_fault c.from_residual-in_err-one_change.ensures.1 (looked_short {U = ℕ} (looked_both g.met.P.SectorView.follows_trans c.facts.ensures.looked c.standing.ensures.looked))

pub returns-clause-looked : goal.returns-clause-looked
returns-clause-looked g c = looked_again (looked_both g.met.P.SectorView.follows_trans c.facts.ensures.looked c.standing.ensures.looked)
