use Rattle.std.proofs.Common.{◌≡◌, true, ℕ, sym, ◌∙◌, ap, subst}
use Rattle.std.specs.Prelude.{Option}
use Rattle.std.proofs.lemmas.Bool.{true≢false}
use Rattle.hfs_volume.specs.Content.{volume_of}
use Rattle.hfs_volume.specs.Cost.{cost_of}
use Rattle.hfs_volume.specs.Weight.{room_with}
use Rattle.volume_base.specs.Fitting.{is_met, takable_in}
use Rattle.volume_base.specs.Losing.{lose_edits}
use Rattle.volume_base.specs.Room.{capacity_of}
use Rattle.volume_base.specs.Weighing.{needs_asked}
use Rattle.volume_base.specs.declared.weighing.Edits.{Edits}
use Rattle.volume_names.proofs.fitting.fits_open.Goals as goal

pub returns-clause-room : goal.returns-clause-room
returns-clause-room g c fits = c.fits_make.ensures.room c.if-not-fits_make.false

pub returns-clause-met : goal.returns-clause-met
returns-clause-met g c tells absent makes met =
    c.can_edit.ensures tells
    ∙ subst (λ (e : Edits). is_met (cost_of (needs_asked e) (room_with (capacity_of c.args.volume.now) (takable_in c.args.volume.now.map) (volume_of (g.P.SectorView.space c.args.space.now).content))) (g.P.SectorView.space c.args.space.now).spare ≡ true)
    (sym (c.lose_edits-edits.ensures.same ∙ ap (λ (o : Option ℕ). lose_edits o) absent)) met

pub returns-then-not-fits_make-clause-met : goal.returns-then-not-fits_make-clause-met
returns-then-not-fits_make-clause-met g c tells absent makes met = absurd (true≢false (sym (c.fits_make.ensures.met tells makes) ∙ c.if-not-fits_make.true))
