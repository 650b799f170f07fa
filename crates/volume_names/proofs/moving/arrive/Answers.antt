use Rattle.std.proofs.Common.{◌/◌, sym, ◌∙◌, ap, arith}
use Rattle.volume_names.specs.Changing.{DatesEntry}
use Rattle.volume_names.specs.Moving.{Arrives}
use Rattle.volume_names.proofs.Carried.{threads_changed}
use Rattle.volume_base.proofs.FoundEntry.{ok_so}
use Rattle.volume_names.proofs.Moved.{entry_carried}
use Rattle.volume_base.specs.Lists.{lists_of}
use Rattle.volume_base.proofs.Framed.{edits_err, edits_spent}
use Rattle.volume_base.proofs.Joined.{edits_both, edits_wanting, edits_short}
use Rattle.volume_names.proofs.moving.arrive.Goals as goal

pub date-requires-clause-threads : goal.date-requires-clause-threads
date-requires-clause-threads g c tells = threads_changed c.args.way.now.folder (lists_of c.args.volume.now (g.P.SectorView.space c.args.space.now).content) (lists_of c.touch.new.self (g.P.SectorView.space c.touch.new.space).content) (c.in_ok-touch.ensures.counts (sym (c.touch.ensures.edits.ran.touches (g.P.SectorView.space c.args.space.now).content).same.tells ∙ tells)).counts (c.requires.threads (sym (c.touch.ensures.edits.ran.touches (g.P.SectorView.space c.args.space.now).content).same.tells ∙ tells))

pub date-requires-clause-there : goal.date-requires-clause-there
date-requires-clause-there g c tells = entry_carried c.args.way.now.folder c.args.way.now.id c.args.volume.now c.touch.new.self (g.P.SectorView.space c.args.space.now).content (g.P.SectorView.space c.touch.new.space).content (c.in_ok-touch.ensures.counts (sym (c.touch.ensures.edits.ran.touches (g.P.SectorView.space c.args.space.now).content).same.tells ∙ tells)) (c.requires.threads (sym (c.touch.ensures.edits.ran.touches (g.P.SectorView.space c.args.space.now).content).same.tells ∙ tells)) (c.requires.there (sym (c.touch.ensures.edits.ran.touches (g.P.SectorView.space c.args.space.now).content).same.tells ∙ tells))

pub returns-clause-arrives : goal.returns-clause-arrives
returns-clause-arrives g c tells =
    ok_so (DatesEntry c.args.way.now.id c.touch.new.self c.date.new.volume (g.P.SectorView.space c.touch.new.space).content (g.P.SectorView.space c.date.new.space).content) (Arrives c.args.way.now.folder c.args.way.now.id c.args.volume.now c.date.new.volume (g.P.SectorView.space c.args.space.now).content (g.P.SectorView.space c.date.new.space).content) c.date.result (c.date.ensures.dates ((c.touch.ensures.edits.ran.touches (g.P.SectorView.space c.args.space.now).content).same.tells ∙ tells))
    (λ d. record { middle = c.touch.new.self; content = (g.P.SectorView.space c.touch.new.space).content; gains = c.in_ok-touch.ensures.counts tells; dates = d })

pub returns-clause-edits : goal.returns-clause-edits
returns-clause-edits g c =
    edits_spent (edits_both g.met.P.SectorView.follows_trans c.touch.ensures.edits c.date.ensures.edits) (λ tells. omega (arith, c.touch.ensures.edits.ran.spent tells, c.date.ensures.edits.ran.spent ((c.touch.ensures.edits.ran.touches (g.P.SectorView.space c.args.space.now).content).same.tells ∙ tells), ap (λ n. n / 512) c.touch.ensures.size))

pub returns-in_err-touch-clause-edits : goal.returns-in_err-touch-clause-edits
returns-in_err-touch-clause-edits g c = edits_err c.from_residual.ensures.1 (edits_spent c.in_err-touch.ensures.edits (λ tells. omega (arith, c.touch.ensures.edits.ran.spent tells)))

pub touch-requires-clause-room : goal.touch-requires-clause-room
touch-requires-clause-room g c = c.fits_update.ensures.room c.if-not-fits_update.false

pub date-requires-clause-room : goal.date-requires-clause-room
date-requires-clause-room g c = c.fits_update-2.ensures.room c.if-not-fits_update-2.false

pub returns-then-not-fits_update-clause-edits : goal.returns-then-not-fits_update-clause-edits
returns-then-not-fits_update-clause-edits g c = edits_wanting _ g.met.P.SectorView.follows_refl c.requires.stands

pub returns-then-not-fits_update-2-clause-edits : goal.returns-then-not-fits_update-2-clause-edits
returns-then-not-fits_update-2-clause-edits g c = edits_short (edits_spent c.in_ok-touch.ensures.edits (λ tells. omega (arith, c.touch.ensures.edits.ran.spent tells)))
