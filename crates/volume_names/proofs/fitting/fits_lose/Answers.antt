use Rattle.std.proofs.Common.{ℕ, sym, ◌∙◌, ap}
use Rattle.std.specs.Prelude.{Option, is_some}
use Rattle.std.proofs.lemmas.Bool.{true≢false}
use Rattle.volume_names.proofs.fitting.fits_lose.Goals as goal

pub returns-in-Some-clause-room : goal.returns-in-Some-clause-room
returns-in-Some-clause-room g c fits = record {
  drops = c.fits_remove.ensures.room c.if-not-fits_remove.false;
  makes = λ absent. absurd (true≢false (sym (ap (λ (o : Option ℕ). is_some o) c.in-Some.is) ∙ ap (λ (o : Option ℕ). is_some o) absent));
}

pub returns-in-None-clause-room : goal.returns-in-None-clause-room
returns-in-None-clause-room g c fits = record { drops = c.fits_remove.ensures.room c.if-not-fits_remove.false; makes = λ absent. c.fits_open.ensures.room fits }

pub returns-in-None-clause-met : goal.returns-in-None-clause-met
returns-in-None-clause-met g c tells removes opens = let both = opens c.in-None.is in c.fits_open.ensures.met tells c.in-None.is both.0 both.1

pub returns-then-not-fits_remove-clause-met : goal.returns-then-not-fits_remove-clause-met
returns-then-not-fits_remove-clause-met g c tells removes opens = absurd (true≢false (sym (c.fits_remove.ensures.met tells removes) ∙ c.if-not-fits_remove.true))
