use Rattle.std.proofs.Common.{◌≡◌, inl, inr, ⊎_elim}
use Rattle.std.specs.Prelude.{Contains}
use Rattle.fsck_core.proofs.ToldLaws.{stays_same}
use Rattle.fsck_core.proofs.owners.add_unless.Goals as goal

pub returns-clause-found : goal.returns-clause-found
returns-clause-found c fails = c.in_ok-push.ensures.kept.listed

pub returns-in_err-push-clause-still : goal.returns-in_err-push-clause-still
returns-in_err-push-clause-still c = stays_same c.args.out.now c.push.new.self c.in_err-push.ensures.same

pub returns-clause-still : goal.returns-clause-still
returns-clause-still c = c.in_ok-push.ensures.kept.still

pub returns-clause-each : goal.returns-clause-each
returns-clause-each c f stands = ⊎_elim
    (λ (is : f ≡ record { rule = 17; place = c.args.id; found = 0; wanted = 1 }). inr (c.if-holds.false, is))
    (λ (before : Contains c.args.out.now f). inl before)
    (c.in_ok-push.ensures.kept.from f stands)
