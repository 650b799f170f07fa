-- A call that drops the growth in hand, and does nothing else.
use Rattle.std.proofs.Common.{◌≡◌, [], refl, sym, subst, arith}
use Rattle.std.specs.Prelude.{None, Ok}
use Rattle.std.specs.List.{Contains}
use Rattle.sector_disk.specs.Space.{Space}
use Rattle.volume_base.specs.Frame.{Serves}
use Rattle.volume_base.specs.Standing.{own_sectors}
use Rattle.volume_base.specs.declared.volume.Volume.{Volume}
use Rattle.volume_base.proofs.Commanding.{touches_none}
use Rattle.volume_step.specs.Performing.{Performs}
use Rattle.volume_step.specs.Steps.{OwnOf}
use Rattle.volume_step.specs.declared.outcome.Outcome.{Outcome}
use Rattle.volume_step.proofs.Performed.{performs_done, performs_drop, performs_own}

pub unfilled : {S : Type 0} {space_of : S → Space} {follows : S → S → Type 0} {v w : Volume} {a : S} {it : Outcome} → ((x : S) → follows x x) → Serves v (space_of a) → w ≡ record v { filling = None } → Performs space_of follows (OwnOf v w) v w a a (Ok it)
unfilled {S} {space_of} {follows} {v} {w} {a} {it} same serves is =
    subst (λ (x : Volume). Performs space_of follows (OwnOf v x) v x a a (Ok it)) (sym is)
    (performs_own (performs_drop None (performs_done (same a) (omega arith) serves.stands serves.settled (λ committed was. was) refl (λ committed held laid. touches_none committed (λ s. Contains (own_sectors v) s) (space_of a)) (touches_none [] (λ s. Contains (own_sectors v) s) (space_of a)).same)))
