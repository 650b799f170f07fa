-- From what the server proves of a run to what the top call says of it.
use Rattle.std.proofs.Common.{◌++◌, [], ℕ, List, ⊎_elim, refl, sym, subst, arith}
use Rattle.std.specs.Prelude.{None}
use Rattle.std.proofs.lemmas.List.{append_cancel_left}
use Rattle.sector_disk.specs.Disk.{State, IsImage, LeftNow}
use Rattle.jnl_format.specs.Recovery.{Content}
use Rattle.jnl_replay.specs.declared.plan.Plan.{Plan}
use Rattle.jnl_store.specs.Spaces.{found}
use Rattle.hfs_volume.specs.Aside.{NamesJournal}
use Rattle.volume_runs.specs.Run.{Entry}
use Rattle.hfs_serving.specs.Outside.{outside_of}
use Rattle.hfs_serving.specs.Runs.{Answer, StandsAs, StandsIn, Survives, SurvivesFrom, Crashes}
use Rattle.hfs_serving.specs.Opening.{Opens}
use Rattle.hfs_serving.specs.Top.{Promises}
use Rattle.hfs_serving.proofs.Leading.{leads_none}
use Rattle.hfs_serving.proofs.Stretches.{stands_now, stands_on, survives_early}

module _ (capacity : ℕ) (start : Content) (plan : Plan) (old new : State) (run : List Entry) (answers : List Answer) (known : ℕ) (crashes : Crashes capacity None start (outside_of plan old) run answers known (outside_of plan new))
    -- at the start a crash leaves what the image stands for, and since this moment there is no other
    (starts : (image : Content) → IsImage old.candidates image → StandsAs start (found plan image)) (only_now : (image : Content) (told : List ℕ) → old.clock.left old.clock.moment image told → LeftNow old image told)
    -- what stands in the run can be opened
    (opens : (image : Content) (least : ℕ) (within : StandsIn capacity None start run least (found plan image)) → Opens image capacity (found plan image) × NamesJournal within.stood (found plan image)) where
  survives : (image : Content) (told : List ℕ) → new.clock.left old.clock.moment image (old.told ++ told) → SurvivesFrom capacity None start old.told run answers (found plan image) (old.told ++ told)
  survives image told left =
      ⊎_elim
      (λ was.
      let now = only_now was.0 (old.told ++ told) was.1 in
      let stands : StandsAs start (found plan image) = subst (StandsAs start) (sym was.2) (starts was.0 now.0) in
      survives_early capacity None start old.told run answers (found plan image) (old.told ++ told) crashes.are (stands_on capacity None start [] run 0 (found plan image) (stands_now capacity None start [] start (found plan image) (leads_none capacity None start) stands)) now.1)
      (λ then. then)
      (crashes.time.nothing_else old.clock.moment (found plan image) (old.told ++ told) (omega arith) (image, left, refl))

  pub promises_of : Promises capacity start old run answers known new
  promises_of = record {
    run_is = crashes.run_is;
    crash = λ image told left.
        let from = survives image told left in
        let same = append_cancel_left old.told told from.0 from.1 in
        let holds = subst (λ (w : List ℕ). Survives capacity None start run answers (found plan image) w) (sym same) from.2 in
        let at = opens image 0 holds.within in
        record { recovered = found plan image; opens = at.0; survives = holds; names = at.1 };
    told = crashes.told;
    knows = λ image is.
        let stands = crashes.knows (found plan image) (image, is, refl) in
        let at = opens image known stands in
        record { recovered = found plan image; opens = at.0; stands = stands; names = at.1 };
  }
