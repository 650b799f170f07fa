-- Calls of a space, one after another.
use Rattle.std.specs.Prelude.{◌≤◌, ℕ, refl}
use Rattle.std.proofs.Common.{◌∙◌, inl, inr, ⊎_elim, arith}
use Rattle.sector_disk.specs.Cause.{Rose}
use Rattle.sector_disk.specs.Disk.{State}
use Rattle.sector_disk.proofs.Writing.{same_after, sink_after}
use Rattle.jnl_store.specs.Following.{SpaceFollows}
use Rattle.jnl_store.specs.declared.store.Store.{Store}

rose_on : (x y z : ℕ) → Rose x y → y ≤ z → Rose x z
rose_on x y z rose later = omega (arith, rose, later)

rose_before : (x y z : ℕ) → x ≤ y → Rose y z → Rose x z
rose_before x y z later rose = omega (arith, later, rose)

-- nothing was called
pub follows_none : (store : Store) (disk : State) → SpaceFollows store disk store disk
follows_none store disk = record {
  plan = refl;
  live = refl;
  kept = refl;
  room = refl;
  slots = refl;
  same = record { tells = refl; tells_left = refl; names = refl; sectors = refl };
  sink = record { told = refl; faults = refl };
  barriers = refl;
  keeps = λ keeps. keeps;
  later = omega arith;
  faults = inl refl;
}

-- one call behind another
pub follows_both : (a : Store) (x : State) (b : Store) (y : State) (c : Store) (z : State) → SpaceFollows a x b y → SpaceFollows b y c z → SpaceFollows a x c z
follows_both a x b y c z first second = record {
  plan = second.plan ∙ first.plan;
  live = second.live ∙ first.live;
  kept = second.kept ∙ first.kept;
  room = second.room ∙ first.room;
  slots = second.slots ∙ first.slots;
  same = same_after x y z first.same second.same;
  sink = sink_after x y z first.sink second.sink;
  barriers = second.barriers ∙ first.barriers;
  keeps = λ keeps. second.keeps (first.keeps keeps);
  later = omega (arith, first.later, second.later);
  faults = ⊎_elim (λ same. ⊎_elim (λ first_same. inl (same ∙ first_same)) (λ rose. inr (rose_on x.faults y.faults z.faults rose second.later)) first.faults) (λ rose. inr (rose_before x.faults y.faults z.faults first.later rose)) second.faults;
}
