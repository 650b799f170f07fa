-- A keep ahead of the drop of an attribute leaves its room, its load and what waits.
use Rattle.std.proofs.Common.{◌≡◌, ℕ, List, refl, sym, ◌∙◌, ap, subst}
use Rattle.std.specs.Prelude.{Option}
use Rattle.hfs_volume.specs.declared.cost.ValueChange.{ValueChange}
use Rattle.sector_disk.specs.Lists.{Content}
use Rattle.sector_disk.specs.Space.{Space}
use Rattle.volume_base.specs.Attributing.{HasRoomForValue}
use Rattle.volume_base.specs.Keeping.{Keeps, shrunk_of}
use Rattle.volume_base.specs.declared.volume.Volume.{Volume}
use Rattle.volume_base.proofs.KeptMarks.{is_marked}
use Rattle.volume_space.specs.Orphans.{BaresWaiting, strip_load}

module _ (v w : Volume) (keeps : Keeps v w) where
  pub value_room_kept : (a : Space) (edits : ℕ) (change : ValueChange) → HasRoomForValue edits change v a → HasRoomForValue edits change w a
  value_room_kept a edits change was = subst (λ (u : Volume). HasRoomForValue edits change u a) (is_marked v w keeps) (record { update = record { told = was.update.told }; told = was.told })

  pub strip_load_kept : (change : ValueChange) → strip_load change w ≡ strip_load change v
  strip_load_kept change = ap (strip_load change) (sym (is_marked v w keeps))

  pub waiting_kept : (before after : Content) (id : ℕ) (name : List ℕ) → (waiting : BaresWaiting (shrunk_of w) before after) × (waiting.id ≡ id) × (waiting.name ≡ name) → (waiting : BaresWaiting (shrunk_of v) before after) × (waiting.id ≡ id) × (waiting.name ≡ name)
  waiting_kept before after id name was = subst (λ (s : Option ℕ). (waiting : BaresWaiting s before after) × (waiting.id ≡ id) × (waiting.name ≡ name)) keeps.same.shrunk was
