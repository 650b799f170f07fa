-- A volume behind a call that only read: it stands for the same content, and knows the same.
use Rattle.std.proofs.Common.{◌≡◌, ℕ, refl, sym, ◌∙◌, subst}
use Rattle.std.specs.Prelude.{Contains, IsTrue, Option, Result}
use Rattle.alloc_bitmap.specs.Untold.{told_none}
use Rattle.hx_bytes.specs.declared.faults.Trouble.{Trouble}
use Rattle.jnl_format.specs.Recovery.{Content}
use Rattle.sector_disk.specs.Space.{Space}
use Rattle.hfs_serving.specs.Going.{Stands, Stays}
use Rattle.hfs_serving.specs.Outside.{Outside}
use Rattle.hfs_volume.specs.Sound.{IsSound}
use Rattle.volume_base.specs.Frame.{Looked, Serves}
use Rattle.volume_base.specs.Standing.{own_sectors}
use Rattle.volume_base.specs.declared.volume.Volume.{Volume}
use Rattle.volume_space.proofs.Filling.{filled_read, filled_still}
use Rattle.volume_step.proofs.Done.{holds_kept, same_place}
use Rattle.served_volume.specs.Knowing.{IsOfSize, Knows, TakesItsBlocks}
use Rattle.served_volume.proofs.Answered.{stays}
use Rattle.served_volume.proofs.Seen.{looks_space}
use Rattle.served_volume.proofs.Service.{service_on}
use Rattle.served_volume.proofs.Stepping.{Leaves}

module _ {S T : Type 0} {space_of : S → Space} {follows : S → S → Type 0} {v w : Volume} {x y : S} {r : Result T Trouble} (looked : Looked space_of follows v w x y r) where
  module _ (serves : Serves w (space_of y)) (capacity : ℕ) (committed now : Content) (shrunk : Option ℕ) (tells : IsTrue (space_of x).tells) where
    read_leaves : Knows v capacity committed now shrunk (space_of x) → Leaves v w committed (space_of x) (space_of y)
    read_leaves known = record {
      touches = looks_space committed (λ s. Contains (own_sectors v) s) (space_of x) (space_of y) tells looked.reads.looks;
      keeps = same_place (space_of x).content (space_of y).content (looked.reads.looks.content tells);
      stands = looked.stands;
      settled = serves.settled (looked.reads.looks.same.tells ∙ tells);
      filled = filled_read v w (space_of x) (space_of y) looked.reads known.filled;
      holds = holds_kept committed v w looked.reads.keeps.map;
      capacity = looked.reads.keeps.capacity;
      sound = subst IsSound (sym (looked.reads.looks.content tells)) known.alike.sound_other;
    }

    pub read_stays : (outside : Outside) → Stands (λ was is file. Knows v capacity was is file (space_of x)) committed now shrunk (space_of x) outside → Stays (λ was is file. Knows w capacity was is file (space_of y)) committed now shrunk (space_of y)
    read_stays outside stands =
        stays v w capacity committed now shrunk (space_of x) (space_of y) stands.known stands.below stands.reads stands.heads (read_leaves stands.known) (looked.reads.looks.content tells) looked.reads.keeps.shrunk

  -- what holds of it on each space of so many sectors
  module _ (sectors : ℕ) where
    pub read_sized : (space_of x).sectors ≡ sectors → IsOfSize w sectors
    read_sized is = service_on w (space_of y) (told_none sectors) (sym (looked.reads.looks.same.sectors ∙ is)) looked.stands.service

    pub read_takes : TakesItsBlocks v sectors → TakesItsBlocks w sectors
    read_takes was = filled_still v w (told_none sectors) (told_none sectors) looked.reads.keeps.filling looked.reads.keeps.header (λ i. (looked.reads.keeps.map i).used) (λ i. (looked.reads.keeps.map i).held) refl (λ told. refl) was
