-- Room for a link, and what a call spills, where what was done before stays.
use Rattle.std.proofs.Common.{ℕ, Bool, List, length, sym, ◌∙◌, ap, subst}
use Rattle.std.specs.Prelude.{Result}
use Rattle.std.specs.List.{Contains}
use Rattle.hx_bytes.specs.declared.faults.Trouble.{Trouble}
use Rattle.sector_disk.specs.Space.{Space}
use Rattle.volume_header.specs.declared.header.VolumeHeader.{VolumeHeader}
use Rattle.volume_base.specs.Frame.{Spills}
use Rattle.volume_base.specs.Keeping.{Keeps}
use Rattle.volume_base.specs.Touching.{Touches}
use Rattle.volume_base.specs.declared.volume.Volume.{Volume}
use Rattle.volume_base.proofs.KeptMarks.{holds_kept, is_marked, own_kept}
use Rattle.volume_links.specs.Links.{HasRoomToLink}

module _ (v w : Volume) (keeps : Keeps v w) where
  pub room_kept : (long n : ℕ) (a : Space) → HasRoomToLink long n v a → HasRoomToLink long n w a
  room_kept long n a was = subst (λ (u : Volume). HasRoomToLink long n u a) (is_marked v w keeps) (record {
    some = was.some;
    short = was.short;
    many = was.many;
    free = was.free;
    ids = was.ids;
    spare = was.spare;
    told = was.told;
  })

  module _ {S T : Type 0} {space_of : S → Space} {follows : S → S → Type 0} {x : Volume} {a b : S} {r : Result T Trouble} where
    pub spills_kept : {most : ℕ} → Spills space_of follows most w x a b r → Spills space_of follows most v x a b r
    spills_kept was = record {
      below = was.below;
      cause = was.cause;
      service = was.service;
      stands = was.stands;
      holds = λ committed held. was.holds committed (holds_kept v w keeps committed held);
      touches = λ committed held laid. subst (λ (l : List ℕ). Touches committed (λ s. Contains l s) (space_of a) (space_of b)) (own_kept v w keeps)
          (was.touches committed (holds_kept v w keeps committed held) (record { block = laid.block ∙ sym (ap (λ (h : VolumeHeader). h.block_size) keeps.same.header); total = laid.total ∙ sym (ap (λ (l : List Bool). length l) keeps.same.used) }));
      same = was.same;
      spent = was.spent;
      own = was.own ∙ own_kept v w keeps;
      shrunk = was.shrunk ∙ keeps.same.shrunk;
      capacity = was.capacity ∙ keeps.same.capacity;
    }
