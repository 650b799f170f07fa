-- A put into a space that is only read: it stays in memory.
use Rattle.std.proofs.Common.{◌≡◌, ◌⊎◌, ◌<◌, ◌∙◌, ℕ, List, refl, sym, ap, inl, inr, arith}
use Rattle.std.specs.Prelude.{Option, Some, None, IsTrue, ◌==◌, slice_set}
use Rattle.std.proofs.lemmas.List.{set-set}
use Rattle.std.proofs.lemmas.Bool.{eqb-true, eq-eqb}
use Rattle.sector_disk.specs.Lists.{Content}
use Rattle.volume_look.specs.Slots.{is_put, put_over, room_beside}
use Rattle.volume_look.specs.declared.slots.Copied.{Copied}

-- there was room, or the sector was put before: the content has it now, and else what it had
pub put_again : (put : Option Copied) (content : Content) (at : ℕ) (bytes : List ℕ) → (0 < room_beside put) ⊎ IsTrue (is_put put at) → slice_set content at bytes ≡ slice_set (put_over put content) at bytes
put_again None content at bytes room = refl
put_again (Some before) content at bytes (inl room) = absurd (omega (arith, room))
put_again (Some before) content at bytes (inr same) =
    sym (ap (λ k. slice_set (slice_set content k before.bytes) at bytes) (sym (eqb-true at before.at same)) ∙ set-set content at before.bytes bytes)

-- and no other sector is put
pub put_alone : (put : Option Copied) (at s : ℕ) → (0 < room_beside put) ⊎ IsTrue (is_put put at) → IsTrue (is_put put s) ⊎ (s ≡ at) → IsTrue (s == at)
put_alone put at s room (inr is) = eq-eqb s at is
put_alone None at s room (inl was) = absurd (cc was)
put_alone (Some before) at s (inl room) (inl was) = absurd (omega (arith, room))
put_alone (Some before) at s (inr same) (inl was) = eq-eqb s at (eqb-true s before.at was ∙ sym (eqb-true at before.at same))
