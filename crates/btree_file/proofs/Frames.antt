-- What a node that is put leaves of the space.
use Rattle.std.proofs.Common.{◌≡◌, ℕ, ◌+◌, ◌*◌, IsTrue, List, length, drop, inl, inr, sym, ◌∙◌, ap, arith, ⊎_elim}
use Rattle.std.specs.List.{Contains}
use Rattle.std.proofs.lemmas.Bool.{cases_Bool, true≢false}
use Rattle.std.proofs.lemmas.List.{length-take}
use Rattle.std.proofs.lemmas.List.Edits.{length-between}
use Rattle.sector_disk.specs.Clock.{TimePasses}
use Rattle.sector_disk.specs.Lists.{sector}
use Rattle.sector_disk.specs.Space.{Space, SameSpace, LeavesDurable}
use Rattle.btree_file.specs.Frame.{PutsWithin}
use Rattle.btree_file.specs.Place.{sectors_at}
use Rattle.btree_file.specs.Putting.{PutsNode, TakesRoomFor}
use Rattle.btree_file.proofs.PlaceLaws.{stands}
use Rattle.btree_file.proofs.Rooms.{of_fork}

-- a sector of a node that was put has 512 bytes
put_size : (sectors : List ℕ) (per n : ℕ) (bytes : List ℕ) (old new : Space) → length bytes ≡ per * 512 → PutsNode (sectors_at sectors per n) bytes old new → (s : ℕ) → Contains (sectors_at sectors per n) s → length (sector new.content s) ≡ 512
put_size sectors per n bytes old new long puts s c =
    let at = stands (sectors_at sectors per n) s c in
    let low = length-take per (drop (n * per) sectors) in
    ap (λ k. length (sector new.content k)) (sym at.2) ∙ ap (λ (l : List ℕ). length l) (puts.here at.0 at.1)
    ∙ omega (arith, length-between bytes (at.0 * 512) (at.0 * 512 + 512) (omega (arith, at.1, low, long)))

pub put_within : (sectors : List ℕ) (per n : ℕ) (bytes : List ℕ) (old new : Space) → length bytes ≡ per * 512 → (IsTrue old.tells → PutsNode (sectors_at sectors per n) bytes old new) → TakesRoomFor (sectors_at sectors per n) old new → SameSpace old new
    → (IsTrue old.tells → TimePasses old.clock new.clock (LeavesDurable new)) → new.faults ≡ old.faults → PutsWithin sectors old new
put_within sectors per n bytes old new long puts room same time faults =
    let up : (s : ℕ) → Contains (sectors_at sectors per n) s → Contains sectors s = of_fork sectors per n in
    record {
      same = same;
      content = λ tells. record { size = (puts tells).these.content.size; each = λ s. ⊎_elim (λ e. inl e) (λ c. inr (up s c)) ((puts tells).these.content.each s) };
      sizes = λ tells s. ⊎_elim (λ e. inl (ap (λ (l : List ℕ). length l) e)) (λ c. inr (put_size sectors per n bytes old new long (puts tells) s c)) ((puts tells).these.content.each s);
      durable = λ tells. (puts tells).these.durable;
      spilled = λ tells. (puts tells).these.spilled;
      live = λ tells s l. ⊎_elim (λ o. inl o) (λ c. inr (up s c)) (((puts tells).these.live s).0 l);
      still_live = λ tells s l. ((puts tells).these.live s).1 (inl l);
      closed = λ tells. (puts tells).these.closed;
      put = λ s. elim (cases_Bool (new.put s)) [
        | inl t ↦ ⊎_elim (λ o. inl (t ∙ sym o)) (λ c. inr (up s c)) ((room.put s).0 t)
        | inr f ↦ elim (cases_Bool (old.put s)) [ inl t ↦ absurd (true≢false (sym ((room.put s).1 (inl t)) ∙ f)) | inr g ↦ inl (f ∙ sym g) ]
      ];
      still_put = λ s t. (room.put s).1 (inl t);
      spare = room.no_more;
      faults = omega (arith, faults);
      time = time;
    }
