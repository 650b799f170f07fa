-- What the changed sectors of a bitmap hold once they were put.
use Rattle.std.proofs.Common.{◌≡◌, ℕ, ◌+◌, ◌*◌, ◌/◌, ◌%◌, ◌≤◌, ◌<◌, Bool, true, false, List, length, get_or, slice_get, Some, inl, inr, sym, ◌∙◌, ap, arith, ⊎_elim}
use Rattle.std.specs.List.{Contains}
use Rattle.std.proofs.lemmas.Bool.{cases_lt, cases_Bool}
use Rattle.std.proofs.lemmas.List.{get_or_past}
use Rattle.std.proofs.lemmas.Option.{slice_get-get_or}
use Rattle.sector_disk.specs.Lists.{sector}
use Rattle.sector_disk.specs.Space.{Space}
use Rattle.sector_disk.specs.Putting.{PutsThese, TakesRoomOf}
use Rattle.fork_map.specs.Blocks.{sectors_of}
use Rattle.flag_rows.specs.Bits.{bit_of, sectors_for}
use Rattle.alloc_bitmap.specs.Apart.{AreApart}
use Rattle.alloc_bitmap.specs.Fork.{sector_or_none, fork_bit, HoldsBits, IsChanged, ClearsRest, HoldsPart, changed_of}
use Rattle.alloc_bitmap.proofs.ChangedLaws.{changed_in, changed_out}
use Rattle.alloc_bitmap.proofs.PlaceLaws.{one_sector}

module _ (sectors : List ℕ) (changed : List Bool) (old new : Space) where
  pub puts_changed : PutsThese (λ s. Contains (changed_of sectors changed) s) old new → PutsThese (IsChanged sectors changed) old new
  puts_changed p = record {
    content = record { size = p.content.size; each = λ s. ⊎_elim (λ e. inl e) (λ c. inr (changed_in sectors changed s c)) (p.content.each s) };
    durable = p.durable;
    spilled = p.spilled;
    live = λ s. (λ l. ⊎_elim (λ o. inl o) (λ c. inr (changed_in sectors changed s c)) ((p.live s).0 l), λ e. (p.live s).1 (⊎_elim (λ o. inl o) (λ c. inr (changed_out sectors changed c.0 s c.1 c.2)) e));
    closed = p.closed;
  }

  pub room_changed : (most : ℕ) → TakesRoomOf (λ s. Contains (changed_of sectors changed) s) most old new → TakesRoomOf (IsChanged sectors changed) most old new
  room_changed most r = record {
    put = λ s. (λ t. ⊎_elim (λ o. inl o) (λ c. inr (changed_in sectors changed s c)) ((r.put s).0 t), λ e. (r.put s).1 (⊎_elim (λ o. inl o) (λ c. inr (changed_out sectors changed c.0 s c.1 c.2)) e));
    spare = r.spare;
    no_more = r.no_more;
  }

module _ (per_block : ℕ) (blocks : List ℕ) (changed used : List Bool) (old new : Space)
    (apart : AreApart blocks) (size : length changed ≡ sectors_for (length used)) (enough : sectors_for (length used) ≤ length (sectors_of per_block blocks))
    (bytes : (at : ℕ) → Contains (changed_of (sectors_of per_block blocks) changed) at → HoldsPart (sectors_of per_block blocks) changed used at (sector new.content at)) where
  pub whole_sectors : (at : ℕ) → IsChanged (sectors_of per_block blocks) changed at → length (sector new.content at) ≡ 512
  whole_sectors at c = (bytes at (changed_out (sectors_of per_block blocks) changed c.0 at c.1 c.2)).whole

  pub stored_bit : (k : ℕ) → k / 4096 < length changed → get_or changed (k / 4096) false ≡ true → fork_bit new.content (sectors_of per_block blocks) k ≡ get_or used k false
  stored_bit k below is =
      let q = k / 4096 in
      let at = get_or (sectors_of per_block blocks) q 0 in
      let here : slice_get (sectors_of per_block blocks) q ≡ Some at = slice_get-get_or (sectors_of per_block blocks) q 0 (omega (arith, below, size, enough)) in
      let part = bytes at (changed_out (sectors_of per_block blocks) changed q at is here) in
      let same : part.place ≡ q = one_sector per_block blocks part.place q at apart part.there here in
      let back : part.place * 4096 + k % 4096 ≡ k = omega (arith, same) in
      ap (λ o. bit_of (sector_or_none new.content o) (k % 4096)) here ∙ part.bits (k % 4096) (omega arith) ∙ ap (λ j. get_or used j false) back

  pub stored_bits : PutsThese (IsChanged (sectors_of per_block blocks) changed) old new
      → ((k : ℕ) → k < length used → get_or changed (k / 4096) false ≡ false → fork_bit old.content (sectors_of per_block blocks) k ≡ get_or used k false) → HoldsBits new.content (sectors_of per_block blocks) used
  stored_bits puts others = λ k lt.
      let q = k / 4096 in
      let at = get_or (sectors_of per_block blocks) q 0 in
      let below : q < length changed = omega (arith, lt, size) in
      let here : slice_get (sectors_of per_block blocks) q ≡ Some at = slice_get-get_or (sectors_of per_block blocks) q 0 (omega (arith, below, size, enough)) in
      ⊎_elim
      (λ (is : get_or changed q false ≡ true). stored_bit k below is)
      (λ (isnt : get_or changed q false ≡ false).
      let same : sector new.content at ≡ sector old.content at = ⊎_elim (λ e. e)
      (λ c. absurd (let there : c.0 ≡ q = one_sector per_block blocks c.0 q at apart c.2 here in let no : false ≡ true = sym isnt ∙ ap (λ j. get_or changed j false) (sym there) ∙ c.1 in cc no))
      (puts.content.each at) in
      ap (λ o. bit_of (sector_or_none new.content o) (k % 4096)) here ∙ ap (λ (l : List ℕ). bit_of l (k % 4096)) same ∙ sym (ap (λ o. bit_of (sector_or_none old.content o) (k % 4096)) here) ∙ others k lt isnt)
      (cases_Bool (get_or changed q false))

  pub stored_rest : ClearsRest new.content (sectors_of per_block blocks) changed used
  stored_rest = λ k past is.
      let below : k / 4096 < length changed = ⊎_elim (λ (lt : k / 4096 < length changed). lt) (λ (le : length changed ≤ k / 4096). absurd (let no : false ≡ true = sym (get_or_past changed (k / 4096) false le) ∙ is in cc no)) (cases_lt (k / 4096) (length changed)) in
      stored_bit k below is ∙ get_or_past used k false past
