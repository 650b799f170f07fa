-- How many zero blocks a command has, by the numbers that a fill is told.
use Rattle.std.proofs.Common.{◌≡◌, ◌<◌, ◌≤◌, ℕ, ◌+◌, ◌-◌, ◌*◌, ◌/◌, Bool, true, false, List, length, refl, sym, ◌∙◌, ap, subst, arith, ⊎_elim}
use Rattle.std.specs.Prelude.{◌==◌, ◌||◌, max, nat_lt, Option, Some, None, Result, Ok, Err, if◌then◌else◌}
use Rattle.std.proofs.lemmas.Bool.{cases_lt, le-ltb, lt-ltb, ltb-false, true≢false}
use Rattle.std.proofs.lemmas.Nat.{div_below}
use Rattle.jnl_format.specs.Recovery.{Content}
use Rattle.file_io.specs.Places.{blocks_for}
use Rattle.file_io.proofs.PlaceLaws.{blocks_hold, blocks_least}
use Rattle.hfs_language.specs.declared.command.Command.TheVariants as command
use Rattle.hfs_language.specs.declared.refusal.Refusal.{Refusal}
use Rattle.hfs_language.specs.declared.refusal.Refusal.TheVariants as refusal
use Rattle.hfs_language.specs.declared.reply.Facts.{Facts}
use Rattle.hfs_language.specs.declared.reply.Reply.TheVariants as reply
use Rattle.hfs_model.specs.Step.{facts_of, is_private_path, is_refusal, most_bytes, most_size, on, refuses, resized, size_written, step, step_line, then_, to_file, to_node, unless, written}
use Rattle.hfs_model.specs.declared.plain.PlainNode.{PlainNode}
use Rattle.hfs_model.specs.declared.plain.PlainTree.{PlainTree}
use Rattle.hfs_volume.specs.Content.{VolumeState, volume_of}
use Rattle.hfs_volume.specs.TreeOf.{tree_of}
use Rattle.hfs_volume.specs.Weight.{Data, data_of, grown_data, most_zeros, written_data, zero_blocks, zeros_before_value, zeros_up_to_size}
use Rattle.hfs_volume.proofs.Reaching.{ok_same, then_ok, unless_ok}
use Rattle.volume_base.specs.Refusing.{facts_or}
use Rattle.volume_base.specs.Standing.{IsSettled}
use Rattle.volume_base.specs.declared.volume.Filling.{Filling}
use Rattle.volume_base.specs.declared.volume.Volume.{Volume}
use Rattle.volume_space.specs.Zeroing.{done_of}
use Rattle.volume_step.specs.Steps.{AreFewLeft, FillsMore, HasFewLeft}
use Rattle.volume_base.proofs.ToldFile.{about, told_node}
use Rattle.volume_space.proofs.PutNumbers.{parts_are}
use Rattle.volume_step.proofs.Done.{step_fine}

-- ---- the file

-- of a file its own CNID and size are told
pub file_told : (tree : PlainTree) (path : List (List ℕ)) (told : Facts) → Ok told ≡ facts_or (step_line tree (Ok (command.Stat path))).0 → (file : PlainNode) → to_file tree path ≡ Ok file → (length file.bytes ≡ told.size) × (file.id ≡ told.id)
file_told tree path told is file found =
    let it = told_node tree path told is in
    let own = then_ok (to_node tree path) (λ n. unless n.folder refusal.IsFolder n) file found in
    let kind = unless_ok own.0.folder refusal.IsFolder own.0 file own.2 in
    let same : it.node ≡ own.0 = ok_same it.node own.0 (sym it.found ∙ own.1) in
    let here = about tree path told it (ap (λ (n : PlainNode). n.folder) same ∙ kind.0) in
    (ap (λ (n : PlainNode). length n.bytes) (sym (same ∙ kind.1)) ∙ here.size, ap (λ (n : PlainNode). n.id) (sym (same ∙ kind.1)) ∙ here.id)

-- a file that isn't the volume's own has a stat
pub never_told : (tree : PlainTree) (path : List (List ℕ)) (file : PlainNode) → to_file tree path ≡ Ok file → is_private_path path ≡ false → (why : Refusal) → Err why ≡ facts_or (step_line tree (Ok (command.Stat path))).0 → ⊥
never_told tree path file found free why is =
    let own = then_ok (to_node tree path) (λ n. unless n.folder refusal.IsFolder n) file found in
    let never : Err why ≡ Ok (facts_of tree own.0) =
    is
    ∙ ap (λ b. facts_or (if b || false then (reply.No refusal.Private, tree) else step tree (command.Stat path)).0) free
    ∙ ap (λ (r : Result PlainNode Refusal). facts_or (on tree r (λ n. (reply.Facts (facts_of tree n), tree))).0) own.1 in
    cc never

pub low_here : (stop x y so_far : ℕ) → x ≡ y → so_far + most_zeros < stop - x → most_zeros < stop - y
low_here stop x y so_far same low = omega (arith, same, low)

module _ (tree : PlainTree) (path : List (List ℕ)) where
  pub file_of_write : (from : ℕ) (value : List ℕ) → refuses tree (Ok (command.Write path from value)) ≡ false → (file : PlainNode) × (to_file tree path ≡ Ok file)
  file_of_write from value fine = by (to_file tree path) refl (step_fine tree (command.Write path from value) fine)
    where
      by : (r : Result PlainNode Refusal) → to_file tree path ≡ r
          → is_refusal (on tree (then_ r (unless (nat_lt most_size (from + length value) || nat_lt most_bytes (length value)) refusal.TooLarge)) (λ file. (reply.Ok, written file from value tree))).0 ≡ false → (file : PlainNode) × (to_file tree path ≡ Ok file)
      by (Ok file) found is = (file, found)
      by (Err why) found is = absurd (true≢false is)

  pub file_of_trunc : (size : ℕ) → refuses tree (Ok (command.Trunc path size)) ≡ false → (file : PlainNode) × (to_file tree path ≡ Ok file)
  file_of_trunc size fine = by (to_file tree path) refl (step_fine tree (command.Trunc path size) fine)
    where
      by : (r : Result PlainNode Refusal) → to_file tree path ≡ r → is_refusal (on tree (then_ r (unless (nat_lt most_size size) refusal.TooLarge)) (λ file. (reply.Ok, resized file size tree))).0 ≡ false → (file : PlainNode) × (to_file tree path ≡ Ok file)
      by (Ok file) found is = (file, found)
      by (Err why) found is = absurd (true≢false is)

  module _ (block : ℕ) (some : 0 < block) (file : PlainNode) (found : to_file tree path ≡ Ok file) where
    -- ---- `write`

    written_put : ℕ → List ℕ → Data
    written_put from value = record { id = file.id; old_size = length file.bytes; new_size = size_written (length file.bytes) from (length value); from = from; end = from + length value }

    pub zeros_of_write : (from : ℕ) (value : List ℕ) → (length value == 0) ≡ false → zero_blocks block tree (command.Write path from value) ≡ from / block - blocks_for block (length file.bytes)
    unfolding written_put
    zeros_of_write from value none =
        ap (λ r. zeros_before_value block (written_data from (length value) r)) found
        ∙ ap (λ b. zeros_before_value block (if b then None else Some (written_put from value))) none
        ∙ ap (λ n. from / block - n) (parts_are (length file.bytes) block some)

    -- ---- `trunc`

    grown_put : ℕ → Data
    grown_put size = record { id = file.id; old_size = length file.bytes; new_size = size; from = length file.bytes; end = size }

    pub longer : (size : ℕ) → most_zeros < blocks_for block size - blocks_for block (length file.bytes) → length file.bytes < size
    longer size many = ⊎_elim (λ less. less)
        (λ (short : size ≤ length file.bytes). absurd (never_more (blocks_for block size) (blocks_for block (length file.bytes)) (blocks_least block size (blocks_for block (length file.bytes)) some (at_most size (length file.bytes) (blocks_for block (length file.bytes) * block) short (blocks_hold block (length file.bytes) some))) many))
        (cases_lt (length file.bytes) size)
      where
        at_most : (a b c : ℕ) → a ≤ b → b ≤ c → a ≤ c
        at_most a b c first second = omega (arith, first, second)

        never_more : (a b : ℕ) → a ≤ b → most_zeros < a - b → ⊥
        never_more a b less more = omega (arith, less, more)

    pub zeros_of_longer : (size : ℕ) → length file.bytes < size → zero_blocks block tree (command.Trunc path size) ≡ blocks_for block size - blocks_for block (length file.bytes)
    unfolding grown_put
    zeros_of_longer size more =
        ap (λ r. zeros_up_to_size block (grown_data size r)) found
        ∙ ap (λ b. zeros_up_to_size block (if b then Some (grown_put size) else None)) (lt-ltb (length file.bytes) size more)
        ∙ (λ i. parts_are size block some i - parts_are (length file.bytes) block some i)

    pub zeros_of_trunc : (size : ℕ) → most_zeros < blocks_for block size - blocks_for block (length file.bytes) → zero_blocks block tree (command.Trunc path size) ≡ blocks_for block size - blocks_for block (length file.bytes)
    zeros_of_trunc size many = zeros_of_longer size (longer size many)

-- ---- more zero blocks of its growth

-- the size behind a value that has bytes
pub size_grown : (size from long : ℕ) → (long == 0) ≡ false → size_written size from long ≡ max size (from + long)
size_grown size from long none =
    ap (λ b. if b then size else if nat_lt size (from + long) then from + long else size) none
    ∙ ⊎_elim
    (λ (more : size < from + long). ap (λ b. if b then from + long else size) (lt-ltb size (from + long) more) ∙ (let last : from + long ≡ max size (from + long) = omega (arith, more) in last))
    (λ (less : from + long ≤ size). ap (λ b. if b then from + long else size) (le-ltb size (from + long) less) ∙ (let still : size ≡ max size (from + long) = omega (arith, less) in still))
    (cases_lt size (from + long))

module _ (tree : PlainTree) (path : List (List ℕ)) (old new : Option Filling) (file : PlainNode) (found : to_file tree path ≡ Ok file)
    (end : ℕ) (more : done_of new file.id (length file.bytes) (max (length file.bytes) end) ≡ done_of old file.id (length file.bytes) (max (length file.bytes) end) + most_zeros)
  where
    as_put : (size : ℕ) → max (length file.bytes) end ≡ size → done_of new file.id (length file.bytes) size ≡ done_of old file.id (length file.bytes) size + most_zeros
    as_put size same = subst (λ n. done_of new file.id (length file.bytes) n ≡ done_of old file.id (length file.bytes) n + most_zeros) same more

    pub more_of_write : (from : ℕ) (value : List ℕ) → (length value == 0) ≡ false → end ≡ from + length value → FillsMore (data_of tree (command.Write path from value)) old new
    more_of_write from value none last = subst (λ (d : Option Data). FillsMore d old new) (sym data_is) (as_put (size_written (length file.bytes) from (length value)) (ap (max (length file.bytes)) last ∙ sym (size_grown (length file.bytes) from (length value) none)))
      where
        data_is : data_of tree (command.Write path from value) ≡ Some (record { id = file.id; old_size = length file.bytes; new_size = size_written (length file.bytes) from (length value); from = from; end = from + length value })
        data_is = ap (written_data from (length value)) found
            ∙ ap (λ b. if b then None else Some (record { id = file.id; old_size = length file.bytes; new_size = size_written (length file.bytes) from (length value); from = from; end = from + length value })) none

    pub more_of_trunc : length file.bytes < end → FillsMore (data_of tree (command.Trunc path end)) old new
    more_of_trunc longer_ = subst (λ (d : Option Data). FillsMore d old new) (sym data_is) (as_put end (omega (arith, longer_)))
      where
        data_is : data_of tree (command.Trunc path end) ≡ Some (record { id = file.id; old_size = length file.bytes; new_size = end; from = length file.bytes; end = end })
        data_is = ap (grown_data end) found ∙ ap (λ b. if b then Some (record { id = file.id; old_size = length file.bytes; new_size = end; from = length file.bytes; end = end }) else None) (lt-ltb (length file.bytes) end longer_)

-- ---- of a settled volume

module _ (v : Volume) (content : Content) (settled : IsSettled v content) (some : 0 < v.header.block_size) (path : List (List ℕ)) where
  block_is : (volume_of content).head.block_size ≡ v.header.block_size
  block_is = ap (λ (l : VolumeState). l.head.block_size) settled.lists

  pub many_of_write : (from : ℕ) (value : List ℕ) → refuses (tree_of content) (Ok (command.Write path from value)) ≡ false → (length value == 0) ≡ false
      → ((file : PlainNode) → to_file (tree_of content) path ≡ Ok file → most_zeros < from / v.header.block_size - blocks_for v.header.block_size (length file.bytes))
      → most_zeros < zero_blocks (volume_of content).head.block_size (tree_of content) (command.Write path from value)
  many_of_write from value fine none low =
      let it = file_of_write (tree_of content) path from value fine in
      subst (λ b. most_zeros < zero_blocks b (tree_of content) (command.Write path from value)) (sym block_is)
      (subst (λ n. most_zeros < n) (sym (zeros_of_write (tree_of content) path v.header.block_size some it.0 it.1 from value none)) (low it.0 it.1))

  pub many_of_trunc : (size : ℕ) → refuses (tree_of content) (Ok (command.Trunc path size)) ≡ false
      → ((file : PlainNode) → to_file (tree_of content) path ≡ Ok file → most_zeros < blocks_for v.header.block_size size - blocks_for v.header.block_size (length file.bytes))
      → most_zeros < zero_blocks (volume_of content).head.block_size (tree_of content) (command.Trunc path size)
  many_of_trunc size fine low =
      let it = file_of_trunc (tree_of content) path size fine in
      subst (λ b. most_zeros < zero_blocks b (tree_of content) (command.Trunc path size)) (sym block_is)
      (subst (λ n. most_zeros < n) (sym (zeros_of_trunc (tree_of content) path v.header.block_size some it.0 it.1 size (low it.0 it.1))) (low it.0 it.1))

-- ---- no more are left than one step fills

-- a value that its step doesn't refuse ends by 2^40
pub end_of_write : (tree : PlainTree) (path : List (List ℕ)) (from : ℕ) (value : List ℕ) → refuses tree (Ok (command.Write path from value)) ≡ false → from + length value ≤ most_size
end_of_write tree path from value fine = by (to_file tree path) (step_fine tree (command.Write path from value) fine)
  where
    by_size : (b c : Bool) (file : PlainNode) → nat_lt most_size (from + length value) ≡ b → is_refusal (on tree (unless (b || c) refusal.TooLarge file) (λ f. (reply.Ok, written f from value tree))).0 ≡ false → from + length value ≤ most_size
    by_size true c file is fine_ = absurd (true≢false fine_)
    by_size false c file is fine_ = ltb-false most_size (from + length value) is

    by : (r : Result PlainNode Refusal) → is_refusal (on tree (then_ r (unless (nat_lt most_size (from + length value) || nat_lt most_bytes (length value)) refusal.TooLarge)) (λ file. (reply.Ok, written file from value tree))).0 ≡ false → from + length value ≤ most_size
    by (Ok file) is = by_size (nat_lt most_size (from + length value)) (nat_lt most_bytes (length value)) file refl is
    by (Err why) is = absurd (true≢false is)

module _ (v : Volume) (content : Content) (settled : IsSettled v content) (some : 0 < v.header.block_size) (path : List (List ℕ)) (file : PlainNode) (found : to_file (tree_of content) path ≡ Ok file) (filling : Option Filling) where
  head_block : (volume_of content).head.block_size ≡ v.header.block_size
  head_block = ap (λ (l : VolumeState). l.head.block_size) settled.lists

  pub few_of_write : (from : ℕ) (value : List ℕ) (end : ℕ) → (length value == 0) ≡ false → end ≡ from + length value
      → from / v.header.block_size - blocks_for v.header.block_size (length file.bytes) ≤ done_of filling file.id (length file.bytes) (max (length file.bytes) end) + most_zeros → HasFewLeft (command.Write path from value) filling content
  few_of_write from value end none last left = subst (λ (d : Option Data). AreFewLeft (zero_blocks (volume_of content).head.block_size (tree_of content) (command.Write path from value)) d filling) (sym data_is)
      (subst (λ (k : ℕ × ℕ). k.0 ≤ done_of filling file.id (length file.bytes) k.1 + most_zeros)
      {x = (from / v.header.block_size - blocks_for v.header.block_size (length file.bytes), max (length file.bytes) end)} {y = (zero_blocks (volume_of content).head.block_size (tree_of content) (command.Write path from value), size_written (length file.bytes) from (length value))}
      (λ i. (zeros_are i, size_is i)) left)
    where
      data_is : data_of (tree_of content) (command.Write path from value) ≡ Some (record { id = file.id; old_size = length file.bytes; new_size = size_written (length file.bytes) from (length value); from = from; end = from + length value })
      data_is = ap (written_data from (length value)) found
          ∙ ap (λ b. if b then None else Some (record { id = file.id; old_size = length file.bytes; new_size = size_written (length file.bytes) from (length value); from = from; end = from + length value })) none

      zeros_are : from / v.header.block_size - blocks_for v.header.block_size (length file.bytes) ≡ zero_blocks (volume_of content).head.block_size (tree_of content) (command.Write path from value)
      zeros_are = sym (ap (λ b. zero_blocks b (tree_of content) (command.Write path from value)) head_block ∙ zeros_of_write (tree_of content) path v.header.block_size some file found from value none)

      size_is : max (length file.bytes) end ≡ size_written (length file.bytes) from (length value)
      size_is = ap (max (length file.bytes)) last ∙ sym (size_grown (length file.bytes) from (length value) none)

  -- a `write` of no byte puts none
  pub few_of_nothing : (from : ℕ) (value : List ℕ) → (length value == 0) ≡ true → HasFewLeft (command.Write path from value) filling content
  few_of_nothing from value none = subst (λ (d : Option Data). AreFewLeft (zero_blocks (volume_of content).head.block_size (tree_of content) (command.Write path from value)) d filling) (sym data_is) tt
    where
      data_is : data_of (tree_of content) (command.Write path from value) ≡ None
      data_is = ap (written_data from (length value)) found
          ∙ ap (λ b. if b then None else Some (record { id = file.id; old_size = length file.bytes; new_size = size_written (length file.bytes) from (length value); from = from; end = from + length value })) none

  pub few_of_trunc : (size : ℕ) → length file.bytes < size → blocks_for v.header.block_size size - blocks_for v.header.block_size (length file.bytes) ≤ done_of filling file.id (length file.bytes) (max (length file.bytes) size) + most_zeros
      → HasFewLeft (command.Trunc path size) filling content
  few_of_trunc size longer_ left = subst (λ (d : Option Data). AreFewLeft (zero_blocks (volume_of content).head.block_size (tree_of content) (command.Trunc path size)) d filling) (sym data_is)
      (subst (λ (k : ℕ × ℕ). k.0 ≤ done_of filling file.id (length file.bytes) k.1 + most_zeros)
      {x = (blocks_for v.header.block_size size - blocks_for v.header.block_size (length file.bytes), max (length file.bytes) size)} {y = (zero_blocks (volume_of content).head.block_size (tree_of content) (command.Trunc path size), size)}
      (λ i. (zeros_are i, size_is i)) left)
    where
      data_is : data_of (tree_of content) (command.Trunc path size) ≡ Some (record { id = file.id; old_size = length file.bytes; new_size = size; from = length file.bytes; end = size })
      data_is = ap (grown_data size) found ∙ ap (λ b. if b then Some (record { id = file.id; old_size = length file.bytes; new_size = size; from = length file.bytes; end = size }) else None) (lt-ltb (length file.bytes) size longer_)

      zeros_are : blocks_for v.header.block_size size - blocks_for v.header.block_size (length file.bytes) ≡ zero_blocks (volume_of content).head.block_size (tree_of content) (command.Trunc path size)
      zeros_are = sym (ap (λ b. zero_blocks b (tree_of content) (command.Trunc path size)) head_block ∙ zeros_of_longer (tree_of content) path v.header.block_size some file found size longer_)

      size_is : max (length file.bytes) size ≡ size
      size_is = omega (arith, longer_)

  -- nor does a `trunc` that makes the file no longer
  pub few_of_shorter : (size : ℕ) → size ≤ length file.bytes → HasFewLeft (command.Trunc path size) filling content
  few_of_shorter size short = subst (λ (d : Option Data). AreFewLeft (zero_blocks (volume_of content).head.block_size (tree_of content) (command.Trunc path size)) d filling) (sym data_is) tt
    where
      data_is : data_of (tree_of content) (command.Trunc path size) ≡ None
      data_is = ap (grown_data size) found ∙ ap (λ b. if b then Some (record { id = file.id; old_size = length file.bytes; new_size = size; from = length file.bytes; end = size }) else None) (le-ltb (length file.bytes) size short)

-- ---- the blocks that are filled lie before the first byte that is new

pub place_of_write : (from block : ℕ) → 0 < block → from / block ≤ blocks_for block (from + 1)
place_of_write from block some = before (from / block) (blocks_for block (from + 1)) (div_below from block (blocks_for block (from + 1)) some (next from (blocks_for block (from + 1) * block) (blocks_hold block (from + 1) some)))
  where
    next : (n m : ℕ) → n + 1 ≤ m → n < m
    next n m less = omega (arith, less)

    before : (n m : ℕ) → n < m → n ≤ m
    before n m less = omega (arith, less)

pub place_of_trunc : (size block : ℕ) → blocks_for block size ≤ blocks_for block (size - 1 + 1)
place_of_trunc size block = ⊎_elim
    (λ (long : 0 < size). subst (λ n. blocks_for block size ≤ blocks_for block n) (let same : size ≡ size - 1 + 1 = omega (arith, long) in same) (least (blocks_for block size)))
    (λ (none : size ≤ 0). subst (λ n. blocks_for block n ≤ blocks_for block (n - 1 + 1)) (let same : 0 ≡ size = omega (arith, none) in same) (from_none (blocks_for block (0 - 1 + 1))))
    (cases_lt 0 size)
  where
    least : (n : ℕ) → n ≤ n
    least n = omega arith

    from_none : (n : ℕ) → 0 ≤ n
    from_none n = omega arith
