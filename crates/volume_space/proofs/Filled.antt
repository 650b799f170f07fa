-- Blocks that are filled ahead of a growth, and what a put of data has of them.
use Rattle.std.proofs.Common.{◌≡◌, ◌⊎◌, inl, inr, ◌<◌, ◌≤◌, ℕ, zero, suc, ◌+◌, ◌-◌, ◌*◌, ◌/◌, ◌&&◌, ◌==◌, min, max, Bool, true, false, List, length, get_or, refl, sym, ◌∙◌, ap, subst, arith, ⊎_elim}
use Rattle.std.specs.Prelude.{All, Contains, Err, IfOk, IsTrue, None, Ok, OnOk, Option, Result, Some, if◌then◌else◌, slice_get, take}
use Rattle.std.proofs.Math.Nat.{mul-le-mul_right}
use Rattle.std.proofs.lemmas.Bool.{cases_lt, eq-eqb, eqb-true, true≢false}
use Rattle.std.proofs.lemmas.Option.{get_or_from_slice_get, slice_get-get_or, slice_get_within}
use Rattle.hx_bytes.specs.declared.extents.Extent.{Extent}
use Rattle.hx_bytes.specs.declared.faults.Trouble.{Trouble}
use Rattle.fork_map.specs.Blocks.{blocks_of, sectors_of}
use Rattle.flag_rows.specs.Bits.{count_set}
use Rattle.alloc_bitmap.specs.Apart.{AreApart}
use Rattle.alloc_bitmap.specs.Map.{PicksFree, free_of}
use Rattle.alloc_bitmap.proofs.TakeLaws.{picks_chosen}
use Rattle.sector_disk.specs.Lists.{Content, sector}
use Rattle.sector_disk.specs.Clock.{TimePasses}
use Rattle.sector_disk.specs.Space.{AgreesOutside, LeavesDurable, SameRoom, SameSpace, Space}
use Rattle.file_io.specs.Bytes.{HoldZeros, padded, sector_bytes, sectors_in}
use Rattle.file_io.specs.Places.{KeepsMap, blocks_for, first_block, fresh_of, new_blocks, old_end, zeros_at}
use Rattle.file_io.specs.Touching.{IsOneOf, MaySpill, SpillsIn}
use Rattle.file_io.proofs.ByteLaws.{length-sectors_of}
use Rattle.file_io.proofs.PlaceLaws.{blocks_hold, blocks_least, first_of, free_may_spill}
use Rattle.file_io.proofs.ZeroLaws.{zeros_before}
use Rattle.volume_header.specs.declared.header.VolumeHeader.{VolumeHeader}
use Rattle.hfs_volume.specs.Aside.{IsFreeSector, IsJournalSector}
use Rattle.hfs_volume.specs.Content.{VolumeState, is_set, records_of, volume_of}
use Rattle.hfs_volume.specs.Forks.{per_block_of}
use Rattle.hfs_volume.specs.Links.{private_id}
use Rattle.hfs_volume.specs.Reclaim.{FillsZeros, FreeIsFilled}
use Rattle.hfs_volume.proofs.Flat.{some_same}
use Rattle.hfs_volume.proofs.Members.{all_of, each_of}
use Rattle.hfs_volume.proofs.Sectors.{in_block}
use Rattle.volume_base.specs.Lists.{lists_of}
use Rattle.volume_base.specs.Frame.{Serves}
use Rattle.volume_base.specs.Service.{IsInService}
use Rattle.volume_base.specs.Standing.{IsSettled, IsStanding, StandsOver, own_sectors, with_attributes_tree}
use Rattle.volume_base.specs.Touching.{Touches}
use Rattle.volume_base.specs.declared.volume.Filling.{Filling}
use Rattle.volume_base.specs.declared.volume.Volume.{Volume}
use Rattle.volume_base.proofs.Extending.{head_kept}
use Rattle.volume_base.specs.Holding.{IsLaidOutAs, HoldsOn}
use Rattle.volume_space.specs.Zeroing.{HasFilled, IsInHand, IsSureToFill, blocks_taken, done_of, is_growth_of, is_in_hand}
use Rattle.volume_space.specs.declared.zeroing.Zeros.{Zeros}
use Rattle.volume_space.specs.declared.zeroing.Zeros.TheVariants as zeros
use Rattle.volume_space.proofs.Sounding.{sound_here}
use Rattle.volume_space.proofs.Spilled.{fresh_free, lists_spilled, may_spill, service_spilled, spilled_per, stands_spilled, touches_spilled}
use Rattle.volume_space.proofs.SpilledBits.{fresh_are}

-- ---- numbers

both_products : (a b p : ℕ) → (a + b) * p ≡ a * p + b * p
both_products a b p = omega arith

some_left : (n p m : ℕ) → m < n * p → 0 < n
some_left zero p m low = absurd (omega (arith, low))
some_left (suc n) p m low = omega arith

left_over : (last old first stop done : ℕ) → first ≤ old → stop ≤ last → done + 1024 < stop - old → min last old - first + done + 1024 ≤ last - first
left_over last old first stop done front up many = omega (arith, front, up, many)

-- where a growth has more zero blocks than one step fills, what is new lies past the old size, and so many more of its blocks are left
pub more_left : (block old from end stop done : ℕ) → 0 < block → from < end → stop ≤ blocks_for block (from + 1) → done + 1024 < stop - blocks_for block old
    → (old ≤ from) × (zeros_at block old old end + done + 1024 ≤ new_blocks block old old end)
more_left block old from end stop done some order place many =
    let last : from + 1 ≤ blocks_for block end * block = omega (arith, order, blocks_hold block end some) in
    let up : stop ≤ blocks_for block end = omega (arith, place, blocks_least block (from + 1) (blocks_for block end) some last) in
    let front : first_block block old old ≤ blocks_for block old = first_of block old old old some (omega arith) in (
      ⊎_elim
          (λ (less : from < old).
          let held : from + 1 ≤ blocks_for block old * block = omega (arith, less, blocks_hold block old some) in
          absurd (omega (arith, many, place, blocks_least block (from + 1) (blocks_for block old) some held)))
          (λ (it : old ≤ from). it)
          (cases_lt from old),
      left_over (blocks_for block end) (blocks_for block old) (first_block block old old) stop done front up many,
    )

-- ---- the next blocks

-- the blocks that held zeros hold them still, and so many more do
pub zeros_more : (before after : Content) (p place done count : ℕ) (bs : List ℕ) → place + done + count ≤ length bs → HoldZeros before (sectors_of p bs) (place * p) (done * p)
    → ((n : ℕ) → (n < (place + done) * p) ⊎ ((place + done + count) * p ≤ n) → n < length (sectors_of p bs) → sector after (get_or (sectors_of p bs) n 0) ≡ sector before (get_or (sectors_of p bs) n 0))
    → HoldZeros after (sectors_of p bs) ((place + done) * p) (count * p) → HoldZeros after (sectors_of p bs) (place * p) ((done + count) * p)
unfolding sector_bytes
zeros_more before after p place done count bs within old others new m k low below =
    let sum : (place + done) * p ≡ place * p + done * p = both_products place done p in
    let more : (done + count) * p ≡ done * p + count * p = both_products done count p in
    let front : place + done ≤ length bs = omega (arith, within) in
    let inside : (place + done) * p ≤ length bs * p = mul-le-mul_right p front in
    ⊎_elim
    (λ (few : m < done * p).
    ap (λ (l : List ℕ). get_or (take 512 (padded 512 l)) k 0) (others (place * p + m) (inl (omega (arith, few, sum))) (omega (arith, few, sum, inside, length-sectors_of p bs))) ∙ old m k few below)
    (λ (many : done * p ≤ m).
    subst (λ n. get_or (sector_bytes after (get_or (sectors_of p bs) n 0)) k 0 ≡ 0) (let there : (place + done) * p + (m - done * p) ≡ place * p + m = omega (arith, sum, many) in there) (new (m - done * p) k (omega (arith, low, more, many)) below))
    (cases_lt m (done * p))

module _ (v : Volume) (it : Filling) (a : Space) (over : StandsOver v a) (settled : IsTrue a.tells → IsSettled v a.content) (shut : IsTrue a.tells → (at : ℕ) → a.closed at → IsJournalSector a.content at) (hand : IsInHand v it a) (sure : IsSureToFill v a) where
  some_per : 0 < v.header.block_size / 512
  some_per = omega (arith, sure.block.least)

  picks : PicksFree (free_of v.map) (blocks_taken v it) (fresh_of v.map (blocks_taken v it))
  picks = picks_chosen (free_of v.map) (blocks_taken v it) hand.enough

  blocks_same : blocks_of it.blocks ≡ blocks_of (fresh_of v.map (blocks_taken v it))
  blocks_same = ap (λ (l : List Extent). blocks_of l) hand.blocks

  pub hand_apart : AreApart (blocks_of it.blocks)
  hand_apart = subst (λ (l : List ℕ). AreApart l) (sym blocks_same) picks.apart

  pub hand_many : length (blocks_of it.blocks) ≡ blocks_taken v it
  hand_many = ap (λ (l : List ℕ). length l) blocks_same ∙ picks.count

  pub hand_may : (n s : ℕ) → slice_get (sectors_in v.header.block_size it.blocks) n ≡ Some s → MaySpill a s
  hand_may n s is =
      free_may_spill a (v.header.block_size / 512) (free_of v.map) (blocks_of it.blocks) some_per (subst (λ (l : List ℕ). All (λ b. get_or (free_of v.map) b false ≡ true) l) (sym blocks_same) picks.each)
      (may_spill v a over settled shut some_per sure.fits sure.header) s (n, is)

  pub hand_inside : All (λ s. s < a.sectors) (sectors_in v.header.block_size it.blocks)
  hand_inside k d low = (hand_may k (get_or (sectors_in v.header.block_size it.blocks) k d) (slice_get-get_or (sectors_in v.header.block_size it.blocks) k d low)).inside

  pub hand_touched : (b : Space) → SpillsIn (IsOneOf (sectors_in v.header.block_size it.blocks)) a b → SpillsIn (IsOneOf (sectors_of (v.header.block_size / 512) (blocks_of (fresh_of v.map (blocks_taken v it))))) a b
  hand_touched b spills = subst (λ (l : List ℕ). SpillsIn (IsOneOf (sectors_of (v.header.block_size / 512) l)) a b) blocks_same spills

-- ---- the content

-- a sector of a block that a bitmap has free is a free one of the content
pub free_sector : (v : Volume) (a : Space) → IsStanding v a → IsSettled v a.content → (n : ℕ) → n ≤ count_set (free_of v.map) → 0 < v.header.block_size / 512 → (s : ℕ)
    → IsOneOf (sectors_of (v.header.block_size / 512) (blocks_of (fresh_of v.map n))) s → IsFreeSector a.content s
free_sector v a was settled n enough some s is =
    let sectors : List ℕ = sectors_of (v.header.block_size / 512) (blocks_of (fresh_of v.map n)) in
    let has : Contains (blocks_of (fresh_of v.map n)) (s / (v.header.block_size / 512)) =
    in_block (v.header.block_size / 512) (blocks_of (fresh_of v.map n)) s some (is.0, slice_get_within sectors is.0 s is.1, get_or_from_slice_get sectors is.0 s s is.1) in
    let free = fresh_free v.map n enough (s / (v.header.block_size / 512)) has in
    subst (λ (h : VolumeHeader). (s / per_block_of h < h.total_blocks) × (is_set (volume_of a.content) (s / per_block_of h) ≡ false)) (head_kept v a.content settled) (
      omega (arith, free.0, was.blocks),
      each_of (λ (block : ℕ). is_set (volume_of a.content) block ≡ false) (blocks_of (fresh_of v.map n)) (fresh_are v a was settled n enough).free (s / (v.header.block_size / 512)) has,
    )

pub fills_zeros : FreeIsFilled → (v : Volume) (a b : Space) → IsStanding v a → IsSettled v a.content → (n : ℕ) → n ≤ count_set (free_of v.map) → 0 < v.header.block_size / 512
    → SpillsIn (IsOneOf (sectors_of (v.header.block_size / 512) (blocks_of (fresh_of v.map n)))) a b → FillsZeros a.content b.content
fills_zeros law v a b was settled n enough some spills = law a.content b.content (sound_here v a was settled) agrees
  where
    agrees : AgreesOutside (IsFreeSector a.content) a.content b.content
    agrees = record { size = spills.content.size; each = λ s. ⊎_elim (λ same. inl same) (λ is. inr (free_sector v a was settled n enough some s is)) (spills.content.each s) }

-- the volume has what the content has then
pub settled_filled : (v : Volume) (old new : Content) → IsSettled v old → FillsZeros old new → lists_of v new ≡ lists_of v old → IsSettled v new
settled_filled v old new was fills same = record {
  blocks = was.blocks;
  lists = fills.volume ∙ was.lists ∙ (λ i. with_attributes_tree (sym same i) (sym fills.volume i));
  attributes = λ has. ap (λ (l : VolumeState). l.attributes_tree) fills.volume ∙ was.attributes has;
  sound = fills.keeps.sound.volume;
  private = was.private ∙ ap (λ (l : VolumeState). private_id (records_of l)) (sym fills.volume);
}

-- ---- behind a fill

module _ (v : Volume) (it : Filling) (a b : Space) (over : StandsOver v a) (settled : IsTrue a.tells → IsSettled v a.content) (shut : IsTrue a.tells → (at : ℕ) → a.closed at → IsJournalSector a.content at) (hand : IsInHand v it a) (sure : IsSureToFill v a)
    (same : SameSpace a b) (spills : IsTrue a.tells → SpillsIn (IsOneOf (sectors_in v.header.block_size it.blocks)) a b)
  where
    keeps_map : KeepsMap v.map v.map
    keeps_map = record { fork = refl; per_block = refl; used = refl; changed = refl }

    touched : IsTrue a.tells → SpillsIn (IsOneOf (sectors_of (v.header.block_size / 512) (blocks_of (fresh_of v.map (blocks_taken v it))))) a b
    touched tells = hand_touched v it a over settled shut hand sure b (spills tells)

    pub service_then : IsInService v b
    service_then = service_spilled v a b v.map keeps_map same.sectors over.service

    pub touches_then : (committed : Content) → HoldsOn committed v → IsLaidOutAs committed v → SameRoom a b → a.faults ≤ b.faults → (IsTrue a.tells → TimePasses a.clock b.clock (LeavesDurable b)) → Touches committed (λ s. Contains (own_sectors v) s) a b
    touches_then committed holds alike room later time =
        touches_spilled committed (λ s. Contains (own_sectors v) s) v a b holds alike (some_per v it a over settled shut hand sure) (blocks_taken v it) hand.enough touched same room later time

    pub fills_then : FreeIsFilled → IsTrue a.tells → FillsZeros a.content b.content
    fills_then law tells = fills_zeros law v a b (over.stands tells) (settled tells) (blocks_taken v it) hand.enough (some_per v it a over settled shut hand sure) (touched tells)

    module _ (law : FreeIsFilled) (sizes : IsTrue a.tells → (at : ℕ) → (sector b.content at ≡ sector a.content at) ⊎ (length (sector b.content at) ≡ 512)) where
      standing_then : IsTrue a.tells → IsStanding v b
      standing_then tells =
          let was = over.stands tells in
          stands_spilled v a b was (settled tells) (blocks_of (fresh_of v.map (blocks_taken v it))) (fresh_free v.map (blocks_taken v it) hand.enough) (spilled_per v a b was (blocks_of (fresh_of v.map (blocks_taken v it))) (touched tells)) (sizes tells) v.map keeps_map

      lists_then : IsTrue a.tells → lists_of v b.content ≡ lists_of v a.content
      lists_then tells =
          let was = over.stands tells in
          lists_spilled v a b was (settled tells) (blocks_of (fresh_of v.map (blocks_taken v it))) (fresh_free v.map (blocks_taken v it) hand.enough) (spilled_per v a b was (blocks_of (fresh_of v.map (blocks_taken v it))) (touched tells)) (sizes tells) v.map keeps_map

      pub serves_then : Serves v b
      serves_then = record {
        stands = record { service = service_then; stands = λ told. standing_then (sym same.tells ∙ told) };
        settled = λ told. let tells = sym same.tells ∙ told in settled_filled v a.content b.content (settled tells) (fills_then law tells) (lists_then tells);
      }

    -- the growth in hand then
    pub filled_then : (next : Filling) → next ≡ record it { done = it.done + 1024 }
        → (IsTrue a.tells → HoldZeros b.content (sectors_in v.header.block_size it.blocks) (it.place * (v.header.block_size / 512)) ((it.done + 1024) * (v.header.block_size / 512))) → HasFilled (record v { filling = Some next }) b
    filled_then next is zeros other stands = subst (λ (f : Filling). IsInHand (record v { filling = Some next }) f b) (sym is ∙ some_same next other stands)
        (record { blocks = hand.blocks; enough = hand.enough; place = hand.place; zeros = λ told. zeros (sym same.tells ∙ told) })

-- the growth that was in hand, of a volume that has none in hand any more
pub hand_with : (v : Volume) (f : Option Filling) (it : Filling) (a : Space) → IsInHand v it a → IsInHand (record v { filling = f }) it a
hand_with v f it a was = record { blocks = was.blocks; enough = was.enough; place = was.place; zeros = was.zeros }

none_zeroed : (content : Content) (sectors : List ℕ) (place zeroed p : ℕ) → zeroed ≡ 0 → HoldZeros content sectors place (zeroed * p)
none_zeroed content sectors place zeroed p none m k low below = absurd (omega (arith, some_left zeroed p m low, none))

-- a growth that begins
pub picked : (v : Volume) (a : Space) (f : Filling) (old end : ℕ) → f.blocks ≡ fresh_of v.map (new_blocks v.header.block_size old old end) → new_blocks v.header.block_size old old end ≤ count_set (free_of v.map)
    → f.place ≡ zeros_at v.header.block_size old old end → f.old_size ≡ old → f.new_size ≡ end → f.done ≡ 0 → IsInHand v f a
picked v a f old end blocks enough place old_is end_is none =
    let many : blocks_taken v f ≡ new_blocks v.header.block_size old old end = λ i. new_blocks v.header.block_size (old_is i) (old_is i) (end_is i) in
    record {
      blocks = blocks ∙ sym (ap (λ n. fresh_of v.map n) many);
      enough = omega (arith, many, enough);
      place = place ∙ sym (λ i. zeros_at v.header.block_size (old_is i) (old_is i) (end_is i));
      zeros = λ tells. none_zeroed a.content (sectors_in v.header.block_size f.blocks) (f.place * (v.header.block_size / 512)) f.done (v.header.block_size / 512) none;
    }

left_more : (p z d b n : ℕ) → p ≡ z → d ≡ 0 → b ≡ n → z + 1024 ≤ n → p + d + 1024 ≤ b
left_more p z d b n same none many within = omega (arith, same, none, many, within)

pub picked_left : (v : Volume) (f : Filling) (old end : ℕ) → f.place ≡ zeros_at v.header.block_size old old end → f.old_size ≡ old → f.new_size ≡ end → f.done ≡ 0
    → zeros_at v.header.block_size old old end + 1024 ≤ new_blocks v.header.block_size old old end → f.place + f.done + 1024 ≤ blocks_taken v f
picked_left v f old end place old_is end_is none within =
    left_more f.place (zeros_at v.header.block_size old old end) f.done (blocks_taken v f) (new_blocks v.header.block_size old old end) place none (λ i. new_blocks v.header.block_size (old_is i) (old_is i) (end_is i)) within

-- of a growth that is in hand so many blocks are left
pub hand_left : (v : Volume) (it : Filling) (a : Space) (old end : ℕ) → IsInHand v it a → it.old_size ≡ old → it.new_size ≡ end → zeros_at v.header.block_size old old end + it.done + 1024 ≤ new_blocks v.header.block_size old old end
    → it.place + it.done + 1024 ≤ blocks_taken v it
hand_left v it a old end hand old_is end_is within =
    more_than it.place (zeros_at v.header.block_size old old end) it.done (blocks_taken v it) (new_blocks v.header.block_size old old end) (hand.place ∙ (λ i. zeros_at v.header.block_size (old_is i) (old_is i) (end_is i))) (λ i. new_blocks v.header.block_size (old_is i) (old_is i) (end_is i)) within
  where
    more_than : (p z d b n : ℕ) → p ≡ z → b ≡ n → z + d + 1024 ≤ n → p + d + 1024 ≤ b
    more_than p z d b n same many left = omega (arith, same, many, left)

both_true : (a b : Bool) → (a && b) ≡ true → (a ≡ true) × (b ≡ true)
both_true true b is = (refl, is)
both_true false b is = absurd (true≢false (sym is))

pub growth_is : (it : Filling) (id old new : ℕ) → is_growth_of it id old new ≡ true → (it.old_size ≡ old) × (it.new_size ≡ new)
growth_is it id old new is =
    let sizes = both_true (it.old_size == old) (it.new_size == new) (both_true (it.id == id) ((it.old_size == old) && (it.new_size == new)) is).1 in
    (eqb-true it.old_size old sizes.0, eqb-true it.new_size new sizes.1)

-- how many blocks are left of a growth that has more zero blocks than one step fills
pub left_in_hand : (v : Volume) (a : Space) (f : Filling) (id old from end stop all so_far new : ℕ) → 0 < v.header.block_size → IsInHand v f a → v.filling ≡ Some f → is_growth_of f id old new ≡ true → new ≡ max old end
    → stop ≤ blocks_for v.header.block_size (from + 1) → (0 < all → (from < end) × (all ≡ stop - blocks_for v.header.block_size old)) → so_far ≡ done_of v.filling id old new → so_far + 1024 < all → f.place + f.done + 1024 ≤ blocks_taken v f
left_in_hand v a f id old from end stop all so_far new some hand same growth new_is place zeros done many =
    let is = zeros (omega (arith, many)) in
    let so : so_far ≡ f.done = done ∙ ap (λ (o : Option Filling). done_of o id old new) same ∙ ap (λ (b : Bool). if b then f.done else 0) growth in
    let sizes = growth_is f id old new growth in
    let left = more_left v.header.block_size old from end stop f.done some is.0 place (fewer so_far f.done all (stop - blocks_for v.header.block_size old) so is.1 many) in
    hand_left v f a old end hand sizes.0 (sizes.1 ∙ new_is ∙ (let last : max old end ≡ end = omega (arith, left.0, is.0) in last)) left.1
  where
    fewer : (m n all rest : ℕ) → m ≡ n → all ≡ rest → m + 1024 < all → n + 1024 < rest
    fewer m n all rest same is more = omega (arith, same, is, more)

pub left_at_first : (block old from end stop all so_far : ℕ) → 0 < block → stop ≤ blocks_for block (from + 1) → (0 < all → (from < end) × (all ≡ stop - blocks_for block old)) → so_far + 1024 < all
    → (old ≤ from) × (from < end) × (zeros_at block old old end + 1024 ≤ new_blocks block old old end)
left_at_first block old from end stop all so_far some place zeros many =
    let is = zeros (omega (arith, many)) in
    let left = more_left block old from end stop so_far some is.0 place (fewer all (stop - blocks_for block old) is.1 many) in
    (left.0, is.0, less (zeros_at block old old end) (new_blocks block old old end) left.1)
  where
    fewer : (m k : ℕ) → m ≡ k → so_far + 1024 < m → so_far + 1024 < k
    fewer m k same more = omega (arith, same, more)

    less : (z k : ℕ) → z + so_far + 1024 ≤ k → z + 1024 ≤ k
    less z k left = omega (arith, left)

-- ---- what was done

pub none_done : (o : Option Filling) (id old new : ℕ) → is_in_hand o id old new ≡ false → done_of o id old new ≡ 0
none_done None id old new none = refl
none_done (Some it) id old new none = ap (λ (b : Bool). if b then it.done else 0) none

pub begun_done : (f : Filling) (id old end : ℕ) (w : Volume) (q : Result Zeros Trouble) → f.id ≡ id → f.old_size ≡ old → f.new_size ≡ end → f.done ≡ 0 → OnOk q (w.filling ≡ Some (record f { done = f.done + 1024 }))
    → IfOk q (λ came. came ≡ zeros.Filled → done_of w.filling id old end ≡ 1024)
begun_done f id old end w (Ok x) number old_is end_is none next =
    λ (so : x ≡ zeros.Filled).
    let growth : is_growth_of f id old end ≡ true = (λ i. eq-eqb f.id id number i && (eq-eqb f.old_size old old_is i && eq-eqb f.new_size end end_is i)) in
    ap (λ (o : Option Filling). done_of o id old end) next ∙ ap (λ (b : Bool). if b then f.done + 1024 else 0) growth ∙ (let many : f.done + 1024 ≡ 1024 = omega (arith, none) in many)
begun_done f id old end w (Err why) number old_is end_is none next = tt

pub first_done : (v w : Volume) (id old end new : ℕ) (q : Result Zeros Trouble) → new ≡ end → is_in_hand v.filling id old new ≡ false → IfOk q (λ came. came ≡ zeros.Filled → done_of w.filling id old end ≡ 1024)
    → IfOk q (λ came. came ≡ zeros.Filled → done_of w.filling id old new ≡ done_of v.filling id old new + 1024)
first_done v w id old end new (Ok x) same none next =
    λ (so : x ≡ zeros.Filled).
    ap (λ n. done_of w.filling id old n) same ∙ next so ∙ sym (ap (λ n. n + 1024) (none_done v.filling id old new none))
first_done v w id old end new (Err why) same none next = tt

-- ---- what a put of data has of it

zeros_in_hand : (v : Volume) (a : Space) (it : Filling) → IsInHand v it a → (size from long zeroed : ℕ) → 0 < v.header.block_size → it.old_size ≡ size → it.new_size ≡ max size (from + long) → zeroed ≤ it.done
    → zeroed ≤ from / v.header.block_size - blocks_for v.header.block_size size → IsTrue a.tells
    → HoldZeros a.content (sectors_in v.header.block_size (fresh_of v.map (new_blocks v.header.block_size size from (from + long)))) (zeros_at v.header.block_size size from (from + long) * (v.header.block_size / 512)) (zeroed * (v.header.block_size / 512))
zeros_in_hand v a it hand size from long zeroed some old new few gap tells m k low below =
    let block : ℕ = v.header.block_size in
    let p : ℕ = v.header.block_size / 512 in
    let more : 0 < zeroed = some_left zeroed p m low in
    let wide : blocks_for block size * block ≤ (blocks_for block size + zeroed) * block = mul-le-mul_right block (omega arith) in
    let past : size ≤ from = omega (arith, wide, zeros_before block size from zeroed more gap, blocks_hold block size some) in
    let last : it.new_size ≡ from + long = omega (arith, new, past) in
    let first : min it.old_size it.old_size ≡ min from size = omega (arith, old, past) in
    let many : blocks_taken v it ≡ new_blocks block size from (from + long) = λ i. blocks_for block (last i) - first i / block in
    let blocks : it.blocks ≡ fresh_of v.map (new_blocks block size from (from + long)) = hand.blocks ∙ ap (λ n. fresh_of v.map n) many in
    let place : it.place ≡ zeros_at block size from (from + long) = hand.place ∙ (λ i. min (blocks_for block (last i)) (blocks_for block (old i)) - first i / block) in
    let inside : zeroed * p ≤ it.done * p = mul-le-mul_right p few in
    subst (λ (q : List Extent × ℕ). get_or (sector_bytes a.content (get_or (sectors_in v.header.block_size q.0) (q.1 * (v.header.block_size / 512) + m) 0)) k 0 ≡ 0)
    {x = (it.blocks, it.place)} {y = (fresh_of v.map (new_blocks v.header.block_size size from (from + long)), zeros_at v.header.block_size size from (from + long))} (λ i. (blocks i, place i)) (hand.zeros tells m k (omega (arith, low, inside)) below)

-- of the zero blocks of a put of data so many hold zeros as were filled of the growth in hand
pub zeros_taken : (v : Volume) (a : Space) → HasFilled v a → (id size from long zeroed : ℕ) → 0 < v.header.block_size
    → zeroed ≡ min (done_of v.filling id size (max size (from + long))) (from / v.header.block_size - blocks_for v.header.block_size size) → IsTrue a.tells
    → HoldZeros a.content (sectors_in v.header.block_size (fresh_of v.map (new_blocks v.header.block_size size from (from + long)))) (zeros_at v.header.block_size size from (from + long) * (v.header.block_size / 512)) (zeroed * (v.header.block_size / 512))
zeros_taken v a filled id size from long zeroed some is tells = by v.filling refl
  where
    of_growth : (it : Filling) → v.filling ≡ Some it → (g : Bool) → is_growth_of it id size (max size (from + long)) ≡ g → zeroed ≡ min (if g then it.done else 0) (from / v.header.block_size - blocks_for v.header.block_size size)
        → HoldZeros a.content (sectors_in v.header.block_size (fresh_of v.map (new_blocks v.header.block_size size from (from + long)))) (zeros_at v.header.block_size size from (from + long) * (v.header.block_size / 512)) (zeroed * (v.header.block_size / 512))
    of_growth it same true growth many =
        let sizes = growth_is it id size (max size (from + long)) growth in
        zeros_in_hand v a it (filled it same) size from long zeroed some sizes.0 sizes.1 (omega (arith, many)) (omega (arith, many)) tells
    of_growth it same false growth many = none_zeroed a.content _ _ zeroed (v.header.block_size / 512) (omega (arith, many))

    by : (o : Option Filling) → v.filling ≡ o
        → HoldZeros a.content (sectors_in v.header.block_size (fresh_of v.map (new_blocks v.header.block_size size from (from + long)))) (zeros_at v.header.block_size size from (from + long) * (v.header.block_size / 512)) (zeroed * (v.header.block_size / 512))
    by None same = none_zeroed a.content _ _ zeroed (v.header.block_size / 512) (let none : zeroed ≡ min 0 (from / v.header.block_size - blocks_for v.header.block_size size) = is ∙ ap (λ (o : Option Filling). min (done_of o id size (max size (from + long))) (from / v.header.block_size - blocks_for v.header.block_size size)) same in omega (arith, none))
    by (Some it) same = of_growth it same (is_growth_of it id size (max size (from + long))) refl (is ∙ ap (λ (o : Option Filling). min (done_of o id size (max size (from + long))) (from / v.header.block_size - blocks_for v.header.block_size size)) same)
