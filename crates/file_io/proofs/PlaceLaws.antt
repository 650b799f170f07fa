-- Which blocks a write makes anew, and their sectors.
use Rattle.std.proofs.Common.{◌≡◌, ℕ, ◌+◌, ◌-◌, ◌*◌, ◌/◌, ◌%◌, ◌≤◌, ◌<◌, Bool, true, false, not, ◌&&◌, ◌^◌, max, length-append, length-take, length-drop, List, ◌++◌, Some, None, length, get_or, slice_get, take, drop, min, refl, sym, ◌∙◌, ap, subst, arith, ⊎_elim}
use Rattle.std.specs.Option.{option_map}
use Rattle.std.specs.List.{All}
use Rattle.std.proofs.Math.Nat.{div-mul-le_self, lt-div-mul-add, mul-le-mul_right, le_of_mul-le-mul_right, mul-le-mul, mul_assoc}
use Rattle.std.proofs.lemmas.Nat.{div-mul-add}
use Rattle.std.proofs.lemmas.Bool.{cases_lt}
use Rattle.std.proofs.lemmas.Bool.Decides.{eqb_tells}
use Rattle.std.proofs.lemmas.Option.{slice_get_within, get_or_from_slice_get, same_Some}
use Rattle.fork_map.specs.Blocks.{sectors_of}
use Rattle.fork_map.proofs.Laws.{sector_at_place}
use Rattle.file_io.specs.Places.{blocks_for, first_block}
use Rattle.file_io.specs.Touching.{IsOneOf, MaySpill}
use Rattle.sector_disk.specs.Space.{Space}
use Rattle.alloc_bitmap.specs.Map.{BlockMap, free_of}
use Rattle.alloc_bitmap.proofs.MapLaws.{get_or-open}
use Rattle.std.proofs.lemmas.List.{get_or_past, get_or_default}
use Rattle.file_io.specs.Bytes.{IsBlockSize}
use Rattle.file_io.proofs.ByteLaws.{length-sectors_of}

-- ---- how many blocks
pub blocks_hold : (block n : ℕ) → 0 < block → n ≤ blocks_for block n * block
blocks_hold block n some = ⊎_elim
    (λ none. rw none.0 (omega (arith, none.1)))
    (λ more. rw more.0 (let q : ℕ = (n - 1) / block in
    let below : n - 1 < q * block + block = lt-div-mul-add some in
    let product : (q + 1) * block ≡ q * block + block = omega arith in
    omega (arith, below, product, more.1)))
    (eqb_tells n 0)

pub blocks_least : (block n k : ℕ) → 0 < block → n ≤ k * block → blocks_for block n ≤ k
blocks_least block n k some le = ⊎_elim
    (λ none. rw none.0 (omega arith))
    (λ more. rw more.0 (let q : ℕ = (n - 1) / block in ⊎_elim
    (λ (lt : q < k). let e : q + 1 ≤ k = omega (arith, lt) in e)
    (λ (past : k ≤ q). absurd (omega (arith, more.1, le, mul-le-mul_right block past, div-mul-le_self (n - 1) block)))
    (cases_lt q k)))
    (eqb_tells n 0)

pub first_below : (block size from : ℕ) → first_block block size from * block ≤ min from size
first_below block size from = div-mul-le_self (min from size) block

pub first_of : (block size from n : ℕ) → 0 < block → min from size ≤ n → first_block block size from ≤ blocks_for block n
first_of block size from n some le = le_of_mul-le-mul_right {k = block} (omega (arith, first_below block size from, blocks_hold block n some, le)) some

-- ---- the block of a sector
pub block_of_sector : (p : ℕ) (bs : List ℕ) (n s : ℕ) → 0 < p → slice_get (sectors_of p bs) n ≡ Some s → (b : ℕ) × (slice_get bs (n / p) ≡ Some b) × (s ≡ b * p + n % p)
block_of_sector p bs n s some is = elim (slice_get bs (n / p)) as (λ o. slice_get bs (n / p) ≡ o → (b : ℕ) × (slice_get bs (n / p) ≡ Some b) × (s ≡ b * p + n % p)) [
  | None ↦ λ (e : slice_get bs (n / p) ≡ None).
      absurd (let clash : Some s ≡ None = sym is ∙ sector_at_place p bs n some ∙ ap (λ o. option_map (λ b. b * p + n % p) o) e in cc clash)
  | Some b ↦ λ (e : slice_get bs (n / p) ≡ Some b).
      (b, e, same_Some s (b * p + n % p) (sym is ∙ sector_at_place p bs n some ∙ ap (λ o. option_map (λ c. c * p + n % p) o) e))
] refl

same_block : (p a b r t : ℕ) → r < p → t < p → a * p + r ≡ b * p + t → a ≡ b
same_block p a b r t x y is = sym (div-mul-add a p r x) ∙ ap (λ m. m / p) is ∙ div-mul-add b p t y

-- two lists without a block in common have no sector in common
pub no_common_sector : (p : ℕ) (xs ys : List ℕ) → 0 < p → ((b : ℕ) → IsOneOf xs b → IsOneOf ys b → ⊥) → (s : ℕ) → IsOneOf (sectors_of p xs) s → IsOneOf (sectors_of p ys) s → ⊥
no_common_sector p xs ys some apart s i j =
    let x = block_of_sector p xs i.0 s some i.1 in
    let y = block_of_sector p ys j.0 s some j.1 in
    let same : x.0 ≡ y.0 = same_block p x.0 y.0 (i.0 % p) (j.0 % p) (omega (arith, some)) (omega (arith, some)) (sym x.2 ∙ y.2) in
    apart x.0 (i.0 / p, x.1) (j.0 / p, y.1 ∙ ap (λ b. Some b) (sym same))

-- a property of all blocks, of one of them
pub one_has : (P : ℕ → Type 0) (bs : List ℕ) (b : ℕ) → All P bs → IsOneOf bs b → P b
one_has P bs b all one = subst (λ c. P c) (get_or_from_slice_get bs one.0 b 0 one.1) (all one.0 0 (slice_get_within bs one.0 b one.1))

pub free_may_spill : (space : Space) (p : ℕ) (free : List Bool) (bs : List ℕ) → 0 < p → All (λ b. get_or free b false ≡ true) bs
    → ((b s : ℕ) → get_or free b false ≡ true → b * p ≤ s → s < b * p + p → MaySpill space s) → (s : ℕ) → IsOneOf (sectors_of p bs) s → MaySpill space s
free_may_spill space p free bs some all may s one =
    let x = block_of_sector p bs one.0 s some one.1 in
    let below : one.0 % p < p = omega (arith, some) in
    may x.0 s (one_has (λ b. get_or free b false ≡ true) bs x.0 all (one.0 / p, x.1)) (omega (arith, x.2)) (omega (arith, x.2, below))

-- ---- the places of a write
ap_le : (a c block n : ℕ) → a ≡ c → c * block ≤ n → a * block ≤ n
ap_le a c block n is le = subst (λ m. m * block ≤ n) (sym is) le

pub record WritePlaces (block size from end len a b e : ℕ) : Type 0 where
  pub some : 0 < block
  pub sectors : 0 < block / 512
  pub order : a ≤ b
  pub old_order : a ≤ e
  pub within : e ≤ b
  pub inside : e ≤ len
  pub low : a * (block / 512) * 512 ≤ from
  pub first : a * (block / 512) * 512 ≤ size
  pub high : end ≤ b * (block / 512) * 512
  pub all : size ≤ len * (block / 512) * 512
  pub behind : b * (block / 512) * 512 < size → (e ≡ b) × (b ≤ len)
  pub few : b ≤ 2 ^ 31
  pub product : b * (block / 512) * 512 < 2 ^ 62

pub whole_block : (block x : ℕ) → block % 512 ≡ 0 → x * (block / 512) * 512 ≡ x * block
whole_block block x whole = mul_assoc x (block / 512) 512 ∙ ap (λ m. x * m) (let e : block / 512 * 512 ≡ block = omega (arith, whole) in e)

pub write_places : (block size from end len a b e : ℕ) → IsBlockSize block → size ≤ len * block → from < end → end ≤ 2 ^ 40 → a ≡ first_block block size from → b ≡ blocks_for block end → e ≡ min b (blocks_for block size) → WritePlaces block size from end len a b e
write_places block size from end len a b e is holds order small a_is b_is e_is =
    let some : 0 < block = omega (arith, is.least) in
    let had : ℕ = blocks_for block size in
    let a_low : a * block ≤ min from size = ap_le a (first_block block size from) block (min from size) a_is (first_below block size from) in
    let b_high : end ≤ b * block = subst (λ m. end ≤ m * block) (sym b_is) (blocks_hold block end some) in
    let had_high : size ≤ had * block = blocks_hold block size some in
    let had_in : had ≤ len = blocks_least block size len some holds in
    let a_b : a ≤ b = le_of_mul-le-mul_right {k = block} (omega (arith, a_low, b_high, order)) some in
    let a_had : a ≤ had = le_of_mul-le-mul_right {k = block} (omega (arith, a_low, had_high)) some in
    let few : b ≤ 2 ^ 31 = subst (λ m. m ≤ 2 ^ 31) (sym b_is) (blocks_least block end (2 ^ 31) some (omega (arith, small, is.least))) in
    record {
      some = some;
      sectors = omega (arith, is.least);
      order = a_b;
      old_order = omega (arith, e_is, a_b, a_had);
      within = omega (arith, e_is);
      inside = omega (arith, e_is, had_in);
      low = omega (arith, whole_block block a is.whole, a_low);
      first = omega (arith, whole_block block a is.whole, a_low);
      high = omega (arith, whole_block block b is.whole, b_high);
      all = omega (arith, whole_block block len is.whole, holds);
      behind = λ past.
          let more : b < had = ⊎_elim
          (λ (lt : b < had). lt)
          (λ (le : had ≤ b). absurd (omega (arith, past, whole_block block b is.whole, had_high, mul-le-mul_right block le)))
          (cases_lt b had) in
          (omega (arith, e_is, more), omega (arith, more, had_in));
      few = few;
      product = omega (arith, whole_block block b is.whole, mul-le-mul {n₁ = b} {m₁ = block} {n₂ = 2 ^ 31} {m₂ = 65536} few is.most);
    }

-- ---- free blocks aren't used
not_both : (u h : Bool) → (not u && not h) ≡ true → u ≡ true → ⊥
not_both true h free used = absurd (cc free)
not_both false h free used = absurd (cc used)

pub free_not_used : (map : BlockMap) (b : ℕ) → get_or (free_of map) b false ≡ true → get_or map.used b false ≡ true → ⊥
free_not_used map b free used =
    let inside : b < length map.used = ⊎_elim (λ lt. lt) (λ past. absurd (let clash : false ≡ true = sym (get_or_past map.used b false past) ∙ used in cc clash)) (cases_lt b (length map.used)) in
    not_both (get_or map.used b true) (get_or map.held b false) (sym (get_or-open map.used map.held b false inside) ∙ free) (get_or_default map.used b true false inside ∙ used)

-- ---- the sectors of fresh blocks
pub fresh_elsewhere : (map : BlockMap) (p : ℕ) (fresh blocks : List ℕ) → 0 < p → All (λ b. get_or (free_of map) b false ≡ true) fresh → All (λ b. get_or map.used b false ≡ true) blocks
    → (s : ℕ) → IsOneOf (sectors_of p fresh) s → IsOneOf (sectors_of p blocks) s → ⊥
fresh_elsewhere map p fresh blocks some free used = no_common_sector p fresh blocks some
    (λ b i j. free_not_used map b (one_has (λ k. get_or (free_of map) k false ≡ true) fresh b free i) (one_has (λ k. get_or map.used k false ≡ true) blocks b used j))

-- ---- how many sectors
pub room_after : (p a b e size end : ℕ) (blocks fresh : List ℕ) → a ≤ b → a ≤ e → e ≤ b → e ≤ length blocks → length fresh ≡ b - a → end ≤ b * p * 512 → size ≤ length blocks * p * 512 → max size end ≤ length (sectors_of p (take a blocks ++ fresh ++ drop e blocks)) * 512
room_after p a b e size end blocks fresh order old_order within inside count high all =
    let list : List ℕ = take a blocks ++ fresh ++ drop e blocks in
    let long : length list ≡ b + (length blocks - e) = omega (arith, length-append (take a blocks ++ fresh) (drop e blocks), length-append (take a blocks) fresh, length-take a blocks, length-drop e blocks, count, order, old_order, inside) in
    let sectors : length (sectors_of p list) ≡ length list * p = length-sectors_of p list in
    let one : b * p ≤ length list * p = mul-le-mul_right p (omega (arith, long)) in
    let two : length blocks * p ≤ length list * p = mul-le-mul_right p (omega (arith, long, within, inside)) in
    omega (arith, sectors, one, two, high, all)
