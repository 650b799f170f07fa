-- The parts of a volume that can be made lie apart and on the volume.
use Rattle.std.proofs.Common.{◌≡◌, ◌⊎◌, inl, inr, ⊎_elim, ◌<◌, ◌≤◌, ℕ, ◌+◌, ◌-◌, ◌*◌, ◌/◌, ◌%◌, Bool, true, false, nat_lt, nat_le, refl, sym, subst, arith}
use Rattle.std.specs.Prelude.{◌||◌, ◌&&◌, ◌==◌, if◌then◌else◌}
use Rattle.std.proofs.lemmas.Bool.{and_parts, eqb-true}
use Rattle.std.proofs.lemmas.Bool.Decides.{leb_tells}
use Rattle.std.proofs.Math.Nat.{add-mul}
use Rattle.volume_make.specs.Refusal.{is_block_size}
use Rattle.volume_make.specs.Layout.{CanBe, IsFitting, blocks_for, last_start, layout_of}

pub le_true : (a b : ℕ) → nat_le a b ≡ true → a ≤ b
le_true a b is = ⊎_elim (λ (s : (nat_le a b ≡ true) × (a ≤ b)). s.1) (λ (d : (nat_le a b ≡ false) × (b < a)). absurd (cc (d.0, is))) (leb_tells a b)

either : (x y : Bool) → (x || y) ≡ true → (x ≡ true) ⊎ (y ≡ true)
either true y is = inl refl
either false y is = inr is

-- what holds of each of the eight sizes holds of every block size
pub each_size : (P : ℕ → Type 0) → P 512 → P 1024 → P 2048 → P 4096 → P 8192 → P 16384 → P 32768 → P 65536 → (b : ℕ) → is_block_size b ≡ true → P b
each_size P p1 p2 p3 p4 p5 p6 p7 p8 b is =
    let at : (n : ℕ) → (b == n) ≡ true → P n → P b = λ n same p. subst P (sym (eqb-true b n same)) p in
    let s2 = b == 512 || b == 1024 in
    let s3 = s2 || b == 2048 in
    let s4 = s3 || b == 4096 in
    let s5 = s4 || b == 8192 in
    let s6 = s5 || b == 16384 in
    let s7 = s6 || b == 32768 in
    ⊎_elim
    (λ (i7 : s7 ≡ true). ⊎_elim
    (λ (i6 : s6 ≡ true). ⊎_elim
    (λ (i5 : s5 ≡ true). ⊎_elim
    (λ (i4 : s4 ≡ true). ⊎_elim
    (λ (i3 : s3 ≡ true). ⊎_elim
    (λ (i2 : s2 ≡ true). ⊎_elim (λ (i1 : (b == 512) ≡ true). at 512 i1 p1) (λ (h : (b == 1024) ≡ true). at 1024 h p2) (either (b == 512) (b == 1024) i2))
    (λ (h : (b == 2048) ≡ true). at 2048 h p3) (either s2 (b == 2048) i3))
    (λ (h : (b == 4096) ≡ true). at 4096 h p4) (either s3 (b == 4096) i4))
    (λ (h : (b == 8192) ≡ true). at 8192 h p5) (either s4 (b == 8192) i5))
    (λ (h : (b == 16384) ≡ true). at 16384 h p6) (either s5 (b == 16384) i6))
    (λ (h : (b == 32768) ≡ true). at 32768 h p7) (either s6 (b == 32768) i7))
    (λ (h : (b == 65536) ≡ true). at 65536 h p8) (either s7 (b == 65536) is)

-- where the free blocks begin
abbrev pub first_free : ℕ → ℕ → ℕ → ℕ
first_free s j b =
    blocks_for 1536 b + blocks_for (s * 512 / b) (8 * b) + 1 + j * 512 / b + blocks_for 65536 b + blocks_for 65536 b + blocks_for 262144 b

-- what has to be known of the sizes for each block size
pub record Keys (s j b : ℕ) : Type 0 where
  pub front : 3 ≤ blocks_for 1536 b * (b / 512)
  pub room : first_free s j b * (b / 512) ≤ s - 2
  pub low : first_free s j b ≤ (s - 2) * 512 / b
  pub less : (s - 2) * 512 / b ≤ s * 512 / b
  pub bits : s * 512 / b ≤ 4096 * (blocks_for (s * 512 / b) (8 * b) * (b / 512))
  pub some : 1 ≤ 1 * (b / 512)
  pub long : 512 ≤ j * 512 / b * (b / 512)
  pub small : blocks_for 65536 b * (b / 512) ≡ 128
  pub large : blocks_for 262144 b * (b / 512) ≡ 512

module _ (s j : ℕ) (many : 16384 ≤ s) (least : 512 ≤ j) (quarter : j ≤ s / 4) where
  at_512 : j % (512 / 512) ≡ 0 → Keys s j 512
  at_512 whole = record {
    front = omega arith;
    room = omega (arith, many, quarter, whole);
    low = omega (arith, many, quarter, whole);
    less = omega arith;
    bits = omega arith;
    some = omega arith;
    long = omega (arith, least, whole);
    small = omega arith;
    large = omega arith;
  }

  at_1024 : j % (1024 / 512) ≡ 0 → Keys s j 1024
  at_1024 whole = record {
    front = omega arith;
    room = omega (arith, many, quarter, whole);
    low = omega (arith, many, quarter, whole);
    less = omega arith;
    bits = omega arith;
    some = omega arith;
    long = omega (arith, least, whole);
    small = omega arith;
    large = omega arith;
  }

  at_2048 : j % (2048 / 512) ≡ 0 → Keys s j 2048
  at_2048 whole = record {
    front = omega arith;
    room = omega (arith, many, quarter, whole);
    low = omega (arith, many, quarter, whole);
    less = omega arith;
    bits = omega arith;
    some = omega arith;
    long = omega (arith, least, whole);
    small = omega arith;
    large = omega arith;
  }

  at_4096 : j % (4096 / 512) ≡ 0 → Keys s j 4096
  at_4096 whole = record {
    front = omega arith;
    room = omega (arith, many, quarter, whole);
    low = omega (arith, many, quarter, whole);
    less = omega arith;
    bits = omega arith;
    some = omega arith;
    long = omega (arith, least, whole);
    small = omega arith;
    large = omega arith;
  }

  at_8192 : j % (8192 / 512) ≡ 0 → Keys s j 8192
  at_8192 whole = record {
    front = omega arith;
    room = omega (arith, many, quarter, whole);
    low = omega (arith, many, quarter, whole);
    less = omega arith;
    bits = omega arith;
    some = omega arith;
    long = omega (arith, least, whole);
    small = omega arith;
    large = omega arith;
  }

  at_16384 : j % (16384 / 512) ≡ 0 → Keys s j 16384
  at_16384 whole = record {
    front = omega arith;
    room = omega (arith, many, quarter, whole);
    low = omega (arith, many, quarter, whole);
    less = omega arith;
    bits = omega arith;
    some = omega arith;
    long = omega (arith, least, whole);
    small = omega arith;
    large = omega arith;
  }

  at_32768 : j % (32768 / 512) ≡ 0 → Keys s j 32768
  at_32768 whole = record {
    front = omega arith;
    room = omega (arith, many, quarter, whole);
    low = omega (arith, many, quarter, whole);
    less = omega arith;
    bits = omega arith;
    some = omega arith;
    long = omega (arith, least, whole);
    small = omega arith;
    large = omega arith;
  }

  at_65536 : j % (65536 / 512) ≡ 0 → Keys s j 65536
  at_65536 whole = record {
    front = omega arith;
    room = omega (arith, many, quarter, whole);
    low = omega (arith, many, quarter, whole);
    less = omega arith;
    bits = omega arith;
    some = omega arith;
    long = omega (arith, least, whole);
    small = omega arith;
    large = omega arith;
  }

pub keys : (s j b : ℕ) → CanBe s b j → Keys s j b
keys s j b can =
    let a = and_parts (nat_le 512 j && nat_le j 65536 && nat_le j (s / 4)) (j % (b / 512) == 0) can.journal in
    let q = and_parts (nat_le 512 j && nat_le j 65536) (nat_le j (s / 4)) a.0 in
    let l = and_parts (nat_le 512 j) (nat_le j 65536) q.0 in
    let least : 512 ≤ j = le_true 512 j l.0 in
    let quarter : j ≤ s / 4 = le_true j (s / 4) q.1 in
    let whole : j % (b / 512) ≡ 0 = eqb-true (j % (b / 512)) 0 a.1 in
    each_size (λ n. j % (n / 512) ≡ 0 → Keys s j n)
    (at_512 s j can.many least quarter) (at_1024 s j can.many least quarter) (at_2048 s j can.many least quarter) (at_4096 s j can.many least quarter)
    (at_8192 s j can.many least quarter) (at_16384 s j can.many least quarter) (at_32768 s j can.many least quarter) (at_65536 s j can.many least quarter)
    b can.block_size whole

-- the last blocks begin behind what lies below both
start_from : (m x t : ℕ) → m ≤ x → m ≤ t → m ≤ last_start x t
start_from m x t low under = by (nat_lt x t)
  where
    by : (c : Bool) → m ≤ (if c then x else t)
    by true = low
    by false = under

start_below : (x t : ℕ) → x ≤ t → last_start x t ≤ t
start_below x t less = by (nat_lt x t)
  where
    by : (c : Bool) → (if c then x else t) ≤ t
    by true = less
    by false = omega arith

pub fitting : (s b j : ℕ) → CanBe s b j → IsFitting (layout_of s b j)
unfolding layout_of
fitting s b j can =
    let k = keys s j b can in
    let total = s * 512 / b in
    let start = last_start ((s - 2) * 512 / b) total in
    let from : first_free s j b ≤ start = start_from (first_free s j b) ((s - 2) * 512 / b) total k.low (omega (arith, k.low, k.less)) in
    let under : start ≤ total = start_below ((s - 2) * 512 / b) total k.less in
    let p = b / 512 in
    record {
      block_size = can.block_size;
      free = omega (arith, from, under);
      last = omega (arith, under);
      total = le_true total 268435456 can.blocks;
      sectors = can.few;
      bitmap = k.front;
      info = add-mul (blocks_for 1536 b) (blocks_for total (8 * b)) p;
      journal = add-mul (blocks_for 1536 b + blocks_for total (8 * b)) 1 p;
      extents = add-mul (blocks_for 1536 b + blocks_for total (8 * b) + 1) (j * 512 / b) p;
      attributes = add-mul (blocks_for 1536 b + blocks_for total (8 * b) + 1 + j * 512 / b) (blocks_for 65536 b) p;
      catalog = add-mul (blocks_for 1536 b + blocks_for total (8 * b) + 1 + j * 512 / b + blocks_for 65536 b) (blocks_for 65536 b) p;
      end = omega (arith, k.room, add-mul (blocks_for 1536 b + blocks_for total (8 * b) + 1 + j * 512 / b + blocks_for 65536 b + blocks_for 65536 b) (blocks_for 262144 b) p);
      bits = k.bits;
      info_room = k.some;
      journal_room = k.long;
      extents_room = k.small;
      attributes_room = k.small;
      catalog_room = k.large;
    }

pub layout_sectors : (s b j : ℕ) → (layout_of s b j).sectors ≡ s
unfolding layout_of
layout_sectors s b j = refl

pub layout_block : (s b j : ℕ) → (layout_of s b j).block ≡ b
unfolding layout_of
layout_block s b j = refl
