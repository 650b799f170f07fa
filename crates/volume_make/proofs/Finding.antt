-- The journal of a volume that can be made is found by a reader, and is empty.
use Rattle.std.proofs.Common.{◌≡◌, ◌<◌, ◌≤◌, ℕ, ◌+◌, ◌*◌, ◌/◌, ◌%◌, Bool, true, false, nat_le, Option, Some, None, replicate, refl, arith, ⊎_elim}
use Rattle.std.specs.Prelude.{◌&&◌, ◌||◌, ◌==◌, not, if◌then◌else◌}
use Rattle.std.proofs.lemmas.Bool.{and_parts, eq-eqb, eqb-true}
use Rattle.std.proofs.lemmas.Bool.Decides.{leb_tells}
use Rattle.jnl_format.specs.declared.structures.JnlRefusal.TheVariants.{BadInfo}
use Rattle.jnl_format.specs.declared.dialect.Dialect.TheVariants.{Plain}
use Rattle.jnl_format.specs.Header.{header_spelled}
use Rattle.jnl_format.proofs.ReadBack.{header_back, checksum_fits}
use Rattle.jnl_format.proofs.InfoBack.{info_back}
use Rattle.volume_make.specs.Layout.{CanBe, blocks_for, layout_of}
use Rattle.volume_make.specs.Laws.{JournalFound, fresh_info, fresh_journal}
use Rattle.volume_make.proofs.Sizes.{each_size, le_true}

-- the journal's first block
abbrev start_of : ℕ → ℕ → ℕ
start_of s b = blocks_for 1536 b + blocks_for (s * 512 / b) (8 * b) + 1

-- where the journal lies in bytes, and how long it is
record Stretch (s j b : ℕ) : Type 0 where
  pub long : 1536 ≤ j * 512 / b * b
  pub short : j * 512 / b * b ≤ 33554432
  pub whole : j * 512 / b * b % 512 ≡ 0
  pub from_sector : start_of s b * b % 512 ≡ 0
  pub inside : start_of s b * b + j * 512 / b * b ≤ s * 512

module _ (s j : ℕ) (many : 16384 ≤ s) (least : 512 ≤ j) (most : j ≤ 65536) (quarter : j ≤ s / 4) where
  at_512 : j % (512 / 512) ≡ 0 → Stretch s j 512
  at_512 even = record {
    long = omega (arith, least, even);
    short = omega (arith, most);
    whole = omega arith;
    from_sector = omega arith;
    inside = omega (arith, many, quarter, even);
  }

  at_1024 : j % (1024 / 512) ≡ 0 → Stretch s j 1024
  at_1024 even = record {
    long = omega (arith, least, even);
    short = omega (arith, most);
    whole = omega arith;
    from_sector = omega arith;
    inside = omega (arith, many, quarter, even);
  }

  at_2048 : j % (2048 / 512) ≡ 0 → Stretch s j 2048
  at_2048 even = record {
    long = omega (arith, least, even);
    short = omega (arith, most);
    whole = omega arith;
    from_sector = omega arith;
    inside = omega (arith, many, quarter, even);
  }

  at_4096 : j % (4096 / 512) ≡ 0 → Stretch s j 4096
  at_4096 even = record {
    long = omega (arith, least, even);
    short = omega (arith, most);
    whole = omega arith;
    from_sector = omega arith;
    inside = omega (arith, many, quarter, even);
  }

  at_8192 : j % (8192 / 512) ≡ 0 → Stretch s j 8192
  at_8192 even = record {
    long = omega (arith, least, even);
    short = omega (arith, most);
    whole = omega arith;
    from_sector = omega arith;
    inside = omega (arith, many, quarter, even);
  }

  at_16384 : j % (16384 / 512) ≡ 0 → Stretch s j 16384
  at_16384 even = record {
    long = omega (arith, least, even);
    short = omega (arith, most);
    whole = omega arith;
    from_sector = omega arith;
    inside = omega (arith, many, quarter, even);
  }

  at_32768 : j % (32768 / 512) ≡ 0 → Stretch s j 32768
  at_32768 even = record {
    long = omega (arith, least, even);
    short = omega (arith, most);
    whole = omega arith;
    from_sector = omega arith;
    inside = omega (arith, many, quarter, even);
  }

  at_65536 : j % (65536 / 512) ≡ 0 → Stretch s j 65536
  at_65536 even = record {
    long = omega (arith, least, even);
    short = omega (arith, most);
    whole = omega arith;
    from_sector = omega arith;
    inside = omega (arith, many, quarter, even);
  }

stretch : (s j b : ℕ) → CanBe s b j → Stretch s j b
stretch s j b can =
    let a = and_parts (nat_le 512 j && nat_le j 65536 && nat_le j (s / 4)) (j % (b / 512) == 0) can.journal in
    let q = and_parts (nat_le 512 j && nat_le j 65536) (nat_le j (s / 4)) a.0 in
    let l = and_parts (nat_le 512 j) (nat_le j 65536) q.0 in
    let least : 512 ≤ j = le_true 512 j l.0 in
    let most : j ≤ 65536 = le_true j 65536 l.1 in
    let quarter : j ≤ s / 4 = le_true j (s / 4) q.1 in
    let even : j % (b / 512) ≡ 0 = eqb-true (j % (b / 512)) 0 a.1 in
    each_size (λ n. j % (n / 512) ≡ 0 → Stretch s j n)
    (at_512 s j can.many least most quarter) (at_1024 s j can.many least most quarter) (at_2048 s j can.many least most quarter) (at_4096 s j can.many least most quarter)
    (at_8192 s j can.many least most quarter) (at_16384 s j can.many least most quarter) (at_32768 s j can.many least most quarter) (at_65536 s j can.many least most quarter)
    b can.block_size even

is_le : (a b : ℕ) → a ≤ b → nat_le a b ≡ true
is_le a b le = ⊎_elim (λ (t : (nat_le a b ≡ true) × (a ≤ b)). t.0) (λ (d : (nat_le a b ≡ false) × (b < a)). absurd (omega (arith, d.1, le))) (leb_tells a b)

both : (x y : Bool) → x ≡ true → y ≡ true → (x && y) ≡ true
both true y is that = that
both false y is that = absurd (cc is)

past : {R : Type 0} (b : Bool) (x : R) (rest : Option R) → b ≡ true → rest ≡ None → (if not b then Some x else rest) ≡ None
past true x rest is none = none
past false x rest is none = absurd (cc is)

past_either : {R : Type 0} (b : Bool) (x : R) (rest : Option R) → b ≡ true → rest ≡ None → (if (not b || false) then Some x else rest) ≡ None
past_either true x rest is none = none
past_either false x rest is none = absurd (cc is)

pub journal_found : (s b j : ℕ) → CanBe s b j → JournalFound (layout_of s b j)
unfolding layout_of
journal_found s b j can =
    let t = stretch s j b can in
    let place = start_of s b * b in
    let size = j * 512 / b * b in
    let head = fresh_journal (layout_of s b j) in
    record {
      info = info_back (fresh_info (layout_of s b j)) (replicate 512 0) (omega arith) (omega arith) (omega (arith, t.inside, can.few)) (omega (arith, t.short));
      inside = past_either (place % 512 == 0) (BadInfo 36) _ (eq-eqb (place % 512) 0 t.from_sector)
          (past (size % 512 == 0 && nat_le 1536 size && nat_le (place + size) (s * 512)) (BadInfo 44) None
          (both (size % 512 == 0 && nat_le 1536 size) (nat_le (place + size) (s * 512)) (both (size % 512 == 0) (nat_le 1536 size) (eq-eqb (size % 512) 0 t.whole) (is_le 1536 size t.long)) (is_le (place + size) (s * 512) t.inside)) refl);
      journal = header_back {dialect = Plain} head size (replicate 468 0)
          (record {
            start_whole = refl;
            start_low = omega arith;
            start_high = omega (arith, t.long);
            end_whole = refl;
            end_low = omega arith;
            end_high = omega (arith, t.long);
            size = refl;
            blhdr_whole = refl;
            blhdr_low = omega arith;
            blhdr_high = omega arith;
          })
          (record { start = omega arith; end = omega arith; size = omega (arith, t.short) }) (checksum_fits (header_spelled 0 head));
    }
