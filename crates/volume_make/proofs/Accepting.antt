-- The header of a volume that can be made is accepted by a reader, test by test.
use Rattle.std.proofs.Common.{◌≡◌, ◌<◌, ◌≤◌, ℕ, suc, ◌+◌, ◌*◌, ◌/◌, Bool, true, false, nat_lt, nat_le, Option, Some, None, refl, arith, ⊎_elim}
use Rattle.std.specs.Prelude.{◌&&◌, ◌==◌, not, if◌then◌else◌}
use Rattle.std.proofs.lemmas.Bool.{eq-eqb}
use Rattle.std.proofs.lemmas.Bool.Decides.{leb_tells}
use Rattle.volume_header.specs.declared.refusal.HeaderRefusal.TheVariants.{LimitSectors, BadGeometry}
use Rattle.volume_header.specs.Refusal.{header_refusal, is_volume_size}
use Rattle.volume_header.specs.Refusal as header
use Rattle.volume_make.specs.Refusal as own
use Rattle.volume_make.specs.Layout.{CanBe, blocks_for, layout_of}
use Rattle.volume_make.specs.Texts.{fresh_header}
use Rattle.volume_make.proofs.Sizes.{each_size, keys}

is_le : (a b : ℕ) → a ≤ b → nat_le a b ≡ true
is_le a b le = ⊎_elim (λ (t : (nat_le a b ≡ true) × (a ≤ b)). t.0) (λ (d : (nat_le a b ≡ false) × (b < a)). absurd (omega (arith, d.1, le))) (leb_tells a b)

past : {R : Type 0} (b : Bool) (x : R) (rest : Option R) → b ≡ true → rest ≡ None → (if not b then Some x else rest) ≡ None
past true x rest is none = none
past false x rest is none = absurd (cc is)

both : (x y : Bool) → x ≡ true → y ≡ true → (x && y) ≡ true
both true y is that = that
both false y is that = absurd (cc is)

-- each of the sizes is a power of two
is_power : (b : ℕ) → own.is_block_size b ≡ true → header.is_block_size b ≡ true
unfolding lib.Count.ones
is_power b is = each_size (λ n. header.is_block_size n ≡ true) refl refl refl refl refl refl refl refl b is

pub header_accepted : (s b j : ℕ) → CanBe s b j → header_refusal (fresh_header (layout_of s b j)) s ≡ None
unfolding layout_of
header_accepted s b j can =
    let k = keys s j b can in
    let total = s * 512 / b in
    let info : blocks_for 1536 b + blocks_for total (8 * b) + 1 ≤ total = omega (arith, k.low, k.less) in
    past (is_volume_size s) (LimitSectors s) _ (both (nat_le 2048 s) (nat_le s 2147483648) (is_le 2048 s (omega (arith, can.many))) (is_le s 2147483648 can.few))
    (past (header.is_block_size b) (BadGeometry 40) _ (is_power b can.block_size)
    (past ((total == s * 512 / b) && nat_le total 268435456) (BadGeometry 44) _ (both (total == s * 512 / b) (nat_le total 268435456) (eq-eqb total total refl) can.blocks)
    (past (nat_lt (blocks_for 1536 b + blocks_for total (8 * b)) total) (BadGeometry 12) None (is_le (suc (blocks_for 1536 b + blocks_for total (8 * b))) total (omega (arith, info))) refl)))
