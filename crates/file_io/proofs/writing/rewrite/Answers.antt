use Rattle.std.proofs.Common.{◌≡◌, ◌≤◌, get_or, ◌<◌, ◌-◌, ◌+◌, ◌*◌, ◌/◌, ◌^◌, ◌++◌, ℕ, List, length, take, drop, min, refl, arith, ap, subst, sym, ◌∙◌, append_assoc}
use Rattle.sector_disk.specs.Space.{Space}
use Rattle.fork_map.specs.Blocks.{blocks_of, sectors_of}
use Rattle.alloc_bitmap.specs.Map.{free_of}
use Rattle.alloc_bitmap.proofs.PlaceLaws.{one_sector}
use Rattle.file_io.specs.Bytes.{byte_in, new_byte, sector_bytes}
use Rattle.file_io.proofs.ByteLaws.{length-sectors_of}
use Rattle.file_io.proofs.PlaceLaws.{WritePlaces, write_places, fresh_elsewhere, free_may_spill, room_after}
use Rattle.file_io.proofs.AfterLaws.{after_write}
use Rattle.file_io.proofs.ZeroLaws.{end_of_old, few_in_all, fits_sectors, some_factor, zero_inside, zeros_within}
use Rattle.file_io.specs.Places.{blocks_for, fresh_of, new_blocks, zeros_at}
use Rattle.std.proofs.Math.Nat.{mul-le-mul}
use Rattle.file_io.proofs.writing.rewrite.Goals as goal

both_products : (a d p : ℕ) → (a + d) * p ≡ a * p + d * p
both_products a d p = omega arith

pub remake-requires-clause-order : goal.remake-requires-clause-order
remake-requires-clause-order g c =
    let block = c.args.block in
    let blocks : List ℕ = blocks_of c.args.fork.now in
    let a : ℕ = c.min.result / block in
    let b : ℕ = c.blocks_needed-behind.result in
    let e : ℕ = c.min-old_behind.result in
    let at : WritePlaces block c.args.size c.args.from c.args.end (length blocks) a b e =
    write_places block c.args.size c.args.from c.args.end (length blocks) a b e c.requires.block c.requires.holds_size c.requires.order c.requires.small (ap (λ m. m / block) c.min.ensures) c.blocks_needed-behind.ensures (c.min-old_behind.ensures ∙ ap (λ m. min b m) c.blocks_needed.ensures) in
    at.old_order

pub overflow_sub-behind : goal.overflow_sub-behind
overflow_sub-behind g c =
    let block = c.args.block in
    let blocks : List ℕ = blocks_of c.args.fork.now in
    let a : ℕ = c.min.result / block in
    let b : ℕ = c.blocks_needed-behind.result in
    let e : ℕ = c.min-old_behind.result in
    let at : WritePlaces block c.args.size c.args.from c.args.end (length blocks) a b e =
    write_places block c.args.size c.args.from c.args.end (length blocks) a b e c.requires.block c.requires.holds_size c.requires.order c.requires.small (ap (λ m. m / block) c.min.ensures) c.blocks_needed-behind.ensures (c.min-old_behind.ensures ∙ ap (λ m. min b m) c.blocks_needed.ensures) in
    omega (arith, at.order)

pub overflow_mul-behind : goal.overflow_mul-behind
overflow_mul-behind g c =
    let block = c.args.block in
    let blocks : List ℕ = blocks_of c.args.fork.now in
    let a : ℕ = c.min.result / block in
    let b : ℕ = c.blocks_needed-behind.result in
    let e : ℕ = c.min-old_behind.result in
    let at : WritePlaces block c.args.size c.args.from c.args.end (length blocks) a b e =
    write_places block c.args.size c.args.from c.args.end (length blocks) a b e c.requires.block c.requires.holds_size c.requires.order c.requires.small (ap (λ m. m / block) c.min.ensures) c.blocks_needed-behind.ensures (c.min-old_behind.ensures ∙ ap (λ m. min b m) c.blocks_needed.ensures) in
    omega (arith, mul-le-mul {n₁ = b - a} {m₁ = block / 512} {n₂ = 2 ^ 31} {m₂ = 128} (omega (arith, at.few)) (omega (arith, c.requires.block.most)))

pub spill_around-requires-clause-holds : goal.spill_around-requires-clause-holds
spill_around-requires-clause-holds g c =
    let block = c.args.block in
    let blocks : List ℕ = blocks_of c.args.fork.now in
    let a : ℕ = c.min.result / block in
    let b : ℕ = c.blocks_needed-behind.result in
    let e : ℕ = c.min-old_behind.result in
    let at : WritePlaces block c.args.size c.args.from c.args.end (length blocks) a b e =
    write_places block c.args.size c.args.from c.args.end (length blocks) a b e c.requires.block c.requires.holds_size c.requires.order c.requires.small (ap (λ m. m / block) c.min.ensures) c.blocks_needed-behind.ensures (c.min-old_behind.ensures ∙ ap (λ m. min b m) c.blocks_needed.ensures) in
    omega (arith, at.all, length-sectors_of (block / 512) blocks)

pub spill_around-requires-clause-enough : goal.spill_around-requires-clause-enough
spill_around-requires-clause-enough g c =
    let block = c.args.block in
    let blocks : List ℕ = blocks_of c.args.fork.now in
    let a : ℕ = c.min.result / block in
    let b : ℕ = c.blocks_needed-behind.result in
    let e : ℕ = c.min-old_behind.result in
    let at : WritePlaces block c.args.size c.args.from c.args.end (length blocks) a b e =
    write_places block c.args.size c.args.from c.args.end (length blocks) a b e c.requires.block c.requires.holds_size c.requires.order c.requires.small (ap (λ m. m / block) c.min.ensures) c.blocks_needed-behind.ensures (c.min-old_behind.ensures ∙ ap (λ m. min b m) c.blocks_needed.ensures) in
    omega (arith, length-sectors_of (block / 512) (blocks_of c.in_ok-fresh.fresh), ap (λ m. m * (block / 512)) c.in_ok-fresh.ensures.picks.count)

pub spill_around-requires-clause-may_spill : goal.spill_around-requires-clause-may_spill
spill_around-requires-clause-may_spill g c =
    let block = c.args.block in
    let blocks : List ℕ = blocks_of c.args.fork.now in
    let a : ℕ = c.min.result / block in
    let b : ℕ = c.blocks_needed-behind.result in
    let e : ℕ = c.min-old_behind.result in
    let at : WritePlaces block c.args.size c.args.from c.args.end (length blocks) a b e =
    write_places block c.args.size c.args.from c.args.end (length blocks) a b e c.requires.block c.requires.holds_size c.requires.order c.requires.small (ap (λ m. m / block) c.min.ensures) c.blocks_needed-behind.ensures (c.min-old_behind.ensures ∙ ap (λ m. min b m) c.blocks_needed.ensures) in
    free_may_spill (g.P.SectorView.space c.args.space.now) (block / 512) (free_of c.args.map.now) (blocks_of c.in_ok-fresh.fresh) at.sectors c.in_ok-fresh.ensures.picks.each c.requires.may_spill

pub spill_around-requires-clause-apart : goal.spill_around-requires-clause-apart
spill_around-requires-clause-apart g c =
    let block = c.args.block in
    let blocks : List ℕ = blocks_of c.args.fork.now in
    let a : ℕ = c.min.result / block in
    let b : ℕ = c.blocks_needed-behind.result in
    let e : ℕ = c.min-old_behind.result in
    let at : WritePlaces block c.args.size c.args.from c.args.end (length blocks) a b e =
    write_places block c.args.size c.args.from c.args.end (length blocks) a b e c.requires.block c.requires.holds_size c.requires.order c.requires.small (ap (λ m. m / block) c.min.ensures) c.blocks_needed-behind.ensures (c.min-old_behind.ensures ∙ ap (λ m. min b m) c.blocks_needed.ensures) in
    λ i j s x y. one_sector (block / 512) (blocks_of c.in_ok-fresh.fresh) i j s c.in_ok-fresh.ensures.picks.apart x y

pub spill_around-requires-clause-elsewhere : goal.spill_around-requires-clause-elsewhere
spill_around-requires-clause-elsewhere g c =
    let block = c.args.block in
    let blocks : List ℕ = blocks_of c.args.fork.now in
    let a : ℕ = c.min.result / block in
    let b : ℕ = c.blocks_needed-behind.result in
    let e : ℕ = c.min-old_behind.result in
    let at : WritePlaces block c.args.size c.args.from c.args.end (length blocks) a b e =
    write_places block c.args.size c.args.from c.args.end (length blocks) a b e c.requires.block c.requires.holds_size c.requires.order c.requires.small (ap (λ m. m / block) c.min.ensures) c.blocks_needed-behind.ensures (c.min-old_behind.ensures ∙ ap (λ m. min b m) c.blocks_needed.ensures) in
    fresh_elsewhere c.args.map.now (block / 512) (blocks_of c.in_ok-fresh.fresh) blocks at.sectors c.in_ok-fresh.ensures.picks.each c.requires.used

pub spill_around-requires-clause-small : goal.spill_around-requires-clause-small
spill_around-requires-clause-small g c =
    let block = c.args.block in
    let blocks : List ℕ = blocks_of c.args.fork.now in
    let a : ℕ = c.min.result / block in
    let b : ℕ = c.blocks_needed-behind.result in
    let e : ℕ = c.min-old_behind.result in
    let at : WritePlaces block c.args.size c.args.from c.args.end (length blocks) a b e =
    write_places block c.args.size c.args.from c.args.end (length blocks) a b e c.requires.block c.requires.holds_size c.requires.order c.requires.small (ap (λ m. m / block) c.min.ensures) c.blocks_needed-behind.ensures (c.min-old_behind.ensures ∙ ap (λ m. min b m) c.blocks_needed.ensures) in
    let d : ℕ = b - a in
    let sum : a + d ≡ b = omega (arith, at.order) in
    let product : a * (block / 512) + d * (block / 512) ≡ b * (block / 512) = sym (both_products a d (block / 512)) ∙ ap (λ m. m * (block / 512)) sum in
    omega (arith, product, at.product)

pub returns-clause-enough : goal.returns-clause-enough
returns-clause-enough g c =
    let block = c.args.block in
    let blocks : List ℕ = blocks_of c.args.fork.now in
    let a : ℕ = c.min.result / block in
    let b : ℕ = c.blocks_needed-behind.result in
    let e : ℕ = c.min-old_behind.result in
    let at : WritePlaces block c.args.size c.args.from c.args.end (length blocks) a b e =
    write_places block c.args.size c.args.from c.args.end (length blocks) a b e c.requires.block c.requires.holds_size c.requires.order c.requires.small (ap (λ m. m / block) c.min.ensures) c.blocks_needed-behind.ensures (c.min-old_behind.ensures ∙ ap (λ m. min b m) c.blocks_needed.ensures) in
    let room = room_after (block / 512) a b e c.args.size c.args.end blocks (blocks_of c.in_ok-fresh.fresh) at.order at.old_order at.within at.inside c.in_ok-fresh.ensures.picks.count at.high at.all in
    omega (arith, room, ap (λ (l : List ℕ). length (sectors_of (block / 512) l)) c.in_ok-fresh.ensures.blocks)

pub returns-clause-bytes : goal.returns-clause-bytes
returns-clause-bytes g c = λ tells q lt.
    let block = c.args.block in
    let blocks : List ℕ = blocks_of c.args.fork.now in
    let a : ℕ = c.min.result / block in
    let b : ℕ = c.blocks_needed-behind.result in
    let e : ℕ = c.min-old_behind.result in
    let at : WritePlaces block c.args.size c.args.from c.args.end (length blocks) a b e =
    write_places block c.args.size c.args.from c.args.end (length blocks) a b e c.requires.block c.requires.holds_size c.requires.order c.requires.small (ap (λ m. m / block) c.min.ensures) c.blocks_needed-behind.ensures (c.min-old_behind.ensures ∙ ap (λ m. min b m) c.blocks_needed.ensures) in
    let old : Space = g.P.SectorView.space c.args.space.now in
    let new : Space = g.P.SectorView.space c.spill_around.new.space in
    let fresh : List ℕ = blocks_of c.in_ok-fresh.fresh in
    let p : ℕ = block / 512 in
    let count : length fresh ≡ b - a = c.in_ok-fresh.ensures.picks.count in
    let list : blocks_of c.in_ok-fresh.list ≡ take a blocks ++ (fresh ++ drop e blocks) = c.in_ok-fresh.ensures.blocks ∙ append_assoc (take a blocks) fresh (drop e blocks) in
    ap (λ (l : List ℕ). byte_in new.content (sectors_of p l) q) list
    ∙ after_write old new p a b e blocks fresh c.args.size c.args.from c.args.end c.args.value.now (c.spill_around.ensures.touches tells)
    (fresh_elsewhere c.args.map.now p fresh blocks at.sectors c.in_ok-fresh.ensures.picks.each c.requires.used)
    (λ m k less below. c.in_ok-spill_around.ensures.bytes tells m k (subst (λ n. m < n * p) count less) below ∙ ap (λ n. new_byte old.content (sectors_of p blocks) c.args.size c.args.from c.args.value.now (n * 512 + k)) refl)
    (omega (arith, at.old_order, at.inside)) (omega (arith, count, at.order)) at.low at.first at.high c.requires.value (omega (arith, at.all, length-sectors_of p blocks)) at.behind q lt

pub overflow_sub-zeros : goal.overflow_sub-zeros
overflow_sub-zeros g c =
    let block = c.args.block in
    let blocks : List ℕ = blocks_of c.args.fork.now in
    let a : ℕ = c.min.result / block in
    let b : ℕ = c.blocks_needed-behind.result in
    let e : ℕ = c.min-old_behind.result in
    let at : WritePlaces block c.args.size c.args.from c.args.end (length blocks) a b e =
    write_places block c.args.size c.args.from c.args.end (length blocks) a b e c.requires.block c.requires.holds_size c.requires.order c.requires.small (ap (λ m. m / block) c.min.ensures) c.blocks_needed-behind.ensures (c.min-old_behind.ensures ∙ ap (λ m. min b m) c.blocks_needed.ensures) in
    omega (arith, at.old_order)

pub overflow_mul-zeros : goal.overflow_mul-zeros
overflow_mul-zeros g c =
    let block = c.args.block in
    let blocks : List ℕ = blocks_of c.args.fork.now in
    let a : ℕ = c.min.result / block in
    let b : ℕ = c.blocks_needed-behind.result in
    let e : ℕ = c.min-old_behind.result in
    let at : WritePlaces block c.args.size c.args.from c.args.end (length blocks) a b e =
    write_places block c.args.size c.args.from c.args.end (length blocks) a b e c.requires.block c.requires.holds_size c.requires.order c.requires.small (ap (λ m. m / block) c.min.ensures) c.blocks_needed-behind.ensures (c.min-old_behind.ensures ∙ ap (λ m. min b m) c.blocks_needed.ensures) in
    omega (arith, fits_sectors (e - a) (block / 512) (omega (arith, at.few, at.within)) (omega (arith, c.requires.block.most)))

pub overflow_add-zeros : goal.overflow_add-zeros
overflow_add-zeros g c =
    let block = c.args.block in
    let blocks : List ℕ = blocks_of c.args.fork.now in
    let a : ℕ = c.min.result / block in
    let b : ℕ = c.blocks_needed-behind.result in
    let e : ℕ = c.min-old_behind.result in
    let at : WritePlaces block c.args.size c.args.from c.args.end (length blocks) a b e =
    write_places block c.args.size c.args.from c.args.end (length blocks) a b e c.requires.block c.requires.holds_size c.requires.order c.requires.small (ap (λ m. m / block) c.min.ensures) c.blocks_needed-behind.ensures (c.min-old_behind.ensures ∙ ap (λ m. min b m) c.blocks_needed.ensures) in
    let few : c.args.zeroed ≤ b - blocks_for block c.args.size = subst (λ m. c.args.zeroed ≤ m - blocks_for block c.args.size) (sym c.blocks_needed-behind.ensures) c.requires.few_zeros in
    omega (
      arith,
      fits_sectors (e - a) (block / 512) (omega (arith, at.few, at.within)) (omega (arith, c.requires.block.most)),
      fits_sectors c.args.zeroed (block / 512) (few_in_all c.args.zeroed b (blocks_for block c.args.size) few at.few) (omega (arith, c.requires.block.most)),
    )

pub spill_around-requires-clause-within : goal.spill_around-requires-clause-within
spill_around-requires-clause-within g c =
    let block = c.args.block in
    let blocks : List ℕ = blocks_of c.args.fork.now in
    let a : ℕ = c.min.result / block in
    let b : ℕ = c.blocks_needed-behind.result in
    let e : ℕ = c.min-old_behind.result in
    let at : WritePlaces block c.args.size c.args.from c.args.end (length blocks) a b e =
    write_places block c.args.size c.args.from c.args.end (length blocks) a b e c.requires.block c.requires.holds_size c.requires.order c.requires.small (ap (λ m. m / block) c.min.ensures) c.blocks_needed-behind.ensures (c.min-old_behind.ensures ∙ ap (λ m. min b m) c.blocks_needed.ensures) in
    zeros_within (block / 512) a b e (blocks_for block c.args.size) c.args.zeroed at.old_order (c.min-old_behind.ensures ∙ ap (λ m. min b m) c.blocks_needed.ensures)
    (subst (λ m. c.args.zeroed ≤ m - blocks_for block c.args.size) (sym c.blocks_needed-behind.ensures) c.requires.few_zeros)

pub spill_around-requires-clause-ready : goal.spill_around-requires-clause-ready
spill_around-requires-clause-ready g c = λ tells n k low high below.
    let block = c.args.block in
    let blocks : List ℕ = blocks_of c.args.fork.now in
    let a : ℕ = c.min.result / block in
    let b : ℕ = c.blocks_needed-behind.result in
    let e : ℕ = c.min-old_behind.result in
    let at : WritePlaces block c.args.size c.args.from c.args.end (length blocks) a b e =
    write_places block c.args.size c.args.from c.args.end (length blocks) a b e c.requires.block c.requires.holds_size c.requires.order c.requires.small (ap (λ m. m / block) c.min.ensures) c.blocks_needed-behind.ensures (c.min-old_behind.ensures ∙ ap (λ m. min b m) c.blocks_needed.ensures) in
    let old : Space = g.P.SectorView.space c.args.space.now in
    let p : ℕ = block / 512 in
    let d : ℕ = e - a in
    let had : ℕ = blocks_for block c.args.size in
    let first_min : e ≡ min b had = c.min-old_behind.ensures ∙ ap (λ m. min b m) c.blocks_needed.ensures in
    let few : c.args.zeroed ≤ b - had = subst (λ m. c.args.zeroed ≤ m - had) (sym c.blocks_needed-behind.ensures) c.requires.few_zeros in
    let some : 0 < c.args.zeroed = some_factor c.args.zeroed p (omega (arith, low, high)) in
    let e_is : e ≡ had = end_of_old c.args.zeroed b e had first_min few some in
    let m : ℕ = n - d * p in
    let place : d * p + m ≡ n = omega (arith, low) in
    let less : m < c.args.zeroed * p = omega (arith, high, place) in
    let fresh_is : c.in_ok-fresh.fresh ≡ fresh_of c.args.map.now (new_blocks block c.args.size c.args.from c.args.end) =
    c.in_ok-fresh.ensures.fresh ∙ (λ i. fresh_of c.args.map.now (c.blocks_needed-behind.ensures i - c.min.ensures i / block)) in
    let at_is : zeros_at block c.args.size c.args.from c.args.end ≡ d =
    (λ i. min (sym c.blocks_needed-behind.ensures i) (sym c.blocks_needed.ensures i) - sym c.min.ensures i / block) ∙ ap (λ (x : ℕ). x - a) (sym c.min-old_behind.ensures) in
    let gap : 0 < length c.args.value.now → (e + c.args.zeroed) * block ≤ c.args.from = λ more. subst (λ x. (x + c.args.zeroed) * block ≤ c.args.from) (sym e_is) (c.requires.gap some more) in
    ap (λ j. get_or (sector_bytes old.content (get_or (sectors_of p (blocks_of c.in_ok-fresh.fresh)) j 0)) k 0) (sym place)
    ∙ (λ i. get_or (sector_bytes old.content (get_or (sectors_of p (blocks_of (fresh_is i))) (sym at_is i * p + m) 0)) k 0)
    ∙ c.requires.zeros tells m k less below
    ∙ sym (zero_inside old.content (sectors_of p blocks) block c.args.size c.args.from a e c.args.zeroed n k c.args.value.now c.requires.block.whole at.some at.old_order e_is low high below gap)
