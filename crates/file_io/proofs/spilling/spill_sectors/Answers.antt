use Rattle.std.proofs.Common.{◌≡◌, ◌+◌, ◌*◌, ◌<◌, ◌-◌, ℕ, ◌&&◌, nat_le, nat_lt, if◌then◌else◌, IsTrue, List, Some, None, length, get_or, slice_get, refl, ap, subst, sym, ◌∙◌, arith, ◌/◌}
use Rattle.std.proofs.lemmas.Option.{slice_get-get_or}
use Rattle.sector_disk.specs.Space.{Space}
use Rattle.fork_map.specs.Blocks.{blocks_of, sectors_of}
use Rattle.file_io.specs.Bytes.{new_byte}
use Rattle.file_io.specs.Walks.{StandsAt}
use Rattle.file_io.proofs.SpillLaws.{made_read, made_more, same_old_byte, spills_failed, time_failed}
use Rattle.file_io.proofs.AroundLaws.{may_spill_still}
use Rattle.file_io.specs.Touching.{IsOneOf}
use Rattle.file_io.proofs.spilling.spill_sectors.Goals as goal

pub spill-requires-clause-inside : goal.spill-requires-clause-inside
spill-requires-clause-inside g c =
    let n = c.loop-n.n in
    let place : slice_get (sectors_of c.args.per_block (blocks_of c.args.fresh.now)) n ≡ Some c.in-Some.at = sym (c.in-Some.ensures.sector n (c.loop-n.invariant.new_walk c.loop-n-test.true)) in
    omega (arith, (c.requires.may_spill n c.in-Some.at c.loop-n.invariant.low c.loop-n-test.true place).inside, c.loop-n.invariant.made.same.sectors, c.old_bytes.ensures.space.same.sectors)

pub spill-requires-clause-no_header : goal.spill-requires-clause-no_header
spill-requires-clause-no_header g c =
    let n = c.loop-n.n in
    let place : slice_get (sectors_of c.args.per_block (blocks_of c.args.fresh.now)) n ≡ Some c.in-Some.at = sym (c.in-Some.ensures.sector n (c.loop-n.invariant.new_walk c.loop-n-test.true)) in
    (c.requires.may_spill n c.in-Some.at c.loop-n.invariant.low c.loop-n-test.true place).no_header

pub spill-requires-clause-idle : goal.spill-requires-clause-idle
spill-requires-clause-idle g c =
    let old : Space = g.P.SectorView.space c.args.space.now in
    let now : Space = g.P.SectorView.space c.loop-n.space in
    let mid : Space = g.P.SectorView.space c.old_bytes.new.space in
    let n = c.loop-n.n in
    let had : List ℕ = sectors_of c.args.per_block (blocks_of c.args.fork.now) in
    let fresh : List ℕ = sectors_of c.args.per_block (blocks_of c.args.fresh.now) in
    let place : slice_get fresh n ≡ Some c.in-Some.at = sym (c.in-Some.ensures.sector n (c.loop-n.invariant.new_walk c.loop-n-test.true)) in
    let made = made_read old now mid had fresh c.args.first c.args.size c.args.from c.args.value.now c.args.place n c.loop-n.invariant.made c.old_bytes.ensures.space in
    (may_spill_still (IsOneOf fresh) old mid made.same made.touches c.in-Some.at (c.requires.may_spill n c.in-Some.at c.loop-n.invariant.low c.loop-n-test.true place)).idle

pub returns-in_err-spill-in-Some-clause-touches : goal.returns-in_err-spill-in-Some-clause-touches
returns-in_err-spill-in-Some-clause-touches g c =
    let old : Space = g.P.SectorView.space c.args.space.now in
    let now : Space = g.P.SectorView.space c.loop-n.space in
    let mid : Space = g.P.SectorView.space c.old_bytes.new.space in
    let new : Space = g.P.SectorView.space c.spill.new.self in
    let n = c.loop-n.n in
    let had : List ℕ = sectors_of c.args.per_block (blocks_of c.args.fork.now) in
    let fresh : List ℕ = sectors_of c.args.per_block (blocks_of c.args.fresh.now) in
    let place : slice_get fresh n ≡ Some c.in-Some.at = sym (c.in-Some.ensures.sector n (c.loop-n.invariant.new_walk c.loop-n-test.true)) in
    spills_failed old mid new had fresh c.args.first c.args.size c.args.from c.args.value.now c.args.place n c.in-Some.at c.put_part.new.sector
    (made_read old now mid had fresh c.args.first c.args.size c.args.from c.args.value.now c.args.place n c.loop-n.invariant.made c.old_bytes.ensures.space) place c.in_err-spill-in-Some.ensures.unsure

pub returns-in_err-spill-in-Some-clause-time : goal.returns-in_err-spill-in-Some-clause-time
returns-in_err-spill-in-Some-clause-time g c =
    let old : Space = g.P.SectorView.space c.args.space.now in
    let now : Space = g.P.SectorView.space c.loop-n.space in
    let mid : Space = g.P.SectorView.space c.old_bytes.new.space in
    let new : Space = g.P.SectorView.space c.spill.new.self in
    let n = c.loop-n.n in
    let had : List ℕ = sectors_of c.args.per_block (blocks_of c.args.fork.now) in
    let fresh : List ℕ = sectors_of c.args.per_block (blocks_of c.args.fresh.now) in
    time_failed old mid new had fresh c.args.first c.args.size c.args.from c.args.value.now c.args.place n c.in-Some.at c.put_part.new.sector
    (made_read old now mid had fresh c.args.first c.args.size c.args.from c.args.value.now c.args.place n c.loop-n.invariant.made c.old_bytes.ensures.space)
    c.in_err-spill-in-Some.ensures.unsure c.spill.ensures.time c.spill.ensures.same

pub returns-in_err-spill-in-Some-clause-below : goal.returns-in_err-spill-in-Some-clause-below
returns-in_err-spill-in-Some-clause-below g c = g.met.P.SectorView.follows_trans c.args.space.now c.old_bytes.new.space c.spill.new.self (g.met.P.SectorView.follows_trans c.args.space.now c.loop-n.space c.old_bytes.new.space c.loop-n.invariant.below c.old_bytes.ensures.below) c.spill.ensures.below

pub returns-in-None-clause-bytes : goal.returns-in-None-clause-bytes
returns-in-None-clause-bytes g c =
    let fresh : List ℕ = sectors_of c.args.per_block (blocks_of c.args.fresh.now) in
    let n = c.loop-n.n in
    let there : None ≡ Some (get_or fresh n 0) = c.in-None.ensures.sector n (c.loop-n.invariant.new_walk c.loop-n-test.true) ∙ slice_get-get_or fresh n 0 (omega (arith, c.loop-n-test.true, c.requires.enough)) in
    absurd (cc there)

pub loop-n-preserved : goal.loop-n-preserved
loop-n-preserved g c =
    let old : Space = g.P.SectorView.space c.args.space.now in
    let now : Space = g.P.SectorView.space c.loop-n.space in
    let mid : Space = g.P.SectorView.space c.old_bytes.new.space in
    let new : Space = g.P.SectorView.space c.spill.new.self in
    let inv = c.loop-n.invariant in
    let n = c.loop-n.n in
    let at = c.in-Some.at in
    let start : ℕ = (c.args.first + n) * 512 in
    let had : List ℕ = sectors_of c.args.per_block (blocks_of c.args.fork.now) in
    let fresh : List ℕ = sectors_of c.args.per_block (blocks_of c.args.fresh.now) in
    let walk = inv.new_walk c.loop-n-test.true in
    let place : slice_get fresh n ≡ Some at = sym (c.in-Some.ensures.sector n walk) in
    let made = made_read old now mid had fresh c.args.first c.args.size c.args.from c.args.value.now c.args.place n inv.made c.old_bytes.ensures.space in
    let right : IsTrue old.tells → (k : ℕ) → k < 512 → get_or c.put_part.new.sector k 0 ≡ new_byte old.content had c.args.size c.args.from c.args.value.now (start + k) = λ tells k lt.
    c.put_part.ensures k lt
    ∙ ap (λ (v : ℕ). if nat_le c.args.from (start + k) && nat_lt (start + k) (c.args.from + length c.args.value.now) then get_or c.args.value.now (start + k - c.args.from) 0 else v)
    (c.in_ok-old_bytes.ensures.bytes (inv.made.same.tells ∙ tells) k lt ∙ same_old_byte old now had fresh c.args.size (start + k) (inv.made.touches tells) c.requires.elsewhere c.requires.holds) in
    record {
      low = omega (arith, inv.low);
      old_walk = λ more. subst (λ m. StandsAt c.args.fork.now c.args.per_block c.old_bytes.new.walk m) (let e : start / 512 + 1 ≡ c.args.first + (n + 1) = omega arith in e) (c.in_ok-old_bytes.ensures.walk (omega (arith, more)));
      new_walk = λ more. c.in-Some.ensures.moved n walk refl;
      made = made_more old mid new had fresh c.args.first c.args.size c.args.from c.args.value.now c.args.place n at c.put_part.new.sector made inv.low place c.requires.apart c.put_part.array_long
          (λ tells. omega (arith, g.met.P.SectorView.well_formed c.old_bytes.new.space tells, (c.requires.may_spill n at inv.low c.loop-n-test.true place).inside, made.same.sectors))
          right c.in_ok-spill-in-Some.ensures.spills c.spill.ensures.time c.spill.ensures.room c.spill.ensures.same c.spill.ensures.cause.later;
      below = g.met.P.SectorView.follows_trans c.args.space.now c.old_bytes.new.space c.spill.new.self (g.met.P.SectorView.follows_trans c.args.space.now c.loop-n.space c.old_bytes.new.space c.loop-n.invariant.below c.old_bytes.ensures.below) c.spill.ensures.below;
    }
