use Rattle.std.proofs.Common.{◌≡◌, ◌<◌, ◌-◌, ◌*◌, ◌++◌, ℕ, Some, None, List, arith, length, get_or, slice_get, take, drop, length-append, length-take, length-drop, refl, ap, subst, sym, ◌∙◌}
use Rattle.std.proofs.lemmas.Option.{slice_get-get_or, slice_get_within, get_or_from_slice_get}
use Rattle.sector_disk.specs.Space.{Space}
use Rattle.sector_disk.specs.Lists.{Content, sector}
use Rattle.fork_map.specs.Blocks.{blocks_of, sectors_of}
use Rattle.file_io.proofs.ByteLaws.{part_is, read_more, sector_bytes_is}
use Rattle.file_io.proofs.SpaceLaws.{read_none, read_on}
use Rattle.file_io.proofs.reading.read_part.Goals as goal

pub loop-n-init : goal.loop-n-init
loop-n-init g c = record {
  walk = c.before-walk.ensures (omega (arith, c.requires.order, c.requires.holds));
  size = omega (arith, ap (λ (l : List ℕ). length l) c.new-bytes.ensures.items, c.requires.order);
  each = λ tells j lt. absurd (omega (arith, lt, ap (λ (l : List ℕ). length l) c.new-bytes.ensures.items));
  space = read_none (g.P.SectorView.space c.args.space.now);
  below = g.met.P.SectorView.follows_refl c.args.space.now;
}

pub get-requires : goal.get-requires
get-requires g c =
    let sectors : List ℕ = sectors_of c.args.per_block (blocks_of c.args.fork.now) in
    let n = c.loop-n.n in let at = c.in-Some.at in
    let place : slice_get sectors n ≡ Some at = sym (c.in-Some.ensures.sector n c.loop-n.invariant.walk) in
    omega (arith, subst (λ s. s < (g.P.SectorView.space c.args.space.now).sectors) (get_or_from_slice_get sectors n at 0 place) (c.requires.inside n 0 (slice_get_within sectors n at place)), c.loop-n.invariant.space.same.sectors)

pub loop-n-preserved : goal.loop-n-preserved
loop-n-preserved g c =
    let old : Space = g.P.SectorView.space c.args.space.now in
    let now : Space = g.P.SectorView.space c.loop-n.space in
    let new : Space = g.P.SectorView.space c.get.new.self in
    let inv = c.loop-n.invariant in
    let got = c.get.ensures in
    let n = c.loop-n.n in let at = c.in-Some.at in
    let sectors : List ℕ = sectors_of c.args.per_block (blocks_of c.args.fork.now) in
    let place : slice_get sectors n ≡ Some at = sym (c.in-Some.ensures.sector n inv.walk) in
    let low : ℕ = c.max.result - n * 512 in
    let high : ℕ = c.min-high.result in
    let pushed : c.push_part.new.out.items ≡ c.loop-n.bytes.items ++ take (high - low) (drop low c.get.new.into) = c.in_ok-push_part.ensures in
    let part : length (take (high - low) (drop low c.get.new.into)) ≡ high - low = omega (arith, length-take (high - low) (drop low c.get.new.into), length-drop low c.get.new.into, c.get.array_long, c.max.ensures, c.min-high.ensures) in
    record {
      walk = c.in-Some.ensures.moved n inv.walk refl;
      size = omega (arith, ap (λ (l : List ℕ). length l) pushed, length-append c.loop-n.bytes.items (take (high - low) (drop low c.get.new.into)), part, inv.size, c.max.ensures, c.min-high.ensures, c.loop-n.auto.n, c.loop-n-test.true, c.requires.order);
      each = λ tells. read_more old.content sectors c.loop-n.bytes.items c.get.new.into c.push_part.new.out.items c.args.from n low high c.max.result at
          (omega (arith, inv.size, c.max.ensures, c.loop-n.auto.n, c.loop-n-test.true, c.requires.order)) (omega (arith, c.max.ensures)) (omega (arith, c.max.ensures)) (omega (arith, c.max.ensures, c.min-high.ensures, c.loop-n.auto.n, c.loop-n-test.true, c.requires.order)) (omega (arith, c.min-high.ensures)) c.get.array_long
          pushed
          (sector_bytes_is old.content at c.get.new.into (sym (c.in_ok-get-in-Some.ensures.value (inv.space.same.tells ∙ tells) ∙ ap (λ (k : Content). sector k at) (inv.space.sectors tells).content)) c.get.array_long)
          (get_or_from_slice_get sectors n at 0 place) (inv.each tells);
      space = read_on old now new inv.space got.sectors got.time got.room got.same got.cause.later;
      below = g.met.P.SectorView.follows_trans c.args.space.now c.loop-n.space c.get.new.self inv.below got.below;
    }

pub returns-in_err-get-in-Some-clause-time : goal.returns-in_err-get-in-Some-clause-time
returns-in_err-get-in-Some-clause-time g c = (read_on (g.P.SectorView.space c.args.space.now) (g.P.SectorView.space c.loop-n.space) (g.P.SectorView.space c.get.new.self) c.loop-n.invariant.space c.get.ensures.sectors c.get.ensures.time c.get.ensures.room c.get.ensures.same c.get.ensures.cause.later).time

pub returns-in_err-push_part-clause-sectors : goal.returns-in_err-push_part-clause-sectors
returns-in_err-push_part-clause-sectors g c = (read_on (g.P.SectorView.space c.args.space.now) (g.P.SectorView.space c.loop-n.space) (g.P.SectorView.space c.get.new.self) c.loop-n.invariant.space c.get.ensures.sectors c.get.ensures.time c.get.ensures.room c.get.ensures.same c.get.ensures.cause.later).sectors

pub returns-in_err-push_part-clause-time : goal.returns-in_err-push_part-clause-time
returns-in_err-push_part-clause-time g c = (read_on (g.P.SectorView.space c.args.space.now) (g.P.SectorView.space c.loop-n.space) (g.P.SectorView.space c.get.new.self) c.loop-n.invariant.space c.get.ensures.sectors c.get.ensures.time c.get.ensures.room c.get.ensures.same c.get.ensures.cause.later).time

pub returns-in_err-push_part-clause-room : goal.returns-in_err-push_part-clause-room
returns-in_err-push_part-clause-room g c = (read_on (g.P.SectorView.space c.args.space.now) (g.P.SectorView.space c.loop-n.space) (g.P.SectorView.space c.get.new.self) c.loop-n.invariant.space c.get.ensures.sectors c.get.ensures.time c.get.ensures.room c.get.ensures.same c.get.ensures.cause.later).room

pub returns-in_err-get-in-Some-clause-below : goal.returns-in_err-get-in-Some-clause-below
returns-in_err-get-in-Some-clause-below g c = g.met.P.SectorView.follows_trans c.args.space.now c.loop-n.space c.get.new.self c.loop-n.invariant.below c.get.ensures.below

pub returns-in_err-push_part-clause-below : goal.returns-in_err-push_part-clause-below
returns-in_err-push_part-clause-below g c = g.met.P.SectorView.follows_trans c.args.space.now c.loop-n.space c.get.new.self c.loop-n.invariant.below c.get.ensures.below

pub returns-in-None-clause-bytes : goal.returns-in-None-clause-bytes
returns-in-None-clause-bytes g c =
    let sectors : List ℕ = sectors_of c.args.per_block (blocks_of c.args.fork.now) in
    let n = c.loop-n.n in
    let inside : n < length sectors = omega (arith, c.loop-n-test.true, c.requires.holds, c.requires.order) in
    let there : None ≡ Some (get_or sectors n 0) = c.in-None.ensures.sector n c.loop-n.invariant.walk ∙ slice_get-get_or sectors n 0 inside in
    absurd (cc there)

pub returns-clause-bytes : goal.returns-clause-bytes
returns-clause-bytes g c = λ tells. part_is (g.P.SectorView.space c.args.space.now).content (sectors_of c.args.per_block (blocks_of c.args.fork.now)) c.loop-n.bytes.items c.args.from c.args.end
    (omega (arith, c.requires.order)) c.requires.holds (omega (arith, c.loop-n.invariant.size, c.requires.order)) (λ j lt. c.loop-n.invariant.each tells j (omega (arith, c.loop-n.invariant.size, lt, c.requires.order)))
