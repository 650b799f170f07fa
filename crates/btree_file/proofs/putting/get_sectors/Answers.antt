use Rattle.std.proofs.Common.{◌≡◌, ◌<◌, ◌+◌, ◌/◌, ℕ, List, length, sym, ◌∙◌, ap, subst, arith}
use Rattle.sector_disk.specs.Space.{Space}
use Rattle.fork_map.specs.Blocks.{fork_sectors}
use Rattle.btree_file.proofs.Fetched.{Fetched, fetched_none, fetched_more}
use Rattle.btree_file.proofs.PlaceLaws.{has_place, same_place, same_none}
use Rattle.btree_file.proofs.putting.get_sectors.Goals as goal
use Rattle.btree_file.proofs.putting.get_sectors.Goals.{in-Some+in_ok-get, in_default}

pub loop-k-init : goal.loop-k-init
loop-k-init g c = record {
  per = ap (λ (b : List ℕ). length b / 512) c.bytes.ensures.value;
  read = fetched_none (g.V.SectorView.space c.args.space.now) (fork_sectors c.args.fork.now c.args.per_block) (length c.args.into.now / 512) c.args.node c.args.into.now;
  below = g.met.V.SectorView.follows_refl c.args.space.now;
}

pub loop-k-preserved : goal.loop-k-preserved
loop-k-preserved g c =
    let fork = fork_sectors c.args.fork.now c.args.per_block in
    let per = length c.args.into.now / 512 in
    let k = c.loop-k.k in
    let old : Space = g.V.SectorView.space c.args.space.now in
    let now : Space = g.V.SectorView.space c.loop-k.space in
    let e : length c.bytes.result.now / 512 ≡ per = ap (λ (b : List ℕ). length b / 512) c.bytes.ensures.value in
    let low : k < per = omega arith in
    record {
      per = e;
      read = elim c.match-counted_sector.branch [
        | in-Some+in_ok-get w ↦
            let place = same_place fork c.args.node k w.in-Some.at (length c.bytes.result.now / 512) per e w.in-Some.ensures in
            let got = w.in_ok-get.ensures in
            subst (λ s. Fetched old (g.V.SectorView.space s) fork per c.args.node (length c.args.into.now) c.match-counted_sector.into (k + 1)) (sym w.space-is)
            (subst (λ (b : List ℕ). Fetched old (g.V.SectorView.space w.get.new.self) fork per c.args.node (length c.args.into.now) b (k + 1)) (sym (w.into-is ∙ w.fill.ensures))
            (fetched_more old now (g.V.SectorView.space w.get.new.self) fork per c.args.node (length c.args.into.now) c.loop-k.into w.get.new.into k w.in-Some.at c.loop-k.invariant.read c.requires.whole low place (omega (arith, low)) w.get.array_long
            got.value (record { sectors = got.sectors; time = got.time; room = got.room; same = got.same; faults = got.cause.later })))
        | in_default w ↦ absurd (has_place fork per c.args.node k c.requires.whole low (same_none fork c.args.node k (length c.bytes.result.now / 512) per e w.in_default.ensures))
      ];
      below = elim c.match-counted_sector.branch [
        | in-Some+in_ok-get w ↦ subst (λ s. g.V.SectorView.follows c.args.space.now s) (sym w.space-is) (g.met.V.SectorView.follows_trans c.args.space.now c.loop-k.space w.get.new.self c.loop-k.invariant.below w.get.ensures.below)
        | in_default w ↦ absurd (has_place fork per c.args.node k c.requires.whole low (same_none fork c.args.node k (length c.bytes.result.now / 512) per e w.in_default.ensures))
      ];
    }
