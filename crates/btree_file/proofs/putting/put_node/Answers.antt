use Rattle.std.proofs.Common.{◌≡◌, ◌<◌, ◌≤◌, ◌+◌, ◌/◌, ℕ, List, IsTrue, length, drop, sym, ap, subst, arith}
use Rattle.sector_disk.specs.Space.{Space}
use Rattle.sector_disk.proofs.PutLaws.{PutSoFar, none_so_far, more_so_far, still_to_come, has_room}
use Rattle.fork_map.specs.Blocks.{fork_sectors}
use Rattle.btree_file.specs.Place.{sectors_at}
use Rattle.btree_file.specs.Putting.{IsPiece, unput}
use Rattle.btree_file.proofs.NodeParts.{none_left}
use Rattle.btree_file.proofs.PlaceLaws.{sector_in_fork, own_piece, next_sector, sector_place, end_of_node, has_place, same_place, same_none}
use Rattle.btree_file.proofs.putting.put_node.Goals as goal
use Rattle.btree_file.proofs.putting.put_node.Goals.{in-Some, in_default}

pub loop-k-init : goal.loop-k-init
loop-k-init g c = record {
  per = ap (λ (b : List ℕ). length b / 512) c.bytes.ensures.value;
  so_far =
      let all = sectors_at (fork_sectors c.args.fork.now c.args.per_block) (length c.args.from.now / 512) c.args.node in
      none_so_far all (IsPiece all c.args.from.now) (g.P.SectorView.space c.args.space.now) c.requires.room;
  below = g.met.P.SectorView.follows_refl c.args.space.now;
}

pub put-requires-clause-inside : goal.put-requires-clause-inside
put-requires-clause-inside g c =
    let fork = fork_sectors c.args.fork.now c.args.per_block in
    let per = length c.args.from.now / 512 in
    let all = sectors_at fork per c.args.node in
    let k = c.loop-k.k in
    let old : Space = g.P.SectorView.space c.args.space.now in
    let now : Space = g.P.SectorView.space c.loop-k.space in
    let so_far = c.loop-k.invariant.so_far in
    let e : length c.bytes.result.now / 512 ≡ per = ap (λ (b : List ℕ). length b / 512) c.bytes.ensures.value in
    let next = next_sector fork per c.args.node k c.in-Some.at (omega arith) (same_place fork c.args.node k c.in-Some.at (length c.bytes.result.now / 512) per e c.in-Some.ensures) in
    let one = sector_in_fork fork per c.args.node c.in-Some.at (still_to_come all (drop k all) (drop (k + 1) all) c.in-Some.at (IsPiece all c.args.from.now) old now so_far next) in
    omega (arith, subst (λ s. s < old.sectors) one.2 (c.requires.inside one.0 one.1), so_far.same.sectors)

pub put-requires-clause-open : goal.put-requires-clause-open
put-requires-clause-open g c = λ tells closed.
    let fork = fork_sectors c.args.fork.now c.args.per_block in
    let per = length c.args.from.now / 512 in
    let all = sectors_at fork per c.args.node in
    let k = c.loop-k.k in
    let old : Space = g.P.SectorView.space c.args.space.now in
    let now : Space = g.P.SectorView.space c.loop-k.space in
    let so_far = c.loop-k.invariant.so_far in
    let e : length c.bytes.result.now / 512 ≡ per = ap (λ (b : List ℕ). length b / 512) c.bytes.ensures.value in
    let next = next_sector fork per c.args.node k c.in-Some.at (omega arith) (same_place fork c.args.node k c.in-Some.at (length c.bytes.result.now / 512) per e c.in-Some.ensures) in
    let one = sector_in_fork fork per c.args.node c.in-Some.at (still_to_come all (drop k all) (drop (k + 1) all) c.in-Some.at (IsPiece all c.args.from.now) old now so_far next) in
    let told = subst IsTrue so_far.same.tells tells in
    c.requires.open told one.0 one.1 (subst (λ s. old.closed s) (sym one.2) (((so_far.puts told).closed c.in-Some.at).0 closed))

pub put-requires-clause-room : goal.put-requires-clause-room
put-requires-clause-room g c =
    let fork = fork_sectors c.args.fork.now c.args.per_block in
    let per = length c.args.from.now / 512 in
    let k = c.loop-k.k in
    let now : Space = g.P.SectorView.space c.loop-k.space in
    let e : length c.bytes.result.now / 512 ≡ per = ap (λ (b : List ℕ). length b / 512) c.bytes.ensures.value in
    let next = next_sector fork per c.args.node k c.in-Some.at (omega arith) (same_place fork c.args.node k c.in-Some.at (length c.bytes.result.now / 512) per e c.in-Some.ensures) in
    has_room now c.in-Some.at (drop (k + 1) (sectors_at fork per c.args.node)) (subst (λ (l : List ℕ). unput now.put l ≤ now.spare) next c.loop-k.invariant.so_far.left_room)

pub loop-k-preserved : goal.loop-k-preserved
loop-k-preserved g c =
    let fork = fork_sectors c.args.fork.now c.args.per_block in
    let per = length c.args.from.now / 512 in
    let all = sectors_at fork per c.args.node in
    let k = c.loop-k.k in
    let old : Space = g.P.SectorView.space c.args.space.now in
    let now : Space = g.P.SectorView.space c.loop-k.space in
    let so_far = c.loop-k.invariant.so_far in
    let e : length c.bytes.result.now / 512 ≡ per = ap (λ (b : List ℕ). length b / 512) c.bytes.ensures.value in
    let low : k < per = omega arith in
    record {
      per = e;
      so_far = elim c.match-counted_sector.branch [
        | in-Some w ↦
            let at = w.in-Some.at in
            let place = same_place fork c.args.node k at (length c.bytes.result.now / 512) per e w.in-Some.ensures in
            let next = next_sector fork per c.args.node k at low place in
            let one = sector_in_fork fork per c.args.node at (still_to_come all (drop k all) (drop (k + 1) all) at (IsPiece all c.args.from.now) old now so_far next) in
            let inside = subst (λ s. s < old.sectors) one.2 (c.requires.inside one.0 one.1) in
            let put = w.put.ensures in
            subst (λ s. PutSoFar all (drop (k + 1) all) (IsPiece all c.args.from.now) old (g.P.SectorView.space s)) (sym w.space-is)
            (more_so_far all (drop k all) (drop (k + 1) all) at w.sector_of.result.now (IsPiece all c.args.from.now) old now (g.P.SectorView.space w.put.new.self) so_far next
            (record { place = k; there = sector_place fork per c.args.node k at low place; is = w.sector_of.ensures })
            (λ tells. omega (arith, inside, so_far.same.sectors, g.met.P.SectorView.well_formed c.loop-k.space tells))
            put.puts put.time put.room put.same put.faults)
        | in_default w ↦ absurd (has_place fork per c.args.node k c.requires.whole low (same_none fork c.args.node k (length c.bytes.result.now / 512) per e w.in_default.ensures))
      ];
      below = elim c.match-counted_sector.branch [
        | in-Some w ↦ subst (λ s. g.P.SectorView.follows c.args.space.now s) (sym w.space-is) (g.met.P.SectorView.follows_trans c.args.space.now c.loop-k.space w.put.new.self c.loop-k.invariant.below w.put.ensures.below)
        | in_default w ↦ absurd (has_place fork per c.args.node k c.requires.whole low (same_none fork c.args.node k (length c.bytes.result.now / 512) per e w.in_default.ensures))
      ];
    }

pub returns-clause-puts : goal.returns-clause-puts
returns-clause-puts g c = λ tells.
    let fork = fork_sectors c.args.fork.now c.args.per_block in
    let per = length c.args.from.now / 512 in
    let all = sectors_at fork per c.args.node in
    let old : Space = g.P.SectorView.space c.args.space.now in
    let now : Space = g.P.SectorView.space c.loop-k.space in
    let e : length c.bytes.result.now / 512 ≡ per = ap (λ (b : List ℕ). length b / 512) c.bytes.ensures.value in
    let done = none_left all (drop c.loop-k.k all) (IsPiece all c.args.from.now) old now c.loop-k.invariant.so_far (end_of_node fork per c.args.node c.loop-k.k (omega (arith, e))) in
    record { here = own_piece fork per c.args.node c.args.from.now now.content c.requires.apart (done.bytes tells); these = done.puts tells }

pub returns-clause-room : goal.returns-clause-room
returns-clause-room g c =
    let fork = fork_sectors c.args.fork.now c.args.per_block in
    let per = length c.args.from.now / 512 in
    let all = sectors_at fork per c.args.node in
    let old : Space = g.P.SectorView.space c.args.space.now in
    let now : Space = g.P.SectorView.space c.loop-k.space in
    let e : length c.bytes.result.now / 512 ≡ per = ap (λ (b : List ℕ). length b / 512) c.bytes.ensures.value in
    (none_left all (drop c.loop-k.k all) (IsPiece all c.args.from.now) old now c.loop-k.invariant.so_far (end_of_node fork per c.args.node c.loop-k.k (omega (arith, e)))).room
