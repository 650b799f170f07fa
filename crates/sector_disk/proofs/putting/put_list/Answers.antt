use Rattle.std.proofs.Common.{◌<◌, ◌≤◌, ℕ, List, IsTrue, arith, subst}
use Rattle.sector_disk.specs.Putting.{unput}
use Rattle.sector_disk.proofs.PutLaws.{none_so_far, more_so_far, still_to_come, has_room}
use Rattle.sector_disk.proofs.putting.put_list.Goals as goal

pub loop-at-init : goal.loop-at-init
loop-at-init g c = record {
  so_far = none_so_far (g.L.SectorsToPut.places c.args.list.now) (g.L.SectorsToPut.belongs c.args.list.now) (g.P.SectorView.space c.args.space.now) c.requires.room;
  kept = λ at bytes is. is;
  below = g.met.P.SectorView.follows_refl c.args.space.now;
}

pub put-requires-clause-inside : goal.put-requires-clause-inside
put-requires-clause-inside g c =
    let so_far = c.loop-at.invariant.so_far in
    let is = still_to_come (g.L.SectorsToPut.places c.args.list.now) (g.L.SectorsToPut.places c.loop-at.list) (g.L.SectorsToPut.places c.next.new.self) c.in-Some.at (g.L.SectorsToPut.belongs c.args.list.now)
    (g.P.SectorView.space c.args.space.now) (g.P.SectorView.space c.loop-at.space) so_far c.in-Some.ensures.next in
    omega (arith, subst (λ s. s < (g.P.SectorView.space c.args.space.now).sectors) is.2 (c.requires.inside is.0 c.in-Some.at is.1), so_far.same.sectors)

pub put-requires-clause-open : goal.put-requires-clause-open
put-requires-clause-open g c =
    let so_far = c.loop-at.invariant.so_far in
    let is = still_to_come (g.L.SectorsToPut.places c.args.list.now) (g.L.SectorsToPut.places c.loop-at.list) (g.L.SectorsToPut.places c.next.new.self) c.in-Some.at (g.L.SectorsToPut.belongs c.args.list.now)
    (g.P.SectorView.space c.args.space.now) (g.P.SectorView.space c.loop-at.space) so_far c.in-Some.ensures.next in
    λ tells closed. let told = subst IsTrue so_far.same.tells tells in c.requires.open told c.in-Some.at is (((so_far.puts told).closed c.in-Some.at).0 closed)

pub put-requires-clause-room : goal.put-requires-clause-room
put-requires-clause-room g c =
    has_room (g.P.SectorView.space c.loop-at.space) c.in-Some.at (g.L.SectorsToPut.places c.next.new.self)
    (subst (λ (l : List ℕ). unput (g.P.SectorView.space c.loop-at.space).put l ≤ (g.P.SectorView.space c.loop-at.space).spare) c.in-Some.ensures.next c.loop-at.invariant.so_far.left_room)

pub loop-at-preserved : goal.loop-at-preserved
loop-at-preserved g c =
    let inv = c.loop-at.invariant in
    let is = still_to_come (g.L.SectorsToPut.places c.args.list.now) (g.L.SectorsToPut.places c.loop-at.list) (g.L.SectorsToPut.places c.next.new.self) c.in-Some.at (g.L.SectorsToPut.belongs c.args.list.now)
    (g.P.SectorView.space c.args.space.now) (g.P.SectorView.space c.loop-at.space) inv.so_far c.in-Some.ensures.next in
    let inside = subst (λ s. s < (g.P.SectorView.space c.args.space.now).sectors) is.2 (c.requires.inside is.0 c.in-Some.at is.1) in
    record {
      so_far = more_so_far (g.L.SectorsToPut.places c.args.list.now) (g.L.SectorsToPut.places c.loop-at.list) (g.L.SectorsToPut.places c.next.new.self) c.in-Some.at c.next.new.into (g.L.SectorsToPut.belongs c.args.list.now)
          (g.P.SectorView.space c.args.space.now) (g.P.SectorView.space c.loop-at.space) (g.P.SectorView.space c.put.new.self) inv.so_far c.in-Some.ensures.next
          (inv.kept c.in-Some.at c.next.new.into c.in-Some.ensures.bytes)
          (λ tells. omega (arith, inside, inv.so_far.same.sectors, g.met.P.SectorView.well_formed c.loop-at.space tells))
          c.put.ensures.puts c.put.ensures.time c.put.ensures.room c.put.ensures.same c.put.ensures.faults;
      kept = λ at bytes b. inv.kept at bytes (c.next.ensures.same at bytes b);
      below = g.met.P.SectorView.follows_trans c.args.space.now c.loop-at.space c.put.new.self inv.below c.put.ensures.below;
    }
