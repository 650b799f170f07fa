use Rattle.std.proofs.Common.{◌≡◌, ◌/◌, ◌<◌, ℕ, true, List, length, get_or, slice_get, Some, inr, sym, ◌∙◌, ap, subst, arith}
use Rattle.std.specs.List.{list_all}
use Rattle.std.proofs.lemmas.List.Edits.{length-between}
use Rattle.std.proofs.lemmas.Option.{get_or_from_slice_get, slice_get_within}
use Rattle.sector_disk.specs.Space.{Space}
use Rattle.fork_map.specs.Blocks.{fork_sectors}
use Rattle.btree_node.specs.MemLaws.{whole_sectors}
use Rattle.btree_file.specs.Place.{sectors_at}
use Rattle.btree_file.proofs.FirstSector.{was_put, node_after, nodes_beside, no_room, first_within}
use Rattle.btree_file.proofs.Frames.{put_within}
use Rattle.btree_file.proofs.NodeLaws.{node_put, node_kept}
use Rattle.btree_file.proofs.Sizes.{size_least}
use Rattle.btree_file.proofs.heading.put_header.Goals as goal

-- ---- the first sector alone

below_all : (fork : List ℕ) (first most : ℕ) → slice_get fork 0 ≡ Some first → ((k : ℕ) → k < length fork → get_or fork k 0 < most) → first < most
below_all fork first most there inside = subst (λ s. s < most) (get_or_from_slice_get fork 0 first 0 there) (inside 0 (slice_get_within fork 0 first there))

pub put-requires-clause-inside : goal.put-requires-clause-inside
put-requires-clause-inside g c = below_all (fork_sectors c.args.fork.now c.args.per_block) c.in-Some.first (g.P.SectorView.space c.args.space.now).sectors c.in-Some.ensures.first c.requires.inside

pub put-requires-clause-room : goal.put-requires-clause-room
put-requires-clause-room g c =
    let fork = fork_sectors c.args.fork.now c.args.per_block in
    let old : Space = g.P.SectorView.space c.args.space.now in
    let all = subst (λ (l : List ℕ). list_all old.put (sectors_at fork (length l / 512) 0) ≡ true) c.bytes.ensures.value c.in-Some.ensures.put in
    inr (was_put fork (length c.args.header.now / 512) c.in-Some.first (whole_sectors (length c.args.header.now) c.bytes.ensures.size).0 c.in-Some.ensures.first old.put all)

pub returns-in-Some-clause-node : goal.returns-in-Some-clause-node
returns-in-Some-clause-node g c = λ tells.
    let fork = fork_sectors c.args.fork.now c.args.per_block in
    let old : Space = g.P.SectorView.space c.args.space.now in
    let new : Space = g.P.SectorView.space c.put.new.self in
    let inside = below_all fork c.in-Some.first old.sectors c.in-Some.ensures.first c.requires.inside in
    node_after fork (length c.args.header.now / 512) c.in-Some.first (whole_sectors (length c.args.header.now) c.bytes.ensures.size).0 c.in-Some.ensures.first c.args.header.now c.sector_of.result.now old new c.requires.apart (c.put.ensures.puts tells)
    (omega (arith, inside, g.met.P.SectorView.well_formed c.args.space.now tells)) (c.in-Some.ensures.size tells) (c.requires.rest tells) c.sector_of.ensures

pub returns-in-Some-clause-others : goal.returns-in-Some-clause-others
returns-in-Some-clause-others g c = λ tells.
    let fork = fork_sectors c.args.fork.now c.args.per_block in
    let old : Space = g.P.SectorView.space c.args.space.now in
    let new : Space = g.P.SectorView.space c.put.new.self in
    nodes_beside fork (length c.args.header.now / 512) c.in-Some.first (whole_sectors (length c.args.header.now) c.bytes.ensures.size).0 c.in-Some.ensures.first c.args.header.now c.sector_of.result.now old new c.requires.apart (c.put.ensures.puts tells)

pub returns-in-Some-clause-within : goal.returns-in-Some-clause-within
returns-in-Some-clause-within g c =
    let fork = fork_sectors c.args.fork.now c.args.per_block in
    let old : Space = g.P.SectorView.space c.args.space.now in
    let new : Space = g.P.SectorView.space c.put.new.self in
    let inside = below_all fork c.in-Some.first old.sectors c.in-Some.ensures.first c.requires.inside in
    let all = subst (λ (l : List ℕ). list_all old.put (sectors_at fork (length l / 512) 0) ≡ true) c.bytes.ensures.value c.in-Some.ensures.put in
    first_within fork (length c.args.header.now / 512) c.in-Some.first (whole_sectors (length c.args.header.now) c.bytes.ensures.size).0 c.in-Some.ensures.first c.sector_of.result.now old new all c.put.ensures.room
    (ap (λ (l : List ℕ). length l) c.sector_of.ensures ∙ omega (arith, length-between c.args.header.now 0 512 (size_least (length c.args.header.now) c.bytes.ensures.size))) (λ tells. omega (arith, inside, g.met.P.SectorView.well_formed c.args.space.now tells)) c.put.ensures.puts c.put.ensures.same c.put.ensures.time c.put.ensures.faults

pub returns-in-Some-clause-room : goal.returns-in-Some-clause-room
returns-in-Some-clause-room g c =
    let fork = fork_sectors c.args.fork.now c.args.per_block in
    let old : Space = g.P.SectorView.space c.args.space.now in
    let new : Space = g.P.SectorView.space c.put.new.self in
    let all = subst (λ (l : List ℕ). list_all old.put (sectors_at fork (length l / 512) 0) ≡ true) c.bytes.ensures.value c.in-Some.ensures.put in
    no_room fork (length c.args.header.now / 512) c.in-Some.first (whole_sectors (length c.args.header.now) c.bytes.ensures.size).0 c.in-Some.ensures.first c.sector_of.result.now old new all c.put.ensures.room

-- ---- the whole node

pub returns-clause-node : goal.returns-clause-node
returns-clause-node g c = λ tells.
    node_put (fork_sectors c.args.fork.now c.args.per_block) (length c.args.header.now / 512) 0 c.args.header.now (g.P.SectorView.space c.args.space.now) (g.P.SectorView.space c.put_node.new.space) (c.put_node.ensures.puts tells)
    (omega (arith, c.requires.whole)) (sym (whole_sectors (length c.args.header.now) c.bytes.ensures.size).1)

pub returns-clause-others : goal.returns-clause-others
returns-clause-others g c = λ tells n other.
    node_kept (fork_sectors c.args.fork.now c.args.per_block) (length c.args.header.now / 512) 0 n c.args.header.now (g.P.SectorView.space c.args.space.now) (g.P.SectorView.space c.put_node.new.space) (c.put_node.ensures.puts tells) c.requires.apart other

pub returns-clause-within : goal.returns-clause-within
returns-clause-within g c =
    put_within (fork_sectors c.args.fork.now c.args.per_block) (length c.args.header.now / 512) 0 c.args.header.now (g.P.SectorView.space c.args.space.now) (g.P.SectorView.space c.put_node.new.space) (sym (whole_sectors (length c.args.header.now) c.bytes.ensures.size).1)
    c.put_node.ensures.puts c.put_node.ensures.room c.put_node.ensures.same c.put_node.ensures.time c.put_node.ensures.faults

pub returns-clause-room : goal.returns-clause-room
returns-clause-room g c = c.put_node.ensures.room
