use Rattle.std.proofs.Common.{◌≡◌, ℕ, List, ◌≤◌, ◌*◌, ◌/◌, true, length, take, drop, sym, subst, arith}
use Rattle.std.specs.Prelude.{IfOk}
use Rattle.std.specs.List.{list_all}
use Rattle.hx_bytes.specs.declared.extents.Extent.{Extent}
use Rattle.fork_map.specs.Blocks.{fork_sectors}
use Rattle.file_io.specs.Bytes.{fork_bytes}
use Rattle.volume_base.specs.Opening.{ends_inside}
use Rattle.volume_base.proofs.Extending.{held_whole, whole_held}
use Rattle.volume_base.proofs.OpenFiles.{all_sectors_inside}
use Rattle.volume_base.proofs.Seeing.{cause_of}
use Rattle.volume_base.proofs.reading.read_fork.Goals as goal

pub read-requires-clause-inside : goal.read-requires-clause-inside
read-requires-clause-inside g c =
    all_sectors_inside (c.whole_block-whole.result / 512) (g.P.SectorView.space c.args.space.now).sectors c.inside_or_none-inside.result (omega (arith, c.whole_block-whole.ensures.whole.least))
    (subst (λ n. list_all (ends_inside (c.whole_block-whole.result / 512) n) c.inside_or_none-inside.result ≡ true) c.sectors.ensures c.inside_or_none-inside.ensures.inside)

pub read-requires-clause-holds_size : goal.read-requires-clause-holds_size
read-requires-clause-holds_size g c = held_whole c.inside_or_none-inside.result c.whole_block-whole.result c.size_held-held.result c.whole_block-whole.ensures.whole.whole c.size_held-held.ensures.held

pub returns-clause-bytes : goal.returns-clause-bytes
returns-clause-bytes g c tells whole ends holds =
    let block = c.whole_block-whole.ensures.same whole in
    let inside = c.inside_or_none-inside.ensures.same
    (subst (λ (k : ℕ × ℕ). list_all (ends_inside (k.0 / 512) k.1) c.args.fork ≡ true) (λ i. (sym block i, sym c.sectors.ensures i)) ends) in
    let size = c.size_held-held.ensures.same
    (subst (λ (k : ℕ × List Extent). c.args.size ≤ length (fork_sectors k.1 (k.0 / 512)) * 512) (λ i. (sym block i, sym inside i)) (whole_held c.args.fork c.args.block c.args.size whole holds)) in
    subst (λ (k : ℕ × ℕ × List Extent). IfOk c.read.result (λ (bytes : List ℕ). bytes ≡ take c.args.long (drop c.args.from (take k.1 (fork_bytes (g.P.SectorView.space c.args.space.now).content k.0 k.2)))))
    (λ i. (block i, size i, inside i)) (c.read.ensures.bytes tells)

pub returns-clause-reads : goal.returns-clause-reads
returns-clause-reads g c =
    record {
      sectors = c.read.ensures.sectors;
      time = c.read.ensures.time;
      room = c.read.ensures.room;
      same = c.read.ensures.same;
      faults = c.read.ensures.later;
    }

pub returns-clause-cause : goal.returns-clause-cause
returns-clause-cause g c = cause_of (g.P.SectorView.space c.args.space.now).faults (g.P.SectorView.space c.read.new.space).faults c.read.result c.read.ensures.later c.read.ensures.disk
