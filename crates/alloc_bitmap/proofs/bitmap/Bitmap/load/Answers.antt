use Rattle.std.proofs.Common.{◌≡◌, ◌/◌, ℕ, List, Bool, length, ap, subst, ◌∙◌}
use Rattle.hx_bytes.specs.declared.extents.Extent.{Extent}
use Rattle.flag_rows.specs.Bits.{bits_of}
use Rattle.alloc_bitmap.specs.Fork.{HoldsBits}
use Rattle.fork_map.specs.Blocks.{fork_sectors}
use Rattle.alloc_bitmap.specs.Map.{BlockMap}
use Rattle.flag_rows.proofs.RowLaws.{length-bits_of}
use Rattle.alloc_bitmap.proofs.ForkLaws.{read_all, loaded}
use Rattle.alloc_bitmap.proofs.bitmap.Bitmap.load.Goals as goal

size : (flags : List Bool) (total : ℕ) (bytes : List ℕ) → flags ≡ bits_of total bytes → length flags ≡ total
size flags total bytes is = ap (λ (l : List Bool). length l) is ∙ length-bits_of total bytes

pub returns-clause-size : goal.returns-clause-size
returns-clause-size g c = ap (λ (m : BlockMap). length m.used) c.in_ok-of_bits.ensures ∙ size c.of_bytes-bits.result c.args.total c.in_ok-bytes.bytes.items c.of_bytes-bits.ensures

pub returns-clause-bits : goal.returns-clause-bits
returns-clause-bits g c = λ tells. subst (λ (f : List Extent). HoldsBits (g.V.SectorView.space c.args.view.now).content (fork_sectors f (c.args.block / 512)) c.in_ok-of_bits.field-0.used) c.in_ok-fork.ensures
    (read_all (g.V.SectorView.space c.args.view.now).content (fork_sectors c.in_ok-fork.fork (c.args.block / 512)) c.in_ok-bytes.bytes.items c.args.total c.in_ok-of_bits.field-0.used
    (ap (λ (m : BlockMap). m.used) c.in_ok-of_bits.ensures ∙ c.of_bytes-bits.ensures) (c.in_ok-bytes.ensures.bits tells))

pub returns-clause-rest : goal.returns-clause-rest
returns-clause-rest g c = loaded c.in_ok-of_bits.field-0 c.of_bytes-bits.result c.args.total c.in_ok-fork.fork c.args.fork.now (c.args.block / 512) c.in_ok-of_bits.ensures (size c.of_bytes-bits.result c.args.total c.in_ok-bytes.bytes.items c.of_bytes-bits.ensures) c.in_ok-fork.ensures
