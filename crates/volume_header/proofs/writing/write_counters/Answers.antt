use Rattle.std.proofs.Common.{◌≡◌, ◌∙◌, length, ap, arith}
use Rattle.hx_bytes.specs.Field.{put_at}
use Rattle.hx_bytes.proofs.Parts.{put_whole_part}
use Rattle.hx_bytes.proofs.Writing.{written_none, written_number, written_more}
use Rattle.volume_header.proofs.writing.write_counters.Goals as goal

pub returns : goal.returns
returns c =
    let head = c.args.head.now in
    let none = written_none c.args.into.now 64 (omega arith) in
    let next_catalog_id = written_number _ 4 head.next_catalog_id none c.write_be32.ensures in
    let write_count = written_number _ 4 head.write_count next_catalog_id c.write_be32-2.ensures in
    let encodings_bitmap = written_number _ 8 head.encodings_bitmap write_count c.write_be64.ensures in
    let info : length c.copy_from_slice.new.self ≡ 32 = ap length c.copy_from_slice.ensures.after ∙ omega arith in
    let now = put_whole_part c.write_be64.new.bytes c.copy_from_slice.new.self 80 32 info ∙ ap (λ l. put_at c.write_be64.new.bytes 80 l) c.copy_from_slice.ensures.after in
    let finder_info = written_more _ head.finder_info 32 encodings_bitmap (omega arith) now in
    record { written = finder_info.is; whole = finder_info.front_length }
