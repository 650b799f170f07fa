use Rattle.std.proofs.Common.{◌≡◌, ◌∙◌, length, ap, arith}
use Rattle.hx_bytes.specs.Field.{put_at}
use Rattle.hx_bytes.proofs.Parts.{put_whole_part}
use Rattle.hx_bytes.proofs.Writing.{written_none, written_number, written_more}
use Rattle.cat_records.proofs.entry.write_finder.Goals as goal

pub returns : goal.returns
returns c =
    let fields = c.args.fields.now in
    let none = written_none c.args.into.now 48 (omega arith) in
    let long : length c.copy_from_slice.new.self ≡ 32 = ap length c.copy_from_slice.ensures.after ∙ omega arith in
    let now = put_whole_part c.args.into.now c.copy_from_slice.new.self 48 32 long ∙ ap (λ l. put_at c.args.into.now 48 l) c.copy_from_slice.ensures.after in
    let finder = written_more _ fields.finder 32 none (omega arith) now in
    let encoding = written_number _ 4 fields.encoding finder c.write_be32.ensures in
    let rest = written_number _ 4 fields.rest encoding c.write_be32-2.ensures in
    record { written = rest.is; whole = rest.front_length }
