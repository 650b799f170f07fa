use Rattle.std.proofs.Common.{arith}
use Rattle.hx_bytes.proofs.Writing.{written_none, written_more}
use Rattle.cat_records.specs.Records.{identity_bytes, dates_bytes, rights_bytes, finder_bytes, entry_bytes}
use Rattle.cat_records.proofs.entry.write_entry.Goals as goal

pub returns : goal.returns
unfolding entry_bytes
returns c =
    let fields = c.args.fields.now in
    let none = written_none c.args.into.now 2 (omega arith) in
    let identity = written_more _ (identity_bytes fields) 10 none c.write_identity.ensures.whole c.write_identity.ensures.written in
    let dates = written_more _ (dates_bytes fields) 20 identity c.write_dates.ensures.whole c.write_dates.ensures.written in
    let rights = written_more _ (rights_bytes fields) 16 dates c.write_rights.ensures.whole c.write_rights.ensures.written in
    let finder = written_more _ (finder_bytes fields) 40 rights c.write_finder.ensures.whole c.write_finder.ensures.written in
    record { written = finder.is; whole = finder.front_length }
