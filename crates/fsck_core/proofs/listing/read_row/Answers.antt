use Rattle.std.proofs.Common.{refl, sym, ◌∙◌}
use Rattle.cat_records.specs.Records.{catalog_of}
use Rattle.fsck_core.proofs.ListingLaws.{no_row_in, row_is}
use Rattle.fsck_core.proofs.listing.read_row.Goals as goal

pub returns-then-has_no_name : goal.returns-then-has_no_name
returns-then-has_no_name c long = no_row_in c.args.key.now c.args.value.now (sym c.has_no_name.ensures ∙ c.if-has_no_name.true)

pub returns : goal.returns
returns c long =
    row_is c.args.key.now c.args.value.now c.parent_of.result (catalog_of c.args.value.now) c.row_of_record.result (sym c.has_no_name.ensures ∙ c.if-has_no_name.false) (c.parent_of.ensures long) refl c.row_of_record.ensures
