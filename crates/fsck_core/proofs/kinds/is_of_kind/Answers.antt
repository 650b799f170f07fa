use Rattle.std.proofs.Common.{◌≡◌, true, sym, ◌∙◌}
use Rattle.cat_records.specs.Records.{is_catalog}
use Rattle.fsck_core.proofs.KindLaws.{of_kind, kind_in}
use Rattle.fsck_core.proofs.kinds.is_of_kind.Goals as goal

pub returns : goal.returns
returns c =
    let spelled : is_catalog c.args.value.now ≡ true = sym c.has_length.ensures ∙ c.if-not-has_length.false in (
      λ is. of_kind c.args.key.now c.args.value.now spelled (sym c.is_thread_record.ensures ∙ c.fits_name.ensures.0 is ∙ c.has_no_name.ensures),
      λ of. c.fits_name.ensures.1 (c.is_thread_record.ensures ∙ kind_in c.args.key.now c.args.value.now of ∙ sym c.has_no_name.ensures),
    )
