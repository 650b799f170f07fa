use Rattle.std.proofs.Common.{◌≡◌, ◌↔◌, List, [], ◌∷◌, sym, ◌∙◌, subst, IsTrue}
use Rattle.hx_bytes.specs.declared.extents.Extent.{Extent}
use Rattle.cat_records.specs.declared.record.CatRecord.{CatRecord}
use Rattle.fsck_core.specs.Attributes.{IsOneFile}
use Rattle.fsck_core.specs.Overflows.{overflows_in}
use Rattle.fsck_core.proofs.attributes.is_one_file.Goals as goal

pub returns-in_ok-extents-in-File : goal.returns-in_ok-extents-in-File
returns-in_ok-extents-in-File c span spans =
    subst (λ (r : CatRecord). IsTrue c.is_one.result ↔ IsOneFile (overflows_in c.args.overflow.now) r span) (sym c.in-File.is)
    (subst (λ (e : List Extent). IsTrue c.is_one.result ↔ (e ≡ span ∷ [])) (c.as_slice.ensures ∙ c.in_ok-extents-in-File.ensures) (c.is_one.ensures span spans))
