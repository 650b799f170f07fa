use Rattle.std.proofs.Common.{◌≡◌, None}
use Rattle.cat_records.specs.Attributes.{attr_bytes, attr_fault, attr_of}
use Rattle.cat_records.specs.Fits.{FitsAttr}
use Rattle.cat_records.specs.declared.attribute.AttrRecord.{AttrRecord}
use Rattle.cat_records.specs.declared.attribute.AttrRecord.TheVariants.{Inline, Fork, More}
use Rattle.cat_records.proofs.AttrBack.{inline_back, inline_spells, fork_back, fork_spells, more_back, more_spells}
use Rattle.cat_records.proofs.AttrSpelled.{attr_spelled, no_fault}
use Rattle.cat_records.proofs.laws.attr_round_trip.Goals as goal

spelled : (rec : AttrRecord) → FitsAttr rec → attr_fault (attr_bytes rec) ≡ None
spelled (Inline value) fits = inline_spells value fits
spelled (Fork fork) fits = fork_spells fork fits
spelled (More extents) fits = more_spells extents fits

read_back : (rec : AttrRecord) → FitsAttr rec → attr_of (attr_bytes rec) ≡ rec
read_back (Inline value) fits = inline_back value fits
read_back (Fork fork) fits = fork_back fork fits
read_back (More extents) fits = more_back extents fits

pub returns : goal.returns
returns c = record {
  spelled = spelled;
  read_back = read_back;
  written_back = λ value are none. attr_spelled value are (no_fault value none);
}
