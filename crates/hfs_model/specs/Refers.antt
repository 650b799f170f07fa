-- What the answers of walks refer to.
use Rattle.std.specs.Prelude.{Result, Ok, Err, option_copied}
use Rattle.std.specs.Borrow.{Bor}
use Rattle.hfs_model.specs.declared.plain.PlainAttribute.{PlainAttribute}
use Rattle.hfs_model.specs.declared.plain.PlainEntry.{PlainEntry}
use Rattle.hfs_model.specs.declared.plain.PlainNode.{PlainNode}
use Rattle.hfs_language.specs.declared.refusal.Refusal.{Refusal}
use Rattle.hfs_model.specs.declared.walking.Site.{Site}
use Rattle.hfs_model.specs.Step.{Place}

-- a result that names its value, as one that has it
abbrev pub pointed : {T : Type 0} → Result (Bor T) Refusal → Result T Refusal
pointed (Ok value) = Ok value.now
pointed (Err why) = Err why

abbrev pub place_at : Site → Place
place_at site = record { folder = site.folder; name = site.name.now; found = option_copied site.found }

abbrev pub site_told : Result Site Refusal → Result Place Refusal
site_told (Ok site) = Ok (place_at site)
site_told (Err why) = Err why

abbrev pub pair_told : Result (Bor PlainEntry × Site) Refusal → Result (PlainEntry × Place) Refusal
pair_told (Ok pair) = Ok (pair.0.now, place_at pair.1)
pair_told (Err why) = Err why

abbrev pub link_told : Result (Bor PlainNode × Site) Refusal → Result (PlainNode × Place) Refusal
link_told (Ok pair) = Ok (pair.0.now, place_at pair.1)
link_told (Err why) = Err why

abbrev pub attribute_told : Result (Bor PlainNode × Bor PlainAttribute) Refusal → Result (PlainNode × PlainAttribute) Refusal
attribute_told (Ok pair) = Ok (pair.0.now, pair.1.now)
attribute_told (Err why) = Err why
