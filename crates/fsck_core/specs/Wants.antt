-- Numbers that are judged, in the words of the rules.
use Rattle.std.specs.Prelude.{ℕ, List, map, slice_index_or}
use Rattle.hfs_volume.specs.Broken as broken
use Rattle.fsck_list.specs.declared.finding.Finding as listed
use Rattle.fsck_core.specs.declared.want.Want.{Want}

-- a finding, as the rules speak of it
abbrev pub as_found : listed.Finding → broken.Finding
as_found f = record { rule = f.rule; place = f.place; found = f.found; wanted = f.wanted }

-- a number and the one wanted, as the rules speak of them
abbrev pub want_in : Want → broken.Want
want_in w = record { place = w.place; found = w.found; wanted = w.wanted }

abbrev pub wants_in : List Want → List broken.Want
wants_in ws = map want_in ws

-- the finding of a rule at a number that isn't the one wanted
abbrev pub finding_of : ℕ → Want → listed.Finding
finding_of rule w = record { rule = rule; place = w.place; found = w.found; wanted = w.wanted }

-- a number of a list, by its place; past its end it doesn't matter
abbrev pub no_want : Want
no_want = record { place = 0; found = 0; wanted = 0 }

abbrev pub want_at : List Want → ℕ → Want
want_at ws k = slice_index_or ws k no_want
