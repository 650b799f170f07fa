use Rattle.std.proofs.Common.{◌≡◌, ◌<◌, ◌≤◌, true, drop}
use Rattle.std.specs.List.{list_all}
use Rattle.std.specs.Str.Parse.{digits_value, digits_value_after}
use Rattle.hfs_language.specs.Language as spec
use Rattle.cmd_lang.proofs.words.octal_value.Given as goal

abbrev pub invariant-loop-digit : goal.invariant-loop-digit
invariant-loop-digit l = record {
  octal : list_all spec.is_octal (drop l.digit-index l.digits) ≡ true;
  value : digits_value_after 8 l.value (drop l.digit-index l.digits) ≡ digits_value 8 l.digits;
  none : l.digit-index ≡ 0 → l.value ≡ 0;
  one : l.digit-index ≤ 1 → l.value < 8;
  two : l.digit-index ≤ 2 → l.value < 64;
  three : l.digit-index ≤ 3 → l.value < 512;
}
