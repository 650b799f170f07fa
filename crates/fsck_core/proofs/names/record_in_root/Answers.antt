use Rattle.std.proofs.Common.{◌≡◌, ◌<◌, ℕ, List, [], length, true, sym, subst}
use Rattle.std.specs.Prelude.{IfSome, Option}
use Rattle.cat_records.specs.Records.{is_catalog}
use Rattle.fsck_core.proofs.NameLaws.{value_is}
use Rattle.fsck_core.proofs.names.record_in_root.Goals as goal

pub read_record-requires : goal.read_record-requires
read_record-requires c =
    let inside = subst (λ (o : Option ℕ). IfSome o (λ at. at < length c.args.pairs.now)) c.in-Some.is c.find_in_root.ensures.inside in
    subst (λ (v : List ℕ). is_catalog v ≡ true) (sym c.value.ensures) (c.requires c.in-Some.at ([], []) inside)

pub returns : goal.returns
returns c long = value_is c.args.pairs.now c.args.name.now c.find_in_root.result c.in-Some.at c.in_ok-rec.rec c.value.result.now (c.find_in_root.ensures.is long) c.in-Some.is c.value.ensures c.in_ok-rec.ensures
