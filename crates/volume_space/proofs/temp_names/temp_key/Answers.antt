use Rattle.std.proofs.Common.{◌<◌, ◌^◌, ℕ, List, length, sym, ◌∙◌, ap, subst, arith}
use Rattle.std.specs.Prelude.{codes}
use Rattle.std.specs.List.{AllByRecursion}
use Rattle.cat_records.specs.Keys.{catalog_key_bytes}
use Rattle.catalog.specs.Pairs.{IsKeyOf}
use Rattle.catalog.proofs.Keys.{key_reads}
use Rattle.volume_space.proofs.temp_names.temp_key.Goals as goal

pub catalog_key-requires : goal.catalog_key-requires
catalog_key-requires c = omega (arith, ap (λ (l : List ℕ). length l) c.in_ok-name.ensures)

pub returns : goal.returns
returns c =
    let fits : AllByRecursion (λ unit. unit < 2 ^ 16) (codes "temp") = (omega arith, (omega arith, (omega arith, (omega arith, tt)))) in
    subst (λ key. IsKeyOf c.args.folder (codes "temp") key) (sym (c.in_ok-key.ensures ∙ ap (catalog_key_bytes c.args.folder) c.in_ok-name.ensures)) (key_reads c.args.folder (codes "temp") c.ranges.folder.fits (omega arith) fits)
