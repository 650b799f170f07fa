use Rattle.std.proofs.Common.{false, ◌≡◌, ◌+◌, ◌*◌, ◌/◌, ◌==◌, ℕ, Bool, sym, ◌∙◌, ap, arith}
use Rattle.std.specs.Prelude.{if◌then◌else◌}
use Rattle.std.proofs.lemmas.Bool.{ne_eqb}
use Rattle.alloc_bitmap.specs.Map.{free_of}
use Rattle.flag_rows.specs.Runs.{fewest_of}
use Rattle.hfs_volume.specs.Weight.{free_runs, runs_for}
use Rattle.volume_values.specs.Valuing.{blocks_of_new, runs_of_new}
use Rattle.volume_values.proofs.attribute_change.count_touched.Goals as goal

pub blocks_for_value-blocks-requires-clause-block : goal.blocks_for_value-blocks-requires-clause-block
blocks_for_value-blocks-requires-clause-block c = omega (arith, c.requires.service)

pub returns : goal.returns
returns c =
    let some : (blocks_of_new c.args.volume.now c.args.long == 0) ≡ false = ne_eqb (blocks_of_new c.args.volume.now c.args.long) 0 (λ none. absurd (omega (arith, none, c.blocks_for_value-blocks.ensures.exact, c.if-blocks-eq0.false))) in
    let runs : runs_of_new c.args.volume.now c.args.long ≡ fewest_of (blocks_of_new c.args.volume.now c.args.long) (free_runs (free_of c.args.volume.now.map)) =
    ap (λ b. if b then 0 else fewest_of (blocks_of_new c.args.volume.now c.args.long) (free_runs (free_of c.args.volume.now.map))) some in
    omega (arith, c.blocks_for_value-blocks.ensures.exact, runs, c.fewest.ensures, c.from.ensures, ap (λ n. fewest_of n (free_runs (free_of c.args.volume.now.map))) c.blocks_for_value-blocks.ensures.exact)
    ∙ sym (ap (λ b. if b then 0 else blocks_of_new c.args.volume.now c.args.long / 4096 + 2 * runs_of_new c.args.volume.now c.args.long) some)
