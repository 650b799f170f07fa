-- How many components a text has.
use Rattle.std.proofs.Common.{◌≤◌, ◌+◌, ℕ, List, length, arith}
use Rattle.std.specs.Prelude.{◌==◌}
use Rattle.std.specs.List.{slice_split}
use Rattle.std.proofs.lemmas.List.{length-map}
use Rattle.std.proofs.lemmas.List.Splits.{length-slice_split}
use Rattle.std.proofs.lemmas.List.Sums.{count_by-le-length}
use Rattle.hfs_model.specs.Targets.{component_units, components_of}

-- no more than one behind each byte, and one in front
pub few_components : (bytes : List ℕ) → length (components_of bytes) ≤ length bytes + 1
few_components bytes = omega (arith, length-map (slice_split (λ b. b == 47) bytes) component_units, length-slice_split (λ b. b == 47) bytes, count_by-le-length (λ b. b == 47) bytes)
