-- The Finder's data of a symbolic link are bytes.
use Rattle.std.proofs.Common.{◌<◌, ℕ, zero, suc, arith}
use Rattle.std.specs.Prelude.{slice_index}
use Rattle.hfs_volume.specs.Kinds.{link_finder}
use Rattle.volume_base.proofs.HeaderFits.{zeros_are}

pub link_bytes : (k : ℕ) → slice_index link_finder k < 256
link_bytes zero = omega arith
link_bytes (suc zero) = omega arith
link_bytes (suc (suc zero)) = omega arith
link_bytes (suc (suc (suc zero))) = omega arith
link_bytes (suc (suc (suc (suc zero)))) = omega arith
link_bytes (suc (suc (suc (suc (suc zero))))) = omega arith
link_bytes (suc (suc (suc (suc (suc (suc zero)))))) = omega arith
link_bytes (suc (suc (suc (suc (suc (suc (suc zero))))))) = omega arith
link_bytes (suc (suc (suc (suc (suc (suc (suc (suc k)))))))) = zeros_are 24 k
