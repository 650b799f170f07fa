-- The sizes of a volume that the program makes.
use Rattle.std.proofs.Common.{◌≡◌, ℕ, ◌<◌, ◌≤◌, arith, ⊎_elim}
use Rattle.hfsx_server.specs.Made.{IsNoSize}

-- a size that was found neither too small nor too large
pub no_size : (sectors number : ℕ) → number ≡ sectors → 16384 ≤ number → number ≤ 2147483648 → IsNoSize sectors → ⊥
no_size sectors number is many few none = ⊎_elim (λ (small : sectors < 16384). absurd (omega (arith, small, many, is))) (λ (large : 2147483648 < sectors). absurd (omega (arith, large, few, is))) none
