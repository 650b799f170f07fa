use Rattle.std.proofs.Common.{◌≤◌, ℕ, zero, suc, replicate, refl, arith}
use Rattle.std.specs.Prelude.{slice_index}
use Rattle.link_tests.proofs.records.fields.Goals as goal

-- none of the items of such a list is greater
below : (n k : ℕ) → slice_index (replicate n 46) k ≤ 46
below zero k = omega arith
below (suc n) zero = omega arith
below (suc n) (suc k) = below n k

pub returns : goal.returns
returns c = record {
  flags = omega arith;
  count = omega arith;
  id = c.ranges.id.fits;
  created = c.ranges.created.fits;
  changed = omega arith;
  attribute = omega arith;
  accessed = omega arith;
  backup = omega arith;
  owner = omega arith;
  group = omega arith;
  admin_flags = omega arith;
  owner_flags = omega arith;
  mode = omega arith;
  special = c.ranges.special.fits;
  finder_length = refl;
  finder = λ k. omega (arith, below 32 k);
  encoding = omega arith;
  rest = omega arith;
}
