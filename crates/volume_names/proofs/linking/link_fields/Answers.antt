use Rattle.std.proofs.Common.{◌<◌, ℕ, zero, suc, List, [], ◌∷◌, replicate, refl, arith}
use Rattle.std.specs.Prelude.{slice_index}
use Rattle.std.specs.List.{AllByRecursion}
use Rattle.volume_names.proofs.linking.link_fields.Goals as goal

all_fit : (xs : List ℕ) → AllByRecursion (λ byte. byte < 256) xs → (k : ℕ) → slice_index xs k < 256
all_fit [] all k = omega arith
all_fit (x ∷ xs) all zero = all.0
all_fit (x ∷ xs) all (suc k) = all_fit xs all.1 k

zeros_fit : (n : ℕ) → AllByRecursion (λ byte. byte < 256) (replicate n 0)
zeros_fit zero = tt
zeros_fit (suc n) = (omega arith, zeros_fit n)

pub returns-clause-fits : goal.returns-clause-fits
returns-clause-fits c =
    record {
      flags = omega arith;
      count = omega arith;
      id = c.ranges.id.fits;
      created = c.ranges.created.fits;
      changed = c.ranges.created.fits;
      attribute = c.ranges.created.fits;
      accessed = c.ranges.created.fits;
      backup = omega arith;
      owner = omega arith;
      group = omega arith;
      admin_flags = omega arith;
      owner_flags = omega arith;
      mode = omega arith;
      special = c.ranges.reference.fits;
      finder_length = refl;
      finder = all_fit (104 ∷ 108 ∷ 110 ∷ 107 ∷ 104 ∷ 102 ∷ 115 ∷ 43 ∷ replicate 24 0) (omega arith, (omega arith, (omega arith, (omega arith, (omega arith, (omega arith, (omega arith, (omega arith, zeros_fit 24))))))));
      encoding = omega arith;
      rest = omega arith;
    }
