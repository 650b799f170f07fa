-- What the calls of a volume do to its space, in the words of serving.
use Rattle.std.proofs.Common.{◌≡◌, ℕ, List, inl, inr, ⊎_elim, length, ap}
use Rattle.std.specs.Prelude.{IsTrue}
use Rattle.sector_disk.specs.Lists.{Content, sector}
use Rattle.sector_disk.specs.Space.{Space, AgreesOutside}
use Rattle.hfs_volume.specs.Aside.{IsFreeSector}
use Rattle.hfs_serving.specs.Serving.{TouchesSpace}
use Rattle.volume_base.specs.Touching.{Looks, Touches}

pub touches_space : (committed : Content) (these : ℕ → Type 0) (a b : Space) → IsTrue a.tells → Touches committed these a b → TouchesSpace committed a b
touches_space committed these a b tells was = record {
  time = was.time tells;
  durable = record { size = (was.durable tells).size; each = λ at. ⊎_elim (λ same. inl same) (λ both. inr both.1) ((was.durable tells).each at) };
  spilled = was.spilled tells;
  still = was.still tells;
  closed = was.closed tells;
  told = was.same.told;
}

pub looks_space : (committed : Content) (these : ℕ → Type 0) (a b : Space) → IsTrue a.tells → Looks these a b → TouchesSpace committed a b
looks_space committed these a b tells was = record {
  time = was.time tells;
  durable = record { size = ap (λ (c : Content). length c) (was.durable tells); each = λ at. inl (ap (λ (c : Content). sector c at) (was.durable tells)) };
  spilled = λ s now. inl ((was.spilled tells s).0 now);
  still = λ s before. (was.spilled tells s).1 before;
  closed = was.closed tells;
  told = was.same.told;
}
