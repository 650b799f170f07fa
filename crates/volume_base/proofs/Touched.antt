-- What edits of a tree do to the space since the last commit.
use Rattle.std.proofs.Common.{◌≡◌, ◌⊎◌, ◌≤◌, ℕ, ◌+◌, ◌-◌, ◌++◌, Bool, true, false, IsTrue, List, [], ◌∷◌, length, refl, sym, ◌∙◌, ap, subst, arith, inl, inr, ⊎_elim}
use Rattle.std.specs.Prelude.{◌==◌, ◌||◌, if◌then◌else◌}
use Rattle.std.specs.List.{Contains}
use Rattle.std.proofs.lemmas.List.Elements.{Contains-append_left, Contains-append_right}
use Rattle.sector_disk.specs.Lists.{Content, sector}
use Rattle.sector_disk.specs.Clock.{TimePasses}
use Rattle.sector_disk.specs.Space.{Space, SameSpace, Puts, TakesRoom, LeavesDurable}
use Rattle.btree_file.specs.Frame.{PutsWithin}
use Rattle.btree_file.specs.State.{sectors_of_tree}
use Rattle.volume_base.specs.Standing.{attribute_sectors, map_sectors, file_sectors, own_sectors}
use Rattle.volume_base.specs.Touching.{Touches}
use Rattle.volume_base.specs.declared.volume.Volume.{Volume}

pub touches_within : (committed : Content) (these : List ℕ) (those : ℕ → Type 0) (a b : Space) → ((s : ℕ) → Contains these s → those s) → PutsWithin these a b → Touches committed those a b
touches_within committed these those a b wider was = record {
  same = was.same;
  durable = λ tells. record { size = ap (λ (c : Content). length c) (was.durable tells); each = λ at. inl (ap (λ (c : Content). sector c at) (was.durable tells)) };
  spilled = λ tells s now. inl ((was.spilled tells s).0 now);
  still = λ tells s before. (was.spilled tells s).1 before;
  live = λ tells s l. ⊎_elim (λ before. inl before) (λ here. inr (wider s here)) (was.live tells s l);
  closed = was.closed;
  still_put = was.still_put;
  spare = was.spare;
  faults = was.faults;
  time = was.time;
}

-- those of the catalog put the volume's own sectors
pub touches_catalog : (volume : Volume) (committed : Content) (a b : Space) → PutsWithin (sectors_of_tree volume.catalog.file) a b → Touches committed (λ s. Contains (own_sectors volume) s) a b
touches_catalog volume committed a b was = touches_within committed (sectors_of_tree volume.catalog.file) (λ s. Contains (own_sectors volume) s) a b
    (λ s here. Contains-append_right (2 ∷ sectors_of_tree volume.extents.file) (sectors_of_tree volume.catalog.file ++ (attribute_sectors volume ++ map_sectors volume)) s
    (Contains-append_left (sectors_of_tree volume.catalog.file) (attribute_sectors volume ++ map_sectors volume) s here)) was

pub or_true : (x y : Bool) → y ≡ true → (x || y) ≡ true
or_true true y is = refl
or_true false y is = is

pub one_less : (b : Bool) (n : ℕ) → (if b then n else n - 1) ≤ n
one_less true n = omega arith
one_less false n = omega arith

-- and so does a put of the header
pub touches_header : (volume : Volume) (committed : Content) (a b : Space) → PutsWithin (2 ∷ []) a b → Touches committed (λ s. Contains (own_sectors volume) s) a b
touches_header volume committed a b was = touches_within committed (2 ∷ []) (λ s. Contains (own_sectors volume) s) a b (λ s here. Contains-append_left (2 ∷ []) (file_sectors volume) s here) was
