-- Bitmap and header that were put, one after the other, behind blocks that were given back.
use Rattle.std.proofs.Common.{◌≡◌, ◌≢◌, ◌⊎◌, inl, inr, ◌<◌, ◌≤◌, ℕ, ◌+◌, ◌++◌, not, min, Bool, true, false, List, [], ◌∷◌, length, refl, sym, ◌∙◌, ap, subst, arith, ⊎_elim}
use Rattle.std.specs.Prelude.{Contains, IsTrue, ◌||◌, ◌==◌, if◌then◌else◌}
use Rattle.std.proofs.lemmas.Bool.{eqb-true}
use Rattle.std.proofs.lemmas.List.Elements.{Contains-append_left, Contains-append_right}
use Rattle.std.proofs.lemmas.List.Sums.{count_by-le-length}
use Rattle.hx_bytes.specs.declared.extents.Extent.{Extent}
use Rattle.flag_rows.specs.Bits.{count_set, sectors_for}
use Rattle.alloc_bitmap.specs.Fork.{changed_of}
use Rattle.alloc_bitmap.proofs.ApartLaws.{times-append}
use Rattle.file_io.proofs.MarkLaws.{set_cons, set_of}
use Rattle.btree_file.specs.Frame.{PutsWithin}
use Rattle.btree_file.specs.FrameLaws.{within_both}
use Rattle.btree_file.specs.State.{sectors_of_tree}
use Rattle.sector_disk.specs.Lists.{sector}
use Rattle.sector_disk.specs.Putting.{unput}
use Rattle.sector_disk.specs.Space.{Space}
use Rattle.hfs_volume.proofs.Members.{first_or_later}
use Rattle.volume_base.specs.Changing.{PutsHeader}
use Rattle.volume_base.specs.Giving.{PutsCounted, is_trade, takes_some}
use Rattle.volume_base.specs.Mapping.{PutsMap, changed_sectors}
use Rattle.volume_base.specs.Standing.{IsStanding, attribute_sectors, file_sectors, map_sectors}
use Rattle.volume_base.specs.declared.volume.Volume.{Volume}
use Rattle.volume_base.proofs.MapBits.{bit_elsewhere}
use Rattle.volume_base.proofs.Placing.{stands_once}

-- ---- bitmap and header

module _ (w : Volume) (a b c : Space) (stands : IsStanding w c) (map_put : PutsMap w a.content b.content) (header_put : PutsHeader w b.content c.content) (within : PutsWithin (2 ∷ []) b c) (told : IsTrue b.tells) where
  header_alone : (s : ℕ) → s ≢ 2 → sector c.content s ≡ sector b.content s
  header_alone s differs = ⊎_elim (λ same. same) (λ has_it. absurd (⊎_elim (λ is. differs is) (λ gone. omega (arith, gone.1)) (first_or_later 2 s [] has_it))) ((within.content told).each s)

  not_header : (s : ℕ) → Contains (map_sectors w) s → s ≢ 2
  not_header s has_it two =
      omega (
        arith,
        stands.apart s,
        times-append s (2 ∷ []) (file_sectors w),
        times-append s (sectors_of_tree w.extents.file) (sectors_of_tree w.catalog.file ++ (attribute_sectors w ++ map_sectors w)),
        times-append s (sectors_of_tree w.catalog.file) (attribute_sectors w ++ map_sectors w),
        times-append s (attribute_sectors w) (map_sectors w),
        stands_once s (map_sectors w) has_it,
        stands_once s (2 ∷ []) (0, omega arith, sym two),
      )

  pub puts_counted : PutsCounted w a.content c.content
  puts_counted = record {
    holds = λ k low. bit_elsewhere (map_sectors w) b.content c.content (λ s has_it. header_alone s (not_header s has_it)) k ∙ map_put.holds k low;
    headed = header_put.headed;
    lists = header_put.lists ∙ map_put.lists;
    outside = record {
      size = (within.content told).size ∙ map_put.outside.size;
      each = λ s. by s ((within.content told).each s) (map_put.outside.each s);
    };
  }
    where
      by : (s : ℕ) → (sector c.content s ≡ sector b.content s) ⊎ Contains (2 ∷ []) s → (sector b.content s ≡ sector a.content s) ⊎ Contains (map_sectors w) s → (sector c.content s ≡ sector a.content s) ⊎ ((s ≡ 2) ⊎ Contains (map_sectors w) s)
      by s (inl same) (inl first) = inl (same ∙ first)
      by s (inl same) (inr there) = inr (inr there)
      by s (inr there) first = ⊎_elim (λ is. inr (inl is)) (λ gone. absurd (omega (arith, gone.1))) (first_or_later 2 s [] there)

-- puts within some sectors are puts within more
pub within_more : (these those : List ℕ) (a b : Space) → ((s : ℕ) → Contains these s → Contains those s) → PutsWithin these a b → PutsWithin those a b
within_more these those a b wider was = record {
  same = was.same;
  content = λ tells. record { size = (was.content tells).size; each = λ at. ⊎_elim (λ is. inl is) (λ here. inr (wider at here)) ((was.content tells).each at) };
  sizes = was.sizes;
  durable = was.durable;
  spilled = was.spilled;
  live = λ tells s now. ⊎_elim (λ old. inl old) (λ here. inr (wider s here)) (was.live tells s now);
  still_live = was.still_live;
  closed = was.closed;
  put = λ s. ⊎_elim (λ is. inl is) (λ here. inr (wider s here)) (was.put s);
  still_put = was.still_put;
  spare = was.spare;
  faults = was.faults;
  time = was.time;
}

-- one behind the other, within both
pub within_traded : (xs : List ℕ) (a b c : Space) → PutsWithin xs a b → PutsWithin (2 ∷ []) b c → PutsWithin (2 ∷ xs) a c
within_traded xs a b c first second = within_both (2 ∷ xs) a b c
    (within_more xs (2 ∷ xs) a b (λ s has. Contains-append_right (2 ∷ []) xs s has) first)
    (within_more (2 ∷ []) (2 ∷ xs) b c (λ s has. Contains-append_left (2 ∷ []) xs s has) second)

-- ---- how many sectors are put

few_changed : (xs : List ℕ) (flags : List Bool) → length (changed_of xs flags) ≤ count_set flags
few_changed [] flags = omega arith
few_changed (x ∷ xs) [] = omega arith
few_changed (x ∷ xs) (true ∷ flags) = omega (arith, few_changed xs flags, set_cons true flags)
few_changed (x ∷ xs) (false ∷ flags) = omega (arith, few_changed xs flags, set_cons false flags)

-- no more than are marked, and than there are
pub few_traded : (w : Volume) (total touched blocks : ℕ) (put : ℕ → Bool) → length w.map.changed ≡ sectors_for total → count_set w.map.changed ≤ touched + blocks → unput put (changed_sectors w) ≤ min (sectors_for total) (touched + blocks)
few_traded w total touched blocks put long few = omega (
  arith,
  count_by-le-length (λ (s : ℕ). not (put s)) (changed_sectors w),
  few_changed (map_sectors w) w.map.changed,
  set_of w.map.changed,
  long,
  few,
)

-- ---- whether blocks are traded

pub nothing_traded : (touched : ℕ) (old : List Extent) → touched ≡ 0 → length old ≡ 0 → is_trade (takes_some touched) old ≡ false
nothing_traded touched old none empty = λ i. not (none i == 0) || not (empty i == 0)

trade_by : (x y : Bool) → (x ≡ true → y ≡ false) → (not x || not y) ≡ true
trade_by true y none = ap not (none refl)
trade_by false y none = refl

-- where blocks were taken, or extents are given back
pub something_traded : (touched : ℕ) (old : List Extent) → (touched ≡ 0 → length old ≡ 0 → ⊥) → is_trade (takes_some touched) old ≡ true
something_traded touched old some = trade_by (touched == 0) (length old == 0) (λ none. clear (length old == 0) (λ empty. some (eqb-true touched 0 none) (eqb-true (length old) 0 empty)))
  where
    clear : (b : Bool) → (b ≡ true → ⊥) → b ≡ false
    clear true never = absurd (never refl)
    clear false never = refl
