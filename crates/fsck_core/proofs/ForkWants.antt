-- The numbers of forks, judged one after the other, are those of rule 16.
use Rattle.std.proofs.Common.{◌≡◌, ◌↔◌, ℕ, ◌+◌, Bool, true, false, not, ◌==◌, min, List, [], ◌∷◌, ◌++◌, map, refl, sym, ◌∙◌, ap, subst, ⊎_elim, if◌then◌else◌}
use Rattle.std.specs.Prelude.{All, IsTrue, Contains}
use Rattle.std.specs.List.{flat_map}
use Rattle.std.proofs.lemmas.List.Elements.{Contains-append_cases}
use Rattle.hx_bytes.specs.declared.extents.Extent.{Extent}
use Rattle.volume_header.specs.declared.header.VolumeHeader.{VolumeHeader}
use Rattle.hfs_volume.specs.Records.{Overflow}
use Rattle.hfs_volume.specs.Forks.{Owned, in_use}
use Rattle.hfs_volume.specs.Blocks.{GoesOn, HasSizes, LieInside, forks_of}
use Rattle.hfs_volume.specs.Broken.{Want, want, AllMet, extent_wants, fork_wants, overflow_wants}
use Rattle.hfs_volume.specs.Content.{VolumeState, overflow_in_volume}
use Rattle.hfs_volume.proofs.Members.{all_of, each_of, map_stands}
use Rattle.hfs_volume.proofs.Wants.{left_met, right_met}
use Rattle.hfs_volume.proofs.EntryWants.{met_at, met_of}
use Rattle.hfs_volume.proofs.BlockWants.{sizes_hold, sizes_met, inside_holds, inside_met}
use Rattle.fsck_list.specs.declared.finding.Finding.{Finding}
use Rattle.fsck_core.specs.Judged.{Judged}
use Rattle.fsck_core.specs.Overflows.{overflow_in, overflows_in}
use Rattle.fsck_core.specs.Owners.{owned_in, owned_all, extent_want, own_wants, row_wants}
use Rattle.fsck_core.specs.declared.follow.OwnedFork.{OwnedFork}
use Rattle.fsck_core.specs.declared.overflow.OverflowRow.{OverflowRow}
use Rattle.fsck_core.proofs.RowLaws.{flat_map_map}

-- the numbers of extents, one after the other
pub extents_are : (id total : ℕ) (es : List Extent) → flat_map (extent_want id total) es ≡ extent_wants id total es
extents_are id total [] = refl
extents_are id total (e ∷ es) = at (extents_are id total es) (not (e.count == 0))
  where
    at : flat_map (extent_want id total) es ≡ extent_wants id total es → (b : Bool) → (if b then want id (e.start + e.count) (min (e.start + e.count) total) ∷ [] else []) ++ flat_map (extent_want id total) es
        ≡ map (λ (x : Extent). want id (x.start + x.count) (min (x.start + x.count) total)) ((if b then e ∷ [] else []) ++ in_use es)
    at rest true = ap (λ l. want id (e.start + e.count) (min (e.start + e.count) total) ∷ l) rest
    at rest false = rest

-- the numbers of all forks and records are those of the volume
pub forks_are : (volume : VolumeState) (head : VolumeHeader) (rows : List OverflowRow) (forks : List OwnedFork) → head ≡ volume.head → overflows_in rows ≡ overflow_in_volume volume → owned_all forks ≡ forks_of volume
    → (flat_map (λ (row : OwnedFork). own_wants head (overflows_in rows) (owned_in row)) forks ++ flat_map (row_wants head.total_blocks) rows)
    ≡ (flat_map (fork_wants volume) (forks_of volume) ++ flat_map (overflow_wants volume) (overflow_in_volume volume))
forks_are volume head rows forks head_is rows_are forks_are_all =
    (λ i. sym (flat_map_map owned_in (own_wants head (overflows_in rows)) (λ (row : OwnedFork). own_wants head (overflows_in rows) (owned_in row)) forks (λ row. refl)) i
    ++ sym (flat_map_map overflow_in (λ (m : Overflow). extent_wants m.id head.total_blocks m.extents) (row_wants head.total_blocks) rows (λ row. refl)) i)
    ∙ (λ i. flat_map (own_wants (head_is i) (rows_are i)) (forks_are_all i) ++ flat_map (λ (m : Overflow). extent_wants m.id (head_is i).total_blocks m.extents) (rows_are i))

-- each fork goes on, where those of the volume do
pub each_goes_on : (volume : VolumeState) (rows : List OverflowRow) (forks : List OwnedFork) → overflows_in rows ≡ overflow_in_volume volume → owned_all forks ≡ forks_of volume → All (GoesOn (overflow_in_volume volume)) (forks_of volume)
    → All (λ (row : OwnedFork). GoesOn (overflows_in rows) (owned_in row)) forks
each_goes_on volume rows forks rows_are forks_are_all on =
    all_of (λ (row : OwnedFork). GoesOn (overflows_in rows) (owned_in row)) forks (λ row stands.
    subst (λ (o : List Overflow). GoesOn o (owned_in row)) (sym rows_are)
    (each_of (GoesOn (overflow_in_volume volume)) (forks_of volume) on (owned_in row) (subst (λ (l : List Owned). Contains l (owned_in row)) forks_are_all (map_stands owned_in forks row stands))))

both_are_met : (ws vs : List Want) → AllMet ws → AllMet vs → AllMet (ws ++ vs)
both_are_met ws vs left right = all_of (λ (w : Want). w.found ≡ w.wanted) (ws ++ vs) (λ w stands. ⊎_elim
    (λ (early : Contains ws w). each_of (λ (x : Want). x.found ≡ x.wanted) ws left w early)
    (λ (late : Contains vs w). each_of (λ (x : Want). x.found ≡ x.wanted) vs right w late)
    (Contains-append_cases ws vs w stands))

-- the numbers are met exactly where the forks have the sizes that they say, in the volume
pub forks_tell : (volume : VolumeState) (met : Bool) (old new : List Finding) → Judged 16 (flat_map (fork_wants volume) (forks_of volume) ++ flat_map (overflow_wants volume) (overflow_in_volume volume)) old new met
    → IsTrue met ↔ All (HasSizes volume.head (overflow_in_volume volume)) (forks_of volume) × All (λ (more : Overflow). LieInside volume.head.total_blocks more.extents) (overflow_in_volume volume)
forks_tell volume met old new judged =
    let own : List Want = flat_map (fork_wants volume) (forks_of volume) in
    let more : List Want = flat_map (overflow_wants volume) (overflow_in_volume volume) in (
      (λ is. let all : AllMet (own ++ more) = judged.tells.0 is in (
        all_of (HasSizes volume.head (overflow_in_volume volume)) (forks_of volume) (λ one stands. sizes_hold volume one (met_at (fork_wants volume) (forks_of volume) (left_met own more all) one stands)),
        all_of (λ (m : Overflow). LieInside volume.head.total_blocks m.extents) (overflow_in_volume volume)
            (λ m stands. inside_holds m.id volume.head.total_blocks m.extents (met_at (overflow_wants volume) (overflow_in_volume volume) (right_met own more all) m stands)),
      )),
      (λ holds. judged.tells.1 (both_are_met own more
          (met_of (fork_wants volume) (forks_of volume) (λ one stands. sizes_met volume one (each_of (HasSizes volume.head (overflow_in_volume volume)) (forks_of volume) holds.0 one stands)))
          (met_of (overflow_wants volume) (overflow_in_volume volume) (λ m stands. inside_met m.id volume.head.total_blocks m.extents (each_of (λ (x : Overflow). LieInside volume.head.total_blocks x.extents) (overflow_in_volume volume) holds.1 m stands))))),
    )
