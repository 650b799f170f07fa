use Rattle.std.proofs.Common.{◌≡◌, ◌↔◌, ◌<◌, ℕ, Bool, false, List, length, replicate, sym, ◌∙◌, ap, subst}
use Rattle.std.specs.Prelude.{IsTrue}
use Rattle.std.specs.List.Sorted.{IsNonDecreasingBy}
use Rattle.std.proofs.lemmas.List.{length-replicate}
use Rattle.hx_bytes.specs.declared.extents.Extent.{Extent}
use Rattle.fork_map.specs.Blocks.{blocks_of}
use Rattle.alloc_bitmap.specs.Apart.{times, AreApart}
use Rattle.fsck_list.specs.declared.finding.Finding.{Finding}
use Rattle.hfs_volume.specs.Content.{VolumeState}
use Rattle.hfs_volume.specs.Blocks.{used_in}
use Rattle.fsck_core.specs.Judged.{AddsUnmet}
use Rattle.fsck_core.specs.Flags.{AreUsed}
use Rattle.fsck_core.specs.Uses.{HasMarked, uses_of}
use Rattle.fsck_core.proofs.WantLaws.{ok_map}
use Rattle.fsck_core.proofs.SweepLaws.{marked_all}
use Rattle.fsck_core.proofs.UseLaws.{uses_tell, uses_marked}
use Rattle.fsck_core.proofs.uses.judge_uses.Goals as goal

-- flags that are none of them set
clear : (used : List Bool) (n : ℕ) → used ≡ replicate n false → (length used ≡ n) × (used ≡ replicate (length used) false)
clear used n are =
    let long : length used ≡ n = ap (λ (l : List Bool). length l) are ∙ length-replicate {A = Bool} n false in
    (long, are ∙ ap (λ m. replicate m false) (sym long))

-- all were judged, in the words of the volume
whole : (volume : VolumeState) (extents sorted : List Extent) (total : ℕ) (used : List Bool) (first out : List Finding) (met : Bool) → blocks_of extents ≡ used_in volume → total ≡ volume.head.total_blocks
    → ((block : ℕ) → times block (blocks_of sorted) ≡ times block (blocks_of extents)) → HasMarked total (blocks_of extents) (blocks_of sorted) first used out met
    → HasMarked volume.head.total_blocks (used_in volume) (used_in volume) first used out met
whole volume extents sorted total used first out met are long same marked =
    subst (λ n. HasMarked n (used_in volume) (used_in volume) first used out met) long
    (subst (λ (l : List ℕ). HasMarked total l l first used out met) are (marked_all total (blocks_of extents) (blocks_of sorted) first used out met same marked))

pub returns-clause-met : goal.returns-clause-met
returns-clause-met c volume are none =
    let flags = clear c.args.used.now volume.head.total_blocks none in
    let sorted : List Extent = c.deref.result.now in
    let order : IsNonDecreasingBy (λ (e : Extent). e.start) sorted = subst (IsNonDecreasingBy (λ (e : Extent). e.start)) (sym c.deref.ensures.value) c.in_ok-sorted.ensures.order in
    let same : (block : ℕ) → times block (blocks_of sorted) ≡ times block (blocks_of c.args.extents.now) = λ block. ap (λ (l : List Extent). times block (blocks_of l)) c.deref.ensures.value ∙ c.in_ok-sorted.ensures.same block in
    ok_map c.sweep_extents.result (λ met. HasMarked (length c.args.used.now) (blocks_of c.args.extents.now) (blocks_of sorted) c.args.out.now c.sweep_extents.new.used c.sweep_extents.new.out met)
    (λ met. IsTrue met ↔ AreApart (used_in volume))
    (λ met marked. uses_tell volume.head.total_blocks (used_in volume) c.args.out.now c.sweep_extents.new.used c.sweep_extents.new.out met (whole volume c.args.extents.now sorted (length c.args.used.now) c.sweep_extents.new.used c.args.out.now c.sweep_extents.new.out met are flags.0 same marked)) (c.sweep_extents.ensures.marked order same flags.1)

pub returns-clause-marks : goal.returns-clause-marks
returns-clause-marks c volume are none =
    let flags = clear c.args.used.now volume.head.total_blocks none in
    let sorted : List Extent = c.deref.result.now in
    let order : IsNonDecreasingBy (λ (e : Extent). e.start) sorted = subst (IsNonDecreasingBy (λ (e : Extent). e.start)) (sym c.deref.ensures.value) c.in_ok-sorted.ensures.order in
    let same : (block : ℕ) → times block (blocks_of sorted) ≡ times block (blocks_of c.args.extents.now) = λ block. ap (λ (l : List Extent). times block (blocks_of l)) c.deref.ensures.value ∙ c.in_ok-sorted.ensures.same block in
    ok_map c.sweep_extents.result (λ met. HasMarked (length c.args.used.now) (blocks_of c.args.extents.now) (blocks_of sorted) c.args.out.now c.sweep_extents.new.used c.sweep_extents.new.out met)
    (λ met. AreUsed volume c.sweep_extents.new.used)
    (λ met marked. uses_marked volume c.args.out.now c.sweep_extents.new.used c.sweep_extents.new.out met (whole volume c.args.extents.now sorted (length c.args.used.now) c.sweep_extents.new.used c.args.out.now c.sweep_extents.new.out met are flags.0 same marked)) (c.sweep_extents.ensures.marked order same flags.1)

pub returns-clause-found : goal.returns-clause-found
returns-clause-found c volume are none =
    let flags = clear c.args.used.now volume.head.total_blocks none in
    let sorted : List Extent = c.deref.result.now in
    let order : IsNonDecreasingBy (λ (e : Extent). e.start) sorted = subst (IsNonDecreasingBy (λ (e : Extent). e.start)) (sym c.deref.ensures.value) c.in_ok-sorted.ensures.order in
    let same : (block : ℕ) → times block (blocks_of sorted) ≡ times block (blocks_of c.args.extents.now) = λ block. ap (λ (l : List Extent). times block (blocks_of l)) c.deref.ensures.value ∙ c.in_ok-sorted.ensures.same block in
    ok_map c.sweep_extents.result (λ met. HasMarked (length c.args.used.now) (blocks_of c.args.extents.now) (blocks_of sorted) c.args.out.now c.sweep_extents.new.used c.sweep_extents.new.out met)
    (λ met. met ≡ false → 0 < length c.sweep_extents.new.out)
    (λ met marked. marked.found) (c.sweep_extents.ensures.marked order same flags.1)

pub returns-clause-each : goal.returns-clause-each
returns-clause-each c volume are none =
    let flags = clear c.args.used.now volume.head.total_blocks none in
    let sorted : List Extent = c.deref.result.now in
    let order : IsNonDecreasingBy (λ (e : Extent). e.start) sorted = subst (IsNonDecreasingBy (λ (e : Extent). e.start)) (sym c.deref.ensures.value) c.in_ok-sorted.ensures.order in
    let same : (block : ℕ) → times block (blocks_of sorted) ≡ times block (blocks_of c.args.extents.now) = λ block. ap (λ (l : List Extent). times block (blocks_of l)) c.deref.ensures.value ∙ c.in_ok-sorted.ensures.same block in
    subst (λ (l : List ℕ). AddsUnmet 18 (uses_of l) c.args.out.now c.sweep_extents.new.out) are (c.sweep_extents.ensures.each order same flags.1)
