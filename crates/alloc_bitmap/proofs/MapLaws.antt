-- Which blocks of a bitmap are free, and how many.
use Rattle.std.proofs.Common.{◌≡◌, ℕ, ◌<◌, Bool, true, false, not, ◌&&◌, ◌||◌, List, length, get_or, map, refl, sym, ◌∙◌, ap, arith}
use Rattle.std.specs.List.{range_with_len}
use Rattle.std.proofs.lemmas.List.{same_lists, get_or_default}
use Rattle.std.proofs.lemmas.List.FromFn.{length-map-range_with_len, get_or-map-range_with_len}
use Rattle.flag_rows.specs.Sums.{clear_of}
use Rattle.flag_rows.proofs.TreeLaws.{length-clear_of, get_or-clear_of}
use Rattle.alloc_bitmap.specs.Map.{taken_of}

-- the flags of blocks that are neither used nor held
abbrev pub open_of : List Bool → List Bool → List Bool
open_of used held = map (λ k. not (get_or used k true) && not (get_or held k false)) (range_with_len 0 (length used))

pub length-open : (used held : List Bool) → length (open_of used held) ≡ length used
length-open used held = length-map-range_with_len (λ k. not (get_or used k true) && not (get_or held k false)) 0 (length used)

pub get_or-open : (used held : List Bool) (k : ℕ) (d : Bool) → k < length used → get_or (open_of used held) k d ≡ (not (get_or used k true) && not (get_or held k false))
get_or-open used held k d lt = get_or-map-range_with_len (λ j. not (get_or used j true) && not (get_or held j false)) 0 (length used) k k d lt (omega arith)

-- ---- blocks that are taken
pub length-taken : (used held : List Bool) → length (taken_of used held) ≡ length used
length-taken used held = length-map-range_with_len (λ k. get_or used k true || get_or held k false) 0 (length used)

pub get_or-taken : (used held : List Bool) (k : ℕ) (d : Bool) → k < length used → get_or (taken_of used held) k d ≡ (get_or used k true || get_or held k false)
get_or-taken used held k d lt = get_or-map-range_with_len (λ j. get_or used j true || get_or held j false) 0 (length used) k k d lt (omega arith)

-- flags that are right in each place
pub taken_by : (used held taken : List Bool) → length taken ≡ length used → ((k : ℕ) → k < length used → get_or taken k false ≡ (get_or used k true || get_or held k false)) → taken ≡ taken_of used held
taken_by used held taken size each = same_lists taken (taken_of used held) (size ∙ sym (length-taken used held))
    (λ k d lt. let below : k < length used = omega (arith, lt, size) in get_or_default taken k d false lt ∙ each k below ∙ sym (get_or-taken used held k d below))

neither : (a b : Bool) → not (a || b) ≡ (not a && not b)
neither true b = refl
neither false b = refl

pub clear_taken : (used held : List Bool) → clear_of (taken_of used held) ≡ open_of used held
clear_taken used held = same_lists (clear_of (taken_of used held)) (open_of used held) (length-clear_of (taken_of used held) ∙ length-taken used held ∙ sym (length-open used held))
    (λ k d lt.
    let below : k < length used = omega (arith, lt, length-clear_of (taken_of used held), length-taken used held) in
    get_or-clear_of (taken_of used held) k false d (omega (arith, below, length-taken used held))
    ∙ ap (λ b. not b) (get_or-taken used held k false below) ∙ neither (get_or used k true) (get_or held k false) ∙ sym (get_or-open used held k d below))
