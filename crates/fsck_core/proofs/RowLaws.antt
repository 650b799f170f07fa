-- Entries as rows: how many have a parent, and which numbers are wanted of them.
use Rattle.std.proofs.Common.{◌≡◌, ◌⊎◌, ◌<◌, ◌≤◌, ℕ, suc, ◌+◌, ◌-◌, Bool, true, false, cond, ◌==◌, nat_lt, if◌then◌else◌, T, List, [], ◌∷◌, ◌++◌, length, map, take, get_or, inl, inr, refl, sym, ◌∙◌, ap, subst, arith, ⊎_elim}
use Rattle.std.specs.Prelude.{Contains}
use Rattle.std.specs.List.{flat_map, count_by}
use Rattle.std.specs.List.Sorted.{IsPartitionPoint}
use Rattle.std.proofs.lemmas.Bool.{cases_lt}
use Rattle.std.proofs.lemmas.Bool.Decides.{leb_tells}
use Rattle.std.proofs.lemmas.List.Sums.{sum_by-cons, sum_by_more}
use Rattle.fsck_list.proofs.Ranges.{IsStretch, stretch_of_number, range_length, count_passing}
use Rattle.hfs_volume.specs.Records.{Placed, id_of, valence_in, is_folder, is_file}
use Rattle.hfs_volume.specs.Broken.{Want, want, valence_wants, count_wants, id_wants, id_wanted}
use Rattle.hfs_volume.proofs.Members.{behind, in_one, first_or_later}
use Rattle.hfs_volume.proofs.EntryWants.{flat_cases, counted}
use Rattle.hfs_volume.proofs.TreeWants.{stands_flat}
use Rattle.std.proofs.lemmas.Bool.{eq-eqb}
use Rattle.volume_header.specs.declared.header.VolumeHeader.{VolumeHeader}
use Rattle.fsck_core.specs.declared.rows.Row.{Row}
use Rattle.fsck_core.specs.Rows.{row_of, rows_of, rows_under, valence_of, given_id}

pub below_true : (a b : ℕ) → nat_lt a b ≡ true → a < b
below_true a b is = ⊎_elim (λ (yes : (nat_lt a b ≡ true) × (suc a ≤ b)). omega (arith, yes.1)) (λ (no : (nat_lt a b ≡ false) × (b < suc a)). absurd (subst T (sym is ∙ no.0) tt)) (leb_tells (suc a) b)

pub below_false : (a b : ℕ) → nat_lt a b ≡ false → b ≤ a
below_false a b is = ⊎_elim (λ (yes : (nat_lt a b ≡ true) × (suc a ≤ b)). absurd (subst T (sym yes.0 ∙ is) tt)) (λ (no : (nat_lt a b ≡ false) × (b < suc a)). omega (arith, no.1)) (leb_tells (suc a) b)

pub true_below : (a b : ℕ) → a < b → nat_lt a b ≡ true
true_below a b less = ⊎_elim (λ (yes : (nat_lt a b ≡ true) × (suc a ≤ b)). yes.0) (λ (no : (nat_lt a b ≡ false) × (b < suc a)). absurd (omega (arith, less, no.1))) (leb_tells (suc a) b)

pub not_below : (a b : ℕ) → b ≤ a → nat_lt a b ≡ false
not_below a b most = ⊎_elim (λ (yes : (nat_lt a b ≡ true) × (suc a ≤ b)). absurd (omega (arith, most, yes.1))) (λ (no : (nat_lt a b ≡ false) × (b < suc a)). no.0) (leb_tells (suc a) b)

-- a smaller number is below, too
pub still_below : (a b n : ℕ) → a ≤ b → nat_lt b n ≡ true → nat_lt a n ≡ true
still_below a b n most is = true_below a n (omega (arith, most, below_true b n is))

-- the rows of a parent are those between two places
pub counted_between : (rows : List Row) (id from to : ℕ) → from ≤ length rows → to ≤ length rows
    → IsPartitionPoint (λ (r : Row). nat_lt r.parent id ≡ true) (λ (r : Row). nat_lt r.parent id ≡ false) rows from
    → IsPartitionPoint (λ (r : Row). nat_lt r.parent (id + 1) ≡ true) (λ (r : Row). nat_lt r.parent (id + 1) ≡ false) rows to → to - from ≡ rows_under rows id
counted_between rows id from to inside_from inside_to first last =
    sym (range_length (λ (r : Row). r.parent == id) rows from to stretch) ∙ count_passing (λ (r : Row). r.parent == id) rows
  where
    none : Row
    none = record { parent = 0; id = 0; valence = 0; special = 0; folder = false; file = false; link = false; bare = false }

    order : from ≤ to
    order = ⊎_elim
        (λ (less : to < from).
        let high : id + 1 ≤ (get_or rows to none).parent = below_false (get_or rows to none).parent (id + 1) (last.1 to none (omega arith) (omega (arith, less, inside_from))) in
        let low : (get_or rows to none).parent < id = below_true (get_or rows to none).parent id (first.0 to none (omega arith) less) in
        absurd (omega (arith, high, low)))
        (λ (most : from ≤ to). most)
        (cases_lt to from)

    stretch : IsStretch (λ (r : Row). r.parent == id) rows from to
    stretch = stretch_of_number (λ (r : Row). r.parent) rows id from to order inside_to
        (λ k d less. below_true (get_or rows k d).parent id (first.0 k d (omega arith) less))
        (λ k d start less. below_false (get_or rows k d).parent id (first.1 k d start less))
        (λ k d less. let low = below_true (get_or rows k d).parent (id + 1) (last.0 k d (omega arith) less) in omega (arith, low))
        (λ k d start less. let high = below_false (get_or rows k d).parent (id + 1) (last.1 k d start less) in omega (arith, high))

-- a count of the items of a map
pub count_map : {X Y : Type 0} (g : X → Y) (p : Y → Bool) (xs : List X) → count_by p (map g xs) ≡ count_by (λ x. p (g x)) xs
count_map g p [] = refl
count_map g p (x ∷ xs) =
    sum_by-cons (λ y. cond (p y) 1 0) (g x) (map g xs) ∙ ap (λ n. cond (p (g x)) 1 0 + n) (count_map g p xs) ∙ sym (sum_by-cons (λ z. cond (p (g z)) 1 0) x xs)

pub flat_map_map : {X Y Z : Type 0} (g : X → Y) (f : Y → List Z) (h : X → List Z) (xs : List X) → ((x : X) → f (g x) ≡ h x) → flat_map f (map g xs) ≡ flat_map h xs
flat_map_map g f h [] same = refl
flat_map_map g f h (x ∷ xs) same = λ i. same x i ++ flat_map_map g f h xs same i

-- one more passes, or not
pub counted_yes : {X : Type 0} (p : X → Bool) (xs : List X) (k : ℕ) (d : X) → k < length xs → p (get_or xs k d) ≡ true → count_by p (take (k + 1) xs) ≡ count_by p (take k xs) + 1
counted_yes p xs k d inside is = sum_by_more (λ y. cond (p y) 1 0) xs k d inside ∙ ap (λ b. count_by p (take k xs) + cond b 1 0) is

-- what is wanted of the valences of entries is what is wanted of their rows
pub valences_are : (entries : List Placed) → flat_map (valence_of (rows_of entries)) (rows_of entries) ≡ flat_map (valence_wants entries) entries
valences_are entries = flat_map_map row_of (valence_of (rows_of entries)) (valence_wants entries) entries (λ p.
    ap (λ n. if is_folder p.value then want (id_of p) (valence_in p.value) n ∷ [] else []) (count_map row_of (λ (r : Row). r.parent == id_of p) entries))

pub counts_are : (head : VolumeHeader) (entries : List Placed) (files folders : ℕ) → files ≡ count_by (λ (r : Row). r.file) (rows_of entries) → folders ≡ count_by (λ (r : Row). r.folder) (rows_of entries) - 1
    → (want 32 head.file_count files ∷ want 36 head.folder_count folders ∷ []) ≡ count_wants head entries
counts_are head entries files folders files_are folders_are =
    let one : files ≡ count_by (λ (p : Placed). is_file p.value) entries = files_are ∙ count_map row_of (λ (r : Row). r.file) entries in
    let other : folders ≡ count_by (λ (p : Placed). is_folder p.value) entries - 1 = folders_are ∙ ap (λ n. n - 1) (count_map row_of (λ (r : Row). r.folder) entries) in
    λ i. want 32 head.file_count (one i) ∷ want 36 head.folder_count (other i) ∷ []

-- the id that is wanted of each entry
abbrev pub given_wants : ℕ → Placed → List Want
given_wants next placed = want (id_of placed) (id_of placed) (id_wanted next (id_of placed)) ∷ []

pub ids_are : (next : ℕ) (entries : List Placed) → flat_map (given_id next) (rows_of entries) ≡ flat_map (given_wants next) entries
ids_are next entries = flat_map_map row_of (given_id next) (given_wants next) entries (λ p. refl)

-- it stands among the numbers of rule 15
pub given_stands : (next : ℕ) (entries : List Placed) (w : Want) → Contains (flat_map (given_wants next) entries) w → Contains (flat_map (id_wants next entries) entries) w
given_stands next entries w stands =
    let at = flat_cases (given_wants next) entries w stands in
    let is : w ≡ want (id_of at.0) (id_of at.0) (id_wanted next (id_of at.0)) = in_one (want (id_of at.0) (id_of at.0) (id_wanted next (id_of at.0))) w at.2 in
    stands_flat (id_wants next entries) entries at.0 w at.1
    (behind (want (id_of at.0) (count_by (λ (other : Placed). id_of other == id_of at.0) entries) 1) w (want (id_of at.0) (id_of at.0) (id_wanted next (id_of at.0)) ∷ []) at.2)

-- where no two have one id, the other numbers of rule 15 are met
pub others_met : (next : ℕ) (entries : List Placed) → ((id : ℕ) → count_by (λ (p : Placed). id_of p == id) entries ≤ 1)
    → (w : Want) → Contains (flat_map (id_wants next entries) entries) w → Contains (flat_map (given_wants next) entries) w ⊎ (w.found ≡ w.wanted)
others_met next entries once w stands =
    let at = flat_cases (id_wants next entries) entries w stands in
    let id : ℕ = id_of at.0 in
    let many : ℕ = count_by (λ (p : Placed). id_of p == id) entries in
    let there : 1 ≤ many = counted (λ (p : Placed). id_of p == id) entries at.0 at.1 (eq-eqb id id refl) in
    let one : many ≡ 1 = (let most : many ≤ 1 = once id in omega (arith, there, most)) in
    ⊎_elim
    (λ (is : w ≡ want id many 1). inr (subst (λ (v : Want). v.found ≡ v.wanted) (sym is) one))
    (λ (later : Contains (want id id (id_wanted next id) ∷ []) w). inl (stands_flat (given_wants next) entries at.0 w at.1 later))
    (first_or_later (want id many 1) w (want id id (id_wanted next id) ∷ []) at.2)
