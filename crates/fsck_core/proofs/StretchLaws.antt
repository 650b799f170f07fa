-- The overflow records of one file among those of a volume.
use Rattle.std.proofs.Common.{◌≡◌, ◌<◌, ◌≤◌, ℕ, ◌+◌, ◌-◌, Bool, true, false, ◌&&◌, ◌==◌, nat_lt, if◌then◌else◌, List, [], ◌∷◌, ◌++◌, length, take, drop, get_or, refl, sym, ◌∙◌, ap, subst, arith, ⊎_elim, append-nil, length-take, length-drop}
use Rattle.std.specs.Prelude.{MatchOption, Option}
use Rattle.std.specs.List.{flat_map}
use Rattle.std.specs.List.Sorted.{IsPartitionPoint}
use Rattle.std.proofs.lemmas.Bool.{cases_lt, ne_eqb}
use Rattle.std.proofs.lemmas.List.{take-append-drop, get_or-take, get_or-drop, get_or_default}
use Rattle.std.proofs.lemmas.List.Concat.{flat_map-append}
use Rattle.fsck_list.proofs.Ranges.{none_pass}
use Rattle.hfs_model.specs.Sorted.{kept}
use Rattle.hx_bytes.specs.declared.extents.ForkRecord.{ForkRecord}
use Rattle.fork_map.specs.Blocks.{blocks_of}
use Rattle.hfs_volume.specs.Blocks.{GoOn, GoesOn}
use Rattle.hfs_volume.specs.Records.{Overflow}
use Rattle.hfs_volume.specs.Forks.{Owned, is_of, is_full, in_use, extents_id, extents_of, blocks_owned, overflow_in as overflow_of_fork}
use Rattle.fsck_core.specs.Overflows.{overflow_in, overflows_in}
use Rattle.fsck_core.specs.declared.overflow.OverflowRow.{OverflowRow}
use Rattle.fsck_core.proofs.RowLaws.{below_true, below_false}

-- what is kept of a list is kept of a stretch of it, where nothing passes before and behind
kept_stretch : {X : Type 0} (p : X → Bool) (xs : List X) (d : X) (from n : ℕ) → from + n ≤ length xs → ((k : ℕ) → k < from → p (get_or xs k d) ≡ false) → ((k : ℕ) → from + n ≤ k → k < length xs → p (get_or xs k d) ≡ false)
    → kept p (take n (drop from xs)) ≡ kept p xs
kept_stretch {X} p xs d from n within before past =
    sym (ap (kept p) (sym (take-append-drop from xs)) ∙ flat_map-append one (take from xs) (drop from xs)
    ∙ (λ i. none_front i ++ (ap (kept p) (sym (take-append-drop n (drop from xs))) ∙ flat_map-append one (take n (drop from xs)) (drop n (drop from xs)) ∙ ap (λ l. kept p (take n (drop from xs)) ++ l) none_back ∙ append-nil (kept p (take n (drop from xs)))) i))
  where
    one : X → List X
    one x = if p x then x ∷ [] else []

    none_front : kept p (take from xs) ≡ []
    none_front = none_pass p (take from xs) (λ k e less.
        let inside : (k < from) × (k < length xs) = (let long = length-take from xs in (omega (arith, less, long), omega (arith, less, long))) in
        ap p (get_or-take from xs k e inside.0 ∙ get_or_default xs k e d inside.1) ∙ before k inside.0)

    none_back : kept p (drop n (drop from xs)) ≡ []
    none_back = none_pass p (drop n (drop from xs)) (λ k e less.
        let inside : from + (n + k) < length xs = omega (arith, less, length-drop n (drop from xs), length-drop from xs) in
        ap p (get_or-drop n (drop from xs) k e ∙ get_or-drop from xs (n + k) e ∙ get_or_default xs (from + (n + k)) e d inside) ∙ past (from + (n + k)) (omega arith) inside)

-- what is kept of rows as records
kept_rows : (id kind : ℕ) (rows : List OverflowRow) → kept (is_of id kind) (overflows_in rows) ≡ overflows_in (kept (λ row. is_of id kind (overflow_in row)) rows)
kept_rows id kind [] = refl
kept_rows id kind (row ∷ rows) = at (kept_rows id kind rows) (is_of id kind (overflow_in row))
  where
    at : kept (is_of id kind) (overflows_in rows) ≡ overflows_in (kept (λ r. is_of id kind (overflow_in r)) rows) → (b : Bool)
        → (if b then overflow_in row ∷ [] else []) ++ kept (is_of id kind) (overflows_in rows) ≡ overflows_in ((if b then row ∷ [] else []) ++ kept (λ r. is_of id kind (overflow_in r)) rows)
    at rest true = ap (λ l. overflow_in row ∷ l) rest
    at rest false = rest

other_id : (id kind : ℕ) (row : OverflowRow) → (row.id ≡ id → ⊥) → is_of id kind (overflow_in row) ≡ false
other_id id kind row differ = ap (λ b. b && (row.fork == kind)) (ne_eqb row.id id differ)

abbrev none : OverflowRow
none = record { fork = 0; id = 0; start = 0; extents = record { extents = [] } }

pub stretch_keeps_all : (rows stretch : List OverflowRow) (id kind from to : ℕ) → from ≤ to → to ≤ length rows → stretch ≡ take (to - from) (drop from rows)
    → IsPartitionPoint (λ (r : OverflowRow). nat_lt r.id id ≡ true) (λ (r : OverflowRow). nat_lt r.id id ≡ false) rows from
    → IsPartitionPoint (λ (r : OverflowRow). nat_lt r.id (id + 1) ≡ true) (λ (r : OverflowRow). nat_lt r.id (id + 1) ≡ false) rows to
    → kept (is_of id kind) (overflows_in stretch) ≡ kept (is_of id kind) (overflows_in rows)
stretch_keeps_all rows stretch id kind from to order within is first last =
    ap (λ l. kept (is_of id kind) (overflows_in l)) is ∙ kept_rows id kind (take (to - from) (drop from rows))
    ∙ ap overflows_in (kept_stretch (λ row. is_of id kind (overflow_in row)) rows none from (to - from) (omega (arith, order, within))
    (λ k less. other_id id kind (get_or rows k none) (λ same. let under = below_true (get_or rows k none).id id (first.0 k none (omega arith) less) in omega (arith, under, same)))
    (λ k past inside. other_id id kind (get_or rows k none) (λ same. let above = below_false (get_or rows k none).id (id + 1) (last.1 k none (omega (arith, past, order)) inside) in omega (arith, above, same))))
    ∙ sym (kept_rows id kind rows)

-- what is told of a fork over records with the same of its own is told over all
pub goes_alike : (a b : List Overflow) (owned : Owned) (o : Option ℕ) → kept (is_of owned.id owned.kind) a ≡ kept (is_of owned.id owned.kind) b
    → MatchOption o (¬ GoesOn a owned) (λ n. GoesOn a owned × (n ≡ length (blocks_owned a owned))) → MatchOption o (¬ GoesOn b owned) (λ n. GoesOn b owned × (n ≡ length (blocks_owned b owned)))
unfolding extents_of
goes_alike a b owned o same told =
    let own : overflow_of_fork a owned.id owned.kind ≡ overflow_of_fork b owned.id owned.kind = ap (λ (l : List Overflow). if owned.id == extents_id then [] else l) same in
    let place : ℕ = length (blocks_of owned.fork.extents.extents) in
    let full : Bool = is_full owned.fork.extents.extents in
    subst (λ (l : List Overflow). MatchOption o (¬ GoOn place full l) (λ n. GoOn place full l × (n ≡ length (blocks_of (in_use owned.fork.extents.extents ++ flat_map (λ (m : Overflow). in_use m.extents) l))))) own told

-- one row more that stands in order
pub order_more : (rows : List OverflowRow) (at : ℕ) → 1 ≤ at → at < length rows → ((k : ℕ) (d : OverflowRow) → k + 1 < at → (get_or rows k d).id ≤ (get_or rows (k + 1) d).id)
    → (get_or rows (at - 1) (record { fork = 0; id = 0; start = 0; extents = record { extents = [] } })).id ≤ (get_or rows at (record { fork = 0; id = 0; start = 0; extents = record { extents = [] } })).id
    → (k : ℕ) (d : OverflowRow) → k + 1 < at + 1 → (get_or rows k d).id ≤ (get_or rows (k + 1) d).id
order_more rows at low inside before here k d less = ⊎_elim
    (λ (early : k + 1 < at). before k d early)
    (λ (most : at ≤ k + 1).
    let first : k ≡ at - 1 = omega (arith, most, less) in
    let second : k + 1 ≡ at = omega (arith, most, less) in
    let one : (get_or rows k d).id ≡ (get_or rows (at - 1) none).id = ap (λ (r : OverflowRow). r.id) (get_or_default rows k d none (omega (arith, most, less, inside)) ∙ ap (λ n. get_or rows n none) first) in
    let other : (get_or rows (k + 1) d).id ≡ (get_or rows at none).id = ap (λ (r : OverflowRow). r.id) (get_or_default rows (k + 1) d none (omega (arith, most, less, inside)) ∙ ap (λ n. get_or rows n none) second) in
    omega (arith, here, one, other))
    (cases_lt (k + 1) at)

-- the extents of a fork over records with the same of its own
pub extents_alike : (a b : List Overflow) (id kind : ℕ) (fork : ForkRecord) → kept (is_of id kind) a ≡ kept (is_of id kind) b → extents_of a id kind fork ≡ extents_of b id kind fork
unfolding extents_of
extents_alike a b id kind fork same = ap (λ (l : List Overflow). in_use fork.extents.extents ++ flat_map (λ (m : Overflow). in_use m.extents) (if id == extents_id then [] else l)) same
