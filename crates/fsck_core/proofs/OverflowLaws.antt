-- The extents of a fork, by rows.
use Rattle.std.proofs.Common.{◌≡◌, ℕ, Bool, true, false, ◌==◌, List, [], ◌∷◌, ◌++◌, refl, sym, ◌∙◌, ap, if◌then◌else◌, append-nil}
use Rattle.std.specs.List.{flat_map}
use Rattle.std.proofs.lemmas.List.Concat.{flat_map-append}
use Rattle.hx_bytes.specs.declared.extents.Extent.{Extent}
use Rattle.hx_bytes.specs.declared.extents.ForkRecord.{ForkRecord}
use Rattle.hfs_model.specs.Sorted.{kept}
use Rattle.hfs_volume.specs.Records.{Overflow}
use Rattle.hfs_volume.specs.Forks.{in_use, is_of, extents_of, extents_id}
use Rattle.fsck_core.specs.Overflows.{overflow_in, overflows_in, extents_for}
use Rattle.fsck_core.specs.declared.overflow.OverflowRow.{OverflowRow}

-- what the rows give is what the records of the fork give
pub rows_give : (id kind : ℕ) (rows : List OverflowRow) → flat_map (extents_for id kind) rows ≡ flat_map (λ (more : Overflow). in_use more.extents) (kept (is_of id kind) (overflows_in rows))
rows_give id kind [] = refl
rows_give id kind (row ∷ rows) = at (is_of id kind (overflow_in row)) ∙ ap (λ l. flat_map given (if is_of id kind (overflow_in row) then overflow_in row ∷ [] else []) ++ l) (rows_give id kind rows)
    ∙ sym (flat_map-append given (if is_of id kind (overflow_in row) then overflow_in row ∷ [] else []) (kept (is_of id kind) (overflows_in rows)))
  where
    given : Overflow → List Extent
    given more = in_use more.extents

    at : (b : Bool) → (if b then in_use row.extents.extents else []) ++ flat_map (extents_for id kind) rows ≡ flat_map (λ (more : Overflow). in_use more.extents) (if b then overflow_in row ∷ [] else []) ++ flat_map (extents_for id kind) rows
    at true = ap (λ l. l ++ flat_map (extents_for id kind) rows) (sym (append-nil (in_use row.extents.extents)))
    at false = refl

-- the extents overflow file itself goes on nowhere
pub own_extents : (overflow : List Overflow) (id kind : ℕ) (fork : ForkRecord) → (id == extents_id) ≡ true → in_use fork.extents.extents ≡ extents_of overflow id kind fork
unfolding extents_of
own_extents overflow id kind fork is =
    sym (append-nil (in_use fork.extents.extents)) ∙ ap (λ b. in_use fork.extents.extents ++ flat_map (λ (more : Overflow). in_use more.extents) (if b then [] else kept (is_of id kind) overflow)) (sym is)

-- another fork goes on in its rows
pub all_extents : (rows : List OverflowRow) (id kind : ℕ) (fork : ForkRecord) → (id == extents_id) ≡ false → in_use fork.extents.extents ++ flat_map (extents_for id kind) rows ≡ extents_of (overflows_in rows) id kind fork
unfolding extents_of
all_extents rows id kind fork is =
    ap (λ l. in_use fork.extents.extents ++ l) (rows_give id kind rows) ∙ ap (λ b. in_use fork.extents.extents ++ flat_map (λ (more : Overflow). in_use more.extents) (if b then [] else kept (is_of id kind) (overflows_in rows))) (sym is)
