-- The forks of a volume that was just made: those of the five special files and of the two files of the journal.
use Rattle.std.proofs.Common.{◌≡◌, ℕ, ◌+◌, ◌-◌, ◌*◌, ◌/◌, ◌≤◌, ◌==◌, Bool, false, not, suc, List, [], ◌∷◌, ◌++◌, length, if◌then◌else◌, refl, sym, ◌∙◌, ap, subst, arith, ⊎_elim}
use Rattle.std.specs.List.{All, flat_map, range_with_len}
use Rattle.std.proofs.lemmas.Bool.Decides.{leb_tells}
use Rattle.std.proofs.lemmas.List.{append-nil}
use Rattle.std.proofs.lemmas.List.Elements.{All-from_recursion, All-nil}
use Rattle.std.proofs.lemmas.List.FromFn.{length-range_with_len}
use Rattle.hx_bytes.specs.declared.extents.Extent.{Extent}
use Rattle.fork_map.specs.Blocks.{blocks_of}
use Rattle.alloc_bitmap.specs.Apart.{times}
use Rattle.alloc_bitmap.proofs.ApartLaws.{times-append}
use Rattle.hfs_model.specs.Fresh.{one_run, no_fork}
use Rattle.hfs_volume.specs.Forks.{Owned, all_forks, blocks_owned, extents_of, in_use, used_blocks, parts_for, extents_id, catalog_id, allocation_id, startup_id, attributes_id, data_kind, resource_kind}
use Rattle.hfs_volume.specs.Blocks.{HasSizes, GoesOn}
use Rattle.volume_make.specs.declared.layout.Layout.{Layout}
use Rattle.volume_make.specs.Layout.{CanBe, IsFitting, layout_of, count_of, end_of, last_start}
use Rattle.volume_make.specs.Texts.{special_fork, file_fork, empty_fork, fresh_header}
use Rattle.volume_make.proofs.Sizes.{fitting, layout_sectors}
use Rattle.fresh_volume.specs.Fresh.{fresh_records}
use Rattle.fresh_volume.proofs.Trees.{run_extents, has_blocks}
use Rattle.fresh_volume.proofs.RowCounts.{row_grows}

-- the parts lie one behind the other, from the reserved front on, and the last blocks are those of the last 1,024 bytes
record AreInRow (layout : Layout) : Type 0 where
  pub bitmap : layout.bitmap.start ≡ parts_for 1536 layout.block
  pub info : layout.info.start ≡ end_of layout.bitmap
  pub journal : layout.journal.start ≡ end_of layout.info
  pub extents : layout.extents.start ≡ end_of layout.journal
  pub attributes : layout.attributes.start ≡ end_of layout.extents
  pub catalog : layout.catalog.start ≡ end_of layout.attributes
  pub last : layout.last.start ≡ last_start ((layout.sectors - 2) * 512 / layout.block) layout.total
  pub count : layout.last.count ≡ layout.total - layout.last.start

are_in_row : (s b j : ℕ) → AreInRow (layout_of s b j)
unfolding layout_of
are_in_row s b j = record { bitmap = refl; info = refl; journal = refl; extents = refl; attributes = refl; catalog = refl; last = refl; count = refl }

abbrev pub nine_forks : Layout → List Owned
nine_forks layout =
    record { id = extents_id; kind = data_kind; fork = special_fork layout.block layout.extents }
    ∷ record { id = catalog_id; kind = data_kind; fork = special_fork layout.block layout.catalog }
    ∷ record { id = allocation_id; kind = data_kind; fork = special_fork layout.block layout.bitmap }
    ∷ record { id = startup_id; kind = data_kind; fork = empty_fork layout.block }
    ∷ record { id = attributes_id; kind = data_kind; fork = special_fork layout.block layout.attributes }
    ∷ record { id = 17; kind = data_kind; fork = file_fork layout.block layout.journal }
    ∷ record { id = 17; kind = resource_kind; fork = no_fork }
    ∷ record { id = 16; kind = data_kind; fork = file_fork layout.block layout.info }
    ∷ record { id = 16; kind = resource_kind; fork = no_fork }
    ∷ []

pub nine : (layout : Layout) (name : List ℕ) → all_forks (fresh_header layout) (fresh_records layout name) ≡ nine_forks layout
unfolding all_forks
nine layout [] = refl
nine layout (unit ∷ units) = refl

-- ---- one fork

-- the data fork of one run that has blocks
abbrev run_fork : ℕ → ℕ → ℕ → Extent → Owned
run_fork id block clump part = record {
  id = id;
  kind = data_kind;
  fork = record { logical_size = part.count * block; clump_size = clump; total_blocks = part.count; extents = one_run part.start part.count };
}

run_blocks : (id block clump : ℕ) (part : Extent) → (part.count == 0) ≡ false → blocks_owned [] (run_fork id block clump part) ≡ range_with_len part.start part.count
unfolding extents_of
run_blocks id block clump part some = ap blocks_of (run_extents [] id block part refl some) ∙ append-nil (range_with_len part.start part.count)

run_sizes : (layout : Layout) (id clump : ℕ) (part : Extent) → (part.count == 0) ≡ false → end_of part ≤ layout.total → HasSizes (fresh_header layout) [] (run_fork id layout.block clump part)
run_sizes layout id clump part some inside =
    let run : Extent = record { start = part.start; count = part.count } in
    let kept_one : in_use (one_run part.start part.count).extents ≡ run ∷ [] = ap (λ (b : Bool). (if not b then run ∷ [] else []) ++ []) some in
    record {
      inside = subst (λ (l : List Extent). All (λ (extent : Extent). extent.start + extent.count ≤ layout.total) l) (sym kept_one) (All-from_recursion (λ (extent : Extent). extent.start + extent.count ≤ layout.total) (run ∷ []) (inside, tt));
      blocks = ap (λ (l : List ℕ). length l) (run_blocks id layout.block clump part some) ∙ length-range_with_len part.start part.count;
      bytes = omega arith;
    }

-- the fork without a block
startup_blocks : (block : ℕ) → blocks_owned [] (record { id = startup_id; kind = data_kind; fork = empty_fork block }) ≡ []
unfolding extents_of
startup_blocks block = refl

journal_spare : blocks_owned [] (record { id = 17; kind = resource_kind; fork = no_fork }) ≡ []
unfolding extents_of
journal_spare = refl

info_spare : blocks_owned [] (record { id = 16; kind = resource_kind; fork = no_fork }) ≡ []
unfolding extents_of
info_spare = refl

none_sizes : (layout : Layout) (id kind clump : ℕ)
    → blocks_owned [] (record { id = id; kind = kind; fork = record { logical_size = 0; clump_size = clump; total_blocks = 0; extents = one_run 0 0 } }) ≡ []
    → HasSizes (fresh_header layout) [] (record { id = id; kind = kind; fork = record { logical_size = 0; clump_size = clump; total_blocks = 0; extents = one_run 0 0 } })
none_sizes layout id kind clump none = record {
  inside = All-nil (λ (extent : Extent). extent.start + extent.count ≤ layout.total);
  blocks = ap (λ (l : List ℕ). length l) none;
  bytes = omega arith;
}

-- ---- the last blocks

same_last : (x t : ℕ) → range_with_len x (t - x) ≡ range_with_len (last_start x t) (t - last_start x t)
same_last x t =
    ⊎_elim
    (λ below. rw below.0 refl)
    (λ past.
    let none : t - x ≡ 0 = omega (arith, past.1) in
    let no_more : t - t ≡ 0 = omega arith in
    rw past.0 (ap (range_with_len x) none ∙ sym (ap (range_with_len t) no_more)))
    (leb_tells (suc x) t)

-- ---- all of them

six_times : (k : ℕ) (a b c d e f : List ℕ) → times k (a ++ (b ++ (c ++ (d ++ (e ++ (f ++ [])))))) ≡ times k a + times k b + times k c + times k d + times k e + times k f
six_times k a b c d e f =
    omega (
      arith,
      times-append k a (b ++ (c ++ (d ++ (e ++ (f ++ []))))),
      times-append k b (c ++ (d ++ (e ++ (f ++ [])))),
      times-append k c (d ++ (e ++ (f ++ []))),
      times-append k d (e ++ (f ++ [])),
      times-append k e (f ++ []),
      ap (λ (l : List ℕ). times k l) (append-nil f),
    )

module _ (sectors block journal : ℕ) (name : List ℕ) (can : CanBe sectors block journal) where
  abbrev layout : Layout
  layout = layout_of sectors block journal

  fit : IsFitting layout
  fit = fitting sectors block journal can

  row : AreInRow layout
  row = are_in_row sectors block journal

  pub apart : end_of layout.catalog ≤ layout.last.start
  apart = omega (arith, fit.free, fit.last)

  extents_some : (layout.extents.count == 0) ≡ false
  extents_some = has_blocks layout layout.extents 128 fit.extents_room (omega arith)

  catalog_some : (layout.catalog.count == 0) ≡ false
  catalog_some = has_blocks layout layout.catalog 512 fit.catalog_room (omega arith)

  attributes_some : (layout.attributes.count == 0) ≡ false
  attributes_some = has_blocks layout layout.attributes 128 fit.attributes_room (omega arith)

  journal_some : (layout.journal.count == 0) ≡ false
  journal_some = has_blocks layout layout.journal (count_of layout layout.journal) refl (omega (arith, fit.journal_room))

  info_some : (layout.info.count == 0) ≡ false
  info_some = has_blocks layout layout.info (count_of layout layout.info) refl (omega (arith, fit.info_room))

  bitmap_some : 1 ≤ count_of layout layout.bitmap → (layout.bitmap.count == 0) ≡ false
  bitmap_some some = has_blocks layout layout.bitmap (count_of layout layout.bitmap) refl (omega (arith, some))

  pub all_sized : 1 ≤ count_of layout layout.bitmap → All (HasSizes (fresh_header layout) []) (nine_forks layout)
  all_sized some = All-from_recursion (HasSizes (fresh_header layout) []) (nine_forks layout) (
    run_sizes layout extents_id layout.block layout.extents extents_some (omega (arith, fit.free, row.attributes, row.catalog)),
    (
      run_sizes layout catalog_id layout.block layout.catalog catalog_some (omega (arith, fit.free)),
      (
        run_sizes layout allocation_id layout.block layout.bitmap (bitmap_some some) (omega (arith, fit.free, row.info, row.journal, row.extents, row.attributes, row.catalog)),
        (
          none_sizes layout startup_id data_kind layout.block (startup_blocks layout.block),
          (
            run_sizes layout attributes_id layout.block layout.attributes attributes_some (omega (arith, fit.free, row.catalog)),
            (
              run_sizes layout 17 0 layout.journal journal_some (omega (arith, fit.free, row.extents, row.attributes, row.catalog)),
              (
                none_sizes layout 17 resource_kind 0 journal_spare,
                (
                  run_sizes layout 16 0 layout.info info_some (omega (arith, fit.free, row.journal, row.extents, row.attributes, row.catalog)),
                  (
                    none_sizes layout 16 resource_kind 0 info_spare,
                    tt,
                  ),
                ),
              ),
            ),
          ),
        ),
      ),
    ),
  )

  pub all_go_on : All (GoesOn []) (nine_forks layout)
  all_go_on = All-from_recursion (GoesOn []) (nine_forks layout) (tt, (tt, (tt, (tt, (tt, (tt, (tt, (tt, (tt, tt)))))))))

  abbrev blocks_at : Extent → List ℕ
  blocks_at part = range_with_len part.start part.count

  fork_blocks_are : 1 ≤ count_of layout layout.bitmap → flat_map (blocks_owned []) (nine_forks layout)
      ≡ blocks_at layout.extents ++ (blocks_at layout.catalog ++ (blocks_at layout.bitmap ++ (blocks_at layout.attributes ++ (blocks_at layout.journal ++ (blocks_at layout.info ++ [])))))
  fork_blocks_are some =
      let extents = run_blocks extents_id layout.block layout.block layout.extents extents_some in
      let catalog = run_blocks catalog_id layout.block layout.block layout.catalog catalog_some in
      let bitmap = run_blocks allocation_id layout.block layout.block layout.bitmap (bitmap_some some) in
      let startup = startup_blocks layout.block in
      let attributes = run_blocks attributes_id layout.block layout.block layout.attributes attributes_some in
      let ring = run_blocks 17 layout.block 0 layout.journal journal_some in
      let info = run_blocks 16 layout.block 0 layout.info info_some in
      λ i. extents i ++ (catalog i ++ (bitmap i ++ (startup i ++ (attributes i ++ (ring i ++ (journal_spare i ++ (info i ++ (info_spare i ++ []))))))))

  last_is : range_with_len ((sectors * 512 - 1024) / layout.block) (layout.total - (sectors * 512 - 1024) / layout.block) ≡ blocks_at layout.last
  last_is =
      let x : ℕ = (layout.sectors - 2) * 512 / layout.block in
      let place : sectors * 512 - 1024 ≡ (sectors - 2) * 512 = omega arith in
      ap (λ (n : ℕ). range_with_len (n / layout.block) (layout.total - n / layout.block)) place
      ∙ ap (λ (m : ℕ). range_with_len ((m - 2) * 512 / layout.block) (layout.total - (m - 2) * 512 / layout.block)) (sym (layout_sectors sectors block journal))
      ∙ same_last x layout.total
      ∙ ap (λ (n : ℕ). range_with_len n (layout.total - n)) (sym row.last)
      ∙ ap (λ (n : ℕ). range_with_len layout.last.start n) (sym row.count)

  -- a block is used as often as it stands in the row of the parts and among the last blocks
  pub times_used : 1 ≤ count_of layout layout.bitmap → (k : ℕ) → times k (used_blocks sectors (fresh_header layout) (fresh_records layout name) [])
      ≡ times k (range_with_len 0 (end_of layout.catalog)) + times k (blocks_at layout.last)
  unfolding used_blocks
  times_used some k =
      let front : List ℕ = range_with_len 0 (parts_for 1536 layout.block) in
      let ending : List ℕ = range_with_len ((sectors * 512 - 1024) / layout.block) (layout.total - (sectors * 512 - 1024) / layout.block) in
      let forks : List ℕ = flat_map (blocks_owned []) (all_forks (fresh_header layout) (fresh_records layout name)) in
      let forks_are = ap (flat_map (blocks_owned [])) (nine layout name) ∙ fork_blocks_are some in
      let fork_times = ap (λ (l : List ℕ). times k l) forks_are
      ∙ six_times k (blocks_at layout.extents) (blocks_at layout.catalog) (blocks_at layout.bitmap) (blocks_at layout.attributes) (blocks_at layout.journal) (blocks_at layout.info) in
      let front_is = ap (λ (n : ℕ). times k (range_with_len 0 n)) row.bitmap in
      let ending_is = ap (λ (l : List ℕ). times k l) last_is in
      let outer : times k (used_blocks sectors (fresh_header layout) (fresh_records layout name) []) ≡ times k (front ++ ending) + times k forks =
      ap (λ (l : List ℕ). times k l) (append-nil ((front ++ ending) ++ forks)) ∙ times-append k (front ++ ending) forks in
      let inner = times-append k front ending in
      omega (
        arith,
        outer,
        inner,
        fork_times,
        front_is,
        ending_is,
        row_grows k layout.bitmap.start layout.bitmap refl,
        row_grows k (end_of layout.bitmap) layout.info row.info,
        row_grows k (end_of layout.info) layout.journal row.journal,
        row_grows k (end_of layout.journal) layout.extents row.extents,
        row_grows k (end_of layout.extents) layout.attributes row.attributes,
        row_grows k (end_of layout.attributes) layout.catalog row.catalog,
      )
