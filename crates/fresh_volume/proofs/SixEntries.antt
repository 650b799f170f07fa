-- The entries and threads of a volume that was just made are those of a sound volume.
use Rattle.std.proofs.Common.{◌≡◌, ◌⊎◌, inl, inr, ⊎_elim, ℕ, zero, suc, pos, ◌≤◌, ◌==◌, true, false, true≢false, List, [], ◌∷◌, codes, refl, sym, ◌∙◌, ap, subst, arith}
use Rattle.std.specs.List.{All, Contains, count_by}
use Rattle.std.proofs.lemmas.Bool.{cases_eq, ne_eqb}
use Rattle.std.proofs.lemmas.List.Elements.{All-from_recursion}
use Rattle.cat_records.specs.declared.record.ThreadRecord.{ThreadRecord}
use Rattle.cat_records.specs.declared.record.CatRecord.{CatRecord}
use Rattle.cat_records.specs.declared.record.CatRecord.TheVariants.{Folder, File, Thread}
use Rattle.btree_node.specs.Levels.{Pair}
use Rattle.hfs_model.specs.Fresh.{new_folder, new_thread}
use Rattle.hfs_volume.specs.Records.{Placed, placed_in, entries_of, is_folder, is_file, is_thread, is_empty, id_of, valence_in}
use Rattle.hfs_volume.specs.Entries.{LiesIn, is_it, IsRoot, IsThreadOf, HasThread, IsUserId, AreSpelled, AreRooted, HaveIds, AreCounted, AreEntries, count_in}
use Rattle.volume_make.specs.declared.layout.Layout.{Layout}
use Rattle.volume_make.specs.Texts.{new_file, fresh_header}
use Rattle.fresh_volume.specs.Fresh.{fresh_records}

thread_of : CatRecord → ThreadRecord
thread_of (Folder folder) = record { of_file = false; spare = pos 0; parent = 0; name = [] }
thread_of (File file) = record { of_file = false; spare = pos 0; parent = 0; name = [] }
thread_of (Thread thread) = thread

module _ (layout : Layout) (unit : ℕ) (units : List ℕ) where
  abbrev name : List ℕ
  name = unit ∷ units

  abbrev records : List Placed
  records = fresh_records layout name

  abbrev root : Placed
  root = record { parent = 1; name = name; value = new_folder 2 2 }

  abbrev journal_file : Placed
  journal_file = record { parent = 2; name = codes ".journal"; value = new_file layout.block 17 layout.journal }

  abbrev info_file : Placed
  info_file = record { parent = 2; name = codes ".journal_info_block"; value = new_file layout.block 16 layout.info }

  abbrev entries : List Placed
  entries = root ∷ journal_file ∷ info_file ∷ []

  kinds_match : All (λ (placed : Placed). is_thread placed.value ≡ is_empty placed.name) records
  kinds_match = All-from_recursion (λ (placed : Placed). is_thread placed.value ≡ is_empty placed.name) records (refl, (refl, (refl, (refl, (refl, (refl, tt))))))

  have_threads : All (HasThread records) entries
  have_threads =
      let first : HasThread records root = (record { parent = 2; name = []; value = new_thread false 1 name }, (1, omega arith, refl), refl, refl, record { of_file = false; spare = pos 0; parent = 1; name = name }, refl, record { parent = refl; name = refl; kind = refl }) in
      let second : HasThread records journal_file = (record { parent = 17; name = []; value = new_thread true 2 (codes ".journal") }, (5, omega arith, refl), refl, refl, record { of_file = true; spare = pos 0; parent = 2; name = codes ".journal" }, refl, record { parent = refl; name = refl; kind = refl }) in
      let third : HasThread records info_file = (record { parent = 16; name = []; value = new_thread true 2 (codes ".journal_info_block") }, (4, omega arith, refl), refl, refl, record { of_file = true; spare = pos 0; parent = 2; name = codes ".journal_info_block" }, refl, record { parent = refl; name = refl; kind = refl }) in
      All-from_recursion (HasThread records) entries (first, (second, (third, tt)))

  -- a thread of this place and name is one of the entry that it stands for
  is_of : (entry placed : Placed) (known thread : ThreadRecord) → Contains entries entry → id_of entry ≡ placed.parent → known ≡ thread → IsThreadOf entry known
      → (found : Placed) × Contains entries found × (id_of found ≡ placed.parent) × IsThreadOf found thread
  is_of entry placed known thread stands id same tells = (entry, stands, id, subst (IsThreadOf entry) same tells)

  threads_name : (placed : Placed) (thread : ThreadRecord) → Contains records placed → placed.value ≡ Thread thread → (entry : Placed) × Contains entries entry × (id_of entry ≡ placed.parent) × IsThreadOf entry thread
  unfolding thread_of
  threads_name placed thread (zero, inside, is) value = absurd (true≢false (ap is_folder (ap (λ (p : Placed). p.value) is ∙ value)))
  threads_name placed thread (suc zero, inside, is) value =
      is_of root placed (record { of_file = false; spare = pos 0; parent = 1; name = name }) thread (0, omega arith, refl) (ap (λ (p : Placed). p.parent) is) (ap thread_of (ap (λ (p : Placed). p.value) is ∙ value)) (record { parent = refl; name = refl; kind = refl })
  threads_name placed thread (suc (suc zero), inside, is) value = absurd (true≢false (ap is_file (ap (λ (p : Placed). p.value) is ∙ value)))
  threads_name placed thread (suc (suc (suc zero)), inside, is) value = absurd (true≢false (ap is_file (ap (λ (p : Placed). p.value) is ∙ value)))
  threads_name placed thread (suc (suc (suc (suc zero))), inside, is) value =
      is_of info_file placed (record { of_file = true; spare = pos 0; parent = 2; name = codes ".journal_info_block" }) thread (2, omega arith, refl) (ap (λ (p : Placed). p.parent) is) (ap thread_of (ap (λ (p : Placed). p.value) is ∙ value)) (record { parent = refl; name = refl; kind = refl })
  threads_name placed thread (suc (suc (suc (suc (suc zero)))), inside, is) value =
      is_of journal_file placed (record { of_file = true; spare = pos 0; parent = 2; name = codes ".journal" }) thread (1, omega arith, refl) (ap (λ (p : Placed). p.parent) is) (ap thread_of (ap (λ (p : Placed). p.value) is ∙ value)) (record { parent = refl; name = refl; kind = refl })
  threads_name placed thread (suc (suc (suc (suc (suc (suc k))))), inside, is) value = absurd (omega (arith, inside))

  rooted : AreRooted entries
  rooted = record {
    root = (root, (0, omega arith, refl), record { folder = refl; id = refl; parent = refl });
    each = All-from_recursion (λ (placed : Placed). IsRoot placed ⊎ LiesIn entries 2 placed.parent) entries (inl (record { folder = refl; id = refl; parent = refl }), (inr is_it, (inr is_it, tt)));
  }

  one_each : (id : ℕ) → count_by (λ (placed : Placed). id_of placed == id) entries ≤ 1
  one_each id =
      ⊎_elim (λ (is : id ≡ 2). subst (λ (n : ℕ). count_by (λ (placed : Placed). id_of placed == n) entries ≤ 1) (sym is) (omega arith))
      (λ not_root. ⊎_elim (λ (is : id ≡ 17). subst (λ (n : ℕ). count_by (λ (placed : Placed). id_of placed == n) entries ≤ 1) (sym is) (omega arith))
      (λ not_journal. ⊎_elim (λ (is : id ≡ 16). subst (λ (n : ℕ). count_by (λ (placed : Placed). id_of placed == n) entries ≤ 1) (sym is) (omega arith))
      (λ not_info. rw (ne_eqb 2 id (λ e. not_root (sym e)), ne_eqb 17 id (λ e. not_journal (sym e)), ne_eqb 16 id (λ e. not_info (sym e))) (omega arith))
      (cases_eq id 16))
      (cases_eq id 17))
      (cases_eq id 2)

  ids_given : HaveIds 18 entries
  ids_given = record {
    each = All-from_recursion (λ (placed : Placed). IsUserId 18 (id_of placed)) entries (inl refl, (inr (omega arith, omega arith), (inr (omega arith, omega arith), tt)));
    distinct = one_each;
  }

  counted : AreCounted (fresh_header layout) entries
  counted = record {
    valences = All-from_recursion (λ (placed : Placed). is_folder placed.value ≡ true → valence_in placed.value ≡ count_in entries (id_of placed)) entries ((λ is. refl), ((λ is. absurd (true≢false (sym is))), ((λ is. absurd (true≢false (sym is))), tt)));
    files = refl;
    folders = refl;
  }

  pub entries_sound : (pairs : List Pair) → placed_in pairs ≡ records → AreSpelled pairs → AreEntries (fresh_header layout) pairs
  entries_sound pairs are spelled = record {
    threads = record {
      spelled = spelled;
      kinds = subst (λ (l : List Placed). All (λ (placed : Placed). is_thread placed.value ≡ is_empty placed.name) l) (sym are) kinds_match;
      threaded = subst (λ (l : List Placed). All (HasThread l) (entries_of l)) (sym are) have_threads;
      named =
          subst (λ (l : List Placed). (placed : Placed) (thread : ThreadRecord) → Contains l placed → placed.value ≡ Thread thread → (entry : Placed) × Contains (entries_of l) entry × (id_of entry ≡ placed.parent) × IsThreadOf entry thread) (sym are)
          threads_name;
    };
    rooted = subst (λ (l : List Placed). AreRooted (entries_of l)) (sym are) rooted;
    ids = subst (λ (l : List Placed). HaveIds 18 (entries_of l)) (sym are) ids_given;
    counts = subst (λ (l : List Placed). AreCounted (fresh_header layout) (entries_of l)) (sym are) counted;
  }
