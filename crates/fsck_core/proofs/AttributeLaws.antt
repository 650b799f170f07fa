-- Attributes and the files of the journal: what was told of bytes is what rules 16 and 20 say of records.
use Rattle.std.proofs.Common.{◌≡◌, ◌↔◌, ◌<◌, ℕ, Bool, true, false, ◌&&◌, List, [], ◌∷◌, length, inl, inr, refl, sym, ◌∙◌, ap, subst}
use Rattle.std.specs.Prelude.{IsTrue, Option, Some, None, Result, Ok, Err, IfOk}
use Rattle.std.proofs.lemmas.Bool.{true≢false}
use Rattle.hx_bytes.specs.declared.extents.Extent.{Extent}
use Rattle.volume_header.specs.declared.header.VolumeHeader.{VolumeHeader}
use Rattle.jnl_format.specs.declared.structures.Info.{Info}
use Rattle.btree_node.specs.Levels.{Pair}
use Rattle.cat_records.specs.declared.record.CatRecord.{CatRecord}
use Rattle.cat_records.specs.declared.record.CatRecord.TheVariants.{Folder, File, Thread}
use Rattle.cat_records.specs.declared.record.FileRecord.{FileRecord}
use Rattle.hfs_model.specs.Step.{journal_name, journal_info_name}
use Rattle.hfs_volume.specs.Records.{Placed, Overflow, placed_in, record_at}
use Rattle.hfs_volume.specs.Forks.{extents_of, data_kind}
use Rattle.hfs_volume.specs.Attributes.{IsOneExtent, journal_extent, info_extent}
use Rattle.hfs_volume.specs.Content.{VolumeState, records_of, overflow_in_volume}
use Rattle.hfs_volume.specs.Broken as broken
use Rattle.hfs_volume.specs.Broken.{IsFailed, named_place, FailsAttribute}
use Rattle.fsck_list.specs.declared.finding.Finding.{Finding}
use Rattle.fsck_core.specs.Attributes.{IsOneFile, HasOneFile, FailsFile, HasAttributes, AreAttributesOf, AreGood, IsBrokenValue, IsBrokenOfNames, Judges, KeepsAttributes, FailsRecord, IsBrokenRecord, AreNamed, IsToldOr}
use Rattle.fsck_core.specs.Catalogs.{HasRows}
use Rattle.fsck_core.specs.Decided.{Adds, Decided}
use Rattle.fsck_core.specs.Names.{value_found, id_found}
use Rattle.fsck_core.specs.declared.rows.Row.{Row}
use Rattle.fsck_core.proofs.DecidedLaws.{adds_two, adds_so, decided_both, decided_as, adds_unless, Unless}
use Rattle.fsck_core.proofs.RecordJudged.{all_good, good_again}
use Rattle.fsck_list.specs.Kept.{IsListed}
use Rattle.fsck_core.specs.Decided.{StaysListed, IsTold, TellsOf}
use Rattle.fsck_core.proofs.ToldLaws.{told_so, told_still, told_unless, stays_both}
use Rattle.std.proofs.lemmas.List.{get_or_default}
use Rattle.hfs_volume.specs.Attributes.{IsAttribute}
use Rattle.hfs_volume.specs.Content.{attributes_of}
use Rattle.hfs_volume.specs.Records.{attribute_of}
use Rattle.hfs_volume.specs.Values.{IsValue}
use Rattle.fsck_core.specs.Names.{pair_at}

-- ---- the files of the journal

abbrev placed_or : Option Placed → Placed → Placed
placed_or None d = d
placed_or (Some placed) d = placed

abbrev file_in : CatRecord → FileRecord → FileRecord
file_in (Folder folder) d = d
file_in (File file) d = file
file_in (Thread thread) d = d

module _ (records : List Placed) (overflow : List Overflow) (name : List ℕ) (span : Extent) where
  abbrev OneAt : Option Placed → Type 0
  OneAt found = (placed : Placed) × (file : FileRecord) × (found ≡ Some placed) × (placed.value ≡ File file) × (extents_of overflow file.fields.id data_kind file.data_fork ≡ span ∷ [])

  one_value : (placed : Placed) (value : CatRecord) → placed.value ≡ value → IsOneFile overflow value span → OneAt (Some placed)
  one_value placed (Folder folder) is none = absurd none
  one_value placed (File file) is one = (placed, file, refl, is, one)
  one_value placed (Thread thread) is none = absurd none

  value_one : (placed : Placed) (value : CatRecord) (file : FileRecord) → placed.value ≡ value → placed.value ≡ File file → extents_of overflow file.fields.id data_kind file.data_fork ≡ span ∷ [] → IsOneFile overflow value span
  value_one placed value file is file_is one = subst (λ v. IsOneFile overflow v span) (sym file_is ∙ is) one

  pub one_there : (found : Option Placed) → HasOneFile overflow (value_found found) span → OneAt found
  one_there None none = absurd none
  one_there (Some placed) one = one_value placed placed.value refl one

  pub there_one : (found : Option Placed) → OneAt found → HasOneFile overflow (value_found found) span
  there_one None (placed, file, is, value, one) = absurd (cc)
  there_one (Some other) (placed, file, is, value, one) = let same : other ≡ placed = ap (λ o. placed_or o other) is in value_one other other.value file refl (ap (λ (p : Placed). p.value) same ∙ value) one

  -- a finding's place is that of the file, or of the root
  pub place_named : id_found (value_found (record_at records 2 name)) ≡ named_place records name
  place_named = at (record_at records 2 name) refl
    where
      at : (o : Option Placed) → record_at records 2 name ≡ o → id_found (value_found (record_at records 2 name)) ≡ named_place records name
      at None is = rw is refl
      at (Some placed) is = rw is refl

  file_fails : (found : Option CatRecord) (holds : Bool) (place : ℕ) → found ≡ value_found (record_at records 2 name) → IsTrue holds ↔ HasOneFile overflow found span → place ≡ id_found found → holds ≡ false → FailsFile records overflow name span place
  file_fails found holds place found_is tells place_is fails = (
    place_is ∙ ap id_found found_is ∙ place_named,
    λ one.
        true≢false (sym (tells.1 (subst (λ o. HasOneFile overflow o span) (sym found_is) (there_one (record_at records 2 name) one))) ∙ fails),
  )

  pub file_adds : (found : Option CatRecord) (holds : Bool) (place : ℕ) (old new : List Finding) → found ≡ value_found (record_at records 2 name) → IsTrue holds ↔ HasOneFile overflow found span → place ≡ id_found found → Unless 20 holds place old new
      → Adds (λ f. IsFailed 20 f (FailsFile records overflow name span)) old new
  file_adds found holds place old new found_is tells place_is each =
      adds_unless 20 (FailsFile records overflow name span) holds place old new (file_fails found holds place found_is tells place_is) each

  pub file_decided : (found : Option CatRecord) (holds met : Bool) (place : ℕ) (old new : List Finding) → found ≡ value_found (record_at records 2 name) → IsTrue holds ↔ HasOneFile overflow found span → place ≡ id_found found → met ≡ holds
      → (met ≡ false → IsListed new (record { rule = 20; place = place; found = 0; wanted = 1 })) → StaysListed old new → Unless 20 holds place old new
      → Decided (λ f. IsFailed 20 f (FailsFile records overflow name span)) (IsOneExtent records overflow name span) old new met
  file_decided found holds met place old new found_is tells place_is met_is some still each = record {
    tells = (
      λ yes_met. one_there (record_at records 2 name) (subst (λ o. HasOneFile overflow o span) found_is (tells.0 (sym met_is ∙ yes_met))),
      λ one. met_is ∙ tells.1 (subst (λ o. HasOneFile overflow o span) (sym found_is) (there_one (record_at records 2 name) one)),
    );
    found = λ no. told_unless 20 (FailsFile records overflow name span) place new (file_fails found holds place found_is tells place_is (sym met_is ∙ no)) (some no);
    still = still;
    each = file_adds found holds place old new found_is tells place_is each;
  }

abbrev SaysFile : List Placed → List Overflow → List ℕ → Extent → broken.Finding → Type 0
SaysFile records overflow name span f = IsFailed 20 f (FailsFile records overflow name span)

-- the same of equal lists
pub file_as : (records others : List Placed) (overflow more : List Overflow) (name word : List ℕ) (span extent : Extent) (old new : List Finding) (met : Bool) → records ≡ others → overflow ≡ more → name ≡ word → span ≡ extent
    → Decided (SaysFile records overflow name span) (IsOneExtent records overflow name span) old new met → Decided (SaysFile others more word extent) (IsOneExtent others more word extent) old new met
file_as records others overflow more name word span extent old new met a b c d decided =
    subst (λ e. Decided (SaysFile others more word e) (IsOneExtent others more word e) old new met) d
    (subst (λ w. Decided (SaysFile others more w span) (IsOneExtent others more w span) old new met) c
    (subst (λ o. Decided (SaysFile others o name span) (IsOneExtent others o name span) old new met) b
    (subst (λ l. Decided (SaysFile l overflow name span) (IsOneExtent l overflow name span) old new met) a decided)))

pub file_adds_as : (records others : List Placed) (overflow more : List Overflow) (name word : List ℕ) (span extent : Extent) (old new : List Finding) → records ≡ others → overflow ≡ more → name ≡ word → span ≡ extent
    → Adds (SaysFile records overflow name span) old new → Adds (SaysFile others more word extent) old new
file_adds_as records others overflow more name word span extent old new a b c d adds =
    subst (λ e. Adds (SaysFile others more word e) old new) d (subst (λ w. Adds (SaysFile others more w span) old new) c
    (subst (λ o. Adds (SaysFile others o name span) old new) b (subst (λ l. Adds (SaysFile l overflow name span) old new) a adds)))

-- ---- all of it

module _ (volume : VolumeState) (pairs : List Pair) (rows : List Row) (ready : HasRows volume pairs rows) (head : VolumeHeader) (info : Info) (overflow : List Overflow) (attributes : List Pair) (has : HasAttributes volume head info overflow attributes) where
  abbrev records : List Placed
  records = records_of volume

  abbrev Each : Type 0
  Each = AreGood volume (length volume.attribute_pairs)

  abbrev Journal : Type 0
  Journal = IsOneExtent records (overflow_in_volume volume) journal_name (journal_extent volume.head volume.journal)

  abbrev Block : Type 0
  Block = IsOneExtent records (overflow_in_volume volume) journal_info_name (info_extent volume.head)

  records_are : placed_in pairs ≡ records
  records_are = ap placed_in ready.pairs_are

  journal_is : journal_extent head (record { offset = info.offset; size = info.size }) ≡ journal_extent volume.head volume.journal
  journal_is = λ i. journal_extent (has.head_is i) (sym has.journal_is i)

  block_is : info_extent head ≡ info_extent volume.head
  block_is = ap info_extent has.head_is

  value_says : (f : broken.Finding) → IsBrokenValue volume f → IsBrokenOfNames volume f
  value_says f (inl fails) = inl (fails.0, fails.1, fails.2, inl fails.3)
  value_says f (inr unmet) = inr unmet

  journal_says : (f : broken.Finding) → SaysFile records (overflow_in_volume volume) journal_name (journal_extent volume.head volume.journal) f → IsBrokenOfNames volume f
  journal_says f fails = inl (fails.0, fails.1, fails.2, inr (inl fails.3))

  block_says : (f : broken.Finding) → SaysFile records (overflow_in_volume volume) journal_info_name (info_extent volume.head) f → IsBrokenOfNames volume f
  block_says f fails = inl (fails.0, fails.1, fails.2, inr (inr fails.3))

  pub attributes_are_of : AreAttributesOf volume head attributes
  attributes_are_of = record { head_is = has.head_is; pairs_are = has.attributes_are; keyed = has.keyed }

  pub each_adds : (first one : List Finding) → Adds (IsBrokenValue volume) first one → Adds (IsBrokenOfNames volume) first one
  each_adds first one each = adds_so (IsBrokenValue volume) (IsBrokenOfNames volume) first one value_says each

  pub journal_adds : (name : List ℕ) (first one two : List Finding) → name ≡ journal_name → Adds (IsBrokenOfNames volume) first one
      → Adds (SaysFile (placed_in pairs) overflow name (journal_extent head (record { offset = info.offset; size = info.size }))) one two → Adds (IsBrokenOfNames volume) first two
  journal_adds name first one two name_is before each =
      adds_two (IsBrokenOfNames volume) first one two before (adds_so (SaysFile records (overflow_in_volume volume) journal_name (journal_extent volume.head volume.journal)) (IsBrokenOfNames volume) one two journal_says
      (file_adds_as (placed_in pairs) records overflow (overflow_in_volume volume) name journal_name (journal_extent head (record { offset = info.offset; size = info.size })) (journal_extent volume.head volume.journal) one two records_are has.overflow_is name_is journal_is each))

  pub block_adds : (name : List ℕ) (first two last : List Finding) → name ≡ journal_info_name → Adds (IsBrokenOfNames volume) first two → Adds (SaysFile (placed_in pairs) overflow name (info_extent head)) two last → Adds (IsBrokenOfNames volume) first last
  block_adds name first two last name_is before each =
      adds_two (IsBrokenOfNames volume) first two last before (adds_so (SaysFile records (overflow_in_volume volume) journal_info_name (info_extent volume.head)) (IsBrokenOfNames volume) two last block_says
      (file_adds_as (placed_in pairs) records overflow (overflow_in_volume volume) name journal_info_name (info_extent head) (info_extent volume.head) two last records_are has.overflow_is name_is block_is each))

  each_decided : (first one : List Finding) (met : Bool) → Judges volume (AreGood volume (length volume.attribute_pairs)) first one met → Decided (IsBrokenOfNames volume) Each first one met
  each_decided first one met judged = record { tells = (judged.holds, judged.told); found = λ no. told_so (IsBrokenValue volume) (IsBrokenOfNames volume) one value_says (judged.found no); still = judged.still; each = each_adds first one judged.each }

  journal_fails : (f : broken.Finding) → SaysFile records (overflow_in_volume volume) journal_name (journal_extent volume.head volume.journal) f → IsFailed 20 f (FailsAttribute volume)
  journal_fails f fails = (fails.0, fails.1, fails.2, inr (inl fails.3))

  block_fails : (f : broken.Finding) → SaysFile records (overflow_in_volume volume) journal_info_name (info_extent volume.head) f → IsFailed 20 f (FailsAttribute volume)
  block_fails f fails = (fails.0, fails.1, fails.2, inr (inr fails.3))

  record_fails : (f : broken.Finding) → IsBrokenRecord volume f → IsFailed 20 f (FailsAttribute volume)
  record_fails f fails = (fails.0, fails.1, fails.2, inl fails.3)

  -- where each record keeps rule 20, none fails
  none_fails : AreNamed volume (length volume.attribute_pairs) → (place : ℕ) → FailsRecord volume place → ⊥
  none_fails all place (pair, stands, is, why) =
      let at : pair_at volume.attribute_pairs stands.0 ≡ pair = get_or_default volume.attribute_pairs stands.0 ([], []) pair stands.1 ∙ stands.2 in
      let it = all stands.0 stands.1 in
      let own = subst (λ (p : Pair). IsAttribute records p × IsValue (attributes_of volume) (attribute_of p)) at it in elim why [
        | inl bad ↦ bad own.0
        | inr bad ↦ bad own.1
      ]

  -- rule 20, wherever it is broken
  pub attributes_tell : (word name : List ℕ) (one two last : List Finding) (journal block : Bool) → word ≡ journal_name → name ≡ journal_info_name → IsToldOr volume (AreNamed volume (length volume.attribute_pairs)) one
      → Decided (SaysFile (placed_in pairs) overflow word (journal_extent head (record { offset = info.offset; size = info.size }))) (IsOneExtent (placed_in pairs) overflow word (journal_extent head (record { offset = info.offset; size = info.size }))) one two journal
      → Decided (SaysFile (placed_in pairs) overflow name (info_extent head)) (IsOneExtent (placed_in pairs) overflow name (info_extent head)) two last block
      → TellsOf (λ f. IsFailed 20 f (FailsAttribute volume)) last
  attributes_tell word name one two last journal block word_is name_is named of_journal of_block f fails = by fails.3
    where
      first : Decided (SaysFile records (overflow_in_volume volume) journal_name (journal_extent volume.head volume.journal)) Journal one two journal
      first = file_as (placed_in pairs) records overflow (overflow_in_volume volume) word journal_name (journal_extent head (record { offset = info.offset; size = info.size })) (journal_extent volume.head volume.journal) one two journal records_are has.overflow_is word_is journal_is of_journal

      second : Decided (SaysFile records (overflow_in_volume volume) journal_info_name (info_extent volume.head)) Block two last block
      second = file_as (placed_in pairs) records overflow (overflow_in_volume volume) name journal_info_name (info_extent head) (info_extent volume.head) two last block records_are has.overflow_is name_is block_is of_block

      of_records : IsToldOr volume (AreNamed volume (length volume.attribute_pairs)) one → (place : ℕ) → FailsRecord volume place → IsTold (λ g. IsFailed 20 g (FailsAttribute volume)) last
      of_records (inl told) place wrong = told_so (IsBrokenRecord volume) (λ g. IsFailed 20 g (FailsAttribute volume)) last record_fails (told_still (IsBrokenRecord volume) one last (stays_both one two last first.still second.still) told)
      of_records (inr all) place wrong = absurd (none_fails all place wrong)

      of_file : (met : Bool) → (met ≡ true → Journal) → (met ≡ false → IsTold (SaysFile records (overflow_in_volume volume) journal_name (journal_extent volume.head volume.journal)) two) → (¬ Journal) → IsTold (λ g. IsFailed 20 g (FailsAttribute volume)) last
      of_file true holds found wrong = absurd (wrong (holds refl))
      of_file false holds found wrong =
          told_so (SaysFile records (overflow_in_volume volume) journal_name (journal_extent volume.head volume.journal)) (λ g. IsFailed 20 g (FailsAttribute volume)) last journal_fails
          (told_still (SaysFile records (overflow_in_volume volume) journal_name (journal_extent volume.head volume.journal)) two last second.still (found refl))

      of_info : (met : Bool) → (met ≡ true → Block) → (met ≡ false → IsTold (SaysFile records (overflow_in_volume volume) journal_info_name (info_extent volume.head)) last) → (¬ Block) → IsTold (λ g. IsFailed 20 g (FailsAttribute volume)) last
      of_info true holds found wrong = absurd (wrong (holds refl))
      of_info false holds found wrong = told_so (SaysFile records (overflow_in_volume volume) journal_info_name (info_extent volume.head)) (λ g. IsFailed 20 g (FailsAttribute volume)) last block_fails (found refl)

      by : FailsAttribute volume f.place → IsTold (λ g. IsFailed 20 g (FailsAttribute volume)) last
      by (inl wrong) = of_records named f.place wrong
      by (inr (inl wrong)) = of_file journal first.tells.0 first.found wrong.1
      by (inr (inr wrong)) = of_info block second.tells.0 second.found wrong.1

  keeps : Each → Journal → Block → KeepsAttributes volume
  keeps good journal block =
      let all = all_good volume good in
      record { attributes = record { each = all.0.0; values = all.0.1; journal = journal; info_block = block }; sizes = all.1 }

  pub attributes_decided : (word name : List ℕ) (first one two last : List Finding) (each journal block most all : Bool) → word ≡ journal_name → name ≡ journal_info_name → most ≡ (journal && each) → all ≡ (block && most)
      → Judges volume (AreGood volume (length volume.attribute_pairs)) first one each
      → Decided (SaysFile (placed_in pairs) overflow word (journal_extent head (record { offset = info.offset; size = info.size }))) (IsOneExtent (placed_in pairs) overflow word (journal_extent head (record { offset = info.offset; size = info.size }))) one two journal
      → Decided (SaysFile (placed_in pairs) overflow name (info_extent head)) (IsOneExtent (placed_in pairs) overflow name (info_extent head)) two last block
      → Decided (IsBrokenOfNames volume) (KeepsAttributes volume) first last all
  attributes_decided word name first one two last each journal block most all word_is name_is most_is all_is of_each of_journal of_block =
      let b : Decided (IsBrokenOfNames volume) Journal one two journal =
      decided_as (SaysFile records (overflow_in_volume volume) journal_name (journal_extent volume.head volume.journal)) (IsBrokenOfNames volume) Journal Journal one two journal journal_says (λ p. p) (λ p. p)
      (file_as (placed_in pairs) records overflow (overflow_in_volume volume) word journal_name (journal_extent head (record { offset = info.offset; size = info.size })) (journal_extent volume.head volume.journal) one two journal records_are has.overflow_is word_is journal_is of_journal) in
      let c : Decided (IsBrokenOfNames volume) Block two last block =
      decided_as (SaysFile records (overflow_in_volume volume) journal_info_name (info_extent volume.head)) (IsBrokenOfNames volume) Block Block two last block block_says (λ p. p) (λ p. p)
      (file_as (placed_in pairs) records overflow (overflow_in_volume volume) name journal_info_name (info_extent head) (info_extent volume.head) two last block records_are has.overflow_is name_is block_is of_block) in
      decided_as (IsBrokenOfNames volume) (IsBrokenOfNames volume) ((Each × Journal) × Block) (KeepsAttributes volume) first last all (λ f says. says) (λ p. keeps p.0.0 p.0.1 p.1)
      (λ keep. ((good_again volume keep.attributes.each keep.attributes.values keep.sizes, keep.attributes.journal), keep.attributes.info_block))
      (decided_both (IsBrokenOfNames volume) (Each × Journal) Block first two last most block all all_is (decided_both (IsBrokenOfNames volume) Each Journal first one two each journal most most_is (each_decided first one each of_each) b) c)

-- one file of the journal, where a result is Ok
pub file_ok : {E : Type 0} (result : Result Bool E) (records : List Placed) (overflow : List Overflow) (name : List ℕ) (span : Extent) (found : Option CatRecord) (holds : Bool) (place : ℕ) (old new : List Finding) → found ≡ value_found (record_at records 2 name)
    → IsTrue holds ↔ HasOneFile overflow found span → place ≡ id_found found → IfOk result (λ met. met ≡ holds) → IfOk result (λ met. met ≡ false → IsListed new (record { rule = 20; place = place; found = 0; wanted = 1 })) → StaysListed old new → Unless 20 holds place old new
    → IfOk result (λ met. Decided (λ f. IsFailed 20 f (FailsFile records overflow name span)) (IsOneExtent records overflow name span) old new met)
file_ok (Ok met) listed overflow name span found holds place old new found_is tells place_is met_is some still each = file_decided listed overflow name span found holds met place old new found_is tells place_is met_is some still each
file_ok (Err e) listed overflow name span found holds place old new found_is tells place_is met_is some still each = met_is
