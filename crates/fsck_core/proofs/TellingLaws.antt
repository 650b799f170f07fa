-- Findings of each rule that are listed, as the lists of a volume are judged.
use Rattle.std.proofs.Common.{◌≡◌, ◌⊎◌, ◌↔◌, ◌<◌, ℕ, Bool, true, false, List, [], ◌++◌, length, inl, inr, subst, arith}
use Rattle.std.specs.Prelude.{Contains, All, IsTrue}
use Rattle.std.specs.List.{flat_map}
use Rattle.alloc_bitmap.specs.Apart.{AreApart}
use Rattle.btree_node.specs.Levels.{Pair}
use Rattle.volume_header.specs.declared.header.VolumeHeader.{VolumeHeader}
use Rattle.fsck_list.specs.declared.finding.Finding.{Finding as Listed}
use Rattle.fsck_list.specs.Kept.{IsListed}
use Rattle.hfs_volume.specs.Records.{placed_in, entries_of}
use Rattle.hfs_volume.specs.Entries.{AreSpelled, AreThreaded, AreRooted}
use Rattle.hfs_volume.specs.Links.{AreLinks}
use Rattle.hfs_volume.specs.Forks.{Owned}
use Rattle.hfs_volume.specs.Blocks.{forks_of, used_in}
use Rattle.hfs_volume.specs.Records.{Overflow}
use Rattle.hfs_volume.specs.Content.{VolumeState, records_of, overflow_in_volume}
use Rattle.hfs_volume.specs.Broken.{Finding, IsFailed, IsUnmet, FailsThread, FailsParent, FailsOverflow, fork_wants, overflow_wants, use_wants, id_wants, header_wants, alternate_wants}
use Rattle.fsck_core.specs.Attributes.{KeepsAttributes, IsBrokenOfNames}
use Rattle.fsck_core.specs.Decided.{Decided, StaysListed, IsTold, TellsOf, TellsAfter}
use Rattle.fsck_core.specs.Judged.{Judged, AddsUnmet}
use Rattle.fsck_core.specs.Links.{IsBrokenName}
use Rattle.fsck_core.specs.Owned.{FailsIn, Tested}
use Rattle.fsck_core.specs.Shown.{TellsHeader}
use Rattle.fsck_core.specs.Telling.{IsBrokenKind, IsBrokenSize, IsBrokenOverflow, IsBrokenOfAttributes, TellsCatalog, TellsSizes, TellsNames, TellsForks}
use Rattle.fsck_core.specs.Wants.{as_found}
use Rattle.fsck_core.proofs.JudgingLaws.{AreKinds, GoOnAll}
use Rattle.fsck_core.proofs.ListJoins.{all_new}
use Rattle.fsck_core.proofs.ToldLaws.{told_still, told_first, told_some, stays_both, tells_still, after_still, tells_met, tells_unmet}
use Rattle.fsck_core.proofs.UnbrokenLaws.{kind_unbroken, thread_unbroken, parent_unbroken, use_unbroken, overflow_unbroken, link_unbroken, attribute_unbroken}

-- ---- rules 1 and 2

pub headers_tell : (sectors : ℕ) (head alternate : VolumeHeader) (mid new : List Listed) → ((f : Listed) → IsUnmet 1 (as_found f) (header_wants sectors head) → IsListed mid f)
    → ((f : Listed) → IsUnmet 2 (as_found f) (alternate_wants head alternate) → IsListed new f) → StaysListed mid new → TellsHeader sectors head alternate new
headers_tell sectors head alternate mid new first second still =
    (tells_still (λ f. IsUnmet 1 f (header_wants sectors head)) mid new still (tells_unmet 1 (header_wants sectors head) mid first), tells_unmet 2 (alternate_wants head alternate) new second)

-- a list that begins with none
pub tells_more : (Says : Finding → Type 0) (old new : List Listed) → old ≡ [] → TellsOf Says old → TellsOf Says new
tells_more Says old new none tells f says = absurd (let some : 0 < length {A = Listed} [] = subst (λ (l : List Listed). 0 < length l) none (told_some Says old (tells f says)) in omega (arith, some))

after_more : (First Says : Finding → Type 0) (old new : List Listed) → old ≡ [] → TellsAfter First Says old → TellsAfter First Says new
after_more First Says old new none (inl told) = absurd (let some : 0 < length {A = Listed} [] = subst (λ (l : List Listed). 0 < length l) none (told_some First old told) in omega (arith, some))
after_more First Says old new none (inr tells) = inr (tells_more Says old new none tells)

-- ---- rules 8 to 10

module _ (pairs : List Pair) where
  kinds_found : (old new : List Listed) → old ≡ [] → 0 < length new → ((f : Listed) → Contains new f → Contains old f ⊎ IsBrokenKind pairs (as_found f)) → IsTold (IsBrokenKind pairs) new
  kinds_found old new none some each = told_first (IsBrokenKind pairs) new some (all_new (λ f. IsBrokenKind pairs (as_found f)) old new none each)

  -- where a record isn't of its kind
  pub kinds_stopped : (old new : List Listed) → old ≡ [] → 0 < length new → ((f : Listed) → Contains new f → Contains old f ⊎ IsBrokenKind pairs (as_found f)) → TellsCatalog pairs new
  kinds_stopped old new none some each =
      let told = kinds_found old new none some each in record { kinds = λ f says. told; threads = inl told; parents = inl told }

  -- where each is
  pub catalog_tells : (first second new : List Listed) (threads parents : Bool) → AreSpelled pairs × AreKinds pairs → Decided (λ f. IsFailed 9 f (FailsThread (placed_in pairs))) (AreThreaded pairs) first second threads
      → IsTrue parents ↔ AreRooted (entries_of (placed_in pairs)) → (parents ≡ false → IsTold (λ f. IsFailed 10 f (FailsParent (entries_of (placed_in pairs)))) new) → StaysListed second new → TellsCatalog pairs new
  catalog_tells first second new threads parents kinds decided rooted found still = record {
    kinds = λ f fails. absurd (kind_unbroken pairs kinds.0 kinds.1 f fails);
    threads = inr (tells_still (λ f. IsFailed 9 f (FailsThread (placed_in pairs))) second new still
        (tells_met (λ f. IsFailed 9 f (FailsThread (placed_in pairs))) (AreThreaded pairs) second threads decided.tells.0 decided.found (thread_unbroken pairs)));
    parents = inr (tells_met (λ f. IsFailed 10 f (FailsParent (entries_of (placed_in pairs)))) (AreRooted (entries_of (placed_in pairs))) new parents rooted.0 found (parent_unbroken pairs));
  }

  pub catalog_more : (old new : List Listed) → old ≡ [] → TellsCatalog pairs old → TellsCatalog pairs new
  catalog_more old new none tells = record {
    kinds = tells_more (IsBrokenKind pairs) old new none tells.kinds;
    threads = after_more (IsBrokenKind pairs) (λ f. IsFailed 9 f (FailsThread (placed_in pairs))) old new none tells.threads;
    parents = after_more (IsBrokenKind pairs) (λ f. IsFailed 10 f (FailsParent (entries_of (placed_in pairs)))) old new none tells.parents;
  }

-- ---- rules 15 to 20

module _ (volume : VolumeState) where
  -- nothing was found yet
  pub uses_tell : (old new : List Listed) (met : Bool) → old ≡ [] → IsTrue met ↔ AreApart (used_in volume) → (met ≡ false → 0 < length new) → AddsUnmet 18 (use_wants volume) old new → TellsOf (λ f. IsUnmet 18 f (use_wants volume)) new
  uses_tell old new met none tells found each =
      tells_met (λ f. IsUnmet 18 f (use_wants volume)) (AreApart (used_in volume)) new met tells.0
      (λ no. told_first (λ f. IsUnmet 18 f (use_wants volume)) new (found no) (all_new (λ f. IsUnmet 18 (as_found f) (use_wants volume)) old new none each)) (use_unbroken volume)

  pub sizes_tell : (old first second new : List Listed) (sizes links attributes : Bool) → Judged 16 (flat_map (fork_wants volume) (forks_of volume) ++ flat_map (overflow_wants volume) (overflow_in_volume volume)) old first sizes
      → Decided (IsBrokenName volume) (AreLinks (records_of volume) (overflow_in_volume volume)) first second links → Decided (IsBrokenOfNames volume) (KeepsAttributes volume) second new attributes → TellsOf (IsBrokenOfAttributes volume) new → TellsSizes volume old new
  sizes_tell old first second new sizes links attributes of_sizes of_links of_attributes names = record {
    still = stays_both old second new (stays_both old first second of_sizes.still of_links.still) of_attributes.still;
    forks = tells_still (IsBrokenSize volume) first new (stays_both first second new of_links.still of_attributes.still)
        (tells_unmet 16 (flat_map (fork_wants volume) (forks_of volume) ++ flat_map (overflow_wants volume) (overflow_in_volume volume)) first of_sizes.listed);
    links = tells_still (IsBrokenName volume) second new of_attributes.still
        (tells_met (IsBrokenName volume) (AreLinks (records_of volume) (overflow_in_volume volume)) second links of_links.tells.0 of_links.found (link_unbroken volume));
    attributes = names;
    values = tells_met (IsBrokenOfNames volume) (KeepsAttributes volume) new attributes of_attributes.tells.0 of_attributes.found (attribute_unbroken volume);
  }

  abbrev Goes : Type 0
  Goes = GoOnAll (forks_of volume) (overflow_in_volume volume)

  overflow_there : (forks : List Owned) (overflow : List Overflow) (old new : List Listed) (met : Bool) → overflow ≡ overflow_in_volume volume → forks ≡ forks_of volume → Tested (FailsIn forks overflow) (GoOnAll forks overflow) old new met
      → Tested (FailsIn (forks_of volume) (overflow_in_volume volume)) Goes old new met
  overflow_there forks overflow old new met overflow_is forks_are tested =
      subst (λ (o : List Overflow). Tested (FailsIn (forks_of volume) o) (GoOnAll (forks_of volume) o) old new met) overflow_is
      (subst (λ (l : List Owned). Tested (FailsIn l overflow) (GoOnAll l overflow) old new met) forks_are tested)

  -- where overflow records don't go on
  pub names_stopped : (forks : List Owned) (overflow : List Overflow) (old new : List Listed) (met : Bool) → overflow ≡ overflow_in_volume volume → forks ≡ forks_of volume → Tested (FailsIn forks overflow) (GoOnAll forks overflow) old new met → met ≡ false
      → TellsNames volume old new
  names_stopped forks overflow old new met overflow_is forks_are tested is =
      let there = overflow_there forks overflow old new met overflow_is forks_are tested in
      let told : IsTold (IsBrokenOverflow volume) new = there.found is in
      record { still = there.still; overflow = λ f says. told; forks = inl told; links = inl told; attributes = inl told; values = inl told }

  -- where they do
  pub names_tell : (forks : List Owned) (overflow : List Overflow) (old mid new : List Listed) (met : Bool) → overflow ≡ overflow_in_volume volume → forks ≡ forks_of volume → Tested (FailsIn forks overflow) (GoOnAll forks overflow) old mid met
      → TellsSizes volume mid new → TellsNames volume old new
  names_tell forks overflow old mid new met overflow_is forks_are tested rest =
      let there = overflow_there forks overflow old mid met overflow_is forks_are tested in record {
        still = stays_both old mid new there.still rest.still;
        overflow = tells_still (IsBrokenOverflow volume) mid new rest.still (tells_met (IsBrokenOverflow volume) Goes mid met there.tells.0 there.found (overflow_unbroken volume));
        forks = inr rest.forks;
        links = inr rest.links;
        attributes = inr rest.attributes;
        values = inr rest.values;
      }

  pub forks_tell : (first second third new : List Listed) (next : ℕ) (met : Bool) → next ≡ volume.head.next_catalog_id → TellsOf (λ f. IsUnmet 18 f (use_wants volume)) first → TellsNames volume first second
      → Judged 15 (flat_map (id_wants next (entries_of (records_of volume))) (entries_of (records_of volume))) second third met → StaysListed third new → TellsForks volume new
  forks_tell first second third new next met next_is uses names ids still =
      let own : Judged 15 (flat_map (id_wants volume.head.next_catalog_id (entries_of (records_of volume))) (entries_of (records_of volume))) second third met =
      subst (λ n. Judged 15 (flat_map (id_wants n (entries_of (records_of volume))) (entries_of (records_of volume))) second third met) next_is ids in
      let later : StaysListed second new = stays_both second third new ids.still still in record {
        uses = tells_still (λ f. IsUnmet 18 f (use_wants volume)) first new (stays_both first second new names.still later) uses;
        names = record {
          still = λ f listed. listed;
          overflow = tells_still (IsBrokenOverflow volume) second new later names.overflow;
          forks = after_still (IsBrokenOverflow volume) (IsBrokenSize volume) second new later names.forks;
          links = after_still (IsBrokenOverflow volume) (IsBrokenName volume) second new later names.links;
          attributes = after_still (IsBrokenOverflow volume) (IsBrokenOfAttributes volume) second new later names.attributes;
          values = after_still (IsBrokenOverflow volume) (IsBrokenOfNames volume) second new later names.values;
        };
        ids = tells_still (λ f. IsUnmet 15 f (flat_map (id_wants volume.head.next_catalog_id (entries_of (records_of volume))) (entries_of (records_of volume)))) third new still
            (tells_unmet 15 (flat_map (id_wants volume.head.next_catalog_id (entries_of (records_of volume))) (entries_of (records_of volume))) third own.listed);
      }
