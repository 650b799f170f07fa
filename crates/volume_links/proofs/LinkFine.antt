-- A new link against which nothing stands, and what it comes to where it was made.
use Rattle.std.proofs.Common.{◌≡◌, ℕ, Bool, true, false, List, [], ◌∷◌, length, inl, refl, sym, ◌∙◌, ap, subst}
use Rattle.std.proofs.lemmas.Bool.{true≢false}
use Rattle.std.specs.Prelude.{Option, Result, Ok, Err, Some}
use Rattle.sector_disk.specs.Lists.{Content}
use Rattle.sector_disk.specs.Space.{Space}
use Rattle.catalog.specs.Pairs.{value_at}
use Rattle.hfs_language.specs.Written.{FitsPath}
use Rattle.hfs_language.specs.declared.refusal.Refusal.{Refusal}
use Rattle.hfs_language.specs.declared.reply.Change.{Change}
use Rattle.hfs_language.specs.declared.reply.ChangeKind.TheVariants as change
use Rattle.hfs_language.specs.declared.reply.Reply.TheVariants as reply
use Rattle.hfs_model.specs.Kinds.{kind_refuses, made_link, to_symlink}
use Rattle.hfs_model.specs.Step.{Place, Step, is_private_path, is_refusal, then_, to_make}
use Rattle.hfs_model.specs.Targets.{is_target}
use Rattle.hfs_model.specs.declared.kinds.KindEdit.TheVariants as edit
use Rattle.hfs_model.specs.declared.plain.PlainTree.{PlainTree}
use Rattle.hfs_volume.specs.declared.asked.Asked.TheVariants.{Kind}
use Rattle.hfs_volume.specs.Books.{SoundHasPlainTree}
use Rattle.hfs_volume.specs.Content.{volume_of}
use Rattle.hfs_volume.specs.Data.{PutsInForkOf}
use Rattle.hfs_volume.specs.Forks.{data_kind}
use Rattle.hfs_volume.specs.Sound.{IsSound}
use Rattle.hfs_volume.specs.TreeOf.{tree_of}
use Rattle.hfs_volume.specs.Weight.{Data, free_blocks, needs_cut_in}
use Rattle.volume_base.specs.Lists.{lists_of}
use Rattle.volume_base.specs.Fitting.{takable_of}
use Rattle.volume_base.specs.Making.{IsSite, free_place, path_to, site_under, untaken}
use Rattle.volume_base.specs.Reaching.{folder_in, named}
use Rattle.volume_base.specs.Room.{capacity_of}
use Rattle.volume_base.specs.Standing.{HoldsTrees, IsSettled}
use Rattle.volume_base.specs.Watching.{change_of}
use Rattle.volume_base.specs.declared.volume.Volume.{Volume}
use Rattle.volume_base.proofs.Sited.{is_site, site_reached, site_refused, site_told}
use Rattle.volume_header.specs.Refusal.{is_locked}
use Rattle.volume_runs.specs.Run.{IsKindAnswered, IsKindDone}
use Rattle.volume_runs.specs.Told.{kind_changes_of, of_made}
use Rattle.volume_step.specs.Steps.{KeepsJournal}
use Rattle.volume_step.specs.declared.outcome.Outcome.TheVariants as outcome
use Rattle.volume_links.specs.Links.{FitsTarget, LeavesLink}
use Rattle.volume_links.specs.Steps.{KindAffords, KindStepsNow}
use Rattle.volume_links.specs.Wanting.{KindFitsNow}
use Rattle.volume_links.proofs.Symlinked.{by_place, data_is, link_bad, link_cost, link_private, link_refused, link_root, no_cut, place_is, target_bytes}

module _ (tree : PlainTree) (path : List (List ℕ)) (value : List ℕ) (fine : kind_refuses tree (edit.Symlink path value) ≡ false) where
  pub fine_free : is_private_path path ≡ false
  fine_free = by (is_private_path path) refl
    where
      by : (b : Bool) → is_private_path path ≡ b → b ≡ false
      by true own = absurd (true≢false (sym (ap (λ (s : Step). is_refusal s.0) (link_private tree path value own)) ∙ fine))
      by false free = refl

  pub fine_place : (at : Place) × (to_make tree path ≡ Ok at)
  fine_place = by (to_make tree path) refl
    where
      by : (r : Result Place Refusal) → to_make tree path ≡ r → (at : Place) × (to_make tree path ≡ Ok at)
      by (Ok at) is = (at, is)
      by (Err why) is = absurd (true≢false (sym (ap (λ (s : Step). is_refusal s.0) (link_refused tree path value fine_free why is)) ∙ fine))

  pub fine_target : is_target value ≡ true
  fine_target = by (is_target value) refl
    where
      by : (b : Bool) → is_target value ≡ b → b ≡ true
      by true good = refl
      by false bad = absurd (true≢false (sym (ap (λ (s : Step). is_refusal s.0) (link_bad tree path value fine_free fine_place.0 fine_place.1 bad)) ∙ fine))

-- a link is made in the folder that the path above it reaches
module _ (law : SoundHasPlainTree) (v : Volume) (content : Content) (holds : HoldsTrees v content) (settled : IsSettled v content) (above : List (List ℕ)) (name : List ℕ) (fits : FitsPath (path_to above name)) (value : List ℕ)
    (fine : kind_refuses (tree_of content) (edit.Symlink (path_to above name) value) ≡ false)
  where
    free : is_private_path (path_to above name) ≡ false
    free = fine_free (tree_of content) (path_to above name) value fine

    found : (id : ℕ) → folder_in (lists_of v content).catalog_pairs above ≡ Ok id → site_under (lists_of v content).catalog_pairs above name ≡ Ok id
    found id reached =
        let it = fine_place (tree_of content) (path_to above name) value fine in
        site_reached law v content holds settled (path_to above name) above name refl free fits (site_under (lists_of v content).catalog_pairs above name) refl it.0 it.1 id reached

    pub link_site_is : (id : ℕ) → folder_in (lists_of v content).catalog_pairs above ≡ Ok id → IsSite (tree_of content) id name
    link_site_is id reached = is_site law v content holds settled (path_to above name) above name refl free fits (site_under (lists_of v content).catalog_pairs above name) refl id (found id reached)

    pub link_place_is : (id : ℕ) → folder_in (lists_of v content).catalog_pairs above ≡ Ok id → to_make (tree_of content) (path_to above name) ≡ Ok (free_place id name)
    link_place_is id reached = site_told law v content holds settled (path_to above name) above name refl free fits (site_under (lists_of v content).catalog_pairs above name) refl id (found id reached)

    -- the path above it reaches one
    pub folder_there : (why : Refusal) → folder_in (lists_of v content).catalog_pairs above ≡ Err why → ⊥
    folder_there why none =
        let it = fine_place (tree_of content) (path_to above name) value fine in
        let refused = site_refused law v content holds settled (path_to above name) above name refl free fits (site_under (lists_of v content).catalog_pairs above name) refl why
        (ap (λ r. then_ r (λ n. untaken n (named (value_at (lists_of v content).catalog_pairs n name)))) none) in
        let never : Ok it.0 ≡ Err why = sym it.1 ∙ refused in
        cc never

-- what it costs, where nothing is missing and there is room
pub target_fits : (v : Volume) (a : Space) → IsSound a.content → (path : List (List ℕ)) (value : List ℕ) → KindAffords (capacity_of v) (edit.Symlink path value) a.content → KindFitsNow (0 ∷ 0 ∷ 0 ∷ []) v a (edit.Symlink path value) → FitsTarget (length value) v a
target_fits v a sound path value affords now =
    let at = fine_place (tree_of a.content) path value affords.no_refusal in
    let good = fine_target (tree_of a.content) path value affords.no_refusal in
    let there = place_is (tree_of a.content) path value at.0 at.1 good in
    record {
      some = (target_bytes value good).0;
      short = (target_bytes value good).1;
      whole = affords.load;
      all = sym (link_cost a.content sound.volume path value at.0 there (capacity_of v) (free_blocks (volume_of a.content))) ∙ affords.affords;
      load = now.load;
      now = sym (link_cost a.content sound.volume path value at.0 there (capacity_of v) (takable_of v)) ∙ now.costs;
      within = now.within;
    }

-- a link that may be made has a name
pub some_path : (tree : PlainTree) (path : List (List ℕ)) (value : List ℕ) → kind_refuses tree (edit.Symlink path value) ≡ false → length path ≡ 0 → ⊥
some_path tree path value fine none = true≢false (sym (ap (λ (s : Step). is_refusal s.0) (link_root tree path value none)) ∙ fine)

-- ---- the entry of a run

module _ (capacity number : ℕ) (path : List (List ℕ)) (value : List ℕ) (before after : Content) (sound_before : IsSound before) (sound_after : IsSound after) (id : ℕ) (name : List ℕ) (told : to_make (tree_of before) path ≡ Ok (free_place id name))
    (affords : KindAffords capacity (edit.Symlink path value) before) (tree : tree_of after ≡ made_link (free_place id name) value (tree_of before)) (lists : LeavesLink (length value) (volume_of before) (volume_of after))
  where
    free_path : is_private_path path ≡ false
    free_path = fine_free (tree_of before) path value affords.no_refusal

    place : to_symlink (tree_of before) path value ≡ Ok (free_place id name)
    place = place_is (tree_of before) path value (free_place id name) told (fine_target (tree_of before) path value affords.no_refusal)

    done : IsKindDone capacity (edit.Symlink path value) before after
    done = record {
      load = affords.load;
      affords = affords.affords;
      no_surplus = ap (needs_cut_in data_kind (volume_of before)) (data_is before sound_before.volume path value (free_place id name) place) ∙ no_cut before sound_before.volume path value;
      grows = lists.grows;
      forks = subst (λ (o : Option Data). PutsInForkOf data_kind o (volume_of before) (volume_of after)) (sym (data_is before sound_before.volume path value (free_place id name) place)) lists.forks;
      values = lists.values;
      reads = λ reads. absurd (true≢false (sym reads));
    }

    answered : (line : List ℕ) → IsKindAnswered capacity (edit.Symlink path value) (record { line = line; own = Some (Kind (edit.Symlink path value)); reply = reply.Ok; before = before; after = after })
    answered line = record {
      reply_is = sym (ap (λ (s : Step). s.0) (by_place (tree_of before) path value free_path (Ok (free_place id name)) place));
      tree = tree ∙ sym (ap (λ (s : Step). s.1) (by_place (tree_of before) path value free_path (Ok (free_place id name)) place));
      refused = λ yes. absurd (true≢false (sym yes ∙ affords.no_refusal));
      does = λ no. done;
    }

    told_is : kind_changes_of number (tree_of before) (edit.Symlink path value) ≡ change_of number change.Made (tree_of before).next_id id name ∷ []
    told_is = ap (of_made number (tree_of before)) place

    -- what it changed is what watchers are told
    pub link_steps : (changes : List Change) → changes ≡ change_of number change.Made (tree_of before).next_id id name ∷ [] → KindStepsNow (outcome.Answered reply.Ok changes) capacity number (edit.Symlink path value) before after
    link_steps changes is line = record {
      served = record { served = record { sound_before = sound_before; sound_after = sound_after; is = inl (answered line) }; told = is ∙ sym told_is };
      decided = inl (answered line);
    }

    -- the journal lies where it lay
    pub link_journal : KeepsJournal before after
    unfolding volume_of
    link_journal = record { journal = lists.journal; locked = ap is_locked lists.flags; heading = lists.numbers }
