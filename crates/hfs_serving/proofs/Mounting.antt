-- From the contents that a crash leaves to the trees that users find.
use Rattle.std.proofs.Common.{◌≡◌, ◌<◌, ◌≤◌, ℕ, suc, zero, false, List, [], ◌∷◌, inl, inr, length, take, refl, sym, ◌∙◌, ap, subst, arith}
use Rattle.std.specs.Prelude.{IsTrue, Option, None}
use Rattle.volume_header.specs.Refusal.{header_refusal, is_locked}
use Rattle.volume_header.specs.declared.header.VolumeHeader.{VolumeHeader}
use Rattle.sector_disk.specs.Disk.{State, IsImage, LeftNow}
use Rattle.sector_disk.specs.Source.{Stream}
use Rattle.jnl_format.specs.Recovery.{Content, header_of_volume}
use Rattle.jnl_replay.specs.declared.plan.Plan.{Plan}
use Rattle.jnl_store.specs.Spaces.{found}
use Rattle.hfs_volume.specs.Aside.{AsideIsFree, NamesJournal}
use Rattle.hfs_volume.specs.Content.{VolumeState, volume_of}
use Rattle.hfs_volume.specs.Sound.{IsSound}
use Rattle.hfs_volume.specs.TreeOf.{tree_of}
use Rattle.hfs_volume.specs.Mount.{FoldsCase, MountsTo}
use Rattle.hfs_volume.specs.Reclaim.{Tidies, none, one_more, IsTidied, KeepsTree}
use Rattle.volume_runs.specs.Run.{Entry, IsServed, IsRunFrom, content_after, shrunk_in, shrunk_after, tree_after, ArePlain, wanted_by}
use Rattle.hfs_serving.specs.Outside.{outside_of}
use Rattle.hfs_serving.specs.Opening.{MayServe, Opens}
use Rattle.hfs_serving.specs.Runs.{Answer, Crashes, IsMarked, StandsAs, StandsIn, plain_answers}
use Rattle.hfs_serving.specs.Top.{AreTaken, HoldsAnswered, KeepsAnswers, KeepsPromises, KnowsAs, KnowsTo, Promises, SurvivesAs, SurvivesTo}
use Rattle.hfs_serving.proofs.Bridging.{found_names, found_opens}
use Rattle.hfs_serving.proofs.Capacities.{holds_at_most}
use Rattle.hfs_serving.proofs.Heading.{promises_of}
use Rattle.hfs_serving.proofs.Leading.{tidies_of}
use Rattle.hfs_serving.proofs.Plain.{answered_by_number, texts_of_plain}

-- each step of housekeeping keeps the tree, and leaves a sound volume
pub step_keeps : (capacity : ℕ) (shrunk : Option ℕ) (a b : Content) → IsTidied capacity shrunk a b → KeepsTree a b
step_keeps capacity shrunk a b (inl reclaims) = reclaims.keeps
step_keeps capacity shrunk a b (inr (inl cuts)) = cuts.keeps
step_keeps capacity shrunk a b (inr (inr (inl grows))) = grows.keeps
step_keeps capacity shrunk a b (inr (inr (inr (inl fills)))) = fills.keeps
step_keeps capacity shrunk a b (inr (inr (inr (inr marks)))) = marks.keeps

pub tidied_tree : (capacity : ℕ) (shrunk : Option ℕ) (a b : Content) → Tidies capacity shrunk a b → tree_of b ≡ tree_of a
tidied_tree capacity shrunk a _ (none _) = refl
tidied_tree capacity shrunk _ b (one_more old between _ step rest) = tidied_tree capacity shrunk between b rest ∙ (step_keeps capacity shrunk old between step).tree

marked_tree : (a b : Content) → IsMarked a b → tree_of b ≡ tree_of a
marked_tree a b (inl same) = ap tree_of same
marked_tree a b (inr (inl begins)) = begins.keeps.tree
marked_tree a b (inr (inr ends)) = ends.keeps.tree

-- ---- what all contents of a run have

-- A property that steps of housekeeping keep, and that lines keep.
module _ (capacity : ℕ) (P : Content → Type 0) (mark : (a b : Content) → IsMarked a b → P a → P b) (step : (shrunk : Option ℕ) (a b : Content) → IsTidied capacity shrunk a b → P a → P b) (line : (entry : Entry) → IsServed capacity entry → P entry.before → P entry.after) where
  pub tidied_has : (shrunk : Option ℕ) (a b : Content) → Tidies capacity shrunk a b → P a → P b
  tidied_has shrunk a _ (none _) has = has
  tidied_has shrunk _ b (one_more old between _ first rest) has = tidied_has shrunk between b rest (step shrunk old between first has)

  pub run_has : (shrunk : Option ℕ) (start : Content) (run : List Entry) (count : ℕ) → IsRunFrom capacity shrunk start run → P start → P (content_after start (take count run))
  unfolding content_after
  run_has shrunk start [] zero is has = has
  run_has shrunk start [] (suc count) is has = has
  run_has shrunk start (entry ∷ run) zero is has = has
  run_has shrunk start (entry ∷ run) (suc count) is has =
      run_has (shrunk_after shrunk entry) entry.after run count is.2 (line entry is.1 (tidied_has shrunk start entry.before (tidies_of capacity shrunk (wanted_by entry) start entry.before is.0) has))

  -- so what a crash leaves stands for a content that has it
  pub stood_has : (shrunk : Option ℕ) (start : Content) (run : List Entry) (least : ℕ) (recovered : Content) → IsRunFrom capacity shrunk start run → P start → (within : StandsIn capacity shrunk start run least recovered) → P within.stood
  stood_has shrunk start run least recovered is has within =
      let tidy : P within.tidy = tidied_has (shrunk_in shrunk (take within.count run)) (content_after start (take within.count run)) within.tidy within.tidied (run_has shrunk start run within.count is has) in
      mark within.tidy within.stood within.marked tidy

marked_sound : (a b : Content) → IsMarked a b → IsSound a → IsSound b
marked_sound a b (inl same) sound = subst IsSound (sym same) sound
marked_sound a b (inr (inl begins)) sound = begins.keeps.sound
marked_sound a b (inr (inr ends)) sound = ends.keeps.sound

-- all are sound
pub stood_sound : (capacity : ℕ) (shrunk : Option ℕ) (start : Content) (run : List Entry) (least : ℕ) (recovered : Content) → IsRunFrom capacity shrunk start run → IsSound start → (within : StandsIn capacity shrunk start run least recovered) → IsSound within.stood
stood_sound capacity = stood_has capacity IsSound marked_sound (λ shrunk a b step was. (step_keeps capacity shrunk a b step).sound) (λ entry served was. served.sound_after)

-- ---- the tree that a mount finds

-- a sound volume doesn't fold case
pub keeps_case : (content : Content) → IsSound content → ¬ FoldsCase content
keeps_case content sound folds = absurd (omega (arith, folds, sound.trees.compare))

-- ---- what is found stands for a content of the run

sectors_are : (content : Content) → (volume_of content).sectors ≡ length content
unfolding volume_of
sectors_are content = refl

head_is : (content : Content) → (volume_of content).head ≡ header_of_volume content
unfolding volume_of
head_is content = refl

some_sectors : (head : VolumeHeader) (sectors : ℕ) → header_refusal head sectors ≡ None → 0 < sectors
some_sectors head zero is = absurd (cc is)
some_sectors head (suc more) is = omega arith

place_is : (content : Content) (offset size : ℕ) → (volume_of content).journal.offset ≡ offset → (volume_of content).journal.size ≡ size → (volume_of content).journal ≡ record { offset = offset; size = size }
place_is content offset size at long = λ i. record { offset = at i; size = long i }

module _ (law : AsideIsFree) (capacity : ℕ) (start : Content) (run : List Entry) (is : IsRunFrom capacity None start run) (sound : IsSound start) where
  -- it has the same lists and the same tree
  pub found_is : (recovered : Content) (least : ℕ) (within : StandsIn capacity None start run least recovered) → NamesJournal within.stood recovered
      → IsSound recovered × (volume_of recovered ≡ volume_of within.stood) × (tree_of recovered ≡ tree_after start (take within.count run))
  found_is recovered least within names =
      let same = law within.stood recovered (stood_sound capacity None start run least recovered is sound within) within.stands names in (
        same.0,
        same.1,
        same.2 ∙ marked_tree within.tidy within.stood within.marked ∙ tidied_tree capacity (shrunk_in None (take within.count run)) (content_after start (take within.count run)) within.tidy within.tidied,
      )

  pub mounts_to : (image recovered : Content) (least : ℕ) → Opens image capacity recovered → (within : StandsIn capacity None start run least recovered) → NamesJournal within.stood recovered → MountsTo image (tree_after start (take within.count run))
  mounts_to image recovered least opens within names =
      let same = found_is recovered least within names in (
        capacity,
        recovered,
        record {
          is_open = opens.0.is_open;
          journal = opens.0.journal;
          found = opens.0.found;
          recovers = opens.0.recovers;
          holds = opens.0.holds;
          large = opens.1;
          keeps_case = keeps_case recovered same.0;
          sound = same.0;
        },
        same.2,
      )

  -- what the server proves of a crash is what users read of it
  pub survives_tree : (answers : List Answer) (image : Content) (told : List ℕ) → SurvivesAs capacity start run answers image told → HoldsAnswered start run answers image told
  survives_tree answers image told holds = record {
    count = holds.survives.within.count;
    some = holds.survives.within.some;
    mounts = mounts_to image holds.recovered 0 holds.opens holds.survives.within holds.names;
    front = holds.survives.front;
    answered = holds.survives.answered;
  }

  pub knows_tree : (known : ℕ) (image : Content) → KnowsAs capacity start run known image → KnowsTo start run known image
  knows_tree known image holds = record {
    count = holds.stands.count;
    many = holds.stands.many;
    some = holds.stands.some;
    mounts = mounts_to image holds.recovered known holds.opens holds.stands holds.names;
  }

  -- a mount opens what is found, and its info block names the content's journal
  module _ (plan : Plan) (may : MayServe plan capacity start) where
    pub found_in_run : (image : Content) (least : ℕ) (within : StandsIn capacity None start run least (found plan image)) → Opens image capacity (found plan image) × NamesJournal within.stood (found plan image)
    found_in_run image least within =
        let recovered = found plan image in
        let stood = within.stood in
        let sound_stood = stood_sound capacity None start run least recovered is sound within in
        let some_stood : 0 < length stood = subst (λ (n : ℕ). 0 < n) (sectors_are stood) (some_sectors (volume_of stood).head (volume_of stood).sectors sound_stood.volume.blocks.header.accepted) in
        let some : 0 < length recovered = omega (arith, some_stood, within.stands.size) in
        let journal : (volume_of stood).journal ≡ record { offset = plan.info.offset; size = plan.info.size } = within.place.journal ∙ place_is start plan.info.offset plan.info.size may.offset may.size in
        let names = found_names plan image recovered refl some stood journal in
        let same = found_is recovered least within names in
        let head : header_of_volume recovered ≡ (volume_of stood).head = sym (head_is recovered) ∙ ap (λ (v : VolumeState). v.head) same.1 in
        let unlocked : is_locked (header_of_volume recovered).attributes ≡ false = ap (λ (h : VolumeHeader). is_locked h.attributes) head ∙ within.place.locked ∙ may.unlocked in (
          found_opens plan image recovered refl some capacity unlocked (λ journal sizes. holds_at_most plan journal capacity sizes (subst (λ (n : ℕ). 512 ≤ n) (sym sizes.blhdr) may.blhdr) may.holds) may.large,
          names,
        )

-- what a run promises over contents, it keeps over trees
pub keeps_answers : (law : AsideIsFree) (capacity : ℕ) (start : Content) (old : State) (run : List Entry) (answers : List Answer) (known : ℕ) (new : State) → IsSound start → Promises capacity start old run answers known new → KeepsAnswers capacity start old run answers known new
keeps_answers law capacity start old run answers known new sound promises = record {
  run_is = promises.run_is;
  crash = λ image told left. survives_tree law capacity start run promises.run_is sound answers image told (promises.crash image told left);
  told = promises.told;
  knows = λ image is. knows_tree law capacity start run promises.run_is sound known image (promises.knows image is);
}

-- From what is proved of a stretch: at its start a crash leaves what the image stands for, and since this moment there is no other.
pub promises_all : (law : AsideIsFree) (plan : Plan) (capacity : ℕ) (start : Content) (old new : State) (run : List Entry) (answers : List Answer) (known : ℕ) → Crashes capacity None start (outside_of plan old) run answers known (outside_of plan new)
    → ((image : Content) → IsImage old.candidates image → StandsAs start (found plan image)) → ((image : Content) (told : List ℕ) → old.clock.left old.clock.moment image told → LeftNow old image told)
    → IsSound start → MayServe plan capacity start → KeepsAnswers capacity start old run answers known new
promises_all law plan capacity start old new run answers known crashes starts only_now sound may =
    keeps_answers law capacity start old run answers known new sound (promises_of capacity start plan old new run answers known crashes starts only_now (found_in_run law capacity start run crashes.run_is sound plan may))

-- ---- plain lines

pub plain_survives : (start : Content) (run : List Entry) (image : Content) (told : List ℕ) → HoldsAnswered start run (plain_answers run) image told → SurvivesTo start run image told
plain_survives start run image told holds = record {
  count = holds.count;
  some = holds.some;
  mounts = holds.mounts;
  front = (holds.front.0, sym (texts_of_plain 0 run) ∙ holds.front.1);
  answered = λ k some front. let there = answered_by_number told holds.count run [] 0 (λ _. omega arith) holds.answered k some front in omega (arith, there);
}

-- what users read of a run of them is what it keeps by its answers
pub plain_keeps : (capacity : ℕ) (start : Content) (old : State) (source : Stream) (run : List Entry) (known : ℕ) (new : State) (source_new : Stream) → KeepsAnswers capacity start old run (plain_answers run) known new → ArePlain run → (IsTrue source.tells → AreTaken source run source_new)
    → KeepsPromises capacity start old source run known new source_new
plain_keeps capacity start old source run known new source_new keeps plain taken = record {
  run_is = keeps.run_is;
  plain = plain;
  lines_are = taken;
  crash = λ image told left. plain_survives start run image told (keeps.crash image told left);
  told = let w = keeps.told in (w.0, (w.1.0, sym (texts_of_plain 0 run) ∙ w.1.1), w.2);
  knows = keeps.knows;
}
