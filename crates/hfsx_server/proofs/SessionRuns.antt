-- Runs of sessions: one that ended before it served, and one that was served.
use Rattle.std.proofs.Common.{◌≡◌, ◌⊎◌, [], ℕ, zero, suc, true, false, List, inl, inr, take, ⊎_elim, refl, sym, ◌∙◌, ap, subst}
use Rattle.std.specs.Prelude.{IsTrue}
use Rattle.std.proofs.lemmas.Bool.{true≢false}
use Rattle.hx_bytes.specs.declared.faults.Trouble.{Trouble}
use Rattle.hx_bytes.specs.declared.faults.Trouble.TheVariants as trouble
use Rattle.sector_disk.specs.Disk.{HasNothingPending, LeftNow, OnlyReads, State, content}
use Rattle.sector_disk.specs.Source.{Stream}
use Rattle.jnl_format.specs.Recovery.{Content}
use Rattle.hfs_volume.specs.Mount.{IsMountable, Mounts}
use Rattle.hfs_volume.specs.TreeOf.{tree_of}
use Rattle.volume_runs.specs.Run.{Entry, tree_after}
use Rattle.hfs_serving.specs.Speaking.{SpeaksFrom, spoken_on, unspoken}
use Rattle.hfs_serving.specs.Spoken.{AnswersRigSpoken, KeepsSpoken}
use Rattle.hfs_serving.proofs.Lists.{content_after-none}
use Rattle.hfs_serving.proofs.Served.{reads_spoken}
use Rattle.hfs_language.specs.declared.reply.Change.{Change}
use Rattle.open_files.specs.Keeping.{is_taken, releases, seen}
use Rattle.open_files.specs.declared.act.OpenFile.{OpenFile}
use Rattle.session_lines.specs.Made.{none_made}
use Rattle.session_lines.specs.Sessions.{KeepsSessions}
use Rattle.session_lines.specs.Turns.{AreTurns, BrokenSessions, SpokeSessions, machine_on, no_turn}
use Rattle.session_lines.proofs.Promises.{survives}
use Rattle.hfsx_server.specs.Faults.{trouble_status}
use Rattle.hfsx_server.specs.Sessions.{ServesSessions}
use Rattle.hfsx_server.specs.Telling.{ToldRefusal, ToldTaken}
use Rattle.hfsx_server.specs.declared.status.Status.{Status}
use Rattle.hfsx_server.specs.declared.status.Status.TheVariants as status

nothing_taken : (count : ℕ) → take {A = Entry} count [] ≡ []
nothing_taken zero = refl
nothing_taken (suc count) = refl

-- nothing was spoken
none_spoken : (start : Content) → BrokenSessions start unspoken
none_spoken start = record {
  released = [];
  left = releases (tree_of start);
  own = [];
  last = machine_on (tree_of start);
  run_is = refl;
  releases_are = record { done = []; replies = []; are = refl; made = none_made; unseen = λ count some. ap (λ (r : List Entry). seen (tree_after start r)) (nothing_taken count) };
  first = inr refl;
  turns = subst (λ (c : Content). AreTurns c (machine_on (tree_of c)) 0 [] [] [] (machine_on (tree_of start))) (sym (content_after-none start)) (no_turn start (machine_on (tree_of start)) 0);
}

-- the image was only read
pub keeps_unserved : (capacity : ℕ) (start : Content) (old new : State) → HasNothingPending old → ((image : Content) (told : List ℕ) → old.clock.left old.clock.moment image told → LeftNow old image told) → OnlyReads old new → Mounts (content old) capacity start → (source : Stream)
    → KeepsSessions start old source new source
keeps_unserved capacity start old new settled only_now reads mounts source =
    let keeps = reads_spoken capacity start old new settled only_now reads mounts (BrokenSessions start) (none_spoken start) source in
    record {
      speech = spoken_on keeps.whole keeps.rest;
      is = keeps.is;
      texts = keeps.texts;
      count = keeps.count;
      taken = keeps.taken;
      asked = keeps.asked;
      crash = λ image told left. survives start (spoken_on keeps.whole keeps.rest) keeps.is image told (keeps.keeps.crash image told left);
      told = keeps.keeps.told;
    }

-- it couldn't be read, or memory was missing
pub sessions_unserved : (old new : State) → ((image : Content) (told : List ℕ) → old.clock.left old.clock.moment image told → LeftNow old image told) → OnlyReads old new → (source : Stream) (ended : Status) → (ended ≡ status.Disk) ⊎ (ended ≡ status.Memory)
    → ServesSessions ended old source new source
sessions_unserved old new only_now reads source ended is = record {
  refused = λ tells other. absurd (⊎_elim (λ (disk : ended ≡ status.Disk). let no : status.Disk ≡ status.Refused = sym disk ∙ other in cc no) (λ memory. let no : status.Memory ≡ status.Refused = sym memory ∙ other in cc no) is);
  refuses = λ tells none. inr is;
  taken = λ tells capacity start mounts it. inr is;
  keeps = λ tells settled capacity start mounts own. keeps_unserved capacity start old new settled only_now reads mounts source;
  finished = λ tells settled capacity start mounts own other. absurd (⊎_elim (λ (disk : ended ≡ status.Disk). let no : status.Disk ≡ status.Done = sym disk ∙ other in cc no) (λ memory. let no : status.Memory ≡ status.Done = sym memory ∙ other in cc no) is);
  stopped = λ tells settled capacity start mounts own other. absurd (⊎_elim (λ (disk : ended ≡ status.Disk). let no : status.Disk ≡ status.Source = sym disk ∙ other in cc no) (λ memory. let no : status.Memory ≡ status.Source = sym memory ∙ other in cc no) is);
  last = λ tells settled capacity start mounts own other. absurd (⊎_elim (λ (disk : ended ≡ status.Disk). let no : status.Disk ≡ status.TooMany = sym disk ∙ other in cc no) (λ memory. let no : status.Memory ≡ status.TooMany = sym memory ∙ other in cc no) is);
  end = λ told other. absurd (⊎_elim (λ (disk : ended ≡ status.Disk). let no : status.Disk ≡ status.Done = sym disk ∙ other in cc no) (λ memory. let no : status.Memory ≡ status.Done = sym memory ∙ other in cc no) is);
  few = λ told other. absurd (⊎_elim (λ (disk : ended ≡ status.Disk). let no : status.Disk ≡ status.Done = sym disk ∙ other in cc no) (λ memory. let no : status.Memory ≡ status.Done = sym memory ∙ other in cc no) is);
}

-- the image can't be mounted
pub sessions_refused : (old new : State) (source : Stream) → (IsTrue old.tells → ToldRefusal old new) → (IsTrue old.tells → ¬ IsMountable (content old)) → ServesSessions status.Refused old source new source
sessions_refused old new source told none = record {
  refused = λ tells is. inl (told tells);
  refuses = λ tells not. inl refl;
  taken = λ tells capacity start mounts it. inl refl;
  keeps = λ tells settled capacity start mounts own. absurd (none tells (capacity, start, mounts));
  finished = λ tells settled capacity start mounts own is. absurd (cc is);
  stopped = λ tells settled capacity start mounts own is. absurd (cc is);
  last = λ tells settled capacity start mounts own is. absurd (cc is);
  end = λ told is. absurd (cc is);
  few = λ told is. absurd (cc is);
}

-- its keeping folder isn't the sessions' own
pub sessions_taken : (old new : State) (source : Stream) → (IsTrue old.tells → ToldTaken old new) → (IsTrue old.tells → (capacity : ℕ) (start : Content) → Mounts (content old) capacity start → is_taken (tree_of start) ≡ true) → ServesSessions status.Refused old source new source
sessions_taken old new source told taken = record {
  refused = λ tells is. inr (told tells);
  refuses = λ tells not. inl refl;
  taken = λ tells capacity start mounts it. inl refl;
  keeps = λ tells settled capacity start mounts own. absurd (true≢false (sym (taken tells capacity start mounts) ∙ own));
  finished = λ tells settled capacity start mounts own is. absurd (cc is);
  stopped = λ tells settled capacity start mounts own is. absurd (cc is);
  last = λ tells settled capacity start mounts own is. absurd (cc is);
  end = λ told is. absurd (cc is);
  few = λ told is. absurd (cc is);
}

-- trouble before it served
pub trouble_ends : (trouble : Trouble) (ended : Status) → ended ≡ trouble_status trouble → (ended ≡ status.Disk) ⊎ (ended ≡ status.Memory)
trouble_ends trouble.Disk ended is = inl is
trouble_ends trouble.Memory ended is = inr is

-- ---- one that was served, of which it is known what its speaker had at the begin

module _ (capacity : ℕ) (from start : Content) (same : from ≡ start) (table : List OpenFile) (none : table ≡ []) (had files : List ℕ) (are : had ≡ files) (heard : List Change) (old new : State) (source source_new : Stream) where
  pub keeps_on : KeepsSpoken (SpeaksFrom from (λ begun speech. SpokeSessions begun speech table had) BrokenSessions) heard capacity from old source new source_new
      → KeepsSpoken (SpeaksFrom start (λ begun speech. SpokeSessions begun speech [] files) BrokenSessions) heard capacity start old source new source_new
  keeps_on keeps =
      subst (λ (k : Content × List OpenFile × List ℕ). KeepsSpoken (SpeaksFrom k.0 (λ begun speech. SpokeSessions begun speech k.1 k.2) BrokenSessions) heard capacity k.0 old source new source_new) {x = (from, table, had)} {y = (start, [], files)}
      (λ i. (same i, none i, are i)) keeps

  pub answers_on : (texts : List (List ℕ)) (handles : List OpenFile) (left : List ℕ)
      → AnswersRigSpoken (SpeaksFrom from (λ begun speech. SpokeSessions begun speech table had) (λ begun speech. SpokeSessions begun speech handles left)) heard capacity from old source texts new source_new
      → AnswersRigSpoken (SpeaksFrom start (λ begun speech. SpokeSessions begun speech [] files) (λ begun speech. SpokeSessions begun speech handles left)) heard capacity start old source texts new source_new
  answers_on texts handles left answers =
      subst (λ (k : Content × List OpenFile × List ℕ). AnswersRigSpoken (SpeaksFrom k.0 (λ begun speech. SpokeSessions begun speech k.1 k.2) (λ begun speech. SpokeSessions begun speech handles left)) heard capacity k.0 old source texts new source_new)
      {x = (from, table, had)} {y = (start, [], files)} (λ i. (same i, none i, are i)) answers
