-- A volume that goes on within a batch.
use Rattle.std.proofs.Common.{◌≡◌, ◌⊎◌, ◌≤◌, ◌+◌, ◌∷◌, [], ◌++◌, ℕ, List, true, false, inl, inr, ⊎_elim, refl, sym, ◌∙◌, ap, subst}
use Rattle.std.specs.Prelude.{◌&&◌, Bool, Option, None, Result, Ok, Err, OnOk, OnErr}
use Rattle.hfs_volume.specs.declared.asked.Asked.{Asked}
use Rattle.sector_disk.specs.Space.{Space}
use Rattle.jnl_format.specs.Recovery.{Content}
use Rattle.hfs_language.specs.Text.{reply_text}
use Rattle.hfs_language.specs.declared.reply.Change.{Change}
use Rattle.hfs_language.specs.declared.reply.Reply.{Reply}
use Rattle.hfs_volume.specs.Content.{volume_of}
use Rattle.volume_runs.specs.Rest.{IsAtRest, IsTidiedFor, TidiesFor, no_step, one_step}
use Rattle.volume_runs.specs.Run.{Entry, IsRunFrom, content_after, shrunk_in, lines_of, replies_of, wanted_by, wanted_in}
use Rattle.volume_runs.specs.Told.{changes_in}
use Rattle.hfs_serving.specs.Going.{Does, DoesOn, Hearing, Knowing, Stands, Stays, Tidied, AnswersTo, ahead_of, is_answered, wants_commit, GoesTidy, GoesRested, GoesOn, StopsOn}
use Rattle.hfs_serving.specs.declared.volume.Step.{Step}
use Rattle.hfs_serving.specs.declared.volume.Step.TheVariants as step
use Rattle.hfs_serving.specs.Outside.{Outside}
use Rattle.hfs_serving.specs.Runs.{Leads, LeadsToRest}
use Rattle.hfs_serving.specs.Serving.{Touches, MayCommit, Commits, Goes, Stops}
use Rattle.hfs_serving.proofs.Lists.{replies_of-one, shrunk_in-none, shrunk_in-one, content_after-none}
use Rattle.hfs_serving.proofs.Saying.{said_none, tells_both}
use Rattle.hfs_serving.specs.Said.{untold}
use Rattle.hfs_serving.proofs.Leading.{for_any, leads_any, leads_on, leads_entry, leads_rest, leads_to_rest, rest_any, rest_on}
use Rattle.hfs_serving.proofs.Batches.{goes_as, goes_none, stops_as, stops_there, touched_on}
use Rattle.hfs_serving.proofs.Joining.{commit_goes_here, commit_stops_here, touch_stops_here}

-- ---- whatever the answer

pub on_err : {T E P : Type 0} (r : Result T E) → P → OnErr r P
on_err (Ok x) p = tt
on_err (Err e) p = p

pub on_ok : {T E P Q : Type 0} (r : Result T E) → (P → Q) → OnOk r P → OnOk r Q
on_ok (Ok x) goes p = goes p
on_ok (Err e) goes p = tt

-- ---- a step of a line

-- a command that wasn't answered had no reply: a step of housekeeping was made for it, or it was only looked at
module _ (capacity : ℕ) (knows : Knowing) (committed now : Content) (shrunk : Option ℕ) (space : Space) (number : ℕ) (own : Option Asked) (line : List ℕ) (hears : Hearing) (same : Type 0) where
  pub left_line : (made : Step) → is_answered made ≡ false → AnswersTo made capacity knows committed now shrunk space number own line hears same → same × (Tidied capacity (wanted_in own line) knows committed now shrunk space ⊎ Stays knows committed now shrunk space)
  left_line step.Answered other answers = absurd (cc other)
  left_line step.Again other answers = (answers.0, inl answers.1)
  left_line step.CommitFirst other answers = (answers.0, inr answers.1)
  left_line step.Forgone other answers = absurd answers

  pub answered_line : (made : Step) → is_answered made ≡ true → AnswersTo made capacity knows committed now shrunk space number own line hears same → (said : Reply) × (changes : List Change) × hears said changes × Does capacity knows committed now shrunk space number own line said changes
  answered_line step.Answered is answers = answers
  answered_line step.Again is answers = absurd (cc is)
  answered_line step.CommitFirst is answers = absurd (cc is)
  answered_line step.Forgone is answers = absurd answers

  -- a line that is left was only looked at
  pub waiting_line : (made : Step) (may_wait : Bool) → (wants_commit made && may_wait) ≡ true → AnswersTo made capacity knows committed now shrunk space number own line hears same → same × Stays knows committed now shrunk space
  waiting_line step.Answered may_wait waits answers = absurd (cc waits)
  waiting_line step.Again may_wait waits answers = absurd (cc waits)
  waiting_line step.CommitFirst may_wait waits answers = answers
  waiting_line step.Forgone may_wait waits answers = absurd answers

-- which is left where it may
pub may_be_left : (made : Step) (may_wait : Bool) → (wants_commit made && may_wait) ≡ true → may_wait ≡ true
may_be_left step.Answered may_wait waits = absurd (cc waits)
may_be_left step.Again may_wait waits = absurd (cc waits)
may_be_left step.CommitFirst may_wait waits = waits
may_be_left step.Forgone may_wait waits = absurd (cc waits)

-- a run of no lines is one
no_lines : (capacity : ℕ) (shrunk : Option ℕ) (start : Content) (run : List Entry) → lines_of run ≡ [] → IsRunFrom capacity shrunk start run
no_lines capacity shrunk start [] none = tt
no_lines capacity shrunk start (entry ∷ run) none = absurd (cc none)

-- ---- a stretch without an entry

module _ (capacity : ℕ) (shrunk : Option ℕ) (committed now : Content) (old : Outside) where
  pub begins : (knows : Knowing) (space : Space) → Stands knows committed now shrunk space old → GoesTidy capacity None knows committed now shrunk old space old
  begins knows space stands = record { last = committed; next = now; goes = goes_none capacity shrunk committed now old space stands.below stands.reads stands.leaves; heads = stands.heads; known = stands.known }

  module _ (knows : Knowing) (space : Space) (mid : Outside) {asked : Option Asked} (goes : GoesTidy capacity asked knows committed now shrunk old space mid) where
    -- where it stands now
    pub stands_there : Stands knows goes.last goes.next shrunk space mid
    stands_there = record { known = goes.known; below = goes.goes.below; reads = goes.goes.reads; heads = goes.heads; leaves = goes.goes.leaves }

    -- it only looked
    pub looks_tidy : (knows_new : Knowing) (new : Space) (after : Outside) → Touches goes.last space mid new after → Stays knows_new goes.last goes.next shrunk new → GoesTidy capacity asked knows_new committed now shrunk old new after
    looks_tidy knows_new new after touches stays = record {
      last = goes.last;
      next = goes.next;
      goes = touched_on capacity shrunk committed now old [] [] goes.last goes.next space mid goes.goes new after touches goes.goes.leads stays.reads;
      heads = stays.heads;
      known = stays.known;
    }

    pub looks_tidy_last : (knows_new : Knowing) (new : Space) (after : Outside) (touches : Touches goes.last space mid new after) (stays : Stays knows_new goes.last goes.next shrunk new) → (looks_tidy knows_new new after touches stays).last ≡ goes.last
    unfolding looks_tidy
    looks_tidy_last knows_new new after touches stays = refl

    pub looks_tidy_next : (knows_new : Knowing) (new : Space) (after : Outside) (touches : Touches goes.last space mid new after) (stays : Stays knows_new goes.last goes.next shrunk new) → (looks_tidy knows_new new after touches stays).next ≡ goes.next
    unfolding looks_tidy
    looks_tidy_next knows_new new after touches stays = refl

    -- a step of housekeeping
    tidied_step : (next : Content) → IsTidiedFor capacity shrunk asked goes.next next → TidiesFor capacity (shrunk_in shrunk []) asked goes.next next
    tidied_step next step = one_step goes.next next next (subst (λ (s : Option ℕ). IsTidiedFor capacity s asked goes.next next) (sym (shrunk_in-none shrunk)) step) (no_step next)

    pub touches_tidy : (knows_new : Knowing) (new : Space) (after : Outside) → Touches goes.last space mid new after → (tidied : Tidied capacity asked knows_new goes.last goes.next shrunk new) → GoesTidy capacity asked knows_new committed now shrunk old new after
    touches_tidy knows_new new after touches tidied = record {
      last = goes.last;
      next = tidied.next;
      goes =
          touched_on capacity shrunk committed now old [] [] goes.last goes.next space mid goes.goes new after touches
          (leads_on capacity shrunk now [] goes.next asked tidied.next goes.goes.leads (tidied_step tidied.next tidied.tidied) tidied.place) tidied.reads;
      heads = tidied.heads;
      known = tidied.known;
    }

    -- a commit
    pub commits_tidy : (knows_new : Knowing) (new : Space) (after : Outside) → Commits space mid new after → Stays knows_new goes.next goes.next shrunk new → GoesTidy capacity asked knows_new committed now shrunk old new after
    commits_tidy knows_new new after commits stays = record {
      last = goes.next;
      next = goes.next;
      goes = commit_goes_here capacity shrunk committed now old [] goes.last goes.next space mid goes.goes new after commits;
      heads = stays.heads;
      known = stays.known;
    }

    pub commits_tidy_last : (knows_new : Knowing) (new : Space) (after : Outside) (commits : Commits space mid new after) (stays : Stays knows_new goes.next goes.next shrunk new) → (commits_tidy knows_new new after commits stays).last ≡ goes.next
    unfolding commits_tidy
    commits_tidy_last knows_new new after commits stays = refl

    pub commits_tidy_next : (knows_new : Knowing) (new : Space) (after : Outside) (commits : Commits space mid new after) (stays : Stays knows_new goes.next goes.next shrunk new) → (commits_tidy knows_new new after commits stays).next ≡ goes.next
    unfolding commits_tidy
    commits_tidy_next knows_new new after commits stays = refl

    -- a fault in a call that put and spilled, or in a commit
    pub touch_stops_tidy : (new : Space) (after : Outside) → Touches goes.last space mid new after → StopsOn capacity committed now shrunk old [] after
    touch_stops_tidy new after touches = record { more = []; plain = tt; asked = refl; stops = touch_stops_here capacity shrunk committed now old [] goes.last goes.next space mid goes.goes new after touches }

    pub commit_stops_tidy : (after : Outside) → MayCommit space mid after → StopsOn capacity committed now shrunk old [] after
    commit_stops_tidy after may = record { more = []; plain = tt; asked = refl; stops = commit_stops_here capacity shrunk committed now old [] goes.last goes.next space mid goes.goes after may }

    -- a fault of memory
    pub memory_stops_tidy : StopsOn capacity committed now shrunk old [] mid
    memory_stops_tidy = record { more = []; plain = tt; asked = refl; stops = stops_there capacity shrunk committed now old [] goes.last goes.next space mid goes.goes }

    -- a stretch behind it that is ahead of no command
    pub tidy_both : (knows_new : Knowing) (new : Space) (after : Outside) → GoesTidy capacity None knows_new goes.last goes.next shrunk mid new after → GoesTidy capacity asked knows_new committed now shrunk old new after
    tidy_both knows_new new after second =
        let behind : Goes capacity (shrunk_in shrunk []) None goes.last goes.next mid [] second.last second.next new after =
        subst (λ (s : Option ℕ). Goes capacity s None goes.last goes.next mid [] second.last second.next new after) (sym (shrunk_in-none shrunk)) second.goes in
        record {
          last = second.last;
          next = second.next;
          goes =
              goes_as capacity shrunk committed now old [] [] goes.last goes.next space mid goes.goes second.last second.next new after behind
              (leads_on capacity shrunk now [] goes.next asked second.next goes.goes.leads (further goes.next second.next second.goes.leads.tidied) second.goes.leads.place);
          heads = second.heads;
          known = second.known;
        }
      where
        further : (here there : Content) → TidiesFor capacity (shrunk_in shrunk []) None (content_after here []) there → TidiesFor capacity (shrunk_in shrunk []) asked here there
        further here there tidied = for_any capacity (shrunk_in shrunk []) asked here there (subst (λ (c : Content). TidiesFor capacity (shrunk_in shrunk []) None c there) (content_after-none here) tidied)

    -- a fault behind it, before any entry
    pub tidy_stops : (after : Outside) → StopsOn capacity goes.last goes.next shrunk mid [] after → StopsOn capacity committed now shrunk old [] after
    tidy_stops after second =
        let behind : Stops capacity (shrunk_in shrunk []) goes.last goes.next mid second.more after =
        subst (λ (s : Option ℕ). Stops capacity s goes.last goes.next mid second.more after) (sym (shrunk_in-none shrunk)) second.stops in
        record { more = second.more; plain = second.plain; asked = second.asked; stops = stops_as capacity shrunk committed now old [] second.more goes.last goes.next space mid goes.goes after behind (no_lines capacity shrunk now second.more second.asked) }

  -- ahead of no command
  module _ (knows : Knowing) (space : Space) (mid : Outside) (goes : GoesTidy capacity None knows committed now shrunk old space mid) where
    -- it came to rest
    pub rests_tidy : IsAtRest capacity shrunk (volume_of goes.next) → GoesRested capacity None knows committed now shrunk old space mid
    rests_tidy at_rest = record {
      tidy = goes;
      rests = leads_rest capacity shrunk now [] goes.next goes.goes.leads (subst (λ (s : Option ℕ). IsAtRest capacity s (volume_of goes.next)) (sym (shrunk_in-none shrunk)) at_rest);
    }

    -- one behind it that came to rest
    pub tidy_rested : (knows_new : Knowing) (new : Space) (after : Outside) → GoesRested capacity None knows_new goes.last goes.next shrunk mid new after → GoesRested capacity None knows_new committed now shrunk old new after
    unfolding tidy_both
    tidy_rested knows_new new after second = record {
      tidy = tidy_both knows space mid goes knows_new new after second.tidy;
      rests = leads_to_rest capacity shrunk now [] [] goes.next goes.goes.leads None second.tidy.next (subst (λ (s : Option ℕ). LeadsToRest capacity s None goes.next [] second.tidy.next) (sym (shrunk_in-none shrunk)) second.rests);
    }

    -- it is one with entries, of which it has none
    pub tidy_goes : (number : ℕ) → GoesOn capacity knows committed now shrunk old number [] untold space mid
    tidy_goes number = record {
      more = [];
      last = goes.last;
      next = goes.next;
      goes = goes.goes;
      heads = goes.heads;
      known = subst (λ (s : Option ℕ). knows goes.last goes.next s) (sym (shrunk_in-none shrunk)) goes.known;
      plain = tt;
      asked = refl;
      told = said_none number;
    }

    -- ahead of any command
    pub tidy_any : (asked : Option Asked) → GoesTidy capacity asked knows committed now shrunk old space mid
    tidy_any asked =
        let it = goes.goes in
        record {
          last = goes.last;
          next = goes.next;
          goes = record { leads = leads_any capacity shrunk now [] goes.next asked it.leads; commits = it.commits; below = it.below; reads = it.reads; leaves = it.leaves; time = it.time; told = it.told };
          heads = goes.heads;
          known = goes.known;
        }

  -- ---- behind rest

  pub rested_any : (asked : Option Asked) (knows : Knowing) (space : Space) (mid : Outside) → GoesRested capacity None knows committed now shrunk old space mid → GoesRested capacity asked knows committed now shrunk old space mid
  unfolding tidy_any
  rested_any asked knows space mid rested = record { tidy = tidy_any knows space mid rested.tidy asked; rests = rest_any capacity shrunk now [] rested.tidy.next asked rested.rests }

  pub rested_ahead : (may_wait : Bool) (own : Option Asked) (line : List ℕ) (knows : Knowing) (space : Space) (mid : Outside) → GoesRested capacity None knows committed now shrunk old space mid → GoesRested capacity (ahead_of may_wait own line) knows committed now shrunk old space mid
  rested_ahead true own line knows space mid rested = rested
  rested_ahead false own line knows space mid rested = rested_any (wanted_in own line) knows space mid rested

  -- as long as the line may be left, it is ahead of none
  pub rested_own : (may_wait : Bool) (own : Option Asked) (line : List ℕ) (knows : Knowing) (space : Space) (mid : Outside) → GoesRested capacity (ahead_of may_wait own line) knows committed now shrunk old space mid → GoesRested capacity (wanted_in own line) knows committed now shrunk old space mid
  rested_own true own line knows space mid rested = rested_any (wanted_in own line) knows space mid rested
  rested_own false own line knows space mid rested = rested

  module _ (knows : Knowing) (space : Space) (mid : Outside) {asked : Option Asked} (rested : GoesRested capacity asked knows committed now shrunk old space mid) where
    pub rested_looks : (knows_new : Knowing) (new : Space) (after : Outside) → Touches rested.tidy.last space mid new after → Stays knows_new rested.tidy.last rested.tidy.next shrunk new → GoesRested capacity asked knows_new committed now shrunk old new after
    unfolding looks_tidy
    rested_looks knows_new new after touches stays = record { tidy = looks_tidy knows space mid rested.tidy knows_new new after touches stays; rests = rested.rests }

    pub rested_tidy : (knows_new : Knowing) (new : Space) (after : Outside) → Touches rested.tidy.last space mid new after → (tidied : Tidied capacity asked knows_new rested.tidy.last rested.tidy.next shrunk new) → GoesRested capacity asked knows_new committed now shrunk old new after
    unfolding touches_tidy
    rested_tidy knows_new new after touches tidied = record {
      tidy = touches_tidy knows space mid rested.tidy knows_new new after touches tidied;
      rests = rest_on capacity shrunk now [] rested.tidy.next asked tidied.next rested.rests (tidied_step knows space mid rested.tidy tidied.next tidied.tidied) tidied.place;
    }

    -- a line was left
    pub rested_left : (knows_new : Knowing) (new : Space) (after : Outside) → Touches rested.tidy.last space mid new after → Tidied capacity asked knows_new rested.tidy.last rested.tidy.next shrunk new ⊎ Stays knows_new rested.tidy.last rested.tidy.next shrunk new
        → GoesRested capacity asked knows_new committed now shrunk old new after
    rested_left knows_new new after touches left = ⊎_elim (λ tidied. rested_tidy knows_new new after touches tidied) (λ stays. rested_looks knows_new new after touches stays) left

    -- housekeeping goes on
    pub rested_both : (knows_new : Knowing) (new : Space) (after : Outside) → GoesTidy capacity None knows_new rested.tidy.last rested.tidy.next shrunk mid new after → GoesRested capacity asked knows_new committed now shrunk old new after
    unfolding tidy_both
    rested_both knows_new new after second = record {
      tidy = tidy_both knows space mid rested.tidy knows_new new after second;
      rests =
          rest_on capacity shrunk now [] rested.tidy.next asked second.next rested.rests
          (for_any capacity (shrunk_in shrunk []) asked rested.tidy.next second.next (subst (λ (c : Content). TidiesFor capacity (shrunk_in shrunk []) None c second.next) (content_after-none rested.tidy.next) second.goes.leads.tidied)) second.goes.leads.place;
    }

    pub rested_both_next : (knows_new : Knowing) (new : Space) (after : Outside) (second : GoesTidy capacity None knows_new rested.tidy.last rested.tidy.next shrunk mid new after) → (rested_both knows_new new after second).tidy.next ≡ second.next
    unfolding rested_both tidy_both
    rested_both_next knows_new new after second = refl

  -- a line was answered
  module _ (knows : Knowing) (space : Space) (mid : Outside) (own : Option Asked) (line : List ℕ) (rested : GoesRested capacity (wanted_in own line) knows committed now shrunk old space mid) where
    pub rested_does : (knows_new : Knowing) (number : ℕ) (said : Reply) (changes : List Change) (new : Space) (after : Outside) → Touches rested.tidy.last space mid new after → Does capacity knows_new rested.tidy.last rested.tidy.next shrunk new number own line said changes
        → DoesOn capacity knows_new committed now shrunk old number own line said changes new after
    rested_does knows_new number said changes new after touches does =
        let first = rested.tidy in
        let entry = does.entry in
        let ahead : LeadsToRest capacity shrunk (wanted_by entry) now [] first.next = subst (λ (asked : Option Asked). LeadsToRest capacity shrunk asked now [] first.next) (sym (λ i. wanted_in (does.own_is i) (does.line_is i))) rested.rests in
        let leads : Leads capacity shrunk None now (entry ∷ []) entry.after = leads_entry capacity shrunk now [] first.next entry ahead does.before does.served does.place in
        record {
          entry = entry;
          last = first.last;
          goes = touched_on capacity shrunk committed now old [] (entry ∷ []) first.last first.next space mid first.goes new after touches leads does.reads;
          heads = does.heads;
          known = subst (λ (s : Option ℕ). knows_new first.last entry.after s) (sym (shrunk_in-one shrunk entry)) does.known;
          line_is = does.line_is;
          own_is = does.own_is;
          reply = does.reply;
          told = does.told;
        }

  -- one command of a line is a stretch with an entry
  pub does_goes : (knows : Knowing) (number : ℕ) (line : List ℕ) (said : Reply) (changes : List Change) (space : Space) (mid : Outside) → DoesOn capacity knows committed now shrunk old number None line said changes space mid
      → GoesOn capacity knows committed now shrunk old number (line ∷ []) (record { replies = reply_text said; changes = changes }) space mid
  does_goes knows number line said changes space mid does = record {
    more = does.entry ∷ [];
    last = does.last;
    next = does.entry.after;
    goes = does.goes;
    heads = does.heads;
    known = does.known;
    plain = (does.own_is, tt);
    asked = ap (λ (l : List ℕ). l ∷ []) does.line_is;
    told = tells_both (replies_of (does.entry ∷ [])) (reply_text said) (changes_in number (does.entry ∷ [])) changes (replies_of-one does.entry ∙ ap reply_text does.reply) does.told;
  }

-- ---- one call from where the volume stands

module _ (capacity : ℕ) (shrunk : Option ℕ) (committed now : Content) (old : Outside) (knows : Knowing) (space : Space) (stands : Stands knows committed now shrunk space old) where
  pub first_stops : (new : Space) (after : Outside) → Touches committed space old new after → StopsOn capacity committed now shrunk old [] after
  unfolding begins
  first_stops new after touches = touch_stops_tidy capacity shrunk committed now old knows space old (begins capacity shrunk committed now old knows space stands) new after touches

  pub commits_first : (knows_new : Knowing) (new : Space) (after : Outside) → Commits space old new after → Stays knows_new now now shrunk new → GoesTidy capacity None knows_new committed now shrunk old new after
  unfolding begins
  commits_first knows_new new after commits stays = commits_tidy capacity shrunk committed now old knows space old (begins capacity shrunk committed now old knows space stands) knows_new new after commits stays

  pub commit_stops_first : (after : Outside) → MayCommit space old after → StopsOn capacity committed now shrunk old [] after
  commit_stops_first after may = commit_stops_tidy capacity shrunk committed now old knows space old (begins capacity shrunk committed now old knows space stands) after may

  module _ (knows_new : Knowing) (new : Space) (after : Outside) (touches : Touches committed space old new after) where
    pub first_tidied : Tidied capacity None knows_new committed now shrunk new → GoesTidy capacity None knows_new committed now shrunk old new after
    unfolding begins
    first_tidied tidied = touches_tidy capacity shrunk committed now old knows space old (begins capacity shrunk committed now old knows space stands) knows_new new after touches tidied

    module _ (stays : Stays knows_new committed now shrunk new) where
      pub first_looks : GoesTidy capacity None knows_new committed now shrunk old new after
      unfolding begins
      first_looks = looks_tidy capacity shrunk committed now old knows space old (begins capacity shrunk committed now old knows space stands) knows_new new after touches stays

      pub first_looks_next : first_looks.next ≡ now
      unfolding first_looks begins looks_tidy
      first_looks_next = refl

      pub first_rests : IsAtRest capacity shrunk (volume_of now) → GoesRested capacity None knows_new committed now shrunk old new after
      unfolding begins looks_tidy
      first_rests at_rest =
          rests_tidy capacity shrunk committed now old knows_new new after
          (looks_tidy capacity shrunk committed now old knows space old (begins capacity shrunk committed now old knows space stands) knows_new new after touches stays) at_rest

      -- it stands there still
      pub first_stands : Stands knows_new committed now shrunk new after
      unfolding begins looks_tidy
      first_stands =
          stands_there capacity shrunk committed now old knows_new new after
          (looks_tidy capacity shrunk committed now old knows space old (begins capacity shrunk committed now old knows space stands) knows_new new after touches stays)

      -- a commit behind it
      pub then_commits : (knows_last : Knowing) (last : Space) (end : Outside) → Commits new after last end → Stays knows_last now now shrunk last → GoesTidy capacity None knows_last committed now shrunk old last end
      unfolding begins looks_tidy
      then_commits knows_last last end commits whole =
          commits_tidy capacity shrunk committed now old knows_new new after
          (looks_tidy capacity shrunk committed now old knows space old (begins capacity shrunk committed now old knows space stands) knows_new new after touches stays) knows_last last end commits whole

      pub then_commit_stops : (end : Outside) → MayCommit new after end → StopsOn capacity committed now shrunk old [] end
      unfolding begins looks_tidy
      then_commit_stops end may =
          commit_stops_tidy capacity shrunk committed now old knows_new new after
          (looks_tidy capacity shrunk committed now old knows space old (begins capacity shrunk committed now old knows space stands) knows_new new after touches stays) end may
