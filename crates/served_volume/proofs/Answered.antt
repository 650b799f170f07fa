-- A line that was answered, as serving sees it.
use Rattle.std.proofs.Common.{◌≡◌, ◌⊎◌, ⊎_elim, ℕ, List, [], ◌∷◌, inl, inr, refl, sym, ◌∙◌, subst}
use Rattle.std.specs.Prelude.{Option, Result, Ok, Err, IfOk, if◌then◌else◌}
use Rattle.std.proofs.lemmas.List.{append-nil}
use Rattle.hfs_volume.specs.declared.asked.Asked.{Asked}
use Rattle.jnl_format.specs.Recovery.{Content}
use Rattle.sector_disk.specs.Space.{Space}
use Rattle.hfs_language.specs.declared.reply.Change.{Change}
use Rattle.hfs_language.specs.declared.reply.Reply.{Reply}
use Rattle.volume_runs.specs.Run.{Entry, asked_in, is_ok, or_before, shrunk_after, shrunk_by, wanted_in}
use Rattle.volume_runs.specs.Told.{changes_by, changes_in}
use Rattle.hfs_volume.specs.TreeOf.{tree_of}
use Rattle.hfs_serving.specs.Going.{Does, PerformsTo, Stays, Tidied}
use Rattle.hfs_serving.specs.Grounds.{KeepsHeading}
use Rattle.hfs_serving.specs.Serving.{IsDurable, IsRead}
use Rattle.volume_base.specs.Keeping.{shrunk_of}
use Rattle.volume_base.specs.declared.volume.Volume.{Volume}
use Rattle.volume_step.specs.Steps.{IsServedAs}
use Rattle.volume_step.specs.declared.outcome.Outcome.{Outcome}
use Rattle.volume_step.specs.declared.outcome.Outcome.TheVariants as outcome
use Rattle.served_volume.specs.Answering.{AnswersAs, GoesForLine, ShrinksBy, performed_of}
use Rattle.served_volume.specs.Knowing.{Knows}
use Rattle.served_volume.proofs.Ahead.{ahead, cuts_alike, grows_alike}
use Rattle.served_volume.proofs.Alike.{served_alike, told_alike}
use Rattle.served_volume.proofs.Filled.{ahead_filled}
use Rattle.served_volume.proofs.Stepping.{Leaves, follow, heads_then, knows_then, place_then, reads_then}

-- what a run of one entry tells watchers
one_told : (number : ℕ) (entry : Entry) (changes : List Change) → changes ≡ changes_by number entry → changes_in number (entry ∷ []) ≡ changes
unfolding changes_in
one_told number entry changes is = append-nil (changes_by number entry) ∙ sym is

module _ (v w : Volume) (capacity : ℕ) (committed now : Content) (shrunk : Option ℕ) (a b : Space) (known : Knows v capacity committed now shrunk a) (below : IsDurable committed a) (reads : IsRead now a) (heads : KeepsHeading a) (leaves : Leaves v w committed a b) where
  abbrev next : Content
  next = (follow v w capacity committed now shrunk a b known below reads heads leaves).next

  -- the file that was shrunk last, as the entry says it
  shrunk_then : (own : Option Asked) (line : List ℕ) (said : Reply) (changes : List Change) → ShrinksBy (outcome.Answered said changes) own line a.content (shrunk_of v) (shrunk_of w) → shrunk_of w ≡ (if is_ok said then or_before (shrunk_by (tree_of now) (asked_in own line)) shrunk else shrunk)
  shrunk_then own line said changes was = was ∙ (λ i. if is_ok said then or_before (shrunk_by (sym known.alike.tree i) (asked_in own line)) (known.shrunk_is i) else known.shrunk_is i)

  does : (number : ℕ) (own : Option Asked) (line : List ℕ) (said : Reply) (changes : List Change) → IsServedAs capacity number changes (record { line = line; own = own; reply = said; before = a.content; after = b.content })
      → ShrinksBy (outcome.Answered said changes) own line a.content (shrunk_of v) (shrunk_of w)
      → Does capacity (λ was is file. Knows w capacity was is file b) committed now shrunk b number own line said changes
  does number own line said changes was shrinks =
      let f = follow v w capacity committed now shrunk a b known below reads heads leaves in
      record {
        entry = record { line = line; own = own; reply = said; before = now; after = next };
        line_is = refl;
        own_is = refl;
        before = refl;
        served = served_alike capacity own line said now next a.content b.content known.alike f.alike f.still was.served;
        place = place_then v w capacity committed now shrunk a b known below reads heads leaves;
        reads = reads_then v w capacity committed now shrunk a b known below reads heads leaves;
        heads = heads_then v w capacity committed now shrunk a b known below reads heads leaves;
        known = knows_then v w capacity committed now shrunk a b known below reads heads leaves (shrunk_after shrunk (record { line = line; own = own; reply = said; before = now; after = next })) (shrunk_then own line said changes shrinks);
        reply = refl;
        told = one_told number (record { line = line; own = own; reply = said; before = now; after = next }) changes
            (was.told ∙ sym (told_alike capacity own line said now next a.content b.content known.alike f.alike f.still number));
      }

  -- it only looked
  pub stays : b.content ≡ a.content → shrunk_of w ≡ shrunk_of v → Stays (λ was is file. Knows w capacity was is file b) committed now shrunk b
  stays same kept =
      let f = follow v w capacity committed now shrunk a b known below reads heads leaves in
      let is : next ≡ now = f.still same in
      record {
        reads = subst (λ (c : Content). IsRead c b) is (reads_then v w capacity committed now shrunk a b known below reads heads leaves);
        heads = heads_then v w capacity committed now shrunk a b known below reads heads leaves;
        known = subst (λ (c : Content). Knows w capacity committed c shrunk b) is (knows_then v w capacity committed now shrunk a b known below reads heads leaves shrunk (kept ∙ known.shrunk_is));
      }

  -- a cut, the growth of a tree or zero blocks went ahead
  went : (own : Option Asked) (line : List ℕ) → GoesForLine capacity own line a.content b.content → shrunk_of w ≡ shrunk_of v → Tidied capacity (wanted_in own line) (λ was is file. Knows w capacity was is file b) committed now shrunk b
  went own line was kept =
      let f = follow v w capacity committed now shrunk a b known below reads heads leaves in
      let wanted = wanted_in own line in
      record {
        next = f.next;
        tidied = inr (⊎_elim (λ cuts. inl (cuts_alike capacity wanted was.asked was.wanted now f.next a.content b.content known.alike f.alike cuts)) (λ more. inr (⊎_elim (λ grows. inl (grows_alike capacity wanted was.asked was.wanted now f.next a.content b.content known.alike f.alike shrunk grows))
            (λ fills. inr (inl (ahead_filled capacity wanted was.asked was.wanted now f.next a b reads (reads_then v w capacity committed now shrunk a b known below reads heads leaves) known.alike f.alike fills))) more)) (ahead capacity a.content b.content was.asked was.goes));
        place = place_then v w capacity committed now shrunk a b known below reads heads leaves;
        reads = reads_then v w capacity committed now shrunk a b known below reads heads leaves;
        heads = heads_then v w capacity committed now shrunk a b known below reads heads leaves;
        known = knows_then v w capacity committed now shrunk a b known below reads heads leaves shrunk (kept ∙ known.shrunk_is);
      }

  pub performs : (number : ℕ) (own : Option Asked) (line : List ℕ) (o : Outcome) → AnswersAs o capacity number own line a.content b.content → ShrinksBy o own line a.content (shrunk_of v) (shrunk_of w)
      → PerformsTo (performed_of o) capacity (λ was is file. Knows w capacity was is file b) committed now shrunk b number own line
  performs number own line (outcome.Answered said changes) was shrinks = does number own line said changes was shrinks
  performs number own line outcome.Again was shrinks = went own line was shrinks
  performs number own line outcome.CommitFirst was shrinks = stays was shrinks

-- what a result's value has
pub if_so : {A E : Type 0} (P Q : A → Type 0) (r : Result A E) → ((x : A) → P x → Q x) → IfOk r P → IfOk r Q
if_so P Q (Ok x) goes is = goes x is
if_so P Q (Err e) goes is = is
