-- Lines on symbolic links and resource forks, as stretches that a speaker speaks.
use Rattle.std.proofs.Common.{◌≡◌, ◌⊎◌, ◌≤◌, ◌<◌, ℕ, zero, suc, Bool, true, false, List, [], ◌∷◌, length, inl, inr, refl, sym, ◌∙◌, ap, subst, arith}
use Rattle.std.specs.Prelude.{◌^◌, take, Option, Some, None}
use Rattle.sector_disk.specs.Space.{Space}
use Rattle.jnl_format.specs.Recovery.{Content}
use Rattle.hfs_language.specs.declared.refusal.Refusal.TheVariants as refusal
use Rattle.hfs_language.specs.declared.reply.Reply.{Reply}
use Rattle.hfs_language.specs.declared.reply.Reply.TheVariants as reply
use Rattle.hfs_model.specs.declared.kinds.KindEdit.{KindEdit}
use Rattle.hfs_model.specs.declared.plain.PlainTree.{PlainTree}
use Rattle.hfs_model.specs.Plain.{IsPlainTree, fresh_tree}
use Rattle.hfs_volume.specs.Books.{SoundHasTree, StepKeepsTrees}
use Rattle.hfs_volume.specs.TreeOf.{tree_of}
use Rattle.hfs_volume.specs.declared.asked.Asked.TheVariants.{Kind}
use Rattle.volume_runs.specs.Run.{Entry, IsRunFrom, content_after, shrunk_in, tree_after, wanted_by}
use Rattle.hfs_serving.specs.Going.{Knowing, Stands}
use Rattle.hfs_serving.specs.Outside.{Outside}
use Rattle.hfs_serving.specs.Said.{joined, untold}
use Rattle.hfs_serving.specs.Speaking.{SpeaksLine, unspoken}
use Rattle.hfs_serving.specs.declared.volume.ToTell.{ToTell}
use Rattle.hfs_serving.proofs.Batches.{goes_none}
use Rattle.hfs_serving.proofs.Leading.{tidies_of}
use Rattle.hfs_serving.proofs.Lists.{shrunk_in-none}
use Rattle.hfs_serving.proofs.Mounting.{tidied_tree}
use Rattle.hfs_serving.proofs.Saying.{joined_none}
use Rattle.hfs_serving.proofs.Speeches.{speaks_none, tells_unspoken}
use Rattle.link_kinds.specs.Lines.{is_kind_line, kind_line_of}
use Rattle.open_files.specs.Machine.{Machine, Turn}
use Rattle.open_files.specs.declared.act.OpenFile.{OpenFile}
use Rattle.open_files.specs.declared.act.SessionReply.{SessionReply}
use Rattle.open_files.specs.declared.act.SessionReply.TheVariants as told
use Rattle.open_files.specs.Keeping.{seen}
use Rattle.session_lines.specs.declared.errands.Errand.{Errand}
use Rattle.session_lines.specs.declared.errands.Errand.TheVariants as errand
use Rattle.session_lines.specs.declared.errands.Look.{Look}
use Rattle.session_lines.specs.Doing.{OwnDone}
use Rattle.session_lines.specs.Errands.{IsErrandOf, IsKindErrandOf, kind_errand_for, refused}
use Rattle.session_lines.specs.KindTurns.{DoesKind, IsKindTurnOf, KindPlan, edit_turn, edits, kind_tree_by, look_says, plan_of_kind, says, told_turn}
use Rattle.session_lines.specs.Lookings.{HasLooked, HasSeen}
use Rattle.session_lines.specs.Made.{SeesAs}
use Rattle.session_lines.specs.Said.{text_told, told_if}
use Rattle.session_lines.specs.Turns.{AsksFor, spoke_at}
use Rattle.session_lines.proofs.Acted.{plain_text}
use Rattle.session_lines.proofs.KindErrands.{IsEditLine, edit_planned, look_planned, said_planned}
use Rattle.session_lines.proofs.KindTrees.{kind_keeps, kind_tree}
use Rattle.session_lines.proofs.Kept.{Keeps, StayFew, fewer}
use Rattle.session_lines.proofs.ReadLines.{says_told}
use Rattle.session_lines.proofs.Served.{AreLineTurned, LineTurned, Stays, machine_at, serves_line}

-- ---- turns of one entry, and of none

-- behind the one entry, or before it
one_between : (start : Content) (old new : PlainTree) (entry : Entry) → tree_of start ≡ old → tree_of entry.after ≡ new → (count : ℕ) → count ≤ length (entry ∷ []) → SeesAs start (take count (entry ∷ [])) old ⊎ SeesAs start (take count (entry ∷ [])) new
unfolding content_after
one_between start old new entry fits leads zero some = inl (ap (λ t. seen t) fits)
one_between start old new entry fits leads (suc zero) some = inr (ap (λ t. seen t) leads)
one_between start old new entry fits leads (suc (suc count)) some = absurd (omega (arith, some))

one_leads : (start : Content) (new : PlainTree) (entry : Entry) → tree_of entry.after ≡ new → tree_after start (entry ∷ []) ≡ new
unfolding content_after
one_leads start new entry leads = leads

pub none_leads : (start : Content) (old : PlainTree) → tree_of start ≡ old → tree_after start [] ≡ old
unfolding content_after
none_leads start old fits = fits

abbrev no_entry : List Entry
no_entry = []

none_between : (start : Content) (old : PlainTree) → tree_of start ≡ old → (count : ℕ) → count ≤ length no_entry → SeesAs start (take count no_entry) old ⊎ SeesAs start (take count no_entry) old
unfolding content_after
none_between start old fits zero some = inl (ap (λ t. seen t) fits)
none_between start old fits (suc count) some = absurd (omega (arith, some))

module _ (now : Content) (handles : List OpenFile) (line : List ℕ) (of_kind : is_kind_line line ≡ true) where
  -- what a line is told is what the machine says, or that memory was missing
  abbrev pub SaysSo : SessionReply → Type 0
  SaysSo said = IsPlainTree (tree_of now) → (said ≡ told.Plain (reply.No refusal.OutOfMemory)) ⊎ (plan_of_kind (tree_of now) (kind_line_of line) ≡ says said)

  -- nothing else is done for it
  pub only_says : (said : SessionReply) → SaysSo said → AreLineTurned now handles line [] said handles
  only_says said says_so start stays = record {
    turn = told_turn (machine_at now handles) said;
    is = inr (inl (of_kind, record { is = by (says_so stays.own.plain); tree = none_leads start (tree_of now) stays.fits; between = none_between start (tree_of now) stays.fits }));
    says = refl;
    handles_are = refl;
    keeps = (stays.own, stays.have);
  }
    where
      by : (said ≡ told.Plain (reply.No refusal.OutOfMemory)) ⊎ (plan_of_kind (tree_of now) (kind_line_of line) ≡ says said) → IsKindTurnOf (machine_at now handles) line [] (told_turn (machine_at now handles) said)
      by (inl short) = inr (refl, ap (λ (s : SessionReply). told_turn (machine_at now handles) s) short)
      by (inr plan) = inl (subst (λ (p : KindPlan). DoesKind (machine_at now handles) p [] (told_turn (machine_at now handles) said)) (sym plan) (refl, refl))

-- ---- stretches

module _ (capacity : ℕ) (shrunk : Option ℕ) (committed now : Content) (old : Outside) (number : ℕ) (line : List ℕ) (handles : List OpenFile) where
  -- nothing was done but for looks
  module _ (of_kind : is_kind_line line ≡ true) (law_few : StayFew) (knows : Knowing) (space : Space) (new : Outside) (looked : HasLooked capacity knows committed now shrunk old space new) where
    says_line : (said : SessionReply) → SaysSo now handles line of_kind said → (before after : ToTell) → after ≡ joined before (text_told said) → SpeaksLine true capacity knows committed now shrunk old number (spoke_at handles) (spoke_at handles) line before after space new
    says_line said says_so before after tells =
        serves_line capacity shrunk committed now old number line handles [] tt law_few said handles (only_says now handles line of_kind said says_so) [] knows committed now space new before after looked.goes looked.heads
        (subst (λ (s : Option ℕ). knows committed now s) (sym (shrunk_in-none shrunk)) looked.known) tells

    -- whether it was told as it is or not
    tells_line : (said : SessionReply) → SaysSo now handles line of_kind said → (whole : Bool) (before after : ToTell) → after ≡ joined before (text_told (told_if whole said))
        → SpeaksLine true capacity knows committed now shrunk old number (spoke_at handles) (spoke_at handles) line before after space new
    tells_line said says_so true before after tells = says_line said says_so before after tells
    tells_line said says_so false before after tells = says_line (told.Plain (reply.No refusal.OutOfMemory)) (λ plain. inl refl) before after tells

  -- A line that is told something at once.
  pub kind_told : StayFew → (said : SessionReply) → IsKindErrandOf line (errand.Says said) → (knows : Knowing) (space : Space) → Stands knows committed now shrunk space old → (whole : Bool) (before after : ToTell)
      → after ≡ joined before (text_told (told_if whole said)) → SpeaksLine true capacity knows committed now shrunk old number (spoke_at handles) (spoke_at handles) line before after space old
  kind_told law_few said comes knows space stands whole before after tells =
      tells_line comes.0 law_few knows space old (record { goes = goes_none capacity shrunk committed now old space stands.below stands.reads stands.leaves; heads = stands.heads; known = stands.known }) said (λ plain. by comes.1) whole before after tells
    where
      said_or : SessionReply → Errand → SessionReply
      said_or other (errand.Says it) = it
      said_or other _ = other

      by : (errand.Says said ≡ kind_errand_for (kind_line_of line)) ⊎ (errand.Says said ≡ refused refusal.OutOfMemory) → (said ≡ told.Plain (reply.No refusal.OutOfMemory)) ⊎ (plan_of_kind (tree_of now) (kind_line_of line) ≡ says said)
      by (inl is) = inr (said_planned (tree_of now) said (kind_line_of line) is)
      by (inr short) = inl (ap (said_or said) short)

  -- the same of a line of either kind
  pub says_either : StepKeepsTrees → StayFew → (said : SessionReply) → IsErrandOf handles line (errand.Says said) ⊎ IsKindErrandOf line (errand.Says said) → (knows : Knowing) (space : Space) → Stands knows committed now shrunk space old → (whole : Bool) (before after : ToTell)
      → after ≡ joined before (text_told (told_if whole said)) → SpeaksLine true capacity knows committed now shrunk old number (spoke_at handles) (spoke_at handles) line before after space old
  says_either law law_few said (inl comes) knows space stands whole before after tells = says_told capacity shrunk committed now old number line handles law law_few said comes knows space stands whole before after tells
  says_either law law_few said (inr comes) knows space stands whole before after tells = kind_told law_few said comes knows space stands whole before after tells

  -- A line that looks where a link or a path leads.
  pub look_told : StayFew → (what : Look) → IsKindErrandOf line (errand.Looks what) → (knows : Knowing) (space : Space) (new : Outside) (said : SessionReply) → HasSeen what capacity knows committed now shrunk old space new said
      → (whole : Bool) (before after : ToTell) → after ≡ joined before (text_told (told_if whole said)) → SpeaksLine true capacity knows committed now shrunk old number (spoke_at handles) (spoke_at handles) line before after space new
  look_told law_few what comes knows space new said has whole before after tells = tells_line comes.0 law_few knows space new has.looked said (λ plain. by comes.1 (has.says plain)) whole before after tells
    where
      by : (errand.Looks what ≡ kind_errand_for (kind_line_of line)) ⊎ (errand.Looks what ≡ refused refusal.OutOfMemory) → (said ≡ told.Plain (reply.No refusal.OutOfMemory)) ⊎ (said ≡ look_says (tree_of now) what)
          → (said ≡ told.Plain (reply.No refusal.OutOfMemory)) ⊎ (plan_of_kind (tree_of now) (kind_line_of line) ≡ says said)
      by (inl is) (inl short) = inl short
      by (inl is) (inr same) = inr (look_planned (tree_of now) what (kind_line_of line) is ∙ ap says (sym same))
      by (inr short) says_so = absurd (cc short)

  -- ---- a command

  module _ (asked : KindEdit) (comes : IsKindErrandOf line (errand.Edits asked)) where
    pub planned : IsEditLine (tree_of now) asked (kind_line_of line)
    planned = by comes.1
      where
        by : (errand.Edits asked ≡ kind_errand_for (kind_line_of line)) ⊎ (errand.Edits asked ≡ refused refusal.OutOfMemory) → IsEditLine (tree_of now) asked (kind_line_of line)
        by (inl is) = edit_planned (tree_of now) asked (kind_line_of line) is
        by (inr short) = absurd (cc short)

    module _ (law_few : StayFew) (sound : SoundHasTree) where
      -- its one entry is its turn
      edit_turned : (entry : Entry) → IsRunFrom capacity shrunk now (entry ∷ []) → wanted_by entry ≡ Some (Kind asked) → (said : Reply) → entry.reply ≡ said → AreLineTurned now handles line (entry ∷ []) (told.Plain said) handles
      edit_turned entry are wanted said said_is start stays =
          let there : tree_of entry.before ≡ tree_of now = tidied_tree capacity shrunk now entry.before (tidies_of capacity shrunk (wanted_by entry) now entry.before are.0) in
          let leads : tree_of entry.after ≡ kind_tree_by (tree_of now) asked entry.reply = kind_tree capacity entry asked wanted are.1 ∙ ap (λ (t : PlainTree). kind_tree_by t asked entry.reply) there in
          let few : (tree_of entry.after).next_id < 2 ^ 64 = fewer (tree_of entry.after).next_id (law_few capacity entry are.1 (subst (λ (t : PlainTree). t.next_id < 2 ^ 32) (sym there) stays.few)) in
          let turn = edit_turn (machine_at now handles) asked entry.reply in
          record {
            turn = turn;
            is = inr (inl (
              comes.0,
              record {
                is = inl (subst (λ (p : KindPlan). DoesKind (machine_at now handles) p (entry ∷ []) turn) (sym planned.plan) (entry, refl, wanted, refl));
                tree = one_leads start (kind_tree_by (tree_of now) asked entry.reply) entry leads;
                between = one_between start (tree_of now) (kind_tree_by (tree_of now) asked entry.reply) entry stays.fits leads;
              },
            ));
            says = ap told.Plain said_is;
            handles_are = refl;
            keeps =
                subst (λ (t : PlainTree). Keeps t handles) leads
                (kind_keeps capacity entry asked wanted sound are.1 planned.apart few handles (subst (λ (t : PlainTree). Keeps t handles) (sym there) (stays.own, stays.have)));
          }

      pub edit_does : (answered : Bool) (knows : Knowing) (space : Space) (new : Outside) (before after : ToTell) → OwnDone answered capacity knows committed now shrunk old (Kind asked) before after space new
          → SpeaksLine answered capacity knows committed now shrunk old number (spoke_at handles) (spoke_at handles) line before after space new
      edit_does true knows space new before after own =
          let did = own.3 in
          serves_line capacity shrunk committed now old number line handles (did.entry ∷ []) did.goes.leads.run_is law_few (told.Plain own.0) handles (edit_turned did.entry did.goes.leads.run_is did.wanted_is own.0 did.reply_is) own.1 knows did.last did.entry.after
          space new before after did.goes did.heads did.known (own.2 ∙ ap (λ (t : List ℕ). joined before (record { replies = t; changes = own.1 })) (sym (plain_text own.0)))
      edit_does false knows space new before after own =
          let tidy = own.1 in record {
            said = untold;
            told = own.0 ∙ sym (joined_none before);
            goes = record {
              speech = unspoken;
              last = tidy.last;
              next = tidy.next;
              goes = tidy.goes;
              heads = tidy.heads;
              known = subst (λ (s : Option ℕ). knows tidy.last tidy.next s) (sym (shrunk_in-none shrunk)) tidy.known;
              asked = refl;
              are = tt;
              told = tells_unspoken;
              speaks = speaks_none number now (spoke_at handles);
            };
          }

-- what the line asks for
pub kind_asks : (line : List ℕ) (asked : KindEdit) → IsKindErrandOf line (errand.Edits asked) → AsksFor line (Kind asked)
kind_asks line asked comes = by comes.1
  where
    by : (errand.Edits asked ≡ kind_errand_for (kind_line_of line)) ⊎ (errand.Edits asked ≡ refused refusal.OutOfMemory) → AsksFor line (Kind asked)
    by (inl is) = let it = edit_planned fresh_tree asked (kind_line_of line) is in (it.session, it.is)
    by (inr short) = absurd (cc short)
