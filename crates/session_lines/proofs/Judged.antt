-- Lines that would change bytes of a file: those that are refused, and those that go on.
use Rattle.std.proofs.Common.{◌≡◌, ◌⊎◌, ◌++◌, ◌∷◌, [], ℕ, Bool, List, true, false, inl, inr, refl, sym, ◌∙◌, ap, subst}
use Rattle.std.specs.Prelude.{◌||◌, IfOk, OnErr, Option, Some, None, Result, Ok, Err, if◌then◌else◌}
use Rattle.std.proofs.lemmas.Bool.{true≢false}
use Rattle.sector_disk.specs.Space.{Space}
use Rattle.jnl_format.specs.Recovery.{Content}
use Rattle.hfs_language.specs.declared.command.Command.{Command}
use Rattle.hfs_language.specs.declared.command.Command.TheVariants as command
use Rattle.hfs_language.specs.declared.refusal.Refusal.{Refusal}
use Rattle.hfs_language.specs.declared.refusal.Refusal.TheVariants as refusal
use Rattle.hfs_language.specs.declared.reply.Reply.{Reply}
use Rattle.hfs_language.specs.declared.reply.Reply.TheVariants as reply
use Rattle.hfs_model.specs.declared.kinds.KindEdit.{KindEdit}
use Rattle.hfs_model.specs.declared.kinds.KindEdit.TheVariants as edit
use Rattle.hfs_model.specs.declared.plain.PlainNode.{PlainNode}
use Rattle.hfs_model.specs.Kinds.{path_of_edit}
use Rattle.hfs_model.specs.Plain.{fresh_tree}
use Rattle.hfs_volume.specs.Books.{StepKeepsTrees}
use Rattle.hfs_volume.specs.Content.{volume_of}
use Rattle.hfs_volume.specs.TreeOf.{tree_of}
use Rattle.hfs_volume.specs.declared.asked.Asked.{Asked}
use Rattle.hfs_volume.specs.declared.asked.Asked.TheVariants.{Kind, Plain}
use Rattle.volume_runs.specs.Run.{content_after, shrunk_in, tree_after}
use Rattle.hfs_serving.specs.Flags.{IsCompressedAs, IsSaidOfFound, file_seen}
use Rattle.hfs_serving.specs.Going.{Knowing, Stands, StopsOn, line_if}
use Rattle.hfs_serving.specs.Outside.{Outside}
use Rattle.hfs_serving.specs.Said.{joined}
use Rattle.hfs_serving.specs.Serving.{Goes, Stops}
use Rattle.hfs_serving.specs.Speaking.{SpeaksLine, Spoken, StopsSpeaking}
use Rattle.hfs_serving.specs.declared.telling.Stop.{Stop}
use Rattle.hfs_serving.specs.declared.volume.ToTell.{ToTell}
use Rattle.hfs_serving.proofs.Batches.{goes_both, goes_stops}
use Rattle.hfs_serving.proofs.Lists.{shrunk_in-none}
use Rattle.link_kinds.specs.declared.kinds.KindCommand.{KindCommand}
use Rattle.link_kinds.specs.declared.kinds.KindCommand.TheVariants as kind
use Rattle.link_kinds.specs.declared.kinds.KindLine.{KindLine}
use Rattle.link_kinds.specs.Lines.{is_kind_line, kind_line_of}
use Rattle.open_files.specs.Keeping.{is_keeping_path, names_keeping}
use Rattle.open_files.specs.Lines.{asks_of, session_text}
use Rattle.open_files.specs.declared.act.Act.TheVariants as act
use Rattle.open_files.specs.declared.act.OpenFile.{OpenFile}
use Rattle.open_files.specs.declared.act.SessionLine.{SessionLine}
use Rattle.open_files.specs.declared.act.SessionReply.{SessionReply}
use Rattle.open_files.specs.declared.act.SessionReply.TheVariants as told
use Rattle.session_lines.specs.declared.errands.Errand.{Errand}
use Rattle.session_lines.specs.declared.errands.Errand.TheVariants as errand
use Rattle.session_lines.specs.declared.stages.Stage.{Stage}
use Rattle.session_lines.specs.declared.stages.Stage.TheVariants as stage
use Rattle.session_lines.specs.Doing.{OwnDone}
use Rattle.session_lines.specs.Errands.{IsErrandOf, IsKindErrandOf, edit_errand, errand_for, kind_errand_for, own_errand, plain_errand, refused}
use Rattle.session_lines.specs.KindTurns.{told_turn}
use Rattle.session_lines.specs.Lookings.{HasLooked}
use Rattle.session_lines.specs.Said.{text_told, told_if}
use Rattle.session_lines.specs.Turns.{AsksFor, spoke_at}
use Rattle.session_lines.specs.Writing.{HasJudged, IsJudged, IsToldOf, TellsOf, TellsPlain, WritesTo, written_by, written_by_edit}
use Rattle.session_lines.proofs.Acted.{errand_asks, plain_text}
use Rattle.session_lines.proofs.KindErrands.{edit_planned}
use Rattle.session_lines.proofs.KindLines.{kind_asks, none_leads, says_either}
use Rattle.session_lines.proofs.Kept.{StayFew}
use Rattle.session_lines.proofs.Lines.{goes_as}
use Rattle.session_lines.proofs.Looked.{stands_looked}
use Rattle.session_lines.proofs.Served.{AreLineTurned, machine_at, serves_line}

abbrev memory_missing : SessionReply
memory_missing = told.Plain (reply.No refusal.OutOfMemory)

abbrev path_or : List (List ℕ) → Option (List (List ℕ)) → List (List ℕ)
path_or other None = other
path_or other (Some path) = path

-- ---- which lines write to a file

-- a command that writes to a file names no other path
data_path : (asked : Command) (path : List (List ℕ)) → written_by asked ≡ Some path → names_keeping asked ≡ (is_keeping_path path || false)
data_path (command.Write own from value) path is = ap (λ (p : List (List ℕ)). is_keeping_path p || false) (ap (path_or path) is)
data_path (command.Trunc own size) path is = ap (λ (p : List (List ℕ)). is_keeping_path p || false) (ap (path_or path) is)
data_path (command.Mkdir own) path is = absurd (cc is)
data_path (command.Create own) path is = absurd (cc is)
data_path (command.Rm own) path is = absurd (cc is)
data_path (command.Rmdir own) path is = absurd (cc is)
data_path (command.Mv own to) path is = absurd (cc is)
data_path (command.Ln own to) path is = absurd (cc is)
data_path (command.Read own from long) path is = absurd (cc is)
data_path (command.Ls own) path is = absurd (cc is)
data_path (command.Stat own) path is = absurd (cc is)
data_path (command.Chmod own mode) path is = absurd (cc is)
data_path (command.SetAttr own name value) path is = absurd (cc is)
data_path (command.GetAttr own name) path is = absurd (cc is)
data_path (command.DelAttr own name) path is = absurd (cc is)
data_path (command.LsAttr own) path is = absurd (cc is)
data_path (command.At moment) path is = absurd (cc is)
data_path command.Df path is = absurd (cc is)
data_path command.Sync path is = absurd (cc is)

-- and nothing is to be done ahead of it
data_errand : (session : ℕ) (asked : Command) (path : List (List ℕ)) → written_by asked ≡ Some path → own_errand session asked ≡ errand.Does asked stage.Does
data_errand session (command.Write own from value) path is = refl
data_errand session (command.Trunc own size) path is = refl
data_errand session (command.Mkdir own) path is = absurd (cc is)
data_errand session (command.Create own) path is = absurd (cc is)
data_errand session (command.Rm own) path is = absurd (cc is)
data_errand session (command.Rmdir own) path is = absurd (cc is)
data_errand session (command.Mv own to) path is = absurd (cc is)
data_errand session (command.Ln own to) path is = absurd (cc is)
data_errand session (command.Read own from long) path is = absurd (cc is)
data_errand session (command.Ls own) path is = absurd (cc is)
data_errand session (command.Stat own) path is = absurd (cc is)
data_errand session (command.Chmod own mode) path is = absurd (cc is)
data_errand session (command.SetAttr own name value) path is = absurd (cc is)
data_errand session (command.GetAttr own name) path is = absurd (cc is)
data_errand session (command.DelAttr own name) path is = absurd (cc is)
data_errand session (command.LsAttr own) path is = absurd (cc is)
data_errand session (command.At moment) path is = absurd (cc is)
data_errand session command.Df path is = absurd (cc is)
data_errand session command.Sync path is = absurd (cc is)

or_false : (b c : Bool) → c ≡ (b || false) → c ≡ false → b ≡ false
or_false true c is none = absurd (true≢false (sym is ∙ none))
or_false false c is none = refl

resource_path : (asked : KindEdit) (path : List (List ℕ)) → written_by_edit asked ≡ Some path → path_of_edit asked ≡ path
resource_path (edit.ResourceWrite own from value) path is = ap (path_or path) is
resource_path (edit.Symlink own value) path is = absurd (cc is)
resource_path (edit.ResourceRead own from long) path is = absurd (cc is)

-- a line writes to the file of this path, and that isn't in the keeping folder
abbrev pub WritesApart : List ℕ → List (List ℕ) → Type 0
WritesApart line path = WritesTo line path × (is_keeping_path path ≡ false)

pub data_writes : (handles : List OpenFile) (line : List ℕ) (asked : Command) (here : Stage) → IsErrandOf handles line (errand.Does asked here) → (path : List (List ℕ)) → written_by asked ≡ Some path → WritesApart line path
data_writes handles line asked here comes path is =
    let asks = errand_asks handles line asked here comes in
    (inl (comes.0, asks.0, asked, asks.1, is), or_false (is_keeping_path path) (names_keeping asked) (data_path asked path is) (other comes.1))
  where
    by : (r : Result SessionLine Refusal) → errand_for handles r ≡ errand.Does asked here → names_keeping asked ≡ false
    by (Ok asks) its = (goes_as handles asks.session asks.act asked here its).other
    by (Err why) its = absurd (cc its)

    other : (errand.Does asked here ≡ errand_for handles (asks_of line)) ⊎ (errand.Does asked here ≡ refused refusal.OutOfMemory) → names_keeping asked ≡ false
    other (inl same) = by (asks_of line) (sym same)
    other (inr short) = absurd (cc short)

pub resource_writes : (line : List ℕ) (asked : KindEdit) → IsKindErrandOf line (errand.Edits asked) → (path : List (List ℕ)) → written_by_edit asked ≡ Some path → WritesApart line path
resource_writes line asked comes path is =
    let asks = kind_asks line asked comes in
    (inr (comes.0, asks.0, asked, asks.1, is), ap is_keeping_path (sym (resource_path asked path is)) ∙ apart comes.1)
  where
    apart : (errand.Edits asked ≡ kind_errand_for (kind_line_of line)) ⊎ (errand.Edits asked ≡ refused refusal.OutOfMemory) → is_keeping_path (path_of_edit asked) ≡ false
    apart (inl same) = (edit_planned fresh_tree asked (kind_line_of line) same).apart
    apart (inr short) = absurd (cc short)

-- ---- what is to be done for such a line

-- it is told that memory is missing to read it, or its command is done
pub data WritingErrand (path : List (List ℕ)) : Errand → Type 0 where
  reads_short : WritingErrand path (refused refusal.OutOfMemory)
  does_data : (asked : Command) → written_by asked ≡ Some path → WritingErrand path (errand.Does asked stage.Does)
  edits_resource : (asked : KindEdit) → written_by_edit asked ≡ Some path → WritingErrand path (errand.Edits asked)

data_for : (handles : List OpenFile) (session : ℕ) (asked : Command) (path : List (List ℕ)) → written_by asked ≡ Some path → is_keeping_path path ≡ false → errand_for handles (Ok (record { session = session; act = act.Plain asked })) ≡ errand.Does asked stage.Does
data_for handles session asked path is apart =
    ap (λ b. if b then refused refusal.Private else own_errand session asked) (data_path asked path is ∙ ap (λ b. b || false) apart) ∙ data_errand session asked path is

resource_for : (session : ℕ) (asked : KindEdit) (path : List (List ℕ)) → written_by_edit asked ≡ Some path → is_keeping_path path ≡ false → kind_errand_for (Ok (record { session = session; command = kind.Edit asked })) ≡ errand.Edits asked
resource_for session asked path is apart = ap (λ b. if b then refused refusal.Private else errand.Edits asked) (ap is_keeping_path (resource_path asked path is) ∙ apart)

pub writing_errand : (handles : List OpenFile) (line : List ℕ) (path : List (List ℕ)) → WritesTo line path → is_keeping_path path ≡ false → (done : Errand) → IsErrandOf handles line done ⊎ IsKindErrandOf line done → WritingErrand path done
writing_errand handles line path (inl own) apart done (inl comes) = by comes.1
  where
    by : (done ≡ errand_for handles (asks_of line)) ⊎ (done ≡ refused refusal.OutOfMemory) → WritingErrand path done
    by (inl same) =
        subst (WritingErrand path) (sym (same ∙ ap (errand_for handles) own.3 ∙ data_for handles own.1 own.2 path own.4 apart)) (does_data own.2 own.4)
    by (inr short) = subst (WritingErrand path) (sym short) reads_short
writing_errand handles line path (inl own) apart done (inr comes) = absurd (true≢false (sym comes.0 ∙ own.0))
writing_errand handles line path (inr resource) apart done (inl comes) = absurd (true≢false (sym resource.0 ∙ comes.0))
writing_errand handles line path (inr resource) apart done (inr comes) = by comes.1
  where
    by : (done ≡ kind_errand_for (kind_line_of line)) ⊎ (done ≡ refused refusal.OutOfMemory) → WritingErrand path done
    by (inl same) =
        subst (WritingErrand path) (sym (same ∙ ap kind_errand_for resource.3 ∙ resource_for resource.1 resource.2 path resource.4 apart)) (edits_resource resource.2 resource.4)
    by (inr short) = subst (WritingErrand path) (sym short) reads_short

-- by what is to be done
abbrev pub IsWriting : List (List ℕ) → Errand → Type 0
IsWriting path (errand.Says said) = said ≡ memory_missing
IsWriting path (errand.Asks session here) = ⊥
IsWriting path (errand.Does asked here) = written_by asked ≡ Some path
IsWriting path (errand.Reads id from long) = ⊥
IsWriting path (errand.Closes session handle) = ⊥
IsWriting path (errand.Ends session) = ⊥
IsWriting path (errand.Edits asked) = written_by_edit asked ≡ Some path
IsWriting path (errand.Looks what) = ⊥

is_writing : (path : List (List ℕ)) (done : Errand) → WritingErrand path done → IsWriting path done
is_writing path _ reads_short = refl
is_writing path _ (does_data asked is) = is
is_writing path _ (edits_resource asked is) = is

pub writing_as : (handles : List OpenFile) (line : List ℕ) (path : List (List ℕ)) → WritesTo line path → is_keeping_path path ≡ false → (done to : Errand) → done ≡ to → IsErrandOf handles line done ⊎ IsKindErrandOf line done → IsWriting path to
writing_as handles line path writes apart done to is comes = subst (IsWriting path) is (is_writing path done (writing_errand handles line path writes apart done comes))

-- ---- what they are told

-- there is a file whose record says so
found_file : (now : Content) (path : List (List ℕ)) → IsCompressedAs now path true → (file : PlainNode) × (file_seen (tree_of now) path ≡ Ok file)
found_file now path = by (file_seen (tree_of now) path) refl
  where
    by : (r : Result PlainNode Refusal) → file_seen (tree_of now) path ≡ r → IsSaidOfFound (volume_of now) r true → (file : PlainNode) × (file_seen (tree_of now) path ≡ Ok file)
    by (Ok file) is said = (file, is)
    by (Err why) is said = absurd (true≢false said)

-- a line that was refused, whether it was told as it is or not
pub tells_refused : (now : Content) (path : List (List ℕ)) (said : SessionReply) → IsJudged now (Some path) (Some said) → (whole : Bool) (before after : ToTell) → after ≡ joined before (text_told (told_if whole said)) → TellsOf now path before after
tells_refused now path said judged true before after tells = (said, [], tells, by judged)
  where
    by : (said ≡ memory_missing) ⊎ ((said ≡ told.Compressed) × IsCompressedAs now path true) → IsToldOf now path said
    by (inl short) = inl short
    by (inr is) = inr (inl is)
tells_refused now path said judged false before after tells = (memory_missing, [], tells, inl refl)

-- one that goes on
pub tells_on : (now : Content) (path : List (List ℕ)) → IsJudged now (Some path) None → (before after : ToTell) → TellsPlain before after → TellsOf now path before after
tells_on now path judged before after own = (told.Plain own.0, own.1, own.2, inr (inr ((own.0, refl), judged)))

pub plainly : (said : SessionReply) → said ≡ memory_missing → (now : Content) (path : List (List ℕ)) (whole : Bool) (before after : ToTell) → after ≡ joined before (text_told (told_if whole said)) → TellsOf now path before after
plainly said short now path whole before after tells = tells_refused now path said (inl short) whole before after tells

-- what a command is told
pub own_tells : (capacity : ℕ) (knows : Knowing) (committed now : Content) (shrunk : Option ℕ) (old : Outside) (asked : Asked) (before after : ToTell) (space : Space) (new : Outside) (answered : Bool) → OwnDone answered capacity knows committed now shrunk old asked before after space new → answered ≡ true
    → TellsPlain before after
own_tells capacity knows committed now shrunk old asked before after space new true own is = (own.0, own.1, own.2 ∙ ap (λ (t : List ℕ). joined before (record { replies = t; changes = own.1 })) (sym (plain_text own.0)))
own_tells capacity knows committed now shrunk old asked before after space new false own is = absurd (true≢false (sym is))

pub told_plain : (said : Reply) (whole : Bool) (before after : ToTell) → after ≡ joined before (text_told (told_if whole (told.Plain said))) → TellsPlain before after
told_plain said true before after tells = (said, [], tells)
told_plain said false before after tells = (reply.No refusal.OutOfMemory, [], tells)

-- ---- stretches

module _ (capacity : ℕ) (shrunk : Option ℕ) (committed now : Content) (old : Outside) (knows : Knowing) (space : Space) (mid : Outside) (looked : HasLooked capacity knows committed now shrunk old space mid) where
  -- a line behind a look
  pub line_behind : (number : ℕ) (from to : Spoken) (line : List ℕ) (before after : ToTell) (served : Bool) (knows_new : Knowing) (new : Space) (end : Outside) → SpeaksLine served capacity knows_new committed now shrunk mid number from to line before after new end
      → SpeaksLine served capacity knows_new committed now shrunk old number from to line before after new end
  line_behind number from to line before after served knows_new new end its =
      let on = its.goes in record {
        said = its.said;
        told = its.told;
        goes = record {
          speech = on.speech;
          last = on.last;
          next = on.next;
          goes =
              goes_both capacity shrunk committed now old [] on.speech.run committed now space mid looked.goes on.last on.next new end
              (subst (λ (s : Option ℕ). Goes capacity s None committed now mid on.speech.run on.last on.next new end) (sym (shrunk_in-none shrunk)) on.goes);
          heads = on.heads;
          known = on.known;
          asked = on.asked;
          are = on.are;
          told = on.told;
          speaks = on.speaks;
        };
      }

  pub stops_behind : (number : ℕ) (from to : Spoken) (lines : List (List ℕ)) (end : Outside) → StopsSpeaking capacity committed now shrunk mid number from to lines end → StopsSpeaking capacity committed now shrunk old number from to lines end
  stops_behind number from to lines end its = record {
    speech = its.speech;
    asked = its.asked;
    are = its.are;
    speaks = its.speaks;
    stops =
        goes_stops capacity shrunk committed now old [] its.speech.run committed now space mid looked.goes end
        (subst (λ (s : Option ℕ). Stops capacity s committed now mid its.speech.run end) (sym (shrunk_in-none shrunk)) its.stops);
  }

  -- a line that was refused
  module _ (number : ℕ) (line : List ℕ) (handles : List OpenFile) (law : StepKeepsTrees) (law_few : StayFew) where
    short_line : (whole : Bool) (before after : ToTell) → after ≡ joined before (text_told (told_if whole memory_missing)) → SpeaksLine true capacity knows committed now shrunk old number (spoke_at handles) (spoke_at handles) line before after space mid
    short_line whole before after tells =
        line_behind number (spoke_at handles) (spoke_at handles) line before after true knows space mid
        (says_either capacity shrunk committed now mid number line handles law law_few memory_missing (either (is_kind_line line) refl) knows space (stands_looked capacity shrunk committed now old knows space mid looked) whole before after tells)
      where
        either : (b : Bool) → is_kind_line line ≡ b → IsErrandOf handles line (errand.Says memory_missing) ⊎ IsKindErrandOf line (errand.Says memory_missing)
        either true is = inr (is, inr refl)
        either false is = inl (is, inr refl)

    refused_turned : (path : List (List ℕ)) → WritesApart line path → IsCompressedAs now path true → AreLineTurned now handles line [] told.Compressed handles
    refused_turned path writes is start stays =
        let file = found_file now path is in record {
          turn = told_turn (machine_at now handles) told.Compressed;
          is =
              inr (inr (record {
                path = path;
                writes = writes.0;
                apart = writes.1;
                file = file.0;
                found = file.1;
                none = refl;
                is = refl;
                tree = none_leads start (tree_of now) stays.fits;
              }));
          says = refl;
          handles_are = refl;
          keeps = (stays.own, stays.have);
        }

    compressed_line : (path : List (List ℕ)) → WritesApart line path → IsCompressedAs now path true → (before after : ToTell) → after ≡ joined before (text_told told.Compressed)
        → SpeaksLine true capacity knows committed now shrunk old number (spoke_at handles) (spoke_at handles) line before after space mid
    compressed_line path writes is before after tells =
        serves_line capacity shrunk committed now old number line handles [] tt law_few told.Compressed handles (refused_turned path writes is) [] knows committed now space mid before after looked.goes looked.heads
        (subst (λ (s : Option ℕ). knows committed now s) (sym (shrunk_in-none shrunk)) looked.known) tells

    pub refused_line : (written : Option (List (List ℕ))) → ((path : List (List ℕ)) → written ≡ Some path → WritesApart line path) → (said : SessionReply) → IsJudged now written (Some said) → (whole : Bool) (before after : ToTell)
        → after ≡ joined before (text_told (told_if whole said)) → SpeaksLine true capacity knows committed now shrunk old number (spoke_at handles) (spoke_at handles) line before after space mid
    refused_line None writes said judged whole before after tells = absurd (cc judged)
    refused_line (Some path) writes said (inl short) whole before after tells = short_line whole before after (tells ∙ ap (λ (s : SessionReply). joined before (text_told (told_if whole s))) short)
    refused_line (Some path) writes said (inr is) true before after tells = compressed_line path (writes path refl) is.1 before after (tells ∙ ap (λ (s : SessionReply). joined before (text_told s)) is.0)
    refused_line (Some path) writes said (inr is) false before after tells = short_line false before after tells
