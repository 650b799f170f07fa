-- Lines that read an open file by its handle.
use Rattle.std.proofs.Common.{◌≡◌, ◌⊎◌, ◌≤◌, ℕ, Bool, true, false, List, [], inl, inr, refl, sym, ◌∙◌, ap, subst, arith}
use Rattle.std.specs.Prelude.{drop, take, None, Option, Some, Result, Ok, Err}
use Rattle.std.proofs.lemmas.Bool.{ltb-false}
use Rattle.sector_disk.specs.Space.{Space}
use Rattle.jnl_format.specs.Recovery.{Content}
use Rattle.hfs_language.specs.declared.refusal.Refusal.{Refusal}
use Rattle.hfs_language.specs.declared.refusal.Refusal.TheVariants as refusal
use Rattle.hfs_language.specs.declared.reply.Reply.{Reply}
use Rattle.hfs_language.specs.declared.reply.Reply.TheVariants as reply
use Rattle.hfs_model.specs.Plain.{fresh_tree, node_at}
use Rattle.hfs_model.specs.Step.{most_bytes}
use Rattle.hfs_model.specs.declared.plain.PlainNode.{PlainNode}
use Rattle.hfs_volume.specs.Books.{StepKeepsTrees}
use Rattle.hfs_volume.specs.TreeOf.{tree_of}
use Rattle.volume_runs.specs.Run.{shrunk_in}
use Rattle.hfs_serving.specs.Going.{Knowing, Stands, Stays, line_if}
use Rattle.hfs_serving.specs.Outside.{Outside}
use Rattle.hfs_serving.specs.Said.{joined}
use Rattle.hfs_serving.specs.Serving.{Stops, Touches}
use Rattle.hfs_serving.specs.Speaking.{SpeaksLine, StopsSpeaking}
use Rattle.hfs_serving.specs.declared.volume.ToTell.{ToTell}
use Rattle.hfs_serving.proofs.Batches.{stops_there, touch_goes, touch_stops}
use Rattle.hfs_serving.proofs.Leading.{leads_none}
use Rattle.hfs_serving.proofs.Lists.{shrunk_in-none}
use Rattle.open_files.specs.Lines.{asks_of}
use Rattle.open_files.specs.Machine.{bytes_of}
use Rattle.open_files.specs.declared.act.OpenFile.{OpenFile}
use Rattle.open_files.specs.declared.act.SessionLine.{SessionLine}
use Rattle.open_files.specs.declared.act.SessionReply.{SessionReply}
use Rattle.open_files.specs.declared.act.SessionReply.TheVariants as told
use Rattle.session_lines.specs.declared.errands.Errand.TheVariants as errand
use Rattle.session_lines.specs.Errands.{IsErrandOf, errand_for}
use Rattle.session_lines.specs.Readings.{HasRead}
use Rattle.session_lines.specs.Said.{text_told, told_if}
use Rattle.session_lines.specs.Turns.{BrokenSessions, spoke_at}
use Rattle.session_lines.proofs.Answered.{Turned, act_reads, reads_line, says_line}
use Rattle.session_lines.proofs.Closing.{named_stands}
use Rattle.session_lines.proofs.ClosedLines.{only_told, short_turned, stops_nothing, told_short}
use Rattle.session_lines.proofs.Kept.{StayFew}
use Rattle.session_lines.proofs.Served.{AreTurned, machine_at, serves_turned}

-- a line reads no more bytes than one command does
pub reads_few : (handles : List OpenFile) (line : List ℕ) (id from long : ℕ) → IsErrandOf handles line (errand.Reads id from long) → long ≤ 65536
reads_few handles line id from long (session_line, inr short) = absurd (cc short)
reads_few handles line id from long (session_line, inl is) = by (asks_of line) (sym is)
  where
    by : (asks : Result SessionLine Refusal) → errand_for handles asks ≡ errand.Reads id from long → long ≤ 65536
    by (Err why) it = absurd (cc it)
    by (Ok asks) it = ltb-false most_bytes long (act_reads (record { tree = fresh_tree; handles = handles }) asks.session asks.act id from long it).few

-- what is found is one thing
pub some_read : (found : Option (List ℕ)) (bytes wanted : List ℕ) → found ≡ Some bytes → found ≡ Some wanted → reply.Content bytes ≡ reply.Content wanted
some_read found bytes wanted is its = ap (λ (o : Option (List ℕ)). reply.Content (bytes_or o)) (sym is ∙ its)
  where
    bytes_or : Option (List ℕ) → List ℕ
    bytes_or None = []
    bytes_or (Some l) = l

pub none_read : (found : Option (List ℕ)) (wanted : List ℕ) → found ≡ None → found ≡ Some wanted → ⊥
none_read found wanted none its = cc (sym none ∙ its)

-- ---- the stretch

module _ (capacity : ℕ) (shrunk : Option ℕ) (committed now : Content) (old : Outside) (knows : Knowing) (space : Space) (stands : Stands knows committed now shrunk space old) (knows_new : Knowing) (new : Space) (after : Outside) (touches : Touches committed space old new after) where
  pub has_read : (id from long : ℕ) (said : Reply) → Stays knows_new committed now shrunk new
      → (said ≡ reply.No refusal.OutOfMemory) ⊎ ((file : PlainNode) → node_at (tree_of now) id ≡ Some file → file.folder ≡ false → said ≡ reply.Content (take long (drop from file.bytes)))
      → HasRead id from long capacity knows_new committed now shrunk old new after said
  has_read id from long said stays bytes = record {
    goes = touch_goes capacity shrunk committed now old space stands.below stands.reads [] now new after touches (leads_none capacity shrunk now) stays.reads;
    heads = stays.heads;
    known = subst (λ (s : Option ℕ). knows_new committed now s) (sym (shrunk_in-none shrunk)) stays.known;
    bytes = bytes;
  }

  pub read_stops : Stops capacity shrunk committed now old [] after
  read_stops = touch_stops capacity shrunk committed now old space stands.below stands.reads new after touches

-- ---- the line

module _ (capacity : ℕ) (shrunk : Option ℕ) (committed now : Content) (old : Outside) (number : ℕ) (line : List ℕ) (handles : List OpenFile) where
  module _ (id from long : ℕ) (comes : IsErrandOf handles line (errand.Reads id from long)) (said : Reply)
      (bytes : (said ≡ reply.No refusal.OutOfMemory) ⊎ ((file : PlainNode) → node_at (tree_of now) id ≡ Some file → file.folder ≡ false → said ≡ reply.Content (take long (drop from file.bytes))))
    where
      read_at : AreTurned now handles line [] (told.Plain said) handles
      read_at start stays = by bytes
        where
          by : (said ≡ reply.No refusal.OutOfMemory) ⊎ ((file : PlainNode) → node_at (tree_of now) id ≡ Some file → file.folder ≡ false → said ≡ reply.Content (take long (drop from file.bytes))) → Turned start (machine_at now handles) line [] (told.Plain said) handles
          by (inl short) = subst (λ (r : Reply). Turned start (machine_at now handles) line [] (told.Plain r) handles) (sym short) (short_turned capacity shrunk committed now old number line handles start stays)
          by (inr its) =
              let reads = reads_line start (machine_at now handles) line stays.fits (errand.Reads id from long) comes.1 id from long refl in
              let opened = named_stands handles reads.session reads.handle id reads.file in
              let entry = stays.have opened.0 opened.1 in
              let node = (stays.own.plain.named entry.0 entry.1).named in
              let there : node_at (tree_of now) id ≡ Some node.0 = ap (node_at (tree_of now)) (sym (entry.2 ∙ opened.2)) ∙ node.1 in
              let same : reply.Content (take long (drop from (bytes_of (node_at (tree_of now) id)))) ≡ said = ap (λ (o : Option PlainNode). reply.Content (take long (drop from (bytes_of o)))) there ∙ sym (its node.0 there (node.2 ∙ entry.3)) in
              subst (λ (r : Reply). Turned start (machine_at now handles) line [] (told.Plain r) handles) same reads.turned

  pub read_line : StepKeepsTrees → StayFew → (id from long : ℕ) → IsErrandOf handles line (errand.Reads id from long) → (knows : Knowing) (space : Space) (new : Outside) (said : Reply) → HasRead id from long capacity knows committed now shrunk old space new said
      → (whole : Bool) (before after : ToTell) → after ≡ joined before (text_told (told_if whole (told.Plain said))) → SpeaksLine true capacity knows committed now shrunk old number (spoke_at handles) (spoke_at handles) line before after space new
  read_line law law_few id from long comes knows space new said read true before after tells =
      serves_turned capacity shrunk committed now old number line handles [] tt comes.0 law law_few (told.Plain said) handles (read_at id from long comes said read.bytes) [] knows committed now space new before after read.goes read.heads read.known tells
  read_line law law_few id from long comes knows space new said read false before after tells =
      serves_turned capacity shrunk committed now old number line handles [] tt comes.0 law law_few (told.Plain (reply.No refusal.OutOfMemory)) handles (short_turned capacity shrunk committed now old number line handles) [] knows committed now space new before after read.goes read.heads read.known tells

  -- A line that is told something at once.
  pub says_told : StepKeepsTrees → StayFew → (said : SessionReply) → IsErrandOf handles line (errand.Says said) → (knows : Knowing) (space : Space) → Stands knows committed now shrunk space old → (whole : Bool) (before after : ToTell)
      → after ≡ joined before (text_told (told_if whole said)) → SpeaksLine true capacity knows committed now shrunk old number (spoke_at handles) (spoke_at handles) line before after space old
  says_told law law_few said comes knows space stands true before after tells =
      only_told capacity shrunk committed now old number line handles knows space stands comes.0 law law_few said handles (λ start stays. says_line start (machine_at now handles) line stays.fits (errand.Says said) comes.1 said refl) before after tells
  says_told law law_few said comes knows space stands false before after tells = told_short capacity shrunk committed now old number line handles knows space stands comes.0 law law_few before after tells

  pub read_untold : (id from long : ℕ) (knows : Knowing) (space : Space) (new : Outside) (said : Reply) → HasRead id from long capacity knows committed now shrunk old space new said
      → (begun : Bool) × StopsSpeaking capacity committed now shrunk old number (spoke_at handles) BrokenSessions (line_if begun line) new
  read_untold id from long knows space new said read = stops_nothing capacity shrunk committed now old number line handles new (stops_there capacity shrunk committed now old [] committed now space new read.goes)
