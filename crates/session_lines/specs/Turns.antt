-- Lines of sessions, each with the entries that were made for it and what it is told.
use Rattle.std.specs.Prelude.{◌≡◌, ◌⊎◌, ◌<◌, ◌≤◌, ◌+◌, ◌^◌, ℕ, true, false, List, [], ◌∷◌, ◌++◌, length, map, reverse, take, Ok}
use Rattle.jnl_format.specs.Recovery.{Content}
use Rattle.hfs_volume.specs.TreeOf.{tree_of}
use Rattle.hfs_volume.specs.declared.asked.Asked.{Asked}
use Rattle.hfs_volume.specs.declared.asked.Asked.TheVariants.{Kind, Plain}
use Rattle.hfs_language.specs.declared.command.Command.{Command}
use Rattle.hfs_language.specs.declared.refusal.Refusal.{Refusal}
use Rattle.hfs_language.specs.declared.refusal.Refusal.TheVariants as refusal
use Rattle.hfs_language.specs.declared.reply.Reply.{Reply}
use Rattle.hfs_language.specs.declared.reply.Reply.TheVariants as reply
use Rattle.hfs_model.specs.declared.plain.PlainNode.{PlainNode}
use Rattle.hfs_model.specs.declared.plain.PlainTree.{PlainTree}
use Rattle.volume_runs.specs.Run.{Entry, content_after, tree_after}
use Rattle.hfs_serving.specs.Flags.{file_seen}
use Rattle.hfs_serving.specs.Runs.{Answer}
use Rattle.hfs_serving.specs.Speaking.{Speech, Spoken}
use Rattle.open_files.specs.declared.act.Act.TheVariants as act
use Rattle.open_files.specs.declared.act.OpenFile.{OpenFile}
use Rattle.open_files.specs.declared.act.SessionReply.TheVariants as told
use Rattle.open_files.specs.Keeping.{is_keeping_path, release, releases}
use Rattle.open_files.specs.Lines.{asks_of, session_text}
use Rattle.open_files.specs.Machine.{Machine, Turn, short_turn, turn_of}
use Rattle.link_kinds.specs.Lines.{is_kind_line, kind_line_of}
use Rattle.link_kinds.specs.declared.kinds.KindCommand.TheVariants as command
use Rattle.session_lines.specs.KindTurns.{IsKindTurn, told_turn}
use Rattle.session_lines.specs.Made.{AreMade, SeesAs}
use Rattle.session_lines.specs.Owning.{HaveEntries, IsOwnTree}
use Rattle.session_lines.specs.Skipping.{IsSkipped}
use Rattle.session_lines.specs.Writing.{WritesTo}

-- the line asks for this
abbrev pub AsksFor : List ℕ → Asked → Type 0
AsksFor line (Plain asked) = (session : ℕ) × (asks_of line ≡ Ok (record { session = session; act = act.Plain asked }))
AsksFor line (Kind asked) = (session : ℕ) × (kind_line_of line ≡ Ok (record { session = session; command = command.Edit asked }))

-- what a line does on the machine, whose commands got these replies; where memory is missing for its answer, or a look isn't done at all, it does
-- nothing and is told why
abbrev pub skipped_turn : Machine → Refusal → Turn
skipped_turn machine why = record (short_turn machine) { says = told.Plain (reply.No why) }

-- a line that is refused is told that memory was missing, where there is too little to tell it why
abbrev pub IsTurnInShort : Turn → Turn → Type 0
IsTurnInShort turn told_short = ((why : Refusal) × (turn.says ≡ told.Plain (reply.No why))) × (told_short ≡ record turn { says = told.Plain (reply.No refusal.OutOfMemory) })

-- what a line comes to: the machine's turn by these replies, or one of a line that is told that a look of it wasn't done, or one told in short
abbrev pub IsTurnOf : Machine → List ℕ → List Reply → Turn → Type 0
IsTurnOf machine line replies turn =
    (turn ≡ turn_of machine (asks_of line) replies) ⊎ ((why : Refusal) × IsSkipped why × (turn ≡ skipped_turn machine why)) ⊎ IsTurnInShort (turn_of machine (asks_of line) replies) turn

-- A line was served from a content: these entries were made for it, as the machine of sessions wants it, and lead to its next tree. At none of them
-- users see anything else than before the line or behind it.
pub record IsTurn (start : Content) (machine : Machine) (line : List ℕ) (own : List Entry) (turn : Turn) : Type 0 where
  pub replies : List Reply
  pub is : IsTurnOf machine line replies turn
  pub made : AreMade own turn.did replies
  pub tree : tree_after start own ≡ turn.next.tree
  pub between : (count : ℕ) → count ≤ length own → SeesAs start (take count own) machine.tree ⊎ SeesAs start (take count own) turn.next.tree

-- A line was begun, and a fault ended the run in it: these are the first of its entries.
pub record IsPart (start : Content) (machine : Machine) (line : List ℕ) (own : List Entry) (turn : Turn) : Type 0 where
  pub replies : List Reply
  pub others : List Reply
  pub is : IsTurnOf machine line (replies ++ others) turn
  pub done : List Command
  pub rest : List Command
  pub did_is : turn.did ≡ done ++ rest
  pub made : AreMade own done replies
  pub between : (count : ℕ) → count ≤ length own → SeesAs start (take count own) machine.tree ⊎ SeesAs start (take count own) turn.next.tree

-- A line that would change bytes of a file was told that macOS keeps the file compressed: nothing was done, and no entry was made.
pub record IsCompressedTurn (start : Content) (machine : Machine) (line : List ℕ) (own : List Entry) (turn : Turn) : Type 0 where
  pub path : List (List ℕ)
  pub writes : WritesTo line path
  pub apart : is_keeping_path path ≡ false
  pub file : PlainNode
  pub found : file_seen machine.tree path ≡ Ok file
  pub none : own ≡ []
  pub is : turn ≡ told_turn machine told.Compressed
  pub tree : tree_after start own ≡ turn.next.tree

-- A line was served: one of sessions, or one on a link or a resource fork; or it was refused since macOS keeps its file compressed.
abbrev pub IsLineTurn : Content → Machine → List ℕ → List Entry → Turn → Type 0
IsLineTurn start machine line own turn =
    ((is_kind_line line ≡ false) × IsTurn start machine line own turn) ⊎ ((is_kind_line line ≡ true) × IsKindTurn start machine line own turn) ⊎ IsCompressedTurn start machine line own turn

-- A line of sessions was begun, and a fault ended the run in it. (one on a link or a resource fork has one entry at most)
abbrev pub IsLinePart : Content → Machine → List ℕ → List Entry → Turn → Type 0
IsLinePart start machine line own turn = (is_kind_line line ≡ false) × IsPart start machine line own turn

-- Lines were served, one after the other, from this machine and behind so many entries: with these entries and answers, up to that machine. Behind
-- each line every file that is open has an entry. The last may be one that a fault ended, of which nothing is told.
pub data AreTurns : Content → Machine → ℕ → List (List ℕ) → List Entry → List Answer → Machine → Type 0 where
  no_turn : (start : Content) (machine : Machine) (before : ℕ) → AreTurns start machine before [] [] [] machine
  part_turn : (start : Content) (machine : Machine) (before : ℕ) (line : List ℕ) (own : List Entry) (turn : Turn) → IsLinePart start machine line own turn → AreTurns start machine before (line ∷ []) own [] turn.next
  one_turn : (start : Content) (machine : Machine) (before : ℕ) (line : List ℕ) (own : List Entry) (turn : Turn) (lines : List (List ℕ)) (run : List Entry) (answers : List Answer) (last : Machine) → IsLineTurn start machine line own turn
      → HaveEntries turn.next.tree turn.next.handles → AreTurns (content_after start own) turn.next (before + length own) lines run answers last
      → AreTurns start machine before (line ∷ lines) (own ++ run) (record { text = session_text turn.says; upto = before + length own } ∷ answers) last

-- a machine of which no file is open
abbrev pub machine_on : PlainTree → Machine
machine_on tree = record { tree = tree; handles = [] }

-- ---- what is spoken

-- Of the files that an earlier run kept some were released, the first of these commands, and these are left. Users see nothing of it.
pub record AreReleased (start : Content) (released : List Entry) (left : List Command) : Type 0 where
  pub done : List Command
  pub replies : List Reply
  pub are : releases (tree_of start) ≡ done ++ left
  pub made : AreMade released done replies
  pub unseen : (count : ℕ) → count ≤ length released → SeesAs start (take count released) (tree_after start released)

-- A run of lines came so far, from this content: files of an earlier run were released, and behind the last of them lines were served, of which a fault
-- may have cut the last one short.
pub record BrokenSessions (start : Content) (speech : Speech) : Type 0 where
  pub released : List Entry
  pub left : List Command
  pub own : List Entry
  pub last : Machine
  pub run_is : speech.run ≡ released ++ own
  pub releases_are : AreReleased start released left
  pub first : (left ≡ []) ⊎ (speech.lines ≡ [])
  pub turns : AreTurns (content_after start released) (machine_on (tree_after start released)) (length released) speech.lines own speech.answers last

-- Each of the lines was served whole: this is what is open behind them, and these files are left to be released, the last one first.
pub record SpokeSessions (start : Content) (speech : Speech) (handles : List OpenFile) (files : List ℕ) : Type 0 where
  pub spoken : BrokenSessions start speech
  pub answered : length speech.answers ≡ length speech.lines
  pub tree : spoken.last.tree ≡ tree_after start speech.run
  pub handles_are : spoken.last.handles ≡ handles
  pub left_are : spoken.left ≡ map release (reverse files)
  pub own : IsOwnTree spoken.last.tree
  pub few : spoken.last.tree.next_id < 2 ^ 32
  pub named : HaveEntries spoken.last.tree handles

-- what is spoken where these handles are open and these files are left to be released
abbrev pub spoke_with : List OpenFile → List ℕ → Spoken
spoke_with handles files start speech = SpokeSessions start speech handles files

-- and where nothing is left
abbrev pub spoke_at : List OpenFile → Spoken
spoke_at handles start speech = SpokeSessions start speech handles []

-- A run may begin on this tree: its keeping folder is the sessions' own, and these are the files that it keeps, the last one first.
pub record MayBegin (tree : PlainTree) (files : List ℕ) : Type 0 where
  pub own : IsOwnTree tree
  pub few : tree.next_id < 2 ^ 32
  pub files_are : releases tree ≡ map release (reverse files)
