-- A volume that goes on within a batch: what it stands for, and what its calls make of it.
use Rattle.std.specs.Prelude.{◌≡◌, ◌≢◌, codes, ℕ, Bool, true, false, List, [], ◌∷◌, Option, None}
use Rattle.hfs_volume.specs.declared.asked.Asked.{Asked}
use Rattle.sector_disk.specs.Space.{Space}
use Rattle.jnl_format.specs.Recovery.{Content}
use Rattle.hfs_language.specs.declared.reply.Change.{Change}
use Rattle.hfs_language.specs.declared.reply.Reply.{Reply}
use Rattle.hfs_volume.specs.Content.{volume_of}
use Rattle.volume_runs.specs.Rest.{IsAtRest, IsTidiedFor}
use Rattle.volume_runs.specs.Run.{Entry, IsServed, shrunk_in, shrunk_after, lines_of, wanted_in, ArePlain}
use Rattle.volume_runs.specs.Told.{changes_in}
use Rattle.hfs_serving.specs.Grounds.{KeepsHeading}
use Rattle.hfs_serving.specs.Outside.{Outside}
use Rattle.hfs_serving.specs.Runs.{KeepsPlace, LeadsToRest}
use Rattle.hfs_serving.specs.Said.{joined, said_of}
use Rattle.hfs_serving.specs.Serving.{IsDurable, IsRead, IsAsDurable, Goes, Stops}
use Rattle.hfs_serving.specs.declared.volume.ToTell.{ToTell}
use Rattle.hfs_serving.specs.declared.volume.Next.{Next}
use Rattle.hfs_serving.specs.declared.volume.Next.TheVariants as next
use Rattle.hfs_serving.specs.declared.volume.Performed.{Performed}
use Rattle.hfs_serving.specs.declared.volume.Performed.TheVariants as performed
use Rattle.hfs_serving.specs.declared.volume.Step.{Step}
use Rattle.hfs_serving.specs.declared.volume.Step.TheVariants as step

-- what a volume knows of itself: what was committed last, what it stands for, and the file that was shrunk last
abbrev pub Knowing : Type 1
Knowing = Content → Content → Option ℕ → Type 0

-- The volume stands for this content over its space, on which that content was committed last.
pub record Stands (knows : Knowing) (committed now : Content) (shrunk : Option ℕ) (space : Space) (outside : Outside) : Type 0 where
  pub known : knows committed now shrunk
  pub below : IsDurable committed space
  pub reads : IsRead now space
  pub heads : KeepsHeading space
  pub leaves : (recovered : Content) → outside.leaves recovered → IsAsDurable space recovered

-- for some capacity, contents and shrunk file it does
abbrev pub SomeStands : (ℕ → Knowing) → Space → Outside → Type 0
SomeStands knows space outside = (capacity : ℕ) × (committed : Content) × (now : Content) × (shrunk : Option ℕ) × Stands (knows capacity) committed now shrunk space outside

-- ---- what one call makes

-- it only looked
pub record Stays (knows : Knowing) (committed now : Content) (shrunk : Option ℕ) (space : Space) : Type 0 where
  pub reads : IsRead now space
  pub heads : KeepsHeading space
  pub known : knows committed now shrunk

-- a step of housekeeping was made, ahead of this command, if there is one
pub record Tidied (capacity : ℕ) (asked : Option Asked) (knows : Knowing) (committed now : Content) (shrunk : Option ℕ) (space : Space) : Type 0 where
  pub next : Content
  pub tidied : IsTidiedFor capacity shrunk asked now next
  pub place : KeepsPlace now next
  pub reads : IsRead next space
  pub heads : KeepsHeading space
  pub known : knows committed next shrunk

-- what a step of housekeeping answers
abbrev pub TidiesTo : Next → ℕ → Knowing → Content → Content → Option ℕ → Space → Type 0
TidiesTo next.Rest capacity knows committed now shrunk space = Stays knows committed now shrunk space × IsAtRest capacity shrunk (volume_of now)
TidiesTo next.Made capacity knows committed now shrunk space = Tidied capacity None knows committed now shrunk space
TidiesTo next.CommitFirst capacity knows committed now shrunk space = Stays knows committed now shrunk space

-- the line was answered
abbrev pub is_answered : Step → Bool
is_answered step.Answered = true
is_answered step.Again = false
is_answered step.CommitFirst = false
is_answered step.Forgone = true

-- the line wants a commit before it
abbrev pub wants_commit : Step → Bool
wants_commit step.Answered = false
wants_commit step.Again = false
wants_commit step.CommitFirst = true
wants_commit step.Forgone = false

-- the command ahead of which housekeeping goes on: none as long as the line may be left, and else the line's own
abbrev pub ahead_of : Bool → Option Asked → List ℕ → Option Asked
ahead_of true own line = None
ahead_of false own line = wanted_in own line

-- A command was done, or a resource is missing for it, which stands by itself, or which a line with this number spells: this is its reply, and what it
-- changed.
pub record Does (capacity : ℕ) (knows : Knowing) (committed now : Content) (shrunk : Option ℕ) (space : Space) (number : ℕ) (own : Option Asked) (line : List ℕ) (said : Reply) (changes : List Change) : Type 0 where
  pub entry : Entry
  pub line_is : entry.line ≡ line
  pub own_is : entry.own ≡ own
  pub before : entry.before ≡ now
  pub served : IsServed capacity entry
  pub place : KeepsPlace now entry.after
  pub reads : IsRead entry.after space
  pub heads : KeepsHeading space
  pub known : knows committed entry.after (shrunk_after shrunk entry)
  pub reply : entry.reply ≡ said
  pub told : changes_in number (entry ∷ []) ≡ changes

-- what a step of a command comes to, which stands by itself, or which this line spells: it is done, a step of housekeeping was made ahead of it, or a commit is wanted first
abbrev pub PerformsTo : Performed → ℕ → Knowing → Content → Content → Option ℕ → Space → ℕ → Option Asked → List ℕ → Type 0
PerformsTo (performed.Done said changes) capacity knows committed now shrunk space number own line = Does capacity knows committed now shrunk space number own line said changes
PerformsTo performed.Again capacity knows committed now shrunk space number own line = Tidied capacity (wanted_in own line) knows committed now shrunk space
PerformsTo performed.CommitFirst capacity knows committed now shrunk space number own line = Stays knows committed now shrunk space

-- what it is to have heard a reply to a command, and what it changed
abbrev pub Hearing : Type 1
Hearing = Reply → List Change → Type 0

-- what a try of such a command comes to: its reply was heard, or nothing was, since a step of housekeeping was made ahead of it or a commit is wanted
-- first
abbrev pub AnswersTo : Step → ℕ → Knowing → Content → Content → Option ℕ → Space → ℕ → Option Asked → List ℕ → Hearing → Type 0 → Type 0
AnswersTo step.Answered capacity knows committed now shrunk space number own line hears same = (said : Reply) × (changes : List Change) × hears said changes × Does capacity knows committed now shrunk space number own line said changes
AnswersTo step.Again capacity knows committed now shrunk space number own line hears same = same × Tidied capacity (wanted_in own line) knows committed now shrunk space
AnswersTo step.CommitFirst capacity knows committed now shrunk space number own line hears same = same × Stays knows committed now shrunk space
AnswersTo step.Forgone capacity knows committed now shrunk space number own line hears same = ⊥

-- ---- stretches within a batch

-- Its entries are these lines, of which the first has this number, and this is to be told of them.
pub record GoesOn (capacity : ℕ) (knows : Knowing) (committed now : Content) (shrunk : Option ℕ) (old : Outside) (number : ℕ) (lines : List (List ℕ)) (said : ToTell) (space : Space) (new : Outside) : Type 0 where
  pub more : List Entry
  pub last : Content
  pub next : Content
  pub goes : Goes capacity shrunk None committed now old more last next space new
  pub heads : KeepsHeading space
  pub known : knows last next (shrunk_in shrunk more)
  pub plain : ArePlain more
  pub asked : lines_of more ≡ lines
  pub told : said_of number more ≡ said

-- Its one entry is a command that stands by itself, or that this line spells, or the line, and this is the reply and what it changed.
pub record DoesOn (capacity : ℕ) (knows : Knowing) (committed now : Content) (shrunk : Option ℕ) (old : Outside) (number : ℕ) (own : Option Asked) (line : List ℕ) (said : Reply) (changes : List Change) (space : Space) (new : Outside) : Type 0 where
  pub entry : Entry
  pub last : Content
  pub goes : Goes capacity shrunk None committed now old (entry ∷ []) last entry.after space new
  pub heads : KeepsHeading space
  pub known : knows last entry.after (shrunk_in shrunk (entry ∷ []))
  pub line_is : entry.line ≡ line
  pub own_is : entry.own ≡ own
  pub reply : entry.reply ≡ said
  pub told : changes_in number (entry ∷ []) ≡ changes

-- without an entry, ahead of this command, if there is one
pub record GoesTidy (capacity : ℕ) (asked : Option Asked) (knows : Knowing) (committed now : Content) (shrunk : Option ℕ) (old : Outside) (space : Space) (new : Outside) : Type 0 where
  pub last : Content
  pub next : Content
  pub goes : Goes capacity shrunk asked committed now old [] last next space new
  pub heads : KeepsHeading space
  pub known : knows last next shrunk

-- the same, and housekeeping came to rest on the way
pub record GoesRested (capacity : ℕ) (asked : Option Asked) (knows : Knowing) (committed now : Content) (shrunk : Option ℕ) (old : Outside) (space : Space) (new : Outside) : Type 0 where
  pub tidy : GoesTidy capacity asked knows committed now shrunk old space new
  pub rests : LeadsToRest capacity shrunk asked now [] tidy.next

-- a stretch that a fault ended, after entries of these lines
pub record StopsOn (capacity : ℕ) (committed now : Content) (shrunk : Option ℕ) (old : Outside) (lines : List (List ℕ)) (new : Outside) : Type 0 where
  pub more : List Entry
  pub plain : ArePlain more
  pub asked : lines_of more ≡ lines
  pub stops : Stops capacity shrunk committed now old more new

-- A command was answered, which stands by itself, or which this line spells, or it was left with nothing done for it. Housekeeping went on before that.
abbrev pub ServesCommand : Bool → ℕ → Knowing → Content → Content → Option ℕ → Outside → ℕ → Option Asked → List ℕ → Hearing → Type 0 → Space → Outside → Type 0
ServesCommand true capacity knows committed now shrunk old number own line hears same space new = (said : Reply) × (changes : List Change) × hears said changes × DoesOn capacity knows committed now shrunk old number own line said changes space new
ServesCommand false capacity knows committed now shrunk old number own line hears same space new = same × GoesTidy capacity None knows committed now shrunk old space new

-- the line, where it was answered
abbrev pub line_if : Bool → List ℕ → List (List ℕ)
line_if true line = line ∷ []
line_if false line = []

-- A line was served, or was left, with nothing done for it: a commit is wanted before it. Housekeeping went on before that. `before` and `after` are what is to be told.
pub record ServesLine (answered : Bool) (capacity : ℕ) (knows : Knowing) (committed now : Content) (shrunk : Option ℕ) (old : Outside) (number : ℕ) (line : List ℕ) (before after : ToTell) (space : Space) (new : Outside) : Type 0 where
  pub said : ToTell
  pub told : after ≡ joined before said
  pub goes : GoesOn capacity knows committed now shrunk old number (line_if answered line) said space new

-- the line that asks that all be made durable
abbrev pub sync_line : List ℕ
sync_line = codes "sync"
