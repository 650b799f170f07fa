-- Talks that go on.
use Rattle.std.proofs.Common.{◌≡◌, ◌++◌, ◌⊎◌, ℕ, List, [], ◌∷◌, map, refl, sym, ◌∙◌, ap, ⊎_elim}
use Rattle.std.specs.Prelude.{Bool, IsTrue, Result, Ok, Err, if◌then◌else◌}
use Rattle.std.specs.List.{AllByRecursion}
use Rattle.std.proofs.lemmas.List.{append-nil, append_assoc, map-append}
use Rattle.jnl_format.specs.Recovery.{Content}
use Rattle.hfs_language.specs.declared.command.Command.{Command}
use Rattle.hfs_language.specs.declared.reply.Reply.{Reply}
use Rattle.hfs_language.specs.declared.refusal.Refusal.{Refusal}
use Rattle.hfs_language.specs.declared.refusal.Refusal.TheVariants as refusal
use Rattle.volume_runs.specs.Run.{reply_to}
use Rattle.volume_look.specs.Talk.{Heard, Hears, HearsEach, HearsRight, IsRight, Talk, allows, taken}

all_append : {X : Type 0} (P : X → Type 0) (xs ys : List X) → AllByRecursion P xs → AllByRecursion P ys → AllByRecursion P (xs ++ ys)
all_append P [] ys none all = all
all_append P (x ∷ xs) ys some all = (some.0, all_append P xs ys some.1 all)

-- ---- replies that are right

-- nothing was heard
pub right_none : (capacity : ℕ) (content : Content) (old new : Talk) → new.heard ≡ old.heard → HearsRight capacity content old new
right_none capacity content old new same = record { list = []; heard = same ∙ sym (append-nil old.heard); right = tt }

-- one reply was heard
pub right_one : (capacity : ℕ) (content : Content) (old new : Talk) (one : Heard) → new.heard ≡ old.heard ++ one ∷ [] → IsRight capacity content one → HearsRight capacity content old new
right_one capacity content old new one heard right = record { list = one ∷ []; heard = heard; right = (right, tt) }

pub right_both : (capacity : ℕ) (content : Content) (a b c : Talk) → HearsRight capacity content a b → HearsRight capacity content b c → HearsRight capacity content a c
right_both capacity content a b c first second = record {
  list = first.list ++ second.list;
  heard = second.heard ∙ ap (λ (l : List Heard). l ++ second.list) first.heard ∙ append_assoc a.heard first.list second.list;
  right = all_append (IsRight capacity content) first.list second.list first.right second.right;
}

-- ---- each command that was asked

abbrev command_of : Heard → Command
command_of it = it.command

pub each_none : (old new : Talk) → new.heard ≡ old.heard → new.asked ≡ old.asked ++ [] → HearsEach old new
each_none old new heard asked = record { list = []; heard = heard ∙ sym (append-nil old.heard); asked = asked }

pub each_one : (old mid new : Talk) (asked : Command) (said : Reply) → mid.heard ≡ old.heard → mid.asked ≡ old.asked ++ asked ∷ [] → Hears mid asked said new → HearsEach old new
each_one old mid new asked said same more hears = record {
  list = record { command = asked; reply = said } ∷ [];
  heard = hears.heard ∙ ap (λ (l : List Heard). l ++ record { command = asked; reply = said } ∷ []) same;
  asked = hears.asked ∙ more;
}

pub each_both : (a b c : Talk) → HearsEach a b → HearsEach b c → HearsEach a c
each_both a b c first second = record {
  list = first.list ++ second.list;
  heard = second.heard ∙ ap (λ (l : List Heard). l ++ second.list) first.heard ∙ append_assoc a.heard first.list second.list;
  asked =
      second.asked
      ∙ ap (λ (l : List Command). l ++ map command_of second.list) first.asked
      ∙ append_assoc a.asked (map command_of first.list) (map command_of second.list)
      ∙ ap (λ (l : List Command). a.asked ++ l) (sym (map-append command_of first.list second.list));
}

-- ---- one command

-- a reply was heard where it could be kept
pub right_unsure : (capacity : ℕ) (content : Content) (old mid new : Talk) (it : Command) (said : Reply) → mid.heard ≡ old.heard → said ≡ reply_to capacity content (taken it) → Hears mid it said new ⊎ (new.heard ≡ mid.heard) → HearsRight capacity content old new
right_unsure capacity content old mid new it said same right heard =
    ⊎_elim
    (λ (hears : Hears mid it said new).
    right_one capacity content old new (record { command = it; reply = said }) (hears.heard ∙ ap (λ (l : List Heard). l ++ record { command = it; reply = said } ∷ []) same) right)
    (λ (kept : new.heard ≡ mid.heard). right_none capacity content old new (kept ∙ same)) heard

-- a look takes a command for itself where it answers it
pub taken_is : (asked : Command) → IsTrue (allows asked) → taken asked ≡ Ok asked
taken_is asked is = ap (λ (b : Bool). if b then Ok asked else Err refusal.BadCommand) is
