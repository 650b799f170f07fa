-- Runs as lists: what is behind them, and their replies.
use Rattle.std.proofs.Common.{◌≡◌, ◌≤◌, ◌∷◌, [], ◌++◌, ℕ, List, length, refl, sym, ◌∙◌, ap, arith, append_assoc, length-append, zero, suc}
use Rattle.std.specs.Prelude.{Option, None, take}
use Rattle.std.proofs.lemmas.List.{append-nil, append_cancel_left}
use Rattle.jnl_format.specs.Recovery.{Content}
use Rattle.hfs_language.specs.Text.{reply_text}
use Rattle.volume_runs.specs.Run.{Entry, content_after, shrunk_in, shrunk_after, lines_of, replies_of, ArePlain}
use Rattle.hfs_serving.specs.Runs.{IsPrefix}

pub content_after-none : (start : Content) → content_after start [] ≡ start
unfolding content_after
content_after-none start = refl

pub content_after-append : (start : Content) (run more : List Entry) → content_after start (run ++ more) ≡ content_after (content_after start run) more
unfolding content_after
content_after-append start [] more = refl
content_after-append start (entry ∷ run) more = content_after-append entry.after run more

pub content_after-last : (start : Content) (run : List Entry) (entry : Entry) → content_after start (run ++ entry ∷ []) ≡ entry.after
unfolding content_after
content_after-last start [] entry = refl
content_after-last start (first ∷ run) entry = content_after-last first.after run entry

-- whichever start a run with an entry has
pub content_after-some : (start other : Content) (entry : Entry) (run : List Entry) → content_after start (entry ∷ run) ≡ content_after other (entry ∷ run)
unfolding content_after
content_after-some start other entry run = refl

pub shrunk_in-none : (shrunk : Option ℕ) → shrunk_in shrunk [] ≡ shrunk
unfolding shrunk_in
shrunk_in-none shrunk = refl

pub shrunk_in-one : (shrunk : Option ℕ) (entry : Entry) → shrunk_in shrunk (entry ∷ []) ≡ shrunk_after shrunk entry
unfolding shrunk_in
shrunk_in-one shrunk entry = refl

pub shrunk_in-append : (shrunk : Option ℕ) (run more : List Entry) → shrunk_in shrunk (run ++ more) ≡ shrunk_in (shrunk_in shrunk run) more
unfolding shrunk_in
shrunk_in-append shrunk [] more = refl
shrunk_in-append shrunk (entry ∷ run) more = shrunk_in-append (shrunk_after shrunk entry) run more

pub lines_of-append : (run more : List Entry) → lines_of (run ++ more) ≡ lines_of run ++ lines_of more
lines_of-append [] more = refl
lines_of-append (entry ∷ run) more = ap (λ (l : List (List ℕ)). entry.line ∷ l) (lines_of-append run more)

pub replies_of-none : replies_of [] ≡ []
unfolding replies_of
replies_of-none = refl

pub replies_of-one : (entry : Entry) → replies_of (entry ∷ []) ≡ reply_text entry.reply
unfolding replies_of
replies_of-one entry = append-nil (reply_text entry.reply)

pub replies_of-append : (run more : List Entry) → replies_of (run ++ more) ≡ replies_of run ++ replies_of more
unfolding replies_of
replies_of-append [] more = refl
replies_of-append (entry ∷ run) more = ap (λ (l : List ℕ). reply_text entry.reply ++ l) (replies_of-append run more) ∙ sym (append_assoc (reply_text entry.reply) (replies_of run) (replies_of more))

-- what a front of some bytes is no longer than
pub front_length : (front whole : List ℕ) → IsPrefix front whole → length front ≤ length whole
front_length front whole is = omega (arith, ap (λ (l : List ℕ). length l) is.1, length-append front is.0)

-- a list that begins with another one, behind the same front
pub front_behind : (a b told : List ℕ) → IsPrefix (a ++ b) (a ++ told) → IsPrefix b told
front_behind a b told is = (is.0, append_cancel_left a told (b ++ is.0) (is.1 ∙ append_assoc a b is.0))

-- plain entries, and more of them
pub plain-append : (run more : List Entry) → ArePlain run → ArePlain more → ArePlain (run ++ more)
plain-append [] more first second = second
plain-append (entry ∷ run) more first second = (first.0, plain-append run more first.1 second)

-- the first of them
pub plain_take : (k : ℕ) (run : List Entry) → ArePlain run → ArePlain (take k run)
plain_take zero run plain = tt
plain_take (suc k) [] plain = tt
plain_take (suc k) (entry ∷ run) plain = (plain.0, plain_take k run plain.1)
