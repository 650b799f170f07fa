-- What runs tell, one behind the other.
use Rattle.std.proofs.Common.{◌≡◌, ◌+◌, ◌∷◌, [], ◌++◌, ℕ, suc, List, length, refl, sym, ◌∙◌, ap, arith, append_assoc}
use Rattle.std.proofs.lemmas.List.{append-nil}
use Rattle.hfs_language.specs.declared.reply.Change.{Change}
use Rattle.volume_runs.specs.Run.{Entry, replies_of}
use Rattle.volume_runs.specs.Told.{changes_by, changes_in}
use Rattle.hfs_serving.specs.Said.{joined, said_of, untold}
use Rattle.hfs_serving.specs.declared.volume.ToTell.{ToTell}
use Rattle.hfs_serving.proofs.Lists.{replies_of-none}

pub changes_in-none : (number : ℕ) → changes_in number [] ≡ []
unfolding changes_in
changes_in-none number = refl

pub changes_in-append : (number : ℕ) (run more : List Entry) → changes_in number (run ++ more) ≡ changes_in number run ++ changes_in (number + length run) more
unfolding changes_in
changes_in-append number [] more = ap (λ (n : ℕ). changes_in n more) (nothing_more number)
  where
    nothing_more : (n : ℕ) → n ≡ n + 0
    nothing_more n = omega arith
changes_in-append number (entry ∷ run) more =
    let past : number + 1 + length run ≡ number + suc (length run) = omega arith in
    ap (λ (l : List Change). changes_by number entry ++ l) (changes_in-append (number + 1) run more ∙ ap (λ (n : ℕ). changes_in (number + 1) run ++ changes_in n more) past)
    ∙ sym (append_assoc (changes_by number entry) (changes_in (number + 1) run) (changes_in (number + suc (length run)) more))

module _ (a b : List ℕ) (x y : List Change) where
  pub tells_both : a ≡ b → x ≡ y → ◌≡◌ {A = ToTell} (record { replies = a; changes = x }) (record { replies = b; changes = y })
  tells_both replies changes = cc (replies, changes)

pub said_none : (number : ℕ) → said_of number [] ≡ untold
said_none number = tells_both (replies_of []) [] (changes_in number []) [] replies_of-none (changes_in-none number)

pub joined_none : (before : ToTell) → joined before untold ≡ before
joined_none before = tells_both (before.replies ++ []) before.replies (before.changes ++ []) before.changes (append-nil before.replies) (append-nil before.changes)

pub joined_both : (a b c : ToTell) → joined (joined a b) c ≡ joined a (joined b c)
joined_both a b c =
    tells_both ((a.replies ++ b.replies) ++ c.replies) (a.replies ++ (b.replies ++ c.replies)) ((a.changes ++ b.changes) ++ c.changes) (a.changes ++ (b.changes ++ c.changes)) (append_assoc a.replies b.replies c.replies) (append_assoc a.changes b.changes c.changes)
