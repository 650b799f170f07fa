-- Lines of the plain language, spoken.
use Rattle.std.proofs.Common.{◌≡◌, ◌+◌, ◌++◌, ℕ, Bool, List, length, refl, ◌∙◌, ap, arith}
use Rattle.std.specs.Prelude.{Option}
use Rattle.std.proofs.lemmas.List.{length-map}
use Rattle.sector_disk.specs.Space.{Space}
use Rattle.jnl_format.specs.Recovery.{Content}
use Rattle.hfs_language.specs.declared.reply.Change.{Change}
use Rattle.volume_runs.specs.Run.{Entry, lines_of, replies_of, ArePlain}
use Rattle.volume_runs.specs.Told.{changes_in}
use Rattle.hfs_serving.specs.Going.{GoesOn, Knowing, ServesLine}
use Rattle.hfs_serving.specs.Outside.{Outside}
use Rattle.hfs_serving.specs.Plain.{IsPlain, spoke_plainly}
use Rattle.hfs_serving.specs.Runs.{Answer, plain_answers, shifted, texts_of}
use Rattle.hfs_serving.specs.Speaking.{Speaks, SpeaksLine, SpeaksOn, Speech, unspoken}
use Rattle.hfs_serving.specs.declared.volume.ToTell.{ToTell}
use Rattle.hfs_serving.proofs.Lists.{lines_of-append, plain-append}
use Rattle.hfs_serving.proofs.Plain.{plain_are, plain_both, texts_of_plain}
use Rattle.hfs_serving.proofs.Saying.{changes_in-append, changes_in-none, tells_both}

-- what is spoken where each of these entries is a line's, of which the first has this number
abbrev pub plain_speech : ℕ → List Entry → Speech
plain_speech number run = record { lines = lines_of run; run = run; answers = plain_answers run; changes = changes_in number run }

pub plain_unspoken : IsPlain unspoken
plain_unspoken = record { plain = tt; asked = refl; told = refl; changed = changes_in-none 0 }

-- as many lines as entries
pub plain_count : (speech : Speech) → IsPlain speech → length speech.run ≡ length speech.lines
plain_count speech plain = omega (arith, ap (λ (l : List (List ℕ)). length l) plain.asked, length-map speech.run (λ (e : Entry). e.line))

pub speaks_plain : (number : ℕ) (now : Content) (run : List Entry) → ArePlain run → Speaks number now spoke_plainly spoke_plainly (plain_speech number run)
speaks_plain number now run own start past at tree plain =
    let here : 0 + length past.run ≡ number = omega (arith, at, plain_count past plain) in
    record {
      plain = plain-append past.run run plain.plain own;
      asked = lines_of-append past.run run ∙ ap (λ (l : List (List ℕ)). l ++ lines_of run) plain.asked;
      told = ap (λ (l : List Answer). l ++ shifted (length past.run) (plain_answers run)) plain.told ∙ plain_both past.run run;
      changed = changes_in-append 0 past.run run ∙ ap (λ (n : ℕ). changes_in 0 past.run ++ changes_in n run) here ∙ ap (λ (l : List Change). l ++ changes_in number run) plain.changed;
    }

module _ (capacity : ℕ) (knows : Knowing) (committed now : Content) (shrunk : Option ℕ) (old : Outside) (number : ℕ) (space : Space) (new : Outside) where
  plain_goes : (lines : List (List ℕ)) (said : ToTell) → GoesOn capacity knows committed now shrunk old number lines said space new → SpeaksOn capacity knows committed now shrunk old number spoke_plainly spoke_plainly lines said space new
  plain_goes lines said goes = record {
    speech = plain_speech number goes.more;
    last = goes.last;
    next = goes.next;
    goes = goes.goes;
    heads = goes.heads;
    known = goes.known;
    asked = goes.asked;
    are = plain_are goes.more;
    told = tells_both (texts_of (plain_answers goes.more)) (replies_of goes.more) (changes_in number goes.more) (changes_in number goes.more) (texts_of_plain 0 goes.more) refl ∙ goes.told;
    speaks = speaks_plain number now goes.more goes.plain;
  }

  pub plain_line : (line : List ℕ) (before after : ToTell) (served : Bool) → ServesLine served capacity knows committed now shrunk old number line before after space new → SpeaksLine served capacity knows committed now shrunk old number spoke_plainly spoke_plainly line before after space new
  plain_line line before after served serves = record { said = serves.said; told = serves.told; goes = plain_goes _ serves.said serves.goes }
