-- Reads one after another.
use Rattle.std.proofs.Common.{◌≡◌, IsTrue, sym, ◌∙◌, ap, subst}
use Rattle.sector_disk.specs.Disk.{OnlyReads, State, content, content_of}
use Rattle.jnl_replay.specs.Text.{words, IsText}
use Rattle.jnl_replay.specs.declared.text.Text.{Text}

-- what was read stays
pub same_content : (old new : State) → OnlyReads old new → content new ≡ content old
same_content old new r = ap content_of r.candidates

pub same_words : (text : Text) (old new : State) → OnlyReads old new → words text (content new) ≡ words text (content old)
same_words text old new r = ap (words text) (same_content old new r)

pub tells_then : (old new : State) → OnlyReads old new → IsTrue old.tells → IsTrue new.tells
tells_then old new r tells = r.same.tells ∙ tells

pub text_then : (text : Text) (old new : State) → OnlyReads old new → IsText old.sectors text → IsText new.sectors text
text_then text old new r fits = subst (λ n. IsText n text) (sym r.same.sectors) fits
