-- Texts of answers.
use Rattle.std.proofs.Common.{◌≡◌, ◌<◌, ◌++◌, ◌∷◌, [], ℕ, List, length, length-append, arith}
use Rattle.std.specs.Prelude.{codes}
use Rattle.std.proofs.lemmas.List.{append-nil}
use Rattle.hfs_serving.specs.Runs.{texts_of}
use Rattle.hfs_language.specs.Text.{body_text, field, reply_text}
use Rattle.hfs_language.specs.Written.{path_text}
use Rattle.open_files.specs.Lines.{session_text}
use Rattle.open_files.specs.declared.act.SessionReply.{SessionReply}
use Rattle.open_files.specs.declared.act.SessionReply.TheVariants as told

-- one answer's
pub text_alone : (text : List ℕ) (upto : ℕ) → texts_of (record { text = text; upto = upto } ∷ []) ≡ text
unfolding texts_of
text_alone text upto = append-nil text

-- each has a byte at least
pub some_text : (said : SessionReply) → 0 < length (session_text said)
unfolding session_text reply_text
some_text (told.Plain said) = omega (arith, length-append (body_text said) (10 ∷ []))
some_text (told.Opened handle) = omega (arith, length-append (codes "ok") (field handle ++ 10 ∷ []), length-append (field handle) (10 ∷ []))
some_text told.TooManyOpen = omega (arith, length-append (codes "no TooManyOpen 256") (10 ∷ []))
some_text (told.NoHandle handle) = omega (arith, length-append (codes "no NoHandle") (field handle ++ 10 ∷ []), length-append (field handle) (10 ∷ []))
some_text (told.Followed path) = omega (arith, length-append (codes "ok ") (path_text path ++ 10 ∷ []), length-append (path_text path) (10 ∷ []))
some_text (told.TooManySteps most) = omega (arith, length-append (codes "no TooManySteps") (field most ++ 10 ∷ []), length-append (field most) (10 ∷ []))
some_text told.NotLink = omega (arith, length-append (codes "no NotLink") (10 ∷ []))
some_text told.Compressed = omega (arith, length-append (codes "no Compressed") (10 ∷ []))
