use Rattle.std.proofs.Common.{◌≡◌, ◌∙◌, sym, ap, refl, ℕ, List, [], ◌∷◌, ◌++◌}
use Rattle.std.proofs.lemmas.List.{append-nil}
use Rattle.hfs_language.specs.Text.{reply_text}
use Rattle.hfs_serving.specs.Undoing.{short}
use Rattle.hfs_serving.proofs.told.say_short.Goals as goal

-- the text that memory was missing
bytes_short : 110 ∷ 111 ∷ 32 ∷ 79 ∷ 117 ∷ 116 ∷ 79 ∷ 102 ∷ 77 ∷ 101 ∷ 109 ∷ 111 ∷ 114 ∷ 121 ∷ 10 ∷ [] ≡ short.replies
unfolding reply_text
bytes_short = refl

pub returns-clause-told : goal.returns-clause-told
returns-clause-told g c = record {
  replies = (g.from_vec.ensures ∙ g.in_ok-added.ensures.items ∙ ap (λ (l : List ℕ). l ++ 110 ∷ 111 ∷ 32 ∷ 79 ∷ 117 ∷ 116 ∷ 79 ∷ 102 ∷ 77 ∷ 101 ∷ 109 ∷ 111 ∷ 114 ∷ 121 ∷ 10 ∷ []) (g.into_vec-texts.ensures ∙ g.replace.ensures.value) ∙ ap (λ (l : List ℕ). g.args.told.now.replies ++ l) bytes_short) c;
  changes = sym (append-nil g.args.told.now.changes) c;
}
