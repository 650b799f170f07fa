-- A text is read in one pass.
use Rattle.std.proofs.Common.{◌≡◌, ◌++◌, ℕ, List, [], ◌∷◌, take, drop, sym, ap, ◌∙◌}
use Rattle.std.specs.List.{flat_map}
use Rattle.std.proofs.lemmas.List.{flat_map_more, append_assoc, take-append-drop}
use Rattle.std.proofs.lemmas.Grind.{flat_map-append}
use Rattle.hfs_language.specs.Text.{byte_text}
use Rattle.cmd_lang.specs.Written.{IsReadTo, IsReadUpTo}

-- some bytes more
pub more_read : (text value rest piece behind : List ℕ) → IsReadTo text value rest → rest ≡ flat_map byte_text piece ++ behind → IsReadTo text (value ++ piece) behind
more_read text value rest piece behind read is =
    read ∙ ap (λ (l : List ℕ). flat_map byte_text value ++ l) is ∙ sym (append_assoc (flat_map byte_text value) (flat_map byte_text piece) behind) ∙ ap (λ (l : List ℕ). l ++ behind) (sym (flat_map-append byte_text value piece))

-- one byte more
pub one_more : (text value rest : List ℕ) (b : ℕ) (behind : List ℕ) → IsReadTo text value rest → rest ≡ byte_text b ++ behind → IsReadTo text (value ++ b ∷ []) behind
one_more text value rest b behind read is =
    read ∙ ap (λ (l : List ℕ). flat_map byte_text value ++ l) is ∙ sym (append_assoc (flat_map byte_text value) (byte_text b) behind) ∙ ap (λ (l : List ℕ). l ++ behind) (flat_map_more byte_text [] value b)

-- a stretch more
pub stretch_read : (text value more : List ℕ) (from to : ℕ) → IsReadUpTo text from value → take to text ≡ take from text ++ flat_map byte_text more → IsReadUpTo text to (value ++ more)
stretch_read text value more from to read is = is ∙ ap (λ (l : List ℕ). l ++ flat_map byte_text more) read ∙ sym (flat_map-append byte_text value more)

-- what is read up to a place leaves what stands behind it
pub rest_left : (text value : List ℕ) (at : ℕ) → IsReadUpTo text at value → IsReadTo text value (drop at text)
rest_left text value at read = sym (take-append-drop at text) ∙ ap (λ (l : List ℕ). l ++ drop at text) read
