-- The characters of a text that was made from characters.
use Rattle.std.proofs.Common.{◌≡◌, ℕ, List, chars, encode_utf8_all, IsUtf8, ◌∙◌}
use Rattle.std.proofs.lemmas.Str.{encodes-chars, encodes_same}

pub chars_of_encoded : (bytes cs : List ℕ) → IsUtf8 bytes → bytes ≡ encode_utf8_all cs → chars bytes ≡ cs
chars_of_encoded bytes cs utf8 is = encodes_same _ _ (encodes-chars bytes utf8 ∙ is)
